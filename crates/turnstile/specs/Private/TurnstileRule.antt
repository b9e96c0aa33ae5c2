-- For private steps only. The rule of a turnstile: what holds of its two words, its slot and the views of all passes between
-- any two steps. Word 0 is the next ticket, and word 1 the one that is served. The slot has the value while no pass is in a
-- turn. The tickets that are out are at the distances 0, 1, .. from the one that is served, one view each. Each number below
-- the number of passes is in just one view. Each view has seen a beginning of the one list, with all entries that are its own.
use Rattle.std.specs.Prelude.{◌≡◌, ℕ, suc, ◌+◌, ◌%◌, ◌^◌, ◌<◌, cond, leb, List, [], ◌∷◌, length, Contains, Option, Some, None}
use mathlib.Core.Option.{some, none}
use mathlib.Core.Option as maybe
use lib.ListN.{get_elem?}
use Rattle.atomic_table.specs.Table.{State}
use Rattle.turnstile.specs.declared.views.Sight.{Sight}
use Rattle.turnstile.specs.declared.views.View.{View}
use Rattle.turnstile.specs.PassEntries.{Below, Continues}
use Rattle.turnstile.specs.Private.SeatViews.{times, waits, share}

-- The sum of f over the list.
abbrev pub total : {A : Type 0} → (A → ℕ) → List A → ℕ
total f [] = 0
total f (x ∷ xs) = f x + total f xs

-- 1 if n is below the bound, otherwise 0.
abbrev pub once_below : ℕ → ℕ → ℕ
once_below n bound = cond (leb (suc n) bound) 1 0

-- No two views have one ticket.
abbrev pub HaveOwnTickets : {E B : Type 0} → List (View E B) → Type 0
HaveOwnTickets {E} {B} views = (i j : ℕ) (v w : View E B) (t : ℕ) → get_elem? views i ≡ some v → get_elem? views j ≡ some w → v.ticket ≡ Some t → w.ticket ≡ Some t → i ≡ j

-- The value is in its slot, or is out with the seat of this number.
pub data Phase : Type 0 where
  home : Phase
  out : ℕ → Phase

module _ {K E B : Type 0} (entries : K → List (ℕ × E)) (base : K → B) where
  -- What holds of the view v of seat j: now and b are the list and the base of the value, serving is the ticket that is
  -- served, and queue is how many tickets are out.
  pub record Knows (now : List (ℕ × E)) (b : B) (passes serving queue : ℕ) (phase : Phase) (j : ℕ) (v : View E B) : Type 0 where
    -- The view has seen a beginning of the list, with all entries that are its own.
    pub sees : Continues v.sight.numbers v.sight.entries now
    -- A view that has a number has the base and the number of passes.
    pub live : 0 < length v.sight.numbers → (v.base ≡ Some b) × (v.passes ≡ passes)
    -- Only such a view has a ticket, and the ticket is not far from the one that is served.
    pub queues : (t : ℕ) → v.ticket ≡ Some t → (0 < length v.sight.numbers) × ((d : ℕ) × (d < queue) × (t ≡ (serving + d) % 2 ^ 64))
    -- Only the view whose ticket is served has noted a list, and the list stays as it is until that view gives the value back.
    pub turns : (l : List (ℕ × E)) → v.noted ≡ Some l → (phase ≡ out j) × (l ≡ now) × (v.ticket ≡ Some serving)
    -- The two lists of a join are beginnings too, each with all entries that have its numbers.
    pub olds : (k : ℕ) (o : Sight E) → get_elem? v.old k ≡ some o → Continues o.numbers o.entries now × ((n : ℕ) → Contains o.numbers n → Contains v.sight.numbers n)
    -- A view has such lists only while it has no ticket.
    pub old_rests : 0 < length v.old → v.ticket ≡ None

  -- Where the value is.
  abbrev pub InPhase : List (maybe.Option (Option K)) → List (View E B) → List (ℕ × E) → B → Phase → Type 0
  InPhase homes views now b home = (x : K) × (homes ≡ some (Some x) ∷ []) × (entries x ≡ now) × (base x ≡ b)
  InPhase homes views now b (out j) = (homes ≡ none ∷ []) × ((v : View E B) × (get_elem? views j ≡ some v) × (v.noted ≡ Some now))

  -- The rule itself, of the words, the slot and the views of a state: next is the next ticket, serving the one that is
  -- served, now and based the list and the base of the value, passes the number of passes, and phase where the value is.
  pub record IsByRule (s : State (Option K) (View E B)) : Type 0 where
    pub next : ℕ
    pub serving : ℕ
    pub now : List (ℕ × E)
    pub based : B
    pub passes : ℕ
    pub phase : Phase
    pub words_are : s.words ≡ next ∷ serving ∷ []
    pub serving_fits : serving < 2 ^ 64
    pub next_is : next ≡ (serving + total waits s.views) % 2 ^ 64
    pub few : passes < 2 ^ 32
    pub dealt : total share s.views ≡ passes
    pub once : (n : ℕ) → total (λ v. times n v.sight.numbers) s.views ≡ once_below n passes
    pub numbered : Below passes now
    pub each_seat : (j : ℕ) (v : View E B) → get_elem? s.views j ≡ some v → Knows now based passes serving (total waits s.views) phase j v
    pub apart : HaveOwnTickets s.views
    pub in_phase : InPhase s.homes s.views now based phase
