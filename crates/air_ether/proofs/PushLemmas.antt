-- What an ether says of its pushed list after one more push, or after the end.
use Rattle.std.proofs.Common.{◌≡◌, ℕ, ◌+◌, ◌-◌, ◌*◌, ◌%◌, ◌<◌, ◌≤◌, Bool, true, false, ◌++◌, List, [], ◌∷◌, length, max, sym, ◌∙◌, ap, subst, arith, ◌⊎◌, inl, inr, length-append}
use Rattle.std.specs.Prelude.{slice_index_or}
use Rattle.std.proofs.Math.ListN.{set}
use Rattle.std.proofs.Math.Nat.{mod-lt}
use Rattle.std.proofs.lemmas.Bool.{cases_lt}
use Rattle.std.proofs.lemmas.List.{get_or-set_same, get_or-set_other, get_or_append_left, get_or_push}
use Rattle.rand_pcg.specs.Lcg.{Lcg}
use Rattle.rand_pcg.specs.Pcg.{pcg32}
use Rattle.air_model.specs.Draws.{generator}
use Rattle.air_ether.specs.declared.cursor.Cursor.{Cursor}
use Rattle.air_ether.specs.HeardPositions.{InWindow, before, heard_at, left_at, of_push, position}
use Rattle.air_ether.specs.HeardSoFar.{Ether, IsEtherAfter, limit_of}
use Rattle.air_ether.specs.KeptPushes.{Push, Waits, nothing, push_in}
use Rattle.air_ether.specs.PushWords.{due_in, left_by, times_in}
use Rattle.air_ether.proofs.HeardListLemmas.{before_grown, flat_none, heard_start, other_push}
use Rattle.air_ether.proofs.WordLemmas.{left_more}

-- ---- a push
-- The cursor at another place of its number.
abbrev pub from_place : Cursor → ℕ → Cursor
from_place c q = record { number = c.number; place = q; given = c.given }

-- The first place that may be due at number n is between the first that is kept and n.
first_within : (n q u : ℕ) (c : Cursor) → c.place ≤ n → (n ≤ u → q ≡ c.place) → (u < n → q ≡ n) → (u < n) ⊎ (n ≤ u) → (c.place ≤ q) × (q ≤ n)
first_within n q u c place stays moves (inl past) = let e = moves past in (omega arith, omega arith)
first_within n q u c place stays moves (inr waits) = let e = stays waits in (omega arith, omega arith)

-- The cursor of a quiet ether is in the window of one more push.
pub pushed_window : (n q u : ℕ) (queue after : List Push) (c : Cursor) → InWindow n n queue c → c.number ≡ n → (n ≤ u → q ≡ c.place) → (u < n → q ≡ n) →
    InWindow (n + 1) (n + 1) after (from_place c q)
pushed_window n q u queue after c w quiet stays moves =
    let first = w.first quiet in
    let inside = first_within n q u c w.place stays moves (cases_lt u n) in
    let low = inside.0 in
    let high = inside.1 in
    record {
      number = omega arith;
      new = omega arith;
      from = omega (arith, w.from);
      to = omega arith;
      place = omega arith;
      given = λ _. omega arith;
      none = λ _. first;
      at_start = λ at. absurd (omega arith);
      first = λ at. first;
    }

-- The window of an ether that was not ended.
pub open_window : (n : ℕ) (ended : Bool) (queue : List Push) (c : Cursor) → ended ≡ false → InWindow n (limit_of ended n) queue c → InWindow n n queue c
open_window n ended queue c e w = subst (λ b. InWindow n (limit_of b n) queue c) e w

pub open_after : (n : ℕ) (ended : Bool) (queue : List Push) (c : Cursor) → ended ≡ false → InWindow n n queue c → InWindow n (limit_of ended n) queue c
open_after n ended queue c e w = subst (λ b. InWindow n (limit_of b n) queue c) (sym e) w

-- From the start of a number on, few buckets are due at that number and at each of the next eight.
pub few_due : (n limit most : ℕ) (queue : List Push) (c : Cursor) → InWindow n limit queue c → c.number ≡ limit → most ≤ limit + 8 → left_at most c ≤ 269
few_due n limit most queue c w quiet far =
    let at_start = w.at_start quiet in
    let first = w.first quiet in
    omega arith

pub few_after_push : (n q u : ℕ) (ended : Bool) (queue : List Push) (c : Cursor) → ended ≡ false → InWindow n (limit_of ended n) queue c → c.number ≡ limit_of ended n →
    (n ≤ u → q ≡ c.place) → (u < n → q ≡ n) → left_at (limit_of ended (n + 1)) (from_place c q) ≤ 269
few_after_push n q u true queue c opened w quiet stays moves = cc
few_after_push n q u false queue c opened w quiet stays moves =
    let few = few_due n n (n + 1) queue c w quiet (omega arith) in
    let low = (first_within n q u c w.place stays moves (cases_lt u n)).0 in
    omega arith

pub few_after_end : (n : ℕ) (ended : Bool) (queue : List Push) (c : Cursor) → InWindow n (limit_of ended n) queue c → c.number ≡ limit_of ended n → left_at (limit_of true n) c ≤ 269
few_after_end n true queue c w quiet = few_due n (n + 8) (n + 8) queue c w quiet (omega arith)
few_after_end n false queue c w quiet = few_due n n (n + 8) queue c w quiet (omega arith)

-- Each place of the window has a queued push of its own.
set_here : (queue : List Push) (n : ℕ) (w : Push) → length queue ≡ 9 → push_in (set queue (n % 9) w) n ≡ w
set_here queue n w nine = let small : n % 9 < 9 = mod-lt n (omega arith) in get_or-set_same queue (n % 9) w nothing (omega arith)

set_there : (queue : List Push) (n p : ℕ) (w : Push) → p < n → n < p + 9 → push_in (set queue (n % 9) w) p ≡ push_in queue p
set_there queue n p w before near = get_or-set_other queue (n % 9) (p % 9) w nothing (λ same. absurd (omega arith))

-- A delayed push is still due by the greatest due number.
pub late_pushed : (queue : List Push) (n u v : ℕ) (push : Push) → length queue ≡ 9 → ((p : ℕ) → p < n → n ≤ p + 9 → (push_in queue p).due ≤ max p u) → u ≤ v → push.due ≤ max n v →
    (p : ℕ) → p < n + 1 → n + 1 ≤ p + 9 → (push_in (set queue (n % 9) push) p).due ≤ max p v
late_pushed queue n u v push nine late longer own p within near = by (cases_lt p n)
  where
    by : (p < n) ⊎ (n ≤ p) → (push_in (set queue (n % 9) push) p).due ≤ max p v
    by (inl old) =
        let same = ap (λ w. w.due) (set_there queue n p push old (omega arith)) in
        let before = late p old (omega arith) in
        omega arith
    by (inr new) =
        subst (λ k. (push_in (set queue (n % 9) push) k).due ≤ max k v) (let s : n ≡ p = omega arith in s)
        (let same = ap (λ w. w.due) (set_here queue n push nine) in omega arith)

-- Where every delayed push was due before, only the newest may be due at its number.
module _ (due times : ℕ → ℕ) (n u : ℕ) (queue : List Push) (waits : Waits due times n queue) (late : (p : ℕ) → p < n → n ≤ p + 9 → (push_in queue p).due ≤ max p u) where
  none_late : (number q : ℕ) → number ≡ n → q ≡ n → u < n → heard_at due times number q ≡ []
  unfolding heard_at
  none_late number q is at past = flat_none (of_push due times number) 0 q (λ k low high. other_push due times number k (λ same. none k (omega arith) same (cases_lt (k + 9) n)))
    where
      none : (k : ℕ) → k < n → due k ≡ number → (k + 9 < n) ⊎ (n ≤ k + 9) → ⊥
      none k l same (inl far) = let most = waits.high k in omega arith
      none k l same (inr near) = let own = waits.due_kept k l near in let most = late k l near in omega arith

  pub same_position : (q : ℕ) (c : Cursor) → c.number ≡ n → c.place ≡ c.number - 8 → (n ≤ u → q ≡ c.place) → (u < n → q ≡ n) →
      position due times (n + 1) (from_place c q) ≡ position due times (n + 1) c
  same_position q c is start stays moves = ap (λ xs. length (before due times (n + 1) c.number) + length xs + c.given) (by (cases_lt u n))
    where
      by : (u < n) ⊎ (n ≤ u) → heard_at due times c.number q ≡ heard_at due times c.number c.place
      by (inl past) = none_late c.number q is (moves past) past ∙ sym (heard_start due times c.number c.place waits.high start)
      by (inr waiting) = ap (heard_at due times c.number) (stays waiting)

module _ (seed number given : ℕ) (pushed : List (List ℕ)) (bytes : List ℕ) (e : Ether) (due times : ℕ) (after : Lcg) (moved_to : Cursor) where
  abbrev pub one_more : Ether
  one_more = record {
    odds = e.odds;
    most = e.most;
    generator = after;
    pushes = e.pushes + 1;
    ended = e.ended;
    cursor = moved_to;
    queue = set e.queue (e.pushes % 9) (record { due = due; times = times; bytes = bytes });
  }

  pub followed : IsEtherAfter seed number pushed given e → length e.queue ≡ 9 → e.cursor.number ≤ e.pushes →
      due ≡ due_in seed number e.odds e.pushes → times ≡ times_in seed number e.odds e.pushes → after ≡ left_by pcg32 3 e.generator →
      position (due_in seed number e.odds) (times_in seed number e.odds) (e.pushes + 1) moved_to ≡ position (due_in seed number e.odds) (times_in seed number e.odds) (e.pushes + 1) e.cursor →
      IsEtherAfter seed number (pushed ++ bytes ∷ []) given one_more
  followed f nine upto is_due is_times is_after there = record {
    drawn = is_after ∙ ap (left_by pcg32 3) f.drawn ∙ sym (left_more pcg32 (3 * length pushed) 3 (generator seed number)) ∙ ap (λ n. left_by pcg32 n (generator seed number)) longer;
    pushes = ap (λ n. n + 1) f.pushes ∙ one;
    waits = record {
      low = f.waits.low;
      high = f.waits.high;
      due_kept = λ p l near. by_due p near (cases_lt p e.pushes) l;
      times_kept = λ p l near. by_times p near (cases_lt p e.pushes) l;
    };
    bytes = λ p l near. by_bytes p near (cases_lt p e.pushes) l;
    counted = f.counted ∙ ap (λ xs. length xs + length (heard_at (due_in seed number e.odds) (times_in seed number e.odds) e.cursor.number e.cursor.place) + e.cursor.given)
        (sym (before_grown (due_in seed number e.odds) (times_in seed number e.odds) e.pushes e.cursor.number f.waits.low upto)) ∙ sym there;
  }
    where
      push : Push
      push = record { due = due; times = times; bytes = bytes }

      one : length pushed + 1 ≡ length (pushed ++ bytes ∷ [])
      one = sym (length-append pushed (bytes ∷ []))

      longer : 3 * length pushed + 3 ≡ 3 * length (pushed ++ bytes ∷ [])
      longer = let o = one in omega arith

      by_due : (p : ℕ) → e.pushes + 1 ≤ p + 9 → (p < e.pushes) ⊎ (e.pushes ≤ p) → p < e.pushes + 1 → (push_in (set e.queue (e.pushes % 9) push) p).due ≡ due_in seed number e.odds p
      by_due p near (inl old) l = ap (λ w. w.due) (set_there e.queue e.pushes p push old (omega arith)) ∙ f.waits.due_kept p old (omega arith)
      by_due p near (inr new) l = subst (λ k. (push_in (set e.queue (e.pushes % 9) push) k).due ≡ due_in seed number e.odds k) (let s : e.pushes ≡ p = omega arith in s) (ap (λ w. w.due) (set_here e.queue e.pushes push nine) ∙ is_due)

      by_times : (p : ℕ) → e.pushes + 1 ≤ p + 9 → (p < e.pushes) ⊎ (e.pushes ≤ p) → p < e.pushes + 1 → (push_in (set e.queue (e.pushes % 9) push) p).times ≡ times_in seed number e.odds p
      by_times p near (inl old) l = ap (λ w. w.times) (set_there e.queue e.pushes p push old (omega arith)) ∙ f.waits.times_kept p old (omega arith)
      by_times p near (inr new) l = subst (λ k. (push_in (set e.queue (e.pushes % 9) push) k).times ≡ times_in seed number e.odds k) (let s : e.pushes ≡ p = omega arith in s) (ap (λ w. w.times) (set_here e.queue e.pushes push nine) ∙ is_times)

      by_bytes : (p : ℕ) → e.pushes + 1 ≤ p + 9 → (p < e.pushes) ⊎ (e.pushes ≤ p) → p < e.pushes + 1 → (push_in (set e.queue (e.pushes % 9) push) p).bytes ≡ slice_index_or (pushed ++ bytes ∷ []) p []
      by_bytes p near (inl old) l = ap (λ w. w.bytes) (set_there e.queue e.pushes p push old (omega arith)) ∙ f.bytes p old (omega arith)
          ∙ sym (get_or_append_left pushed (bytes ∷ []) [] p (omega (arith, f.pushes)))
      by_bytes p near (inr new) l = subst (λ k. (push_in (set e.queue (e.pushes % 9) push) k).bytes ≡ slice_index_or (pushed ++ bytes ∷ []) k []) (let s : e.pushes ≡ p = omega arith in s)
          (ap (λ w. w.bytes) (set_here e.queue e.pushes push nine) ∙ sym (get_or_push pushed bytes [] e.pushes (sym f.pushes)))
