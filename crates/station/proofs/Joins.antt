-- Passes that were joined to one: it has their numbers, and what it has seen continues what they had seen.
use Rattle.std.proofs.Common.{◌≡◌, ℕ, List, [], ◌∷◌, ◌++◌, length, get_or, All, refl, sym, ap, ◌∙◌, subst, arith}
use Rattle.std.specs.Prelude.{Contains}
use Rattle.std.proofs.lemmas.List.{get_or_push, get_or_append_left, length_push}
use Rattle.std.proofs.lemmas.List.Elements.{All-contains, All-map, All-weaker}
use Rattle.turnstile.specs.PassEntries.{Continues}
use Rattle.turnstile.proofs.EntryLists.{foreign_part, goes_on as more_goes_on}
use Rattle.air_history.specs.declared.histories.Event.{Event}
use Rattle.station.specs.EventEntries.{events_of}
use Rattle.station.specs.PassStates.{PassState, numbers_of}
use Rattle.station.specs.PassFields.{Inner}

-- The pass has p's number, and has seen entries that continue, without p's own, those that p had seen.
abbrev pub Joined : Inner → PassState → Type 0
Joined first p = Contains first.numbers p.number × ((entries : List (ℕ × Event)) × (events_of entries ≡ p.seen) × Continues (p.number ∷ []) entries first.seen)

-- Two steps of continuing are one, if the second pass has the first one's numbers.
pub goes_through : (ns ms : List ℕ) (a b c : List (ℕ × Event)) → ((m : ℕ) → Contains ns m → Contains ms m) → Continues ns a b → Continues ms b c → Continues ns a c
goes_through ns ms a b c sub p q = more_goes_on ns a b q.0 c q.1 (foreign_part ms ns q.0 sub q.2) p

-- The one number of a list of one.
pub only_number : (n m : ℕ) → Contains (n ∷ []) m → m ≡ n
only_number n m (k, l, e) = sym e ∙ ap (λ j. get_or (n ∷ []) j m) (let z : k ≡ 0 = omega arith in z)

pub one_of : (ns : List ℕ) (n : ℕ) → Contains ns n → (m : ℕ) → Contains (n ∷ []) m → Contains ns m
one_of ns n has m one = subst (Contains ns) (sym (only_number n m one)) has

-- A pass that has joined more still has joined these.
pub still_joined : (first next : Inner) (p : PassState) → ((m : ℕ) → Contains first.numbers m → Contains next.numbers m) → Continues first.numbers first.seen next.seen → Joined first p → Joined next p
still_joined first next p more on j = (more p.number j.0, (j.1.0, j.1.1, goes_through (p.number ∷ []) first.numbers j.1.0 first.seen next.seen (one_of first.numbers p.number j.0) j.1.2 on))

pub all_but_last : {A : Type 0} (P : A → Type 0) (xs : List A) (y : A) → All P (xs ++ y ∷ []) → All P xs × P y
all_but_last P xs y h = let long = length_push xs y in (λ k d less. subst P (get_or_append_left xs (y ∷ []) d k less) (h k d (omega arith)), subst P (get_or_push xs y y (length xs) refl) (h (length xs) y (omega arith)))

-- The numbers of passes that were joined are the first one's.
pub numbers_joined : (first : Inner) (passes : List PassState) (m : ℕ) → All (Joined first) passes → Contains (numbers_of passes) m → Contains first.numbers m
numbers_joined first passes m joined has = All-contains (Contains first.numbers) (numbers_of passes) m
    (All-map (Contains first.numbers) (λ (p : PassState). p.number) passes (All-weaker (Joined first) (λ (p : PassState). Contains first.numbers p.number) (λ p j. j.0) passes joined)) has

pub none_left : {A : Type 0} (xs : List A) → length xs ≡ 0 → xs ≡ []
none_left [] e = refl
none_left (x ∷ xs) e = absurd (omega arith)
