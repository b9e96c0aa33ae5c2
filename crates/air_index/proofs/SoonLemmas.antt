-- What is found is before the end of the cycle that follows that of the first index.
use Rattle.std.proofs.Common.{◌≡◌, ◌≤◌, ◌<◌, ◌⊎◌, inl, inr, ◌+◌, ◌-◌, ◌*◌, ◌++◌, if◌then◌else◌, ℕ, suc, Bool, true, false, None, List, drop, get_or, length, length-append, sym, subst, ◌∙◌, ap, arith}
use Rattle.std.specs.List.{flat_map, position_or_len, range_with_len}
use Rattle.std.proofs.Math.Nat.{mul-suc}
use Rattle.std.proofs.lemmas.Bool.{cases_lt}
use Rattle.std.proofs.lemmas.Grind.{flat_map-append}
use Rattle.std.proofs.lemmas.List.{append-nil, drop-append-le, length-drop}
use Rattle.air_history.specs.declared.histories.Event.{Event}
use Rattle.air_history.specs.Histories.{starts}
use Rattle.air_model.specs.Decks.{Deck, IsDeck}
use Rattle.air_model.specs.Disks.{Disk}
use Rattle.air_model.specs.Programs.{minor_len, num_minors}
use Rattle.air_model.proofs.EtherLemmas.{range_join}
use Rattle.air_model.proofs.ProgramLemmas.{length_program}
use Rattle.item_catalog.specs.DeckLimits.{WithinLimits}
use Rattle.chunk_program.specs.Editions.{Plans, plans_in}
use Rattle.chunk_program.specs.Plans.{AreShort}
use Rattle.air_index.specs.OnAir.{IsSlot, Mark, marks_at, marks_index, marks_item, marks_of}
use Rattle.air_index.specs.SeekLaws.{IsInCycle, cycle_records, first_from, marks_on, place_to_find}
use Rattle.air_index.proofs.AheadLemmas.{length_marks}
use Rattle.air_index.proofs.FollowLemmas.{found_in_both}
use Rattle.air_index.proofs.PositionLemmas.{first_left}
use Rattle.air_index.proofs.StandLemmas.{comes}

-- A cycle has a record for each of its marks.
pub count_marks : (disks : List Disk) → length (marks_of disks) ≡ cycle_records disks
count_marks disks =
    let long = length_marks disks in
    let slots = length_program disks in
    let up = mul-suc (num_minors disks) (minor_len (num_minors disks) disks) in
    let next : minor_len (num_minors disks) disks + 1 ≡ suc (minor_len (num_minors disks) disks) = omega arith in
    let all : length (marks_of disks) ≡ num_minors disks * suc (minor_len (num_minors disks) disks) = long ∙ ap (λ k. num_minors disks * k) next in
    omega arith

-- ---- the marks of some cycles and of those after them

marks_join : (plans : Plans) (a b : ℕ) → marks_on plans (a + b) ≡ marks_on plans a ++ flat_map (marks_at plans) (range_with_len (1 + a) b)
marks_join plans a b = ap (flat_map (marks_at plans)) (range_join 1 a b) ∙ flat_map-append (marks_at plans) (range_with_len 1 a) (range_with_len (1 + a) b)

marks_grow : (plans : Plans) (a b : ℕ) → a ≤ b → length (marks_on plans a) ≤ length (marks_on plans b)
marks_grow plans a b more =
    let rest = flat_map (marks_at plans) (range_with_len (1 + a) (b - a)) in
    let all : b ≡ a + (b - a) = omega arith in
    let whole : length (marks_on plans b) ≡ length (marks_on plans a) + length rest = ap (λ k. length (marks_on plans k)) all ∙ ap length (marks_join plans a (b - a)) ∙ length-append (marks_on plans a) rest in
    omega arith

marks_next : (plans : Plans) (c : ℕ) → marks_on plans (c + 1) ≡ marks_on plans c ++ marks_at plans (1 + c)
marks_next plans c = marks_join plans c 1 ∙ ap (λ l. marks_on plans c ++ l) (append-nil (marks_at plans (1 + c)))

-- What comes in the second of these lists comes from each place of the first one on, before the second's end.
comes_before : (p : Mark → Bool) (xs next rest : List Mark) (x : ℕ) → position_or_len p next < length next → x ≤ length xs → first_from p ((xs ++ next) ++ rest) x < length (xs ++ next)
comes_before p xs next rest x comes within =
    let whole = length-append xs next in
    let both : drop x (xs ++ next) ≡ drop x xs ++ next = drop-append-le x xs next within in
    let left = length-drop x (xs ++ next) in
    let under : position_or_len p (drop x (xs ++ next)) < length (drop x (xs ++ next)) = subst (λ (l : List Mark). position_or_len p l < length l) (sym both) (found_in_both p (drop x xs) next comes) in
    let here : position_or_len p (drop x ((xs ++ next) ++ rest)) ≡ position_or_len p (drop x (xs ++ next)) =
    ap (position_or_len p) (drop-append-le x (xs ++ next) rest (omega arith)) ∙ first_left p (drop x (xs ++ next)) rest under in
    omega arith

module _ (deck : Deck) (H : List Event) (made : IsDeck deck) (within : WithinLimits deck) (short : AreShort deck) (i : ℕ) (below : i < length deck.items) where
  next_comes : (x c : ℕ) → x < length (marks_on (plans_in deck) c) → first_from (marks_item i) (marks_on (plans_in deck) (starts H)) x < length (marks_on (plans_in deck) (starts H))
      → first_from (marks_item i) (marks_on (plans_in deck) (starts H)) x < length (marks_on (plans_in deck) (c + 1))
  next_comes x c placed under = by (cases_lt c (starts H))
    where
      by : ((c < starts H) ⊎ (starts H ≤ c)) → first_from (marks_item i) (marks_on (plans_in deck) (starts H)) x < length (marks_on (plans_in deck) (c + 1))
      by (inl more) =
          let left = starts H - (c + 1) in
          let all : c + 1 + left ≡ starts H = omega arith in
          let rest = flat_map (marks_at (plans_in deck)) (range_with_len (1 + (c + 1)) left) in
          let split : marks_on (plans_in deck) (starts H) ≡ (marks_on (plans_in deck) c ++ marks_at (plans_in deck) (1 + c)) ++ rest =
          ap (marks_on (plans_in deck)) (sym all) ∙ marks_join (plans_in deck) (c + 1) left ∙ ap (λ l. l ++ rest) (marks_next (plans_in deck) c) in
          subst (λ (l : List Mark). first_from (marks_item i) (marks_on (plans_in deck) (starts H)) x < length l) (sym (marks_next (plans_in deck) c))
          (subst (λ (l : List Mark). first_from (marks_item i) l x < length (marks_on (plans_in deck) c ++ marks_at (plans_in deck) (1 + c))) (sym split)
          (comes_before (marks_item i) (marks_on (plans_in deck) c) (marks_at (plans_in deck) (1 + c)) rest x (comes deck H made within short i below (1 + c)).0 (omega arith)))
      by (inr last) = let grown = marks_grow (plans_in deck) (starts H) (c + 1) (omega arith) in omega arith

  pub found_soon : (p c : ℕ) → IsInCycle (plans_in deck) (first_from marks_index (marks_on (plans_in deck) (starts H)) p) c
      → place_to_find (marks_on (plans_in deck) (starts H)) i p < length (marks_on (plans_in deck) (starts H)) → place_to_find (marks_on (plans_in deck) (starts H)) i p < length (marks_on (plans_in deck) (c + 1))
  unfolding place_to_find
  found_soon p c placed under = by (marks_item i (get_or marks p (IsSlot None))) under
    where
      marks : List Mark
      marks = marks_on (plans_in deck) (starts H)

      after : ℕ
      after = first_from (marks_item i) marks (first_from marks_index marks p)

      by : (b : Bool) → (if b then p else after) < length marks → (if b then p else after) < length (marks_on (plans_in deck) (c + 1))
      by true under = let here = placed.within in let grown = marks_grow (plans_in deck) c (c + 1) (omega arith) in omega arith
      by false under = next_comes (first_from marks_index marks p) c placed.within under
