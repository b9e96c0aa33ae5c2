-- A search on the indexed tape of a history tells what is right.
use Rattle.std.proofs.Common.{◌≡◌, ◌≤◌, ◌<◌, ◌+◌, ◌^◌, if◌then◌else◌, ℕ, zero-add, None, List, drop, get_or, length, map, refl, sym, subst, ◌∙◌, ap, arith}
use Rattle.std.specs.List.{position_or_len}
use Rattle.std.proofs.lemmas.List.{drop-drop, get_or-drop, length-drop}
use Rattle.air_history.specs.declared.histories.Event.{Event}
use Rattle.air_history.specs.Histories.{starts}
use Rattle.air_model.specs.Aired.{air_of, buckets_of}
use Rattle.air_model.specs.Buckets.{spelling}
use Rattle.air_model.specs.Decks.{Deck, IsDeck, disks_in, values_in}
use Rattle.item_catalog.specs.DeckLimits.{WithinLimits}
use Rattle.chunk_program.specs.Editions.{plans_in}
use Rattle.chunk_program.specs.Plans.{AreShort}
use Rattle.air_index.specs.OnAir.{IsSlot, Mark, marks_index, marks_item}
use Rattle.air_index.specs.SeekLaws.{AmountsFit, IsRightAnswer, history_records, marks_on, opens_of, place_to_find}
use Rattle.air_index.specs.Seeks.{sought}
use Rattle.air_index.specs.declared.sought.Sought.{Sought}
use Rattle.air_index.specs.declared.sought.Sought.TheVariants.{Found, Lost}
use Rattle.air_index.proofs.FitLemmas.{all_fit}
use Rattle.air_index.proofs.FollowLemmas.{IsToldOf, StandFor, first_told_of, place_after, stand_drop, stand_length}
use Rattle.air_index.proofs.LawLemmas.{few_opens, found_there}
use Rattle.air_index.proofs.NearLemmas.{found_within}
use Rattle.air_index.proofs.SoonLemmas.{count_marks, found_soon}
use Rattle.air_index.proofs.StandLemmas.{IsToldAt, cycles_stand}

-- The place at which the item is to be found, told by the marks from p on.
same_place : (marks : List Mark) (i p : ℕ) → (if marks_item i (get_or (drop p marks) 0 (IsSlot None)) then p else place_after i p (drop p marks)) ≡ place_to_find marks i p
unfolding place_after place_to_find
same_place marks i p =
    let none : p + 0 ≡ p = omega arith in
    let next = position_or_len marks_index (drop p marks) in
    ap (λ x. if marks_item i x then p else p + next + position_or_len (marks_item i) (drop next (drop p marks))) (get_or-drop p marks 0 (IsSlot None) ∙ ap (λ k. get_or marks k (IsSlot None)) none)
    ∙ ap (λ l. if marks_item i (get_or marks p (IsSlot None)) then p else p + next + position_or_len (marks_item i) l) (drop-drop next p marks)

module _ (deck : Deck) (H : List Event) (i p : ℕ) (made : IsDeck deck) (amounts : AmountsFit H) (few : starts H < 2 ^ 32) (within : WithinLimits deck) (short : AreShort deck) (below : i < length deck.items) (on_tape : p < length (history_records deck H)) where
  marks : List Mark
  marks = marks_on (plans_in deck) (starts H)

  records : List (List ℕ)
  records = history_records deck H

  stand : StandFor (IsToldAt deck H i) i 0 marks records
  unfolding buckets_of marks records
  stand = cycles_stand deck H made within short i below 1 0 (starts H) refl (omega arith) (all_fit deck H made amounts few short)

  long : length records ≡ length marks
  long = stand_length (IsToldAt deck H i) i 0 marks records stand

  told : IsToldOf (IsToldAt deck H i) (place_to_find marks i p) (length records) (sought records i p)
  unfolding records
  told =
      let left = length-drop p marks in
      let whole = long in
      let from : StandFor (IsToldAt deck H i) i p (drop p marks) (drop p records) =
      subst (λ k. StandFor (IsToldAt deck H i) i k (drop p marks) (drop p records)) (zero-add p) (stand_drop (IsToldAt deck H i) i 0 p marks records stand) in
      let end : p + length (drop p marks) ≡ length records = omega arith in
      subst (λ g. IsToldOf (IsToldAt deck H i) g (length records) (sought records i p)) (same_place marks i p)
      (subst (λ e. IsToldOf (IsToldAt deck H i) (if marks_item i (get_or (drop p marks) 0 (IsSlot None)) then p else place_after i p (drop p marks)) e (sought records i p)) end
      (first_told_of (IsToldAt deck H i) i p (drop p marks) (drop p records) from))

  right : (answer : Sought) → sought records i p ≡ answer → IsToldOf (IsToldAt deck H i) (place_to_find marks i p) (length records) answer → IsRightAnswer deck H i p answer
  unfolding IsToldOf IsRightAnswer marks records
  right (Found opens place cycle value) e told = record {
    there = told.0;
    on_tape = subst (λ k. k < length records) (sym told.0) told.1;
    carried = found_there records i p opens place cycle value e;
    in_cycle = told.2.in_cycle;
    its_value = told.2.its_value;
    soon = λ c placed. subst (λ k. k < length (marks_on (plans_in deck) (c + 1))) (sym told.0) (found_soon deck H made within short i below p c placed (let whole = long in let under = told.1 in omega arith));
    near = λ plain.
        let most = found_within deck made within short plain (starts H) (map spelling (buckets_of (values_in deck) (air_of deck) H)) i p opens place cycle value few e in
        let count = count_marks (disks_in deck 0) in
        omega arith;
  }
  right (Lost opens) e told = told

  pub answered_rightly : (opens_of (sought (history_records deck H) i p) ≤ 3) × IsRightAnswer deck H i p (sought (history_records deck H) i p)
  unfolding records
  answered_rightly = (few_opens records i p, right (sought records i p) refl told)
