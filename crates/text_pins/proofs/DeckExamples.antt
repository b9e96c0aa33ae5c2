-- The smallest deck, what is no query, and what holds of a reader or an item that a deck doesn't have.
use Rattle.std.proofs.Common.{◌≡◌, ◌<◌, ◌≤◌, ◌^◌, false, true, [], ◌∷◌, All, refl, inl, sum_by, arith}
use Rattle.std.proofs.lemmas.List.Elements.{All-nil, All-from_recursion}
use Rattle.air_base.specs.declared.limits.TheConstants.{MOST_CYCLES}
use Rattle.air_history.specs.UpdateRules.{has_repeat}
use Rattle.air_model.specs.Airings.{chunks_of, disk_number}
use Rattle.air_model.specs.Decks.{Deck, IsDeck, IsQuery, IsUpdate}
use Rattle.air_model.specs.Programs.{num_chunks, num_minors, least_common_multiple}
use Rattle.air_model.specs.Sessions.{reader_of}
use Rattle.air_model.proofs.DeckLemmas.{each_edition}
use Rattle.air_model.proofs.SessionExamples.{deck, item, pair}

-- One item on one disk, and a reader that asks for it.
abbrev lone : Deck
lone = deck (item 10 1 ∷ []) [] (0, 0, 1) ((0 ∷ []) ∷ []) []

lone_is_deck : IsDeck lone
unfolding has_repeat
lone_is_deck = record {
  some = omega arith;
  version = inl refl;
  most = omega arith;
  group = omega arith;
  grouped = inl refl;
  values = All-from_recursion (λ i. i.value < 2 ^ 64) lone.items (omega arith, tt);
  sizes = each_edition (λ specs. sum_by (λ d. d.size) specs ≡ 1) lone refl refl;
  aired = each_edition (All (λ d. (0 < d.size) × (0 < d.freq))) lone refl (All-from_recursion (λ d. (0 < d.size) × (0 < d.freq)) lone.disks ((omega arith, omega arith), tt));
  few = omega arith;
  from_two = All-nil (λ r. 2 ≤ r.cycle);
  within_a_run = All-nil (λ r. r.cycle ≤ MOST_CYCLES);
  rising = λ i j d less within. absurd (omega arith);
  updates = All-from_recursion (All (IsUpdate 1)) lone.updates (All-nil (IsUpdate 1), tt);
  readers = refl;
  tries = All-from_recursion (λ r. 1 ≤ r.tries) lone.readers (omega arith, tt);
  queries = All-from_recursion (All (IsQuery 1)) lone.queries (
    All-from_recursion (IsQuery 1) ((0 ∷ []) ∷ [])
        (record { filled = omega arith; distinct = refl; within = All-from_recursion (λ i. i < 1) (0 ∷ []) (omega arith, tt) }, tt),
    tt,
  );
  script = λ by. omega arith;
}

-- No query asks twice for an item.
not_twice : IsQuery 2 (0 ∷ 0 ∷ []) → ⊥
unfolding has_repeat
not_twice query = let no : true ≡ false = query.distinct in cc

-- A reader that the deck doesn't have keeps no copy, asks for nothing, and never tries.
no_reader : reader_of pair 1 ≡ record { plan = record { room = 0; age = 0; tries = 0 }; queries = [] }
no_reader = refl

-- An item on no disk has no chunk.
no_chunk : chunks_of (record { items = 0 ∷ 1 ∷ []; freq = 2 } ∷ []) 2 ≡ 0
unfolding chunks_of disk_number num_chunks num_minors least_common_multiple
no_chunk = refl
