-- What records without fault declare keeps every limit, up to each place. So a deck that a text spells is well made.
use Rattle.std.proofs.Common.{◌≡◌, ◌<◌, ◌++◌, ◌∷◌, [], ℕ, List, None, Result, Ok, Err, ◌∙◌, sym, refl, ap, subst, arith, get_or, length, inl, inr}
use Rattle.std.proofs.lemmas.Bool.{cases_lt}
use Rattle.std.proofs.lemmas.List.{get_or_past}
use Rattle.std.proofs.lemmas.List.FromFn.{length-map-range_with_len, get_or-map-range_with_len}
use Rattle.air_base.specs.declared.limits.TheConstants.{MOST_READERS, MOST_UPDATERS}
use Rattle.air_history.specs.UpdateLists.{UpdateLists}
use Rattle.air_model.specs.Decks.{Deck, IsDeck}
use Rattle.item_catalog.specs.FirstFaults.{NoneBefore}
use Rattle.item_catalog.specs.RecordKinds.{first_of}
use Rattle.item_catalog.proofs.KindLemmas.{none_first}
use Rattle.item_catalog.proofs.RecordPlaces.{along, kinds_end}
use Rattle.item_catalog.specs.DeckLimits.{WithinLimits}
use Rattle.item_catalog.specs.Decks.{for_each}
use Rattle.item_catalog.specs.Private.Drafts.{draft_of, draft_tests}
use Rattle.item_catalog.specs.Declarations.{Declaration, spelled_declaration}
use Rattle.item_catalog.specs.Faults.{end_tests, declarations_in, kinds_after, kinds_at, tests_of}
use Rattle.item_catalog.specs.Grammar.{RecordsSpell}
use Rattle.item_catalog.specs.Kinds.{deck_kind_number}
use Rattle.item_catalog.specs.Parts.{disk_parts_in, items_in, replans_in, set_in}
use Rattle.item_catalog.specs.declared.faults.FaultKind.{FaultKind}
use Rattle.item_catalog.proofs.DraftLemmas.{draft_more, tests_same}
use Rattle.item_catalog.proofs.KeptLemmas.{Kept}
use Rattle.item_catalog.proofs.KeptSteps.{kept_more}
use Rattle.item_catalog.proofs.PlaceLemmas.{declarations_more, judge}
use Rattle.item_catalog.proofs.SpeltLemmas.{declaration_spelt}
use Rattle.item_catalog.proofs.WellMadeLemmas.{deck_same, made, within}

-- No declarations.
abbrev no_list : {A : Type 0} → ℕ → List A
no_list k = []

empty_at : {A : Type 0} (n k : ℕ) (d : List A) → k < n → get_or (for_each n no_list) k d ≡ []
empty_at n k d below = get_or-map-range_with_len no_list 0 n k k d below (omega arith)

none_at : (A : Type 0) (n k : ℕ) → length (get_or (for_each n (no_list {A = A})) k []) ≡ 0
none_at A n k = elim (cases_lt k n) [
  | inl below ↦ ap length (empty_at {A = A} n k [] below)
  | inr past ↦ ap length (get_or_past (for_each n (no_list {A = A})) k [] (omega (arith, length-map-range_with_len (no_list {A = A}) 0 n)))
]

pub kept_none : Kept (draft_of [])
kept_none = record {
  items = record { each = λ k d below. absurd (omega arith); few = omega arith };
  disks = record { each = λ k d below. absurd (omega arith); few = omega arith };
  replans = record { each = λ k d below. absurd (omega arith); few = omega arith; rising = λ i j d less below. absurd (omega arith); up_to_last = λ k d below. absurd (omega arith) };
  updates = record {
    each = λ k d below. λ j e inside. absurd (omega (arith, inside, ap length (empty_at MOST_UPDATERS k d below)));
    lists = refl;
    few = omega arith;
    past = λ by past. none_at UpdateLists MOST_UPDATERS by;
    few_in_all = omega arith;
    all = omega arith;
  };
  readers = record { each = λ k d below. absurd (omega arith); few = omega arith };
  queries = record {
    each = λ k d below. λ j e inside. absurd (omega (arith, inside, ap length (empty_at MOST_READERS k d below)));
    lists = refl;
    few_in_all = omega arith;
    all = omega arith;
  };
  script = record { few = omega arith; few_starts = omega arith; updaters = refl; fits = λ by. omega arith };
  set = λ k d below. absurd (omega arith);
}

-- One more record at which no kind applies.
kept_row : (rows : List (List (List ℕ))) (row : List (List ℕ)) → kinds_after (declarations_in rows) (spelled_declaration row) ≡ [] → Kept (draft_of (declarations_in rows)) → Kept (draft_of (declarations_in (rows ++ row ∷ [])))
kept_row rows row none k = by (spelled_declaration row) refl none
  where
    by : (r : Result Declaration FaultKind) → spelled_declaration row ≡ r → kinds_after (declarations_in rows) r ≡ [] → Kept (draft_of (declarations_in (rows ++ row ∷ [])))
    by (Err kind) e h = cc h
    by (Ok x) e h =
        let first : first_of (draft_tests (draft_of (declarations_in rows)) x) ≡ None = ap first_of (tests_same (declarations_in rows) x) ∙ none_first deck_kind_number (tests_of (declarations_in rows) x) h in
        rw (declarations_more rows row x e, draft_more (declarations_in rows) x) (kept_more (draft_of (declarations_in rows)) x k (declaration_spelt row x e) first)

pub kept_all : (rows : List (List (List ℕ))) → NoneBefore (kinds_at rows) (length rows) → Kept (draft_of (declarations_in rows))
unfolding kinds_at
kept_all rows before = along judge (λ rows. Kept (draft_of (declarations_in rows))) kept_none (λ rows row none k. kept_row rows row none k) rows before

-- What records spell is well made, and within the limits.
pub spelled_made : (rows : List (List (List ℕ))) (deck : Deck) → RecordsSpell rows deck → IsDeck deck × WithinLimits deck
unfolding kinds_at
spelled_made rows deck spelled =
    let k = kept_all rows (λ place below. spelled.faultless place (omega arith)) in
    let end : first_of (end_tests (length (items_in (declarations_in rows))) (disk_parts_in (declarations_in rows)) (replans_in (declarations_in rows)) (set_in (declarations_in rows))) ≡ None
    = none_first deck_kind_number (end_tests (length (items_in (declarations_in rows))) (disk_parts_in (declarations_in rows)) (replans_in (declarations_in rows)) (set_in (declarations_in rows))) (sym (kinds_end judge rows) ∙ spelled.faultless (length rows) (omega arith)) in
    let same = deck_same (declarations_in rows) k ∙ sym spelled.parts in
    (subst IsDeck same (made (draft_of (declarations_in rows)) k end), subst WithinLimits same (within (draft_of (declarations_in rows)) k end))
