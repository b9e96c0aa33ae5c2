-- The kinds at the places of a deck's records that are read one by one. `added` and `none_added` are the step of a reader that
-- keeps a draft, `least_after` is what the reader tells of a record that it refuses, and `ended_good` and `ended_bad` are its
-- end.
use Rattle.std.proofs.Common.{◌≡◌, ◌+◌, ◌++◌, ◌∷◌, [], ℕ, List, Option, Some, None, Result, Ok, Err, true, ◌∙◌, sym, refl, ap, arith, length, inl, inr}
use Rattle.std.specs.Result.{result_ok}
use Rattle.std.proofs.lemmas.Bool.{cases_lt}
use Rattle.std.proofs.lemmas.List.Elements.{filter_map-append}
use Rattle.item_catalog.specs.FirstFaults.{IsLeastKind, NoneBefore}
use Rattle.item_catalog.specs.RecordKinds.{first_of, least_kind, with_spelled}
use Rattle.item_catalog.proofs.KindLemmas.{least_applies, least_spelled, none_apply, none_spelled, rising}
use Rattle.item_catalog.proofs.RecordPlaces as places
use Rattle.item_catalog.specs.Private.Drafts.{draft_of, record_kind, with_declaration}
use Rattle.item_catalog.specs.Declarations.{Declaration, spelled_declaration}
use Rattle.item_catalog.specs.Declarations as e
use Rattle.item_catalog.specs.Faults.{end_tests, declarations_in, kinds_after, kinds_at, place_kinds, tests_of}
use Rattle.item_catalog.specs.Grammar.{RecordsFail}
use Rattle.item_catalog.specs.Kinds.{deck_kind_number}
use Rattle.item_catalog.specs.Parts.{disk_parts_in, items_in, replans_in, set_in}
use Rattle.item_catalog.specs.declared.faults.FaultKind.{FaultKind}
use Rattle.item_catalog.proofs.DraftLemmas.{draft_more, tests_same}

-- The kinds of a record, or of the end, after records.
abbrev pub judge : List (List (List ℕ)) → Option (List (List ℕ)) → List ℕ
judge rows row = place_kinds (declarations_in rows) row

-- The tests of each tag, and those at the end, are by rising kind.
tests_rise : (before : List Declaration) (x : Declaration) → rising deck_kind_number 0 (tests_of before x) ≡ true
tests_rise before (e.DeclaredItem id value rate) = refl
tests_rise before (e.DeclaredDisk size freq) = refl
tests_rise before (e.DeclaredReplan cycle sizes freqs) = refl
tests_rise before (e.DeclaredUpdate by reads writes) = refl
tests_rise before (e.DeclaredReader room age tries) = refl
tests_rise before (e.DeclaredQuery reader items) = refl
tests_rise before (e.DeclaredScript events) = refl
tests_rise before (e.DeclaredSetting setting) = refl

-- A draft judges as the declarations that it was made of.
record_kind_same : (es : List Declaration) (spelled : Result Declaration FaultKind) → record_kind (draft_of es) spelled ≡ least_kind (tests_of es) spelled
record_kind_same es (Err kind) = refl
record_kind_same es (Ok x) = ap first_of (tests_same es x)

pub declarations_more : (rows : List (List (List ℕ))) (row : List (List ℕ)) (x : Declaration) → spelled_declaration row ≡ Ok x → declarations_in (rows ++ row ∷ []) ≡ declarations_in rows ++ x ∷ []
declarations_more rows row x h = filter_map-append (λ row. result_ok (spelled_declaration row)) rows (row ∷ []) ∙ rw h refl

-- One more record to which no kind applies, and one to which some kind does.
module _ (rows : List (List (List ℕ))) (row : List (List ℕ)) where
  pub added : record_kind (draft_of (declarations_in rows)) (spelled_declaration row) ≡ None → with_spelled with_declaration (draft_of (declarations_in rows)) (spelled_declaration row) ≡ draft_of (declarations_in (rows ++ row ∷ []))
  added h = by (spelled_declaration row) refl h
    where
      by : (r : Result Declaration FaultKind) → spelled_declaration row ≡ r → record_kind (draft_of (declarations_in rows)) r ≡ None → with_spelled with_declaration (draft_of (declarations_in rows)) r ≡ draft_of (declarations_in (rows ++ row ∷ []))
      by (Err kind) e h = cc h
      by (Ok x) e h = sym (ap draft_of (declarations_more rows row x e) ∙ draft_more (declarations_in rows) x)

  pub none_added : NoneBefore (kinds_at rows) (length rows) → record_kind (draft_of (declarations_in rows)) (spelled_declaration row) ≡ None → NoneBefore (kinds_at (rows ++ row ∷ [])) (length (rows ++ row ∷ []))
  unfolding kinds_at
  none_added before h = places.none_more judge rows row before (none_spelled deck_kind_number (tests_of (declarations_in rows)) (spelled_declaration row) (sym (record_kind_same (declarations_in rows) (spelled_declaration row)) ∙ h))

  pub least_after : (kind : FaultKind) → record_kind (draft_of (declarations_in rows)) (spelled_declaration row) ≡ Some kind → IsLeastKind (deck_kind_number kind) (kinds_after (declarations_in rows) (spelled_declaration row))
  least_after kind h = least_spelled deck_kind_number (tests_of (declarations_in rows)) (tests_rise (declarations_in rows)) (spelled_declaration row) kind (sym (record_kind_same (declarations_in rows) (spelled_declaration row)) ∙ h)

-- The first kind at the end of records.
abbrev pub end_of : List (List (List ℕ)) → Option FaultKind
end_of rows = first_of (end_tests (length (items_in (declarations_in rows))) (disk_parts_in (declarations_in rows)) (replans_in (declarations_in rows)) (set_in (declarations_in rows)))

module _ (rows : List (List (List ℕ))) where
  pub ended_bad : (kind : FaultKind) → NoneBefore (kinds_at rows) (length rows) → end_of rows ≡ Some kind → RecordsFail rows (length rows) (deck_kind_number kind)
  unfolding kinds_at
  ended_bad kind before h = record {
    within = omega arith;
    first = before;
    least = rw (places.kinds_end judge rows) (least_applies deck_kind_number 0 (end_tests (length (items_in (declarations_in rows))) (disk_parts_in (declarations_in rows)) (replans_in (declarations_in rows)) (set_in (declarations_in rows))) kind refl h);
  }

  pub ended_good : NoneBefore (kinds_at rows) (length rows) → end_of rows ≡ None → NoneBefore (kinds_at rows) (length rows + 1)
  unfolding kinds_at
  ended_good before h place below = elim (cases_lt place (length rows)) [
    | inl less ↦ before place less
    | inr more ↦ let here : place ≡ length rows = omega arith in
        ap (kinds_at rows) here ∙ places.kinds_end judge rows ∙ none_apply deck_kind_number (end_tests (length (items_in (declarations_in rows))) (disk_parts_in (declarations_in rows)) (replans_in (declarations_in rows)) (set_in (declarations_in rows))) h
  ]
