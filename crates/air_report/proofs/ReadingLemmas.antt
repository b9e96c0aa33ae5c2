-- The answer on a text whose first records were read: the fault of the next one, or the lines of all.
use Rattle.std.proofs.Common.{◌≡◌, ◌<◌, ◌+◌, ◌++◌, ◌∷◌, ◌∙◌, [], ℕ, List, Some, sym, refl, subst, length, length-append, arith}
use Rattle.std.proofs.lemmas.List.{append-nil}
use Rattle.air_model.specs.Decks.{Deck}
use Rattle.item_catalog.specs.FirstFaults.{IsFirstFault, NoneBefore}
use Rattle.item_catalog.specs.Records.{records_of}
use Rattle.item_catalog.proofs.RecordPlaces.{refused}
use Rattle.air_report.specs.Kinds.{report_kind_number}
use Rattle.air_report.specs.LineTexts.{spelled_line}
use Rattle.air_report.specs.LineFaults.{line_kinds_at, spelled_lines}
use Rattle.air_report.specs.LineGrammar.{HasLineFault, RecordsSpellLines, SpellsLines}
use Rattle.air_report.specs.ReportLines.{sections_of}
use Rattle.air_report.specs.Private.RecordAnswers.{line_record_kind}
use Rattle.air_report.specs.declared.reading.kinds.ReportFaultKind.{ReportFaultKind}
use Rattle.air_report.proofs.PlaceLemmas.{judge, least_after}

module _ (deck : Deck) (text : List ℕ) (rows : List (List (List ℕ))) (before : NoneBefore (line_kinds_at deck rows) (length rows)) where
  pub read_fault : (row : List (List ℕ)) (left : List (List (List ℕ))) (kind : ReportFaultKind) → records_of text ≡ rows ++ row ∷ left
      → line_record_kind deck (sections_of (spelled_lines deck.settings.version rows)) (spelled_line deck.settings.version row) ≡ Some kind → HasLineFault deck text (length rows + 1) (report_kind_number kind)
  unfolding HasLineFault line_kinds_at
  read_fault row left kind all h =
      let P : List (List (List ℕ)) → Type 0 = λ all. IsFirstFault (length all) (line_kinds_at deck all) (length rows) (report_kind_number kind) in
      let within : length rows < length (rows ++ row ∷ left) = omega (arith, length-append rows (row ∷ left)) in
      (length rows, refl, subst P (sym all) (refused (judge deck) rows row left (length (rows ++ row ∷ left)) (report_kind_number kind) within before (least_after deck rows row kind h)))

  pub read_all : records_of text ≡ rows ++ [] → SpellsLines deck text (sections_of (spelled_lines deck.settings.version rows))
  unfolding SpellsLines
  read_all all =
      let P : List (List (List ℕ)) → Type 0 = λ all. RecordsSpellLines deck all (sections_of (spelled_lines deck.settings.version rows)) in
      subst P (sym (all ∙ append-nil rows)) (record { faultless = before; sections = refl })
