-- The text of an audit's findings: a row for each, and one that counts them.
use Rattle.std.specs.Prelude.{◌==◌, ◌++◌, ℕ, Bool, not, List, [], ◌∷◌, Option, Some, None, codes, count_by, length, map}
use Rattle.std.specs.Option.{is_some}
use Rattle.air_base.specs.Numbers.{number_text}
use Rattle.air_model.specs.Rows.{rows_text}
use Rattle.live_replay.specs.declared.findings.Cause.{Cause}
use Rattle.live_replay.specs.declared.findings.Cause.TheVariants.{Value, Verdict, Clash, Total}
use Rattle.live_replay.specs.declared.findings.Finding.{Finding}

-- The word of a cause.
abbrev pub cause_word : Cause → List ℕ
cause_word Value = codes "value"
cause_word Verdict = codes "verdict"
cause_word Clash = codes "clash"
cause_word Total = codes "total"

-- The row of what is found of the line in a row.
abbrev pub row_of : ℕ → Option Cause → List (List ℕ)
row_of row None = codes "agrees" ∷ number_text row ∷ []
row_of row (Some cause) = codes "differs" ∷ number_text row ∷ cause_word cause ∷ []

-- The row of a finding.
abbrev pub finding_row : Finding → List (List ℕ)
finding_row finding = row_of finding.row finding.differs

-- The finding is that its line differs.
abbrev pub differs : Finding → Bool
differs finding = is_some finding.differs

-- The last row has the number of findings, and that of those that differ.
abbrev pub audited_row : List Finding → List (List ℕ)
audited_row found = codes "audited" ∷ map number_text (length found ∷ count_by differs found ∷ [])

-- The text of findings.
unfoldable pub findings_text : List Finding → List ℕ
findings_text found = rows_text (map finding_row found ++ audited_row found ∷ [])

-- Some finding is that its line differs.
abbrev pub some_differ : List Finding → Bool
some_differ found = not (count_by differs found == 0)
