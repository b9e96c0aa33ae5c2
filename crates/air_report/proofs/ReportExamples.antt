-- The rows of small reports, computed.
use Rattle.std.proofs.Common.{◌≡◌, ℕ, List, [], ◌∷◌, refl}
use Rattle.std.specs.Prelude.{codes}
use Rattle.air_base.specs.Numbers.{number_of}
use Rattle.air_base.specs.NumberLists.{all_some}
use Rattle.air_report.specs.LineTexts.{short_of, spelled_item, spelled_place, spelled_read}
use Rattle.air_report.specs.ReportLines.{its_glance, its_look, its_verdict}
use Rattle.air_report.proofs.RecordRows.{rows_of}

-- The fields of a record.
abbrev Row : Type 0
Row = List (List ℕ)

abbrev start : Row
start = codes "start" ∷ []

abbrev accept0 : Row
accept0 = codes "accept" ∷ codes "0" ∷ codes "0" ∷ codes "1" ∷ codes "0@1=10" ∷ []

abbrev counts0 : Row
counts0 = codes "counts" ∷ codes "0" ∷ codes "0" ∷ codes "0" ∷ codes "0" ∷ codes "0" ∷ codes "0" ∷ codes "0" ∷ []

-- What a monitor saw, as a glance or as a look.
abbrev seen : List ℕ → Row
seen tag = tag ∷ codes "0" ∷ codes "1" ∷ codes "30" ∷ []

abbrev report : List Row
report = start ∷ accept0 ∷ accept0 ∷ counts0 ∷ seen (codes "glance") ∷ seen (codes "look") ∷ seen (codes "look") ∷ []

verdicts : rows_of its_verdict 1 report ≡ 2 ∷ 3 ∷ []
unfolding spelled_read spelled_place spelled_item short_of number_of all_some
verdicts = refl

glances : rows_of its_glance 1 report ≡ 5 ∷ []
unfolding spelled_read spelled_place spelled_item short_of number_of all_some
glances = refl

looks : rows_of its_look 1 report ≡ 6 ∷ 7 ∷ []
unfolding spelled_read spelled_place spelled_item short_of number_of all_some
looks = refl
