use Rattle.std.proofs.Common.{◌≡◌, ◌∙◌, ◌∷◌, ◌<◌, [], ℕ, List, Option, Some, None, ap, arith, length, sym}
use Rattle.std.proofs.lemmas.Bool.Decides.{nat_tests}
use Rattle.std.proofs.lemmas.List.{nil_from_length}
use Rattle.air_report.specs.LineTexts.{spelled_place}
use Rattle.air_report.specs.Private.LeadingReads.{leading_place}
use Rattle.air_report.proofs.ReadLemmas.{no_place, no_whole_place, whole_place}
use Rattle.air_report.proofs.reading.reads.read_place.Goals as goal

pub returns-in_default : goal.returns-in_default
returns-in_default c = no_place c.args.text.now (sym c.in_default.ensures)

abbrev front : ℕ → ℕ → List ℕ → Option (ℕ × ℕ × List ℕ)
front item cycle rest = Some (item, cycle, rest)

pub returns-then-not-is_empty : goal.returns-then-not-is_empty
returns-then-not-is_empty c = by c.in-Some.rest.now (sym c.in-Some.ensures) (grind (arith, nat_tests))
  where
    by : (rest : List ℕ) → leading_place c.args.text.now ≡ front c.in-Some.item c.in-Some.cycle rest → 0 < length rest → ◌≡◌ {A = Option (ℕ × ℕ)} None (spelled_place c.args.text.now)
    by [] is some = absurd (omega (arith, some))
    by (byte ∷ more) is some = no_whole_place c.args.text.now c.in-Some.item c.in-Some.cycle byte more is

pub returns : goal.returns
returns c =
    let none : length c.in-Some.rest.now ≡ 0 = grind (arith, nat_tests) in
    let place : leading_place c.args.text.now ≡ front c.in-Some.item c.in-Some.cycle [] = sym c.in-Some.ensures ∙ ap (front c.in-Some.item c.in-Some.cycle) (nil_from_length c.in-Some.rest.now none) in
    sym (whole_place c.args.text.now c.in-Some.item c.in-Some.cycle place)
