use Rattle.std.proofs.Common.{◌≡◌, ◌∷◌, ◌∙◌, ◌<◌, [], ℕ, List, None, arith, length, sym}
use Rattle.std.proofs.lemmas.Bool.Decides.{nat_tests}
use Rattle.std.proofs.lemmas.List.{nil_from_length}
use Rattle.air_base.specs.LeadingParts.{after_digits}
use Rattle.air_base.specs.Numbers.{number_of}
use Rattle.air_base.proofs.LeadingNumberLemmas.{more_whole, no_whole, whole_number}
use Rattle.air_base.proofs.texts.read_u64.Goals as goal

pub returns : goal.returns
returns c =
    let none : length c.in-Some.rest.now ≡ 0 = grind (arith, nat_tests) in
    sym (sym (whole_number c.args.text.now (sym c.in-Some.ensures.1 ∙ nil_from_length c.in-Some.rest.now none)) ∙ c.in-Some.ensures.0)

pub returns-then-not-is_empty : goal.returns-then-not-is_empty
returns-then-not-is_empty c = by c.in-Some.rest.now c.in-Some.ensures.1 (grind (arith, nat_tests))
  where
    by : (rest : List ℕ) → rest ≡ after_digits c.args.text.now → 0 < length rest → None ≡ number_of c.args.text.now
    by [] is some = absurd (omega (arith, some))
    by (byte ∷ more) is some = sym (more_whole c.args.text.now byte more (sym is))

pub returns-in_default : goal.returns-in_default
returns-in_default c = sym (no_whole c.args.text.now c.in_default.ensures)
