use Rattle.std.proofs.Common.{refl, subst, sym, rules, arith}
use Rattle.std.specs.Io.KnownBytes.{IsAtEnd}
use Rattle.air_cli.specs.Beam.{BeamCause, BeamGives, beam_meaning}
use Rattle.air_cli.specs.Private.BeforeDelivery.{IsUnmade}
use Rattle.air_cli.proofs.BeamLemmas.{unrunnable_beam}
use Rattle.air_cli.proofs.commands.beam.read_beam.Goals as goal

pub returns-in_err-planned-clause-unmade : goal.returns-in_err-planned-clause-unmade
returns-in_err-planned-clause-unmade g c =
    let S = g.S.Shelf in
    let before = S.state c.args.shelf.now in
    let now = S.state c.read_runnable_deck.new.shelf in
    let h : IsUnmade (beam_meaning c.args.name.now c.args.output.now) before now c.in_err-planned.field-0.0 = record {
      cause = λ some. unrunnable_beam c.args.name.now before now c.in_err-planned.field-0.0 c.in_err-planned.ensures.refused;
      kept = c.in_err-planned.ensures.reads.kept;
    } in
    search (rules, h)

pub returns-then-bytes-clause-unmade : goal.returns-then-bytes-clause-unmade
unfolding BeamCause
returns-then-bytes-clause-unmade g c = record {
  cause = λ some. (
    c.in_ok-planned.planned,
    c.in_ok-planned.ensures.deck,
    c.in_ok-planned.ensures.made,
    (c.in_ok-planned.ensures.runnable, c.beam_len-bytes.ensures, omega (arith, c.if-bytes.true)),
  );
  kept = λ read. c.in_ok-planned.ensures.reads.calm;
}

pub returns-clause-made : goal.returns-clause-made
unfolding BeamGives
returns-clause-made g c =
    let S = g.S.Shelf in
    let now = S.state c.read_runnable_deck.new.shelf in
    let d = c.in_ok-planned.planned in
    record {
      gives = (
        refl,
        (
          d,
          c.in_ok-planned.ensures.deck,
          c.in_ok-planned.ensures.made,
          (c.in_ok-planned.ensures.runnable, omega (arith, c.if-bytes.false, c.beam_len-bytes.ensures), refl),
        ),
      );
      read = λ other same. subst (λ input. IsAtEnd (now.told.left input)) (sym same) c.in_ok-planned.ensures.reads.end;
      calm = c.in_ok-planned.ensures.reads.calm;
    }
