use Rattle.std.proofs.Common.{refl, None, subst, sym, rules, arith}
use Rattle.std.specs.Io.KnownBytes.{IsAtEnd}
use Rattle.air_cli.specs.Private.BeforeDelivery.{IsUnmade}
use Rattle.air_cli.specs.Script.{ScriptCause, ScriptGives, script_meaning}
use Rattle.air_cli.proofs.ScriptLemmas.{unrunnable_script}
use Rattle.air_cli.proofs.commands.script.read_script.Goals as goal

pub returns-in_err-planned-clause-unmade : goal.returns-in_err-planned-clause-unmade
returns-in_err-planned-clause-unmade g c =
    let S = g.S.Shelf in
    let before = S.state c.args.shelf.now in
    let now = S.state c.read_runnable_deck.new.shelf in
    let h : IsUnmade (script_meaning c.args.name.now None) before now c.in_err-planned.field-0.0 = record {
      cause = λ some. unrunnable_script c.args.name.now before now c.in_err-planned.field-0.0 c.in_err-planned.ensures.refused;
      kept = c.in_err-planned.ensures.reads.kept;
    } in
    search (rules, h)

pub returns-then-bytes-clause-unmade : goal.returns-then-bytes-clause-unmade
unfolding ScriptCause
returns-then-bytes-clause-unmade g c =
    let S = g.S.Shelf in
    let before = S.state c.args.shelf.now in
    record {
      cause = λ some. (
        c.in_ok-planned.planned,
        c.in_ok-planned.ensures.deck,
        c.in_ok-planned.ensures.made,
        (c.in_ok-planned.ensures.runnable, c.tape_len-bytes.ensures, omega (arith, c.if-bytes.true)),
      );
      kept = λ read. c.in_ok-planned.ensures.reads.calm;
    }

pub returns-clause-made : goal.returns-clause-made
unfolding ScriptGives
returns-clause-made g c =
    let S = g.S.Shelf in
    let before = S.state c.args.shelf.now in
    let now = S.state c.read_runnable_deck.new.shelf in
    let d = c.in_ok-planned.planned in
    record {
      gives = (
        refl,
        (
          d,
          c.in_ok-planned.ensures.deck,
          c.in_ok-planned.ensures.made,
          (
            c.in_ok-planned.ensures.runnable,
            omega (arith, c.if-bytes.false, c.tape_len-bytes.ensures),
            record { legal = c.shows_script_truth.ensures.legal; bases = c.shows_script_truth.ensures.bases; sessions = c.shows_script_truth.ensures.sessions },
            refl,
          ),
        ),
      );
      read = λ other same. subst (λ input. IsAtEnd (now.told.left input)) (sym same) c.in_ok-planned.ensures.reads.end;
      calm = c.in_ok-planned.ensures.reads.calm;
    }
