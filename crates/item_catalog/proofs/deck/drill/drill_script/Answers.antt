use Rattle.std.proofs.Common.{◌++◌, ◌∷◌, [], ◌∙◌, None, ap, arith, length, sym}
use Rattle.std.proofs.lemmas.List.{length-append}
use Rattle.air_model.specs.Drills.{turn_of}
use Rattle.item_catalog.proofs.DealLemmas.{start_allowed, turns_more, turns_short}
use Rattle.item_catalog.proofs.deck.drill.drill_script.Goals as goal

pub add_turn-requires : goal.add_turn-requires
add_turn-requires c = omega (arith, ap length c.loop-u.invariant, turns_short c.loop-u.u)

pub loop-u-preserved : goal.loop-u-preserved
loop-u-preserved c = c.in_ok-add_turn.ensures ∙ ap (λ parts. parts ++ turn_of c.loop-u.u) c.loop-u.invariant ∙ sym (turns_more 0 c.loop-u.u c.loop-u.u (omega arith))

pub start-requires : goal.start-requires
start-requires c = start_allowed c.loop-u.script (omega (arith, ap length c.loop-u.invariant, turns_short c.loop-u.u))

pub start-requires-2 : goal.start-requires-2
start-requires-2 c =
    start_allowed c.start.new.self (omega (arith, ap length c.loop-u.invariant, turns_short c.loop-u.u, ap length c.in_ok-start.ensures, length-append c.loop-u.script (None ∷ [])))
