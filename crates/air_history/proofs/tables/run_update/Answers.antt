use Rattle.std.proofs.Common.{arith, ap, sym, ◌∙◌, ◌≤◌, ◌==◌, length, All, find, subst, List}
use Rattle.air_base.specs.declared.limits.TheConstants.{MOST_WRITES}
use Rattle.air_history.specs.declared.updates.Write.{Write}
use Rattle.air_history.specs.Tables.{WriteFits, value_after_write, values_of}
use Rattle.air_history.proofs.UpdateRuleLemmas.{few_writes, writes_based}
use Rattle.air_history.proofs.WriteLemmas.{put_all}
use Rattle.air_history.proofs.tables.run_update.Goals as goal

pub written_values-fresh-requires-clause-few : goal.written_values-fresh-requires-clause-few
written_values-fresh-requires-clause-few c = subst (λ (ws : List Write). length ws ≤ MOST_WRITES) (sym c.writes.ensures) (few_writes c.args.update.now c.shows_rules_kept.ensures)

pub written_values-fresh-requires-clause-fits : goal.written_values-fresh-requires-clause-fits
written_values-fresh-requires-clause-fits c =
    subst (All (WriteFits (length c.args.values.now))) (sym c.writes.ensures) (writes_based (length c.args.values.now) c.args.update.now c.shows_rules_kept.ensures c.requires)

pub write_values-requires-clause-few : goal.write_values-requires-clause-few
write_values-requires-clause-few c =
    let few : length c.writes-2.result.now ≤ MOST_WRITES = subst (λ (ws : List Write). length ws ≤ MOST_WRITES) (sym c.writes-2.ensures) (few_writes c.args.update.now c.shows_rules_kept.ensures) in
    omega (arith, c.written_values-fresh.ensures.sized)

pub write_values-requires-clause-fits : goal.write_values-requires-clause-fits
write_values-requires-clause-fits c =
    subst (All (WriteFits (length c.args.values.now))) (sym c.writes-2.ensures) (writes_based (length c.args.values.now) c.args.update.now c.shows_rules_kept.ensures c.requires)

pub returns : goal.returns
returns c = put_all c.args.values.now c.write_values.new.values c.args.update.now.writes c.write_values.auto.values c.requires.writes
    (λ i l. c.write_values.ensures i l ∙ ap (λ (ws : List Write). value_after_write (values_of c.args.values.now) i (find (λ w. w.item == i) ws)) c.writes-2.ensures)
