use Rattle.std.proofs.Common.{◌≡◌, ◌+◌, ◌∙◌, length, refl, sym, ap, subst, arith}
use Rattle.air_history.specs.UpdateRules.{UpdateFits}
use Rattle.air_model.specs.Decks.{count_made, is_by}
use Rattle.air_model.specs.Closings.{GoesOnWithout}
use Rattle.station.specs.PassStates.{PassState, with_seen}
use Rattle.station.proofs.TurnLemmas.{refused}
use Rattle.deck_runs.specs.Commits.{Makes, MakesSome}
use Rattle.deck_runs.proofs.CommitLemmas.{makes_more, makes_none, makes_stop}
use Rattle.deck_runs.proofs.jobs.updaters.updater_job.Goals as goal

pub loop-update-init : goal.loop-update-init
loop-update-init g c = record {
  same = refl;
  count = let z : count_made c.args.pass.now.number c.args.pass.now.seen ≡ count_made c.args.pass.now.number c.args.pass.now.seen + 0 = omega arith in z;
  made = makes_none c.args.updates.now c.args.pass.now;
}

pub commit-requires-clause-fits : goal.commit-requires-clause-fits
commit-requires-clause-fits g c =
    let u = c.update-item.result in
    let fits : UpdateFits (length c.args.pass.now.values) u = subst (UpdateFits (length c.args.pass.now.values)) (sym c.update-item.is) (c.requires.fits c.loop-update.update-index u c.loop-update-test.true) in
    subst (λ (p : PassState). UpdateFits (length p.values) u) (sym c.loop-update.invariant.same) fits

pub returns-in_err-_receipt-clause-made : goal.returns-in_err-_receipt-clause-made
returns-in_err-_receipt-clause-made g c =
    let i = c.loop-update.invariant in
    let q = c.loop-update.pass in
    let s = c.in_err-_receipt.ensures.seen in
    let new = c.commit.new.pass in
    let some = makes_stop c.args.updates.now c.loop-update.update-index c.args.pass.now q new s.0 (ap (λ p. p.number) i.same) i.count i.made c.loop-update-test.true (subst (GoesOnWithout (is_by q.number) q.seen) (sym s.2) s.1) in
    refused (λ _. Makes c.args.updates.now c.args.pass.now new) (MakesSome c.args.updates.now c.args.pass.now new) c.from_residual.result c.from_residual.ensures.0 some

pub loop-update-preserved : goal.loop-update-preserved
loop-update-preserved g c =
    let i = c.loop-update.invariant in
    let q = c.loop-update.pass in
    let s = c.in_ok-_receipt.ensures.seen in
    let more = makes_more c.args.updates.now c.loop-update.update-index c.args.pass.now q c.commit.new.pass s.0 (ap (λ p. p.number) i.same) i.count i.made c.update-item.result c.loop-update-test.true c.update-item.is s.1 s.2.0 in
    record {
      same = c.commit.ensures.pass ∙ ap (λ (p : PassState). with_seen p c.commit.new.pass.seen) i.same;
      count = more.1;
      made = more.0;
    }
