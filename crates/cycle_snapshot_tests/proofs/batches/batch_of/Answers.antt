use Rattle.std.proofs.Common.{rules, ◌∙◌, sym, subst}
use Rattle.std.specs.Prelude.{IsTrue}
use Rattle.std.proofs.lemmas.List.Elements.{All-push}
use Rattle.air_history.specs.Histories.{ItemsFit}
use Rattle.cycle_snapshot.specs.Batches.{IsBatch}
use Rattle.cycle_snapshot_tests.proofs.BatchLemmas.{no_start, all_none, none_yet, batch_ends}
use Rattle.cycle_snapshot_tests.proofs.batches.batch_of.Goals as goal

pub loop-by-init : goal.loop-by-init
loop-by-init c = record { fits = all_none (ItemsFit c.args.items) _ c.new-batch.ensures.items; none = none_yet _ c.new-batch.ensures.items }

pub loop-by-preserved : goal.loop-by-preserved
loop-by-preserved c =
    let i = c.loop-by.invariant in
    let fit : IsTrue c.fits.result = search rules in
    record {
      fits = rw c.in_ok-push.ensures.items (All-push (ItemsFit c.args.items) c.loop-by.batch.items _ i.fits (c.fits.ensures.0 fit));
      none = rw c.in_ok-push.ensures.items (no_start c.loop-by.batch.items _ i.none (sym c.is_start.ensures ∙ search rules));
    }

pub returns : goal.returns
returns c = subst (IsBatch c.args.items) (sym c.in_ok-push-2.ensures.items) (batch_ends c.args.items c.loop-by.batch.items c.loop-by.invariant.fits c.loop-by.invariant.none)
