use Rattle.std.proofs.Common.{length, ap, arith}
use Rattle.air_model.specs.Decks.{Deck}
use Rattle.air_report.specs.RowWriters.{written_text}
use Rattle.air_report.proofs.RowLemmas.{rows_none}
use Rattle.air_cli.proofs.PlanLemmas.{all_replans, replans_more}
use Rattle.air_cli.proofs.commands.plan.texts.put_replans.Goals as goal

pub loop-k-init : goal.loop-k-init
loop-k-init c = (c.requires, rows_none (written_text c.args.wtr.now))

pub put_replan-requires-clause-replan : goal.put_replan-requires-clause-replan
put_replan-requires-clause-replan c = omega (arith, ap (λ (d : Deck). length d.replans) c.deck-deck.ensures.told, c.replans-k-end.ensures.told)

pub loop-k-preserved : goal.loop-k-preserved
loop-k-preserved c = (
  c.in_ok-put_replan.ensures.ready,
  replans_more c.args.planned.now c.loop-k.k (written_text c.args.wtr.now) (written_text c.loop-k.wtr) (written_text c.put_replan.new.wtr)
      (omega (arith, ap (λ (d : Deck). length d.replans) c.deck-deck.ensures.told, c.replans-k-end.ensures.told)) c.loop-k.invariant.1 c.in_ok-put_replan.ensures.text,
)

pub returns-clause-text : goal.returns-clause-text
returns-clause-text c =
    all_replans c.args.planned.now c.loop-k.k (written_text c.args.wtr.now) (written_text c.loop-k.wtr)
    (omega (arith, ap (λ (d : Deck). length d.replans) c.deck-deck.ensures.told, c.replans-k-end.ensures.told)) c.loop-k.invariant.1
