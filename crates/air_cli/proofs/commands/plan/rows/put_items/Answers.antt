use Rattle.std.proofs.Common.{length, ap, arith}
use Rattle.std.specs.List.{enumerate_from}
use Rattle.std.proofs.lemmas.List.{length-map}
use Rattle.std.proofs.lemmas.List.FromFn.{length-enumerate_from}
use Rattle.air_model.specs.Decks.{Deck, disks_in, rates_in}
use Rattle.air_model.specs.PlanTexts.{item_row}
use Rattle.air_report.specs.RowWriters.{written_text}
use Rattle.air_report.proofs.RowLemmas.{rows_none}
use Rattle.air_cli.proofs.PlanLemmas.{all_rows, items_more}
use Rattle.air_cli.proofs.commands.plan.rows.put_items.Goals as goal

pub loop-i-init : goal.loop-i-init
loop-i-init c = (c.requires.ready, rows_none (written_text c.args.wtr.now))

pub put_item-requires-clause-item : goal.put_item-requires-clause-item
put_item-requires-clause-item c = omega (arith, ap (λ (d : Deck). length d.items) c.deck-deck.ensures.told, c.items-i-end.ensures.told)

pub loop-i-preserved : goal.loop-i-preserved
loop-i-preserved c = (
  c.in_ok-put_item.ensures.ready,
  items_more (disks_in c.args.planned.now c.args.edition) c.args.planned.now c.loop-i.i (written_text c.args.wtr.now) (written_text c.loop-i.wtr) (written_text c.put_item.new.wtr)
      (omega (arith, ap (λ (d : Deck). length d.items) c.deck-deck.ensures.told, c.items-i-end.ensures.told)) c.loop-i.invariant.1 c.in_ok-put_item.ensures.text,
)

pub returns-clause-text : goal.returns-clause-text
returns-clause-text c =
    let d = c.args.planned.now in
    let rates = rates_in d in
    all_rows (item_row (disks_in d c.args.edition)) (enumerate_from 0 rates) c.loop-i.i (written_text c.args.wtr.now) (written_text c.loop-i.wtr)
    (omega (arith, length-enumerate_from 0 rates, length-map d.items (λ item. item.rate), ap (λ (d : Deck). length d.items) c.deck-deck.ensures.told, c.items-i-end.ensures.told)) c.loop-i.invariant.1
