use Rattle.std.proofs.Common.{length, ap, arith}
use Rattle.std.specs.List.{enumerate_from}
use Rattle.std.proofs.lemmas.List.FromFn.{length-enumerate_from}
use Rattle.air_model.specs.Decks.{Deck, disks_in, specs_in}
use Rattle.air_model.specs.Programs.{num_minors}
use Rattle.air_model.specs.PlanTexts.{disk_row}
use Rattle.air_report.specs.RowWriters.{written_text}
use Rattle.air_report.proofs.RowLemmas.{rows_none}
use Rattle.chunk_program.proofs.CutLemmas.{length_disks_in}
use Rattle.air_cli.proofs.PlanLemmas.{all_rows, disks_more}
use Rattle.air_cli.proofs.commands.plan.rows.put_disks.Goals as goal

pub loop-d-init : goal.loop-d-init
loop-d-init c = (c.requires.ready, rows_none (written_text c.args.wtr.now))

pub disk_count-d-end-requires : goal.disk_count-d-end-requires
disk_count-d-end-requires c = omega (arith, ap (λ (d : Deck). length d.replans) c.deck-deck.ensures.told, c.requires.edition)

pub put_disk-requires-clause-disk : goal.put_disk-requires-clause-disk
put_disk-requires-clause-disk c = omega (arith, ap (λ (d : Deck). length (specs_in d c.args.edition)) c.deck-deck.ensures.told, c.disk_count-d-end.ensures)

pub loop-d-preserved : goal.loop-d-preserved
loop-d-preserved c =
    let disks = disks_in c.args.planned.now c.args.edition in (
      c.in_ok-put_disk.ensures.ready,
      disks_more (num_minors disks) disks c.loop-d.d (written_text c.args.wtr.now) (written_text c.loop-d.wtr) (written_text c.put_disk.new.wtr)
          (omega (arith, length_disks_in c.args.planned.now c.args.edition, ap (λ (d : Deck). length (specs_in d c.args.edition)) c.deck-deck.ensures.told, c.disk_count-d-end.ensures)) c.loop-d.invariant.1 c.in_ok-put_disk.ensures.text,
    )

pub returns-clause-text : goal.returns-clause-text
returns-clause-text c =
    let disks = disks_in c.args.planned.now c.args.edition in
    all_rows (disk_row (num_minors disks)) (enumerate_from 0 disks) c.loop-d.d (written_text c.args.wtr.now) (written_text c.loop-d.wtr)
    (omega (arith, length-enumerate_from 0 disks, length_disks_in c.args.planned.now c.args.edition, ap (λ (d : Deck). length (specs_in d c.args.edition)) c.deck-deck.ensures.told, c.disk_count-d-end.ensures)) c.loop-d.invariant.1
