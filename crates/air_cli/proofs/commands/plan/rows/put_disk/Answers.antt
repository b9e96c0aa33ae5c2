use Rattle.std.proofs.Common.{◌≡◌, ◌++◌, length, sym, ap, subst, arith}
use Rattle.std.specs.List.{slice_get}
use Rattle.std.specs.Prelude.{IfSome}
use Rattle.csv.specs.Writing.{row_text}
use Rattle.air_model.specs.Decks.{Deck, specs_in}
use Rattle.air_model.specs.Programs.{num_minors}
use Rattle.air_model.specs.PlanTexts.{disk_row}
use Rattle.air_model.specs.Rows.{row_writer}
use Rattle.air_report.specs.RowWriters.{written_text}
use Rattle.chunk_program.specs.Editions.{EditionDisks}
use Rattle.chunk_program.proofs.CutLemmas.{length_disks_in}
use Rattle.air_cli.proofs.PlanLemmas.{disk_text, freq_of_disk}
use Rattle.air_cli.proofs.commands.plan.rows.put_disk.Goals as goal

pub disk_freq-requires-clause-edition : goal.disk_freq-requires-clause-edition
disk_freq-requires-clause-edition c = omega (arith, ap (λ (d : Deck). length d.replans) c.deck.ensures.told, c.requires.edition)

pub disk_freq-requires-clause-disk : goal.disk_freq-requires-clause-disk
disk_freq-requires-clause-disk c = omega (arith, ap (λ (d : Deck). length (specs_in d c.args.edition)) c.deck.ensures.told, c.requires.disk)

pub chunks-requires : goal.chunks-requires
chunks-requires c = omega (arith, ap (λ (p : EditionDisks). length p.disks) c.program-program.ensures.told, length_disks_in c.args.planned.now c.args.edition, c.requires.disk)

pub chunk_len-requires : goal.chunk_len-requires
chunk_len-requires c = omega (arith, ap (λ (p : EditionDisks). length p.disks) c.program-program.ensures.told, length_disks_in c.args.planned.now c.args.edition, c.requires.disk)

pub returns-clause-text : goal.returns-clause-text
returns-clause-text c =
    let disks = c.program-program.result.now.disks in
    let told = ap (λ (p : EditionDisks). p.disks) c.program-program.ensures.told in
    let d = c.args.d in
    let e = c.args.edition in
    let old = written_text c.args.wtr.now in
    let new = written_text c.add_numbers.new.wtr in
    let own = subst (λ (deck : Deck). IfSome (slice_get (specs_in deck e) d) (λ disk. c.disk_freq.result ≡ disk.freq)) c.deck.ensures.told c.disk_freq.ensures in
    let freq : IfSome (slice_get disks d) (λ disk. c.disk_freq.result ≡ disk.freq) =
    subst (λ p. IfSome (slice_get p d) (λ disk. c.disk_freq.result ≡ disk.freq)) (sym told) (freq_of_disk c.args.planned.now e d c.disk_freq.result own) in
    subst (λ p. IfSome (slice_get p d) (λ disk. new ≡ old ++ row_text row_writer (disk_row (num_minors p) (d, disk)))) told
    (disk_text (slice_get disks d) (num_minors disks) d c.disk_freq.result c.chunks.result c.chunk_len.result old new
    freq c.chunks.ensures c.chunk_len.ensures (rw (c.from.ensures, c.from-2.ensures, c.from-3.ensures, c.from-4.ensures) at c.in_ok-add_numbers.ensures.text))
