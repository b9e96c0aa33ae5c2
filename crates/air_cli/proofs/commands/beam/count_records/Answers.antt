use Rattle.std.proofs.Common.{◌+◌, length, sym, ap, ◌∙◌, arith}
use Rattle.air_history.specs.Histories.{starts}
use Rattle.air_index.specs.IndexedTapes.{minors_after, slots_after}
use Rattle.air_index.proofs.CountLemmas.{piece_indexes, piece_records}
use Rattle.air_model.specs.Decks.{script_history}
use Rattle.air_sender.specs.AiredBytes.{aired_bytes}
use Rattle.air_sender.proofs.TapeSizes.{starts_script}
use Rattle.chunk_program.specs.Editions.{plans_in}
use Rattle.item_catalog.specs.DeckLimits.{script_starts}
use Rattle.air_cli.proofs.RunLemmas.{script_starts_few}
use Rattle.air_cli.proofs.commands.beam.count_records.Goals as goal

pub returns-clause-records : goal.returns-clause-records
returns-clause-records c =
    let d = c.args.planned.now in
    let H = script_history d in
    let cycles = c.script_starts.ensures.told ∙ ap script_starts c.deck.ensures.told ∙ sym (starts_script d) in
    c.beam_counts.ensures.records ∙ ap (λ p. slots_after p 0 c.script_starts.result + minors_after p 0 c.script_starts.result) c.plans.ensures.told
    ∙ ap (λ k. slots_after (plans_in d) 0 k + minors_after (plans_in d) 0 k) cycles ∙ sym (piece_records (plans_in d) (length d.items) 0 (starts H) (aired_bytes d H))

pub returns-clause-indexes : goal.returns-clause-indexes
returns-clause-indexes c =
    let d = c.args.planned.now in
    let H = script_history d in
    let cycles = c.script_starts.ensures.told ∙ ap script_starts c.deck.ensures.told ∙ sym (starts_script d) in
    c.beam_counts.ensures.indexes ∙ ap (λ p. minors_after p 0 c.script_starts.result) c.plans.ensures.told ∙ ap (minors_after (plans_in d) 0) cycles
    ∙ sym (piece_indexes d c.deck.ensures.made c.deck.ensures.limits c.plans.ensures.short 0 (starts H) (aired_bytes d H) (omega (arith, script_starts_few d c.deck.ensures.limits.script)))
