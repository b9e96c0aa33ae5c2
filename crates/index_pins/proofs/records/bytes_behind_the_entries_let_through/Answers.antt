use Rattle.std.proofs.Common.{◌∙◌, ap}
use Rattle.air_index.specs.Records.{indexed_at}
use Rattle.index_pins.proofs.PinLemmas.{no_records}
use Rattle.index_pins.proofs.records.bytes_behind_the_entries_let_through.Goals as goal

pub returns : goal.returns
returns c = c.indexed.ensures.read ∙ ap indexed_at c.requires ∙ no_records.1
