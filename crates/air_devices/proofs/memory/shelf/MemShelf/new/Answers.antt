use Rattle.std.proofs.Common.{◌∙◌, Some, ap}
use Rattle.air_devices.specs.Memory.{file_bytes, file_named, left_bytes, output_bytes, output_named}
use Rattle.air_devices.proofs.MemoryLemmas.{given_file, given_left, given_output}
use Rattle.air_devices.proofs.memory.shelf.MemShelf.new.Goals as goal

pub returns-clause-told : goal.returns-clause-told
returns-clause-told c name = ap (λ b. Some b) (ap (λ files. file_bytes (file_named name files)) c.in_ok-files.ensures ∙ given_file c.args.files.items name)

pub returns-clause-left : goal.returns-clause-left
returns-clause-left c name = ap (λ b. Some b) (ap (λ files. left_bytes (file_named name files)) c.in_ok-files.ensures ∙ given_left c.args.files.items name)

pub returns-clause-empty : goal.returns-clause-empty
returns-clause-empty c name = ap (λ b. Some b) (ap (λ outputs. output_bytes (output_named name outputs)) c.in_ok-outputs.ensures ∙ given_output c.args.outputs.items c.args.room name)
