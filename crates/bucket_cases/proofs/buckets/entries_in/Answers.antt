use Rattle.std.proofs.Common.{ap, sym, ◌∙◌}
use Rattle.bucket_codec.specs.DatagramKinds.{kind_number}
use Rattle.bucket_cases.proofs.Bodies.{no_entries}
use Rattle.bucket_cases.proofs.buckets.entries_in.Goals as goal

pub returns-in-Idle : goal.returns-in-Idle
returns-in-Idle c = c.new.ensures.items ∙ no_entries c.args.view.now.body (sym (ap kind_number c.in-Idle.is) ∙ c.kind.ensures)
