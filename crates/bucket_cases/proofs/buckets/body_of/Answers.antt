use Rattle.std.proofs.Common.{ap, sym, ◌∙◌}
use Rattle.bucket_codec.specs.BucketsToAir.{body_to_air}
use Rattle.bucket_codec.specs.DatagramKinds.{kind_number}
use Rattle.bucket_cases.proofs.Bodies.{column_body, idle_body, vector_body}
use Rattle.bucket_cases.proofs.buckets.body_of.Goals as goal

pub returns-in-Idle : goal.returns-in-Idle
unfolding body_to_air
returns-in-Idle c = idle_body c.args.view.now.body c.count.result (sym (ap kind_number c.in-Idle.is) ∙ c.kind.ensures) c.count.ensures

pub returns-in-Column : goal.returns-in-Column
unfolding body_to_air
returns-in-Column c = column_body c.args.view.now.body c.item-item.result c.value-value.result c.args.entries.now (sym (ap kind_number c.in-Column.is) ∙ c.kind.ensures) c.item-item.ensures c.value-value.ensures c.requires

pub returns-in-Vector : goal.returns-in-Vector
unfolding body_to_air
returns-in-Vector c = vector_body c.args.view.now.body c.item-item.result c.value-value.result c.args.entries.now (sym (ap kind_number c.in-Vector.is) ∙ c.kind.ensures) c.item-item.ensures c.value-value.ensures c.requires
