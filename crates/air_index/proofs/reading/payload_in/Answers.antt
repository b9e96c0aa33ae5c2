use Rattle.std.proofs.Common.{◌∙◌, ap, drop, arith, rules}
use Rattle.std.proofs.lemmas.List.{length-drop, take_all}
use Rattle.air_model.specs.Buckets.{reading}
use Rattle.air_index.proofs.RecordLemmas.{payload_fault, payload_ok, payload_short, payload_tag, payload_wait}
use Rattle.air_index.proofs.reading.payload_in.Goals as goal
use Rattle.air_index.proofs.reading.payload_in.Goals.{then-bytes-lt-DATA_HEAD-via-then-bytes-lt-DATA_HEAD, then-bytes-lt-DATA_HEAD-via-else-bytes-lt-DATA_HEAD+then-bytes-ne1}

pub returns-then-bytes-lt-DATA_HEAD : goal.returns-then-bytes-lt-DATA_HEAD
returns-then-bytes-lt-DATA_HEAD c =
    elim c.then-bytes-lt-DATA_HEAD.branch [
      | then-bytes-lt-DATA_HEAD-via-then-bytes-lt-DATA_HEAD w ↦ payload_short c.args.bytes.now (omega arith)
      | then-bytes-lt-DATA_HEAD-via-else-bytes-lt-DATA_HEAD+then-bytes-ne1 w ↦ payload_tag c.args.bytes.now (search rules)
    ]

pub returns-then-wait-eq0 : goal.returns-then-wait-eq0
returns-then-wait-eq0 c = payload_wait c.args.bytes.now c.four_at-wait.result c.four_at-wait.ensures (search rules)

pub returns-in-Ok : goal.returns-in-Ok
returns-in-Ok c =
    payload_ok c.args.bytes.now c.four_at-wait.result c.in-Ok.bucket (omega arith) (search rules) c.four_at-wait.ensures (search rules)
    (c.in-Ok.ensures.reading ∙ ap reading (take_all _ (drop 5 c.args.bytes.now) (omega (arith, length-drop 5 c.args.bytes.now))))

pub returns-in-Err : goal.returns-in-Err
returns-in-Err c =
    payload_fault c.args.bytes.now c.in-Err.field-0
    (c.in-Err.ensures.reading ∙ ap reading (take_all _ (drop 5 c.args.bytes.now) (omega (arith, length-drop 5 c.args.bytes.now))))
