use Rattle.std.proofs.Common.{◌≡◌, ◌+◌, ◌-◌, arith, rules}
use Rattle.air_model.proofs.TapeLemmas.{cut_short, cut_within, record_is}
use Rattle.bucket_codec.proofs.tape.first_record.Goals as goal

pub returns-then-rest-lt-LENGTH_BYTES-clause-first : goal.returns-then-rest-lt-LENGTH_BYTES-clause-first
returns-then-rest-lt-LENGTH_BYTES-clause-first c = cut_short c.args.rest.now c.requires (omega arith)

pub returns-then-rest-len-clause-first : goal.returns-then-rest-len-clause-first
returns-then-rest-len-clause-first c = cut_within c.args.rest.now c.read_u32-len.result (omega arith) c.read_u32-len.ensures (omega arith)

pub returns-clause-first : goal.returns-clause-first
returns-clause-first c =
    let e : 4 + c.read_u32-len.result - 4 ≡ c.read_u32-len.result = omega arith in
    rw e (record_is c.args.rest.now c.read_u32-len.result (search rules) (omega arith) c.read_u32-len.ensures (omega arith))
