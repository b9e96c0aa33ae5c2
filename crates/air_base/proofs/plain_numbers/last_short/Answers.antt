use Rattle.std.proofs.Common.{drop, length, replicate}
use Rattle.air_base.specs.Numbers.{number_of}
use Rattle.air_base.proofs.PlainNumbers.{last_plain, spaces_end}
use Rattle.air_base.proofs.plain_numbers.last_short.Goals as goal

pub returns : goal.returns
returns c =
    let k = length c.args.text.now in
    last_plain (drop k (replicate 4 32)) (spaces_end k 4) number_of (λ n. n) c.args.text.now c.copy_from_slice.new.self c.copy_from_slice.ensures.after c.plain_short.result c.plain_short.ensures
