use Rattle.std.proofs.Common.{◌≡◌, ◌∙◌, length, arith}
use Rattle.pix_cache.proofs.StoreLemmas.{stores_len}
use Rattle.pix_cache.proofs.store.Store.new.Goals as goal

pub returns-clause-copy_slots : goal.returns-clause-copy_slots
returns-clause-copy_slots c =
    let copy_slots : length c.in_ok-vec.field-0.items ≡ c.args.copy_slots = omega (arith, c.in_ok-vec.ensures.len, c.in_ok-vec.field-0.ok.0) in
    stores_len c.args.n c.in_ok-vec.field-0.items c.in_ok-vec-2.field-0.items ∙ copy_slots
