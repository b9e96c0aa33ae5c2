use Rattle.std.proofs.Common.{◌≤◌, ◌+◌, ◌*◌, ◌∙◌, ap, sym, arith}
use Rattle.air_model.specs.Programs.{num_minors}
use Rattle.air_index.proofs.SizeLemmas.{index_fits, marks_sum, minors_within}
use Rattle.air_index.proofs.sizes.beamed_len.Goals as goal

pub returns-clause-len : goal.returns-clause-len
returns-clause-len c =
    let disks = c.args.program.now.disks in
    ap (λ k. k * (17 + 4 * c.from.result) + c.data_len-data.result) (c.from-2.ensures ∙ c.minors.ensures) ∙ ap (λ k. num_minors disks * (17 + 4 * k) + c.data_len-data.result) c.from.ensures
    ∙ ap (λ d. num_minors disks * (17 + 4 * c.args.n) + d) c.data_len-data.ensures.len ∙ sym (marks_sum c.args.version c.args.n disks)

pub returns-clause-few : goal.returns-clause-few
returns-clause-few c =
    let within = minors_within c.args.program.now.disks c.slots-slots.result c.slots-slots.ensures.counted c.slots-slots.ensures.some in
    let few : c.from-2.result ≤ 16384 = omega (arith, within, c.slots-slots.ensures.few, c.from-2.ensures, c.minors.ensures) in
    let short : 17 + 4 * c.from.result ≤ 4113 = omega (arith, c.from.ensures, c.requires, c.shows_well_made.ensures.few) in
    let index = index_fits c.from-2.result (17 + 4 * c.from.result) few short in
    omega (arith, index, c.data_len-data.ensures.few)
