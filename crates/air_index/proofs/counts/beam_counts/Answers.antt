use Rattle.std.proofs.Common.{◌≡◌, ◌+◌, ◌-◌, ◌*◌, length, ap, sym, ◌∙◌, arith}
use Rattle.air_model.specs.Programs.{num_minors, program}
use Rattle.air_index.proofs.SizeLemmas.{edition_sum, ends_later, minors_within, sum_fits}
use Rattle.air_index.proofs.counts.beam_counts.Goals as goal

pub overflow_sub-end : goal.overflow_sub-end
overflow_sub-end c =
    ends_later c.args.plans.now c.args.cycles c.loop-edition.edition c.loop-edition.done c.cycles_up_to-end.result c.loop-edition.invariant.before c.cycles_up_to-end.ensures.told c.loop-edition.invariant.within

pub loop-edition-preserved : goal.loop-edition-preserved
loop-edition-preserved c =
    let plans = c.args.plans.now in
    let inv = c.loop-edition.invariant in
    let e = c.loop-edition.edition in
    let done = c.loop-edition.done in
    let end = c.cycles_up_to-end.result in
    let up_to = c.cycles_up_to-end.ensures.told in
    let p = c.program-program.result.now in
    let slots = c.slots.result in
    let minors = c.minors.result in
    let within = c.cycles_up_to-end.ensures.within in
    let at = c.program-program.ensures.told in
    let later = ends_later plans c.args.cycles e done end inv.before up_to inv.within in
    let most = minors_within p.disks slots c.slots.ensures.counted c.slots.ensures.some in
    let many : c.loop-edition.data + c.from-more.result * c.from.result ≡ c.loop-edition.data + (end - done) * slots =
    ap (λ k. c.loop-edition.data + k * c.from.result) c.from-more.ensures ∙ ap (λ k. c.loop-edition.data + (end - done) * k) c.from.ensures in
    let few : c.loop-edition.indexes + c.from-more.result * c.from-in-loop-edition.result ≡ c.loop-edition.indexes + (end - done) * minors =
    ap (λ k. c.loop-edition.indexes + k * c.from-in-loop-edition.result) c.from-more.ensures ∙ ap (λ k. c.loop-edition.indexes + (end - done) * k) c.from-in-loop-edition.ensures in
    let data_fits = sum_fits c.loop-edition.data done end slots inv.few (omega (arith, c.slots.ensures.few)) later in
    let index_fits = sum_fits c.loop-edition.indexes done end minors inv.few_indexes (omega (arith, c.slots.ensures.few, most, c.minors.ensures)) later in
    record {
      within = within;
      before = λ k one below. (λ low. let most = (up_to k one below).0 low in omega arith, λ less. (up_to k one below).1 (omega arith));
      slots = many ∙ ap (λ b. b + (end - done) * slots) inv.slots ∙ sym (edition_sum plans c.args.cycles e done end inv.before up_to (λ d. length (program d)) slots p inv.within within at c.slots.ensures.counted);
      minors = few ∙ ap (λ b. b + (end - done) * minors) inv.minors ∙ sym (edition_sum plans c.args.cycles e done end inv.before up_to num_minors minors p inv.within within at c.minors.ensures);
      few = (let most = data_fits.0 in omega (arith, many, most));
      few_indexes = (let most = index_fits.0 in omega (arith, few, most));
    }
