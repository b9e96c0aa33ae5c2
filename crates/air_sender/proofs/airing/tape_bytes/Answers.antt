use Rattle.std.proofs.Common.{◌≡◌, ◌+◌, ◌-◌, ◌*◌, length, ap, sym, ◌∙◌, arith}
use Rattle.air_model.specs.Disks.{all_items}
use Rattle.air_model.proofs.Elements.{all_at}
use Rattle.chunk_program.specs.Editions.{EditionDisks}
use Rattle.air_sender.proofs.PlannedTapes.{edition_more, ends_later, sum_fits}
use Rattle.air_sender.proofs.airing.tape_bytes.Goals as goal

pub overflow_sub-end : goal.overflow_sub-end
overflow_sub-end c =
    ends_later c.args.plans.now c.args.cycles c.loop-edition.edition c.loop-edition.done c.cycles_up_to-end.result c.loop-edition.invariant.before c.cycles_up_to-end.ensures.told c.loop-edition.invariant.within

pub cycle_len-requires : goal.cycle_len-requires
cycle_len-requires c =
    let n = c.args.n in
    all_at (λ (p : EditionDisks). length (all_items p.disks) ≡ n) c.args.plans.now.programs c.loop-edition.edition c.program.result.now c.requires.items c.program.ensures.told

pub loop-edition-preserved : goal.loop-edition-preserved
loop-edition-preserved c =
    let plans = c.args.plans.now in
    let inv = c.loop-edition.invariant in
    let e = c.loop-edition.edition in
    let done = c.loop-edition.done in
    let end = c.cycles_up_to-end.result in
    let up_to = c.cycles_up_to-end.ensures.told in
    let later = ends_later plans c.args.cycles e done end inv.before up_to inv.within in
    let fits = sum_fits c.loop-edition.bytes done end c.cycle_len.result inv.few c.cycle_len.ensures.few later in
    let len = c.cycle_len.result in
    record {
      within = c.cycles_up_to-end.ensures.within;
      before = λ k one within. (λ low. let most = (up_to k one within).0 low in omega arith, λ less. (up_to k one within).1 (omega arith));
      counted = ap (λ k. c.loop-edition.bytes + k * len) c.from.ensures ∙ ap (λ b. b + (end - done) * len) inv.counted
          ∙ sym (edition_more plans c.args.cycles e done end inv.before up_to c.args.form.version c.args.n len c.program.result.now inv.within c.cycles_up_to-end.ensures.within c.program.ensures.told c.cycle_len.ensures.len);
      few = (let same = ap (λ k. k * len) c.from.ensures in let all = fits.0 in omega arith);
    }
