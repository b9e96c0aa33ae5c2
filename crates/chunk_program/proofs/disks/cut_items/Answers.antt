use Rattle.std.proofs.Common.{rules, ◌≡◌, ◌<◌, true, length, drop, take, arith, ◌∙◌, ap}
use Rattle.std.specs.Result.{is_ok}
use Rattle.air_model.specs.Disks.{DiskSpec}
use Rattle.chunk_program.proofs.CutSteps.{cut_left, cut_none, cut_step}
use Rattle.chunk_program.proofs.disks.cut_items.Goals as goal

pub loop-spec-preserved : goal.loop-spec-preserved
loop-spec-preserved c =
    let below : c.loop-spec.spec-index < length c.args.specs.now = omega arith in
    let spec = c.spec-item.result in
    let is = c.spec.view_is in
    let size : c.spec.inside.size ≡ spec.size = ap (λ (s : DiskSpec). s.size) is in
    let freq : c.spec.inside.freq ≡ spec.freq = ap (λ (s : DiskSpec). s.freq) is in
    let left = cut_left (length c.loop-spec.rest.now) (length c.split_at.result.1.now) c.args.specs.now c.loop-spec.spec-index spec below c.spec-item.is c.loop-spec.invariant.left in
    let good : is_ok c.push.result ≡ true = search rules in
    let items = rw good at c.push.ensures.items in
    let taken : c.in_ok-items.items.items ≡ take spec.size c.loop-spec.rest.now =
    c.in_ok-items.ensures.items_if_clones_equal (λ x y e. search rules) ∙ c.split_at.ensures.front ∙ ap (λ n. take n c.loop-spec.rest.now) size in
    let back : c.split_at.result.1.now ≡ drop spec.size c.loop-spec.rest.now = c.split_at.ensures.back ∙ ap (λ n. drop n c.loop-spec.rest.now) size in
    let part = c.split_at.ensures.back_len in
    record {
      made = cut_step c.loop-spec.rest.now _ c.args.specs.now c.loop-spec.spec-index spec _ _ c.loop-spec.disks.items _ _ below c.spec-item.is taken freq back c.loop-spec.invariant.made items;
      left = left.1 (omega arith);
    }

pub returns : goal.returns
returns c = cut_none _ c.args.specs.now c.loop-spec.spec-index _ _ (omega arith) c.loop-spec.invariant.made
