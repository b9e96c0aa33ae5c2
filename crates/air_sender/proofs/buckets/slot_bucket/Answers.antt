use Rattle.std.proofs.Common.{◌<◌, ◌∙◌, ap, [], refl, length, sym, subst, arith}
use Rattle.std.specs.Prelude.{All, IfSome}
use Rattle.air_model.specs.Buckets.{IsInRange, capped_bucket, entries_of}
use Rattle.bucket_codec.specs.declared.encoding.Body.TheVariants as Given
use Rattle.air_sender.specs.BoardBuckets.{entries_on}
use Rattle.bucket_codec.specs.BucketsToAir.{body_to_air, bucket_to_air}
use Rattle.air_sender.proofs.RangeLemmas.{aired_below, aired_entries, aired_range, idle_range, spelling_within}
use Rattle.air_sender.proofs.buckets.slot_bucket.Goals as goal

pub returns-in_default-clause-range : goal.returns-in_default-clause-range
unfolding body_to_air
returns-in_default-clause-range g c =
    let counted = c.count_items.ensures.counted in
    let same = c.its_cycle-cycle.ensures.found in
    idle_range c.args.form.version c.args.edition c.its_cycle-cycle.result c.args.slot c.count_items.result c.requires.version (omega arith) (omega arith) (omega arith) c.requires.slot c.count_items.ensures.some (omega arith)

pub returns-in_default-clause-sized : goal.returns-in_default-clause-sized
unfolding body_to_air entries_of
returns-in_default-clause-sized g c =
    spelling_within (bucket_to_air (record { version = c.args.form.version; edition = c.args.edition; cycle = c.its_cycle-cycle.result; slot = c.args.slot; body = Given.Idle c.count_items.result })) [] (length (g.S.Source.board c.args.source.now).values) refl (omega arith)

pub returns-clause-range : goal.returns-clause-range
returns-clause-range g c =
    let form = c.args.form in
    let board = (g.S.Source.board c.args.source.now) in
    let item = c.in-Some.item in
    let within : item < length board.values = subst (λ o. IfSome o (λ i. i < length board.values)) c.in-Some.is c.requires.within in
    let sized = c.item_body-body.ensures.sized in
    let few = c.requires.few in
    subst (λ b. IsInRange (capped_bucket (record { version = form.version; edition = c.args.edition; cycle = c.its_cycle-cycle.result; slot = c.args.slot; body = b }))) (sym c.item_body-body.ensures.body)
    (aired_range form.policy form.version c.args.edition c.its_cycle-cycle.result c.args.slot item c.value_of-value.result (entries_on form.policy board item) c.requires.version (omega arith) (omega arith) (omega arith) c.requires.slot (omega arith) (omega arith) (omega arith)
    (subst (λ n. All (λ e. e < n) (entries_on form.policy board item)) (sym c.its_cycle-cycle.ensures.found) (aired_below form.policy board item c.requires.below)))

pub returns-clause-sized : goal.returns-clause-sized
returns-clause-sized g c =
    let form = c.args.form in
    let board = (g.S.Source.board c.args.source.now) in
    let item = c.in-Some.item in
    let sized = c.item_body-body.ensures.sized in
    spelling_within (bucket_to_air (record { version = form.version; edition = c.args.edition; cycle = c.its_cycle-cycle.result; slot = c.args.slot; body = c.item_body-body.result }))
    (entries_on form.policy board item) (length board.values) (ap entries_of c.item_body-body.ensures.body ∙ aired_entries form.policy item c.value_of-value.result _) (omega arith)
