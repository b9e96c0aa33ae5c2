use Rattle.std.proofs.Common.{◌∙◌, Some, refl, sym}
use Rattle.air_base.specs.Numbers.{number_of}
use Rattle.item_catalog.specs.Writes.{spelled_value_write, write_on_base}
use Rattle.air_base.proofs.LeadingNumberLemmas.{leading_moved}
use Rattle.item_catalog.proofs.LeadingWriteLemmas.{value_signed_leading}
use Rattle.item_catalog.proofs.updates.leading_writes.leading_value_write.Goals as goal

pub returns-in-Some-read_sign : goal.returns-in-Some-read_sign
returns-in-Some-read_sign c =
    let minus = c.in-Some-read_sign.minus in
    let more = c.in-Some-read_sign.more.now in
    let is = value_signed_leading c.args.text.now minus (Some c.args.item) more (sym c.in-Some.ensures.1 ∙ c.in-Some-read_sign.ensures) in
    leading_moved (spelled_value_write (Some c.args.item)) (λ part. write_on_base minus (Some c.args.item) (Some c.in-Some.amount) (number_of part)) c.args.text.now more _
    (is.0 ∙ rw c.in-Some.ensures.0 refl) is.1 c.leading_changed_write.ensures
