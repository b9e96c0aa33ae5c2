use Rattle.std.proofs.Common.{◌∙◌, Some, refl, sym}
use Rattle.item_catalog.specs.Writes.{spelled_value_write, spelled_write}
use Rattle.air_base.proofs.LeadingNumberLemmas.{after_byte, leading_moved}
use Rattle.item_catalog.proofs.LeadingWriteLemmas.{write_value_leading}
use Rattle.item_catalog.proofs.updates.leading_writes.leading_write.Goals as goal

pub returns-in-Some-after_byte : goal.returns-in-Some-after_byte
returns-in-Some-after_byte c =
    let at = sym c.in-Some-leading_number.ensures.1 ∙ c.in-Some-after_byte.ensures in
    leading_moved spelled_write (spelled_value_write (Some c.in-Some-leading_number.item)) c.args.text.now c.in-Some-after_byte.value.now _
    (write_value_leading c.args.text.now c.in-Some-after_byte.value.now at ∙ rw c.in-Some-leading_number.ensures.0 refl)
    (after_byte c.args.text.now 61 c.in-Some-after_byte.value.now at refl) c.leading_value_write.ensures
