-- What the bytes say is computed.
use Rattle.std.proofs.Common.{◌∙◌, refl}
use Rattle.air_model.specs.Buckets.{reading, is_shaped, is_placed, is_entry, entry_count, raw_entries}
use Rattle.text_pins.proofs.buckets.age_equal_to_the_cycle.Goals as goal

pub returns : goal.returns
unfolding reading is_shaped is_placed is_entry entry_count raw_entries
returns c = c.decode.ensures.reading ∙ rw c.requires refl
