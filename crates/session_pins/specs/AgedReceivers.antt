-- A receiver of a deck of version 2 that holds item 0 of cycle 1, and buckets of version 2.
use Rattle.std.specs.Prelude.{[], ◌∷◌}
use Rattle.air_base.specs.declared.verdicts.Policy.TheVariants.{FMatrix}
use Rattle.air_model.specs.Aired.{Air}
use Rattle.air_model.specs.Buckets.{Bucket, Column}
use Rattle.air_model.specs.Reads.{Read}
use Rattle.receiver_core.specs.Receivers.{Receiver}
use Rattle.session_pins.specs.SmallBuckets.{bucket}
use Rattle.session_pins.specs.SmallReceivers.{air_by, asker, heard, holding}

-- The deck's buckets have ages.
abbrev pub aging_air : Air
aging_air = record (air_by FMatrix) { version = 2 }

-- The held read: item 0 of cycle 1, with no commits before it.
abbrev pub held_read : Read
held_read = heard 0 1 10 (0 ∷ 0 ∷ [])

-- The read is held, and kept as a copy; a query is tried twice, and there is room for two copies.
abbrev pub keeping : Receiver
keeping = record { air = aging_air; reader = record asker { plan = record { room = 2; age = 9; tries = 2 } }; state = record (holding 1) { copies = held_read ∷ [] }; last = [] }

-- Item 0 of cycle 1, by a bucket of version 2.
abbrev pub early_bucket : Bucket
early_bucket = record (bucket 1 0 (Column 0 10 (0 ∷ 0 ∷ []))) { version = 2 }

-- Item 1 of cycle 256, which descends from a write of item 0 in cycle 255, by a bucket of version 2.
abbrev pub far_bucket : Bucket
far_bucket = record (bucket 256 1 (Column 1 20 (255 ∷ 0 ∷ []))) { version = 2 }

-- Its read.
abbrev pub far_read : Read
far_read = heard 1 256 20 (255 ∷ 0 ∷ [])
