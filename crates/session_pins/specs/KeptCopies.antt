-- A receiver that has a kept copy which clashes with its held read.
use Rattle.std.specs.Prelude.{[], ◌∷◌}
use Rattle.air_base.specs.declared.verdicts.Policy.TheVariants.{FMatrix}
use Rattle.air_model.specs.Sessions.{start}
use Rattle.receiver_core.specs.Receivers.{Receiver}
use Rattle.session_pins.specs.SmallReceivers.{air_by, counts, heard, value_read}

-- The reader keeps two copies, and asks for item 1, then for items 0 and 1. It accepted item 1 of cycle 2, which came of a write of item 0 in cycle 1, and
-- then it opened item 0 of cycle 1, which was delayed.
abbrev pub keeping_both : Receiver
keeping_both = record {
  air = air_by FMatrix;
  reader = record { plan = record { room = 2; age = 9; tries = 1 }; queries = (1 ∷ []) ∷ (0 ∷ 1 ∷ []) ∷ [] };
  state = record start {
    query = 1;
    held = heard 0 1 10 (0 ∷ 0 ∷ []) ∷ [];
    copies = heard 0 1 10 (0 ∷ 0 ∷ []) ∷ heard 1 2 25 (1 ∷ 1 ∷ []) ∷ [];
    now = 2;
    counts = counts 2 0 0 0 0 0;
  };
  last = value_read 1 2 25 ∷ [];
}
