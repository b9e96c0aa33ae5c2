-- What contracts see of a replan that is lent from a deck, and what always holds of it.
use Rattle.std.specs.Prelude.{◌≤◌, ◌<◌, All}
use Rattle.air_base.specs.declared.limits.TheConstants.{MOST_CYCLES, MOST_DELTA}
use Rattle.air_model.specs.Decks.{Replan}
use Rattle.item_catalog.specs.DeckLimits.{ReplanWithin}
use Rattle.item_catalog.specs.Decks.{with_freqs}
use Rattle.item_catalog.specs.declared.deck.replans.Replan.TheInside.{Inside}

-- What holds of a replan of a well made deck: its cycle is right, each disk is aired, and it is within the limits.
pub record IsReplan (r : Replan) : Type 0 where
  pub from_two : 2 ≤ r.cycle
  pub within_a_run : r.cycle ≤ MOST_CYCLES
  pub aired : All (λ d. (0 < d.size) × (0 < d.freq)) r.disks
  pub limits : ReplanWithin r

-- The replan of the fields: a frequency that isn't given is computed from delta.
abbrev pub replan_seen : Inside → Replan
replan_seen r = record { cycle = r.cycle; disks = with_freqs r.delta r.disks.now }

-- What always holds of the fields: this, and that delta is small.
pub record ReplanKept (r : Inside) : Type 0 where
  pub made : IsReplan (replan_seen r)
  pub delta : r.delta ≤ MOST_DELTA
