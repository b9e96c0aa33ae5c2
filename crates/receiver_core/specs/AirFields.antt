-- The fields of what all receivers know.
use Rattle.std.specs.Prelude.{map}
use Rattle.air_model.specs.Aired.{Air}
use Rattle.air_model.specs.Programs.{program}
use Rattle.receiver_core.specs.declared.airs.Air.TheInside.{Inside}

-- What the fields tell.
abbrev pub air_in : Inside → Air
air_in a = record {
  scheme = record { policy = a.policy; group = a.group };
  version = a.version;
  items = a.items;
  replans = a.plans.replans;
  slots = map (λ p. program p.disks) a.plans.programs;
  pix = a.plans.pix;
}
