use Rattle.std.proofs.Common.{◌≡◌, ◌≤◌, ◌<◌, ◌+◌, ℕ, Some, false, length, slice_get}
use Rattle.air_ether.specs.HeardPlaces.{IsPlacesAfter, left_before}
use Rattle.air_model.specs.Programs.{program as slots_of}
use Rattle.listeners.specs.Private.PlaceSteps.{AreSkipped, HasGiven, places_to}
use Rattle.listeners.proofs.places.skip_unwanted.Given as goal

-- All that was given before the place is unwanted.
abbrev pub invariant-loop-wanted : goal.invariant-loop-wanted
invariant-loop-wanted l = record {
  odds : l.ether.odds ≡ l.initial.ether.odds;
  opened : l.ether.ended ≡ false;
  from : l.first ≤ l.ether.pushes;
  upto : l.ether.pushes ≤ l.first + length (slots_of l.program.disks);
  here : l.place < l.first + length (slots_of l.program.disks);
  near : l.first ≤ l.place + 9;
  fewer : l.skipped + left_before (l.first + length (slots_of l.program.disks)) l.ether ≤ left_before (l.first + length (slots_of l.program.disks)) l.initial.ether;
  given : (seed number given : ℕ) → HasGiven seed number (l.first + length (slots_of l.program.disks)) given l.start l.initial.ether →
      (slice_get (places_to seed number l.initial.ether (l.first + length (slots_of l.program.disks))) (given + l.skipped) ≡ Some l.place)
      × IsPlacesAfter seed number (given + l.skipped + 1) l.ether
      × AreSkipped (slots_of l.program.disks) l.first l.wanted (places_to seed number l.initial.ether (l.first + length (slots_of l.program.disks))) given l.skipped;
}

abbrev pub decreases-loop-wanted : goal.decreases-loop-wanted
decreases-loop-wanted l = left_before (l.first + length (slots_of l.program.disks)) l.ether
