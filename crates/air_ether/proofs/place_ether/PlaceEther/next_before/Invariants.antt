use Rattle.std.proofs.Common.{◌≡◌, ℕ, ◌≤◌, ◌-◌, false}
use Rattle.air_ether.specs.HeardPlaces.{IsPlacesAfter, left_before}
use Rattle.air_ether.proofs.place_ether.PlaceEther.next_before.Given as goal

-- Nothing was given yet.
abbrev pub invariant-loop-place : goal.invariant-loop-place
invariant-loop-place l = record {
  odds : l.self.odds ≡ l.initial.self.odds;
  opened : l.self.ended ≡ false;
  from : l.initial.self.pushes ≤ l.self.pushes;
  upto : l.self.pushes ≤ l.last;
  fewer : left_before l.last l.self ≤ left_before l.last l.initial.self;
  follows : (seed number given : ℕ) → IsPlacesAfter seed number given l.initial.self → IsPlacesAfter seed number given l.self;
}

abbrev pub decreases-loop-place : goal.decreases-loop-place
decreases-loop-place l = l.last - l.self.pushes
