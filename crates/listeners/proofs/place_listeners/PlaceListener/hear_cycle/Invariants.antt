use Rattle.std.proofs.Common.{◌≡◌, ℕ, ◌+◌, ◌-◌, ◌≤◌, cond, false, Option, length, map}
use Rattle.std.specs.List.{range_with_len}
use Rattle.air_ether.specs.HeardPlaces.{IsPlacesAfter, left_before}
use Rattle.air_ether.specs.HeardSoFar.{IsQuiet}
use Rattle.air_model.specs.Buckets.{Bucket}
use Rattle.air_model.specs.Programs.{program as slots_of}
use Rattle.receiver_core.specs.Receivers.{heard_count}
use Rattle.listeners.specs.Listeners.{hears}
use Rattle.listeners.specs.PlaceListeners.{given_at}
use Rattle.listeners.specs.Private.PlaceSteps.{AreMembers, places_to}
use Rattle.listeners.proofs.place_listeners.PlaceListener.hear_cycle.Given as goal

-- What was given so far was heard.
abbrev pub invariant-loop-more : goal.invariant-loop-more
invariant-loop-more g l = record {
  opened : l.self.ether.ended ≡ false;
  odds : l.self.ether.odds ≡ l.fn.self.ether.odds;
  from : l.first ≤ l.self.ether.pushes;
  upto : l.self.ether.pushes ≤ l.first + length (slots_of l.program.disks);
  air : l.self.listener.air ≡ l.fn.self.listener.air;
  counts : heard_count l.self.listener.state.counts + left_before (l.first + length (slots_of l.program.disks)) l.self.ether
      ≤ heard_count l.fn.self.listener.state.counts + left_before (l.first + length (slots_of l.program.disks)) l.fn.self.ether;
  buffer : length l.buf ≡ length l.fn.buf;
  all : l.more ≡ false → (l.self.ether.pushes ≡ l.first + length (slots_of l.program.disks)) × IsQuiet l.self.ether;
  heard : (seed number given : ℕ) (member : ℕ → Option Bucket) → IsPlacesAfter seed number given l.fn.self.ether
      → AreMembers l.form l.program.edition (slots_of l.program.disks) (g.S.Source.board l.source) l.first l.recent member
      → (next : ℕ) × (given ≤ next) × IsPlacesAfter seed number next l.self.ether
      × (l.more ≡ false → next ≡ length (places_to seed number l.fn.self.ether (l.first + length (slots_of l.program.disks))))
      × (l.self.listener ≡ hears (map (given_at member (places_to seed number l.fn.self.ether (l.first + length (slots_of l.program.disks)))) (range_with_len given (next - given))) l.fn.self.listener);
}

abbrev pub decreases-loop-more : goal.decreases-loop-more
decreases-loop-more g l = cond l.more (left_before (l.first + length (slots_of l.program.disks)) l.self.ether + 1) 0
