use Rattle.std.proofs.Common.{◌≤◌, ◌<◌, ℕ, All, length, get_or}
use Rattle.air_base.specs.declared.verdicts.ReadOf.{ReadOf}
use Rattle.air_model.specs.Decks.{values_in}
use Rattle.live_replay.specs.Private.Groups.{writes_between}
use Rattle.live_replay.proofs.groups.first_of_all.Given as goal

abbrev pub invariant-loop-read : goal.invariant-loop-read
invariant-loop-read l = record {
  within : l.first ≤ length l.replay.history;
  least : (k : ℕ) (d : ReadOf) → k < l.read-index → All (λ w. l.first ≤ w.place) (writes_between (values_in l.replay.deck) l.replay.history (get_or l.reads k d).item (get_or l.reads k d).cycle l.cycle);
}
