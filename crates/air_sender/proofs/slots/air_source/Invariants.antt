use Rattle.std.proofs.Common.{◌≡◌, take}
use Rattle.air_model.specs.Programs.{program as slots_of}
use Rattle.air_devices.specs.Masts.{Changes, with_buckets}
use Rattle.air_sender.specs.BoardBuckets.{board_bytes}
use Rattle.air_sender.proofs.slots.air_source.Given as goal

-- The buckets of the slots before were sent, and nothing else changed.
abbrev pub invariant-loop-slot : goal.invariant-loop-slot
invariant-loop-slot g l = record {
  sent : Changes (with_buckets (take l.slot (board_bytes l.form l.program.edition (slots_of l.program.disks) (g.S.Source.board l.source)))) (g.M.Mast.state l.fn.mast).told (g.M.Mast.state l.mast).told;
  calm : (g.M.Mast.state l.mast).faults ≡ (g.M.Mast.state l.fn.mast).faults;
  port : (g.M.Mast.state l.mast).port ≡ (g.M.Mast.state l.fn.mast).port;
}
