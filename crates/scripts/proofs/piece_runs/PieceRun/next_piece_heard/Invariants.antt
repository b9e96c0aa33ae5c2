use Rattle.std.proofs.Common.{◌≡◌, ◌+◌, ◌<◌, ◌≤◌, ◌++◌, length}
use Rattle.air_history.specs.Histories.{starts}
use Rattle.air_sender.specs.TapeMasts.{told_by_tape}
use Rattle.air_sender.specs.AiredBytes.{aired_bytes}
use Rattle.listeners.specs.Hearings.{AreHearing}
use Rattle.scripts.specs.PieceRuns.{IsPieceRun}
use Rattle.scripts.proofs.piece_runs.PieceRun.next_piece_heard.Given as goal

abbrev pub invariant-loop-next : goal.invariant-loop-next
invariant-loop-next l = record {
  kept : IsPieceRun l.planned l.self;
  at : l.next ≡ length l.self.events.items;
  heard : AreHearing l.planned (aired_bytes l.planned l.self.events.items) l.hearers;
  aired : aired_bytes l.planned l.self.events.items ≡ aired_bytes l.planned l.fn.self.events.items ++ (told_by_tape l.piece).buckets;
  cycles : starts l.self.events.items + l.left ≤ starts l.fn.self.events.items + l.cycles;
  full : starts l.fn.self.events.items + l.cycles ≤ starts l.self.events.items + l.left;
  left : l.left ≤ l.cycles;
  grown : l.left < l.cycles → length l.fn.self.events.items < length l.self.events.items;
  from : length l.fn.self.events.items ≤ length l.self.events.items;
}
