use Rattle.std.proofs.Common.{◌≡◌, ℕ, ◌+◌, ◌%◌, ◌<◌, ◌≤◌, List, [], length, get_or}
use Rattle.std.specs.Prelude.{slice_index_or}
use Rattle.air_model.specs.Programs.{program as slots_of}
use Rattle.air_sender.specs.BoardBuckets.{board_bytes}
use Rattle.listeners.specs.Private.PlaceSteps.{AreKeptFrom}
use Rattle.listeners.proofs.place_hearers.keep_last.Given as goal

-- The last buckets up to a slot are kept.
abbrev pub invariant-loop-slot : goal.invariant-loop-slot
invariant-loop-slot g l = record {
  kept : (all : List (List ℕ)) → AreKeptFrom l.first (board_bytes l.form l.program.edition (slots_of l.program.disks) (g.S.Source.board l.source)) l.fn.recent all →
      (length l.recent ≡ 9) × ((p : ℕ) → p < l.first + l.slot → l.first + length (slots_of l.program.disks) ≤ p + 9 → get_or l.recent (p % 9) [] ≡ slice_index_or all p []);
  buffer : length l.buf ≡ length l.fn.buf;
}
