use Rattle.std.proofs.Common.{◌≡◌, ◌-◌, ◌≤◌, length, map}
use Rattle.std.specs.List.{range_with_len}
use Rattle.listeners.specs.Listeners.{hears}
use Rattle.listeners.specs.Private.JudgedPieces.{member_at}
use Rattle.listeners.proofs.pieces.hear_piece.Given as goal

-- The members before were heard.
abbrev pub invariant-loop-place : goal.invariant-loop-place
invariant-loop-place l = record {
  within : l.place ≤ length l.piece.heard.items;
  heard : l.listener ≡ hears (map (member_at l.piece.heard.items) (range_with_len 0 l.place)) l.fn.listener;
  air : l.listener.air ≡ l.fn.listener.air;
}

abbrev pub decreases-loop-place : goal.decreases-loop-place
decreases-loop-place l = length l.piece.heard.items - l.place
