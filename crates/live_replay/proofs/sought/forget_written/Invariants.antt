use Rattle.std.proofs.Common.{◌≡◌, ◌==◌, ◌&&◌, ℕ, not, false, get_or, take}
use Rattle.std.specs.List.{list_any}
use Rattle.live_replay.proofs.sought.forget_written.Given as goal

abbrev pub invariant-loop-write : goal.invariant-loop-write
invariant-loop-write l = (i : ℕ) → get_or l.sought i false ≡ (get_or l.initial.sought i false && not (list_any (λ w. w.item == i) (take l.write-index l.writes)))
