use Rattle.std.proofs.Common.{◌≡◌, ℕ, ◌++◌, length}
use Rattle.std.specs.Prelude.{Some, slice_get, vec_capacity}
use Rattle.std.specs.Vec.Iter.{into_iter_items, into_iter_len}
use Rattle.station.specs.PassFields.{Inner, pass_in}
use Rattle.station.proofs.stations.hand_out.Given as goal

-- Each pass so far was made of that of its place.
abbrev pub invariant-loop-pass : goal.invariant-loop-pass
invariant-loop-pass l =
    (l.yielded ++ into_iter_items l.pass-iterator ≡ into_iter_items l.initial.pass-iterator)
    × (into_iter_len l.pass-iterator ≡ length (into_iter_items l.pass-iterator))
    × (length l.passes.items ≡ length l.yielded)
    × (vec_capacity l.passes ≡ vec_capacity l.initial.passes)
    × ((by : ℕ) (p : _) → slice_get l.passes.items by ≡ Some p → (pass : Inner) × (slice_get l.fn.all.items by ≡ Some pass) × (p ≡ pass_in pass by))
