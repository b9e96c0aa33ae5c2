use Rattle.std.proofs.Common.{◌≡◌, ◌<◌, ◌≤◌, ◌⊎◌, inl, inr, ◌+◌, ℕ, slice_index, subst, arith}
use Rattle.std.proofs.lemmas.Bool.{cases_lt}
use Rattle.disk_split.specs.declared.sizes.RestToPlace.{RestToPlace}
use Rattle.disk_split.specs.Private.RestsToPlace.{IsAfter}
use Rattle.disk_split.proofs.RestSteps.{some_first}
use Rattle.disk_split.proofs.sizes.first_size.Goals as goal

pub loop-size-preserved : goal.loop-size-preserved
loop-size-preserved c = λ less some below other is. by less some below other is (cases_lt less c.loop-size.size)
  where
    by : (less : ℕ) → 1 ≤ less → less < c.loop-size.size + 1 → (other : RestToPlace) → IsAfter c.args.sums.now (slice_index c.args.chunks.now 0) c.args.next.now c.args.left less other
        → ((less < c.loop-size.size) ⊎ (c.loop-size.size ≤ less)) → ⊥
    by less some below other is (inl low) = c.loop-size.invariant less some low other is
    by less some below other is (inr up) =
        let same : less ≡ c.loop-size.size = omega arith in
        c.in_default.ensures other (subst (λ n. IsAfter c.args.sums.now (slice_index c.args.chunks.now 0) c.args.next.now c.args.left n other) same is)

pub unreachable-requires : goal.unreachable-requires
unreachable-requires c =
    let t = some_first c.args.sums.now c.args.chunks.now c.args.next.now c.args.left c.requires.some c.requires.next c.requires.left in
    let test = c.loop-size-test.false in let within = t.2 in
    c.loop-size.invariant t.0 t.1 (omega arith) t.3.0 t.3.1
