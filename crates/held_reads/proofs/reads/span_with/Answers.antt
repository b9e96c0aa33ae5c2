use Rattle.std.proofs.Common.{◌≡◌, ℕ, List, [], map, max, drop, subst, arith}
use Rattle.std.proofs.lemmas.List.{drop_all}
use Rattle.air_history.specs.Clashes.{read_at, newest_heard}
use Rattle.air_history.proofs.AgeLemmas.{oldest_with, span_push}
use Rattle.held_reads.specs.declared.reads.HeldRead.{HeldRead}
use Rattle.held_reads.specs.HeardReads.{heard_of_held}
use Rattle.held_reads.proofs.reads.span_with.Goals as goal

pub returns : goal.returns
returns c =
    let R = map heard_of_held c.args.reads.now in
    let done : drop c.loop-read.read-index c.args.reads.now ≡ [] = drop_all c.loop-read.read-index c.args.reads.now (omega arith) in
    let top = subst (λ (ps : List HeldRead). max c.loop-read.newest (newest_heard (map heard_of_held ps)) ≡ max c.args.cycle (newest_heard R)) done c.loop-read.invariant.newest in
    let newest : c.loop-read.newest ≡ max c.args.cycle (newest_heard R) = omega arith in
    let oldest = subst (λ (ps : List HeldRead). oldest_with c.loop-read.oldest (map read_at (map heard_of_held ps)) ≡ oldest_with c.args.cycle (map read_at R)) done c.loop-read.invariant.oldest in
    λ (item : ℕ). span_push (map read_at R) (record { item = item; cycle = c.args.cycle }) c.loop-read.newest c.loop-read.oldest newest oldest
