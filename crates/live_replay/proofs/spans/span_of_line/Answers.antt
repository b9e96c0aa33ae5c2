use Rattle.std.proofs.Common.{◌≡◌, ℕ, List, [], max, drop, subst, arith}
use Rattle.std.proofs.lemmas.List.{drop_all}
use Rattle.air_base.specs.declared.verdicts.ReadOf.{ReadOf}
use Rattle.air_history.specs.Reads.{newest_cycle}
use Rattle.air_history.proofs.AgeLemmas.{oldest_with, span_push}
use Rattle.live_replay.specs.Findings.{places_read, read_in_cycle}
use Rattle.live_replay.proofs.spans.span_of_line.Goals as goal

pub returns : goal.returns
returns c =
    let R = places_read c.args.reads.now in
    let done : drop c.loop-read.read-index c.args.reads.now ≡ [] = drop_all c.loop-read.read-index c.args.reads.now (omega arith) in
    let top = subst (λ (rs : List ReadOf). max c.loop-read.newest (newest_cycle (places_read rs)) ≡ max c.args.cycle (newest_cycle R)) done c.loop-read.invariant.newest in
    let newest : c.loop-read.newest ≡ max c.args.cycle (newest_cycle R) = omega arith in
    let oldest = subst (λ (rs : List ReadOf). oldest_with c.loop-read.oldest (places_read rs) ≡ oldest_with c.args.cycle R) done c.loop-read.invariant.oldest in
    λ (item : ℕ). span_push R (read_in_cycle item c.args.cycle) c.loop-read.newest c.loop-read.oldest newest oldest
