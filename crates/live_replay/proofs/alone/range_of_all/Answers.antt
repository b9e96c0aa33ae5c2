use Rattle.std.proofs.Common.{◌≡◌, ◌<◌, [], IfSome, length, get_or, ap, sym, subst, ◌∙◌, arith}
use Rattle.std.proofs.lemmas.List.{get_or-map, length-map}
use Rattle.std.proofs.lemmas.List.Elements.{All-map}
use Rattle.air_base.specs.declared.verdicts.ReadOf.{ReadOf}
use Rattle.air_history.specs.Reads.{ReadAt, origin}
use Rattle.air_history.proofs.PlaceLemmas.{any_at}
use Rattle.live_replay.specs.Findings.{place_of_line, places_read, read_in_cycle}
use Rattle.live_replay.proofs.AloneLemmas.{is_late_for}
use Rattle.live_replay.proofs.alone.range_of_all.Goals as goal

none : ReadOf
none = record { item = 0; cycle = 0; value = 0 }

pub returns-clause-late : goal.returns-clause-late
returns-clause-late c = λ q late.
    let reads = c.args.reads.now in
    let f = any_at (is_late_for c.args.replay.now.history [] q) (places_read reads) (read_in_cycle 0 0) late in
    let within : f.0 < length reads = omega (arith, f.1, length-map reads place_of_line) in
    c.loop-read.invariant.late f.0 none (omega arith) q (ap (is_late_for c.args.replay.now.history [] q) (sym (get_or-map place_of_line reads f.0 none (read_in_cycle 0 0) within)) ∙ f.2)

pub returns-clause-before : goal.returns-clause-before
returns-clause-before c =
    let H = c.args.replay.now.history in
    let reads = c.args.reads.now in
    All-map (λ o. IfSome o (λ w. w < c.loop-read.end)) (origin H) (places_read reads) (λ k d l.
    let within = length-map reads place_of_line in
    subst (λ (r : ReadAt). IfSome (origin H r) (λ w. w < c.loop-read.end)) (sym (get_or-map place_of_line reads k none d (omega arith))) (c.loop-read.invariant.before k none (omega arith)))
