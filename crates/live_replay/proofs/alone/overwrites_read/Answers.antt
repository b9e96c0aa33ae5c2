use Rattle.std.proofs.Common.{◌≡◌, ◌<◌, ◌≤◌, None, length, get_or, sym, ap, ◌∙◌, ◌&&◌, arith}
use Rattle.std.proofs.lemmas.List.{get_or-map, length-map}
use Rattle.air_base.specs.declared.verdicts.ReadOf.{ReadOf}
use Rattle.air_history.specs.Histories.{writes}
use Rattle.air_history.specs.Reads.{ReadAt, origin}
use Rattle.air_history.proofs.ScanLemmas.{event_read}
use Rattle.live_replay.specs.Findings.{place_of_line, places_read, read_in_cycle}
use Rattle.live_replay.specs.Private.Alone.{is_after}
use Rattle.live_replay.proofs.AloneLemmas.{is_late_for, late_here, late_more, late_none}
use Rattle.live_replay.proofs.alone.overwrites_read.Goals as goal
use Rattle.live_replay.proofs.alone.overwrites_read.Goals.{After-writes_after}

-- The test is whether the commit comes late for this read.
told : (c : After-writes_after) → is_late_for c.args.events.now (places_read c.args.reads.now) c.args.place (get_or (places_read c.args.reads.now) c.loop-k.k (read_in_cycle 0 0)) ≡ c.writes_after.result
told c =
    let H = c.args.events.now in
    let reads = c.args.reads.now in
    let R = places_read reads in
    let p = c.args.place in
    let n = c.loop-k.k in
    let d : ReadOf = record { item = 0; cycle = 0; value = 0 } in
    let r : ReadAt = place_of_line (get_or reads n d) in
    let within : n < length R = omega (arith, c.loop-k-test.true, length-map reads place_of_line) in
    let at : get_or R n (read_in_cycle 0 0) ≡ r = get_or-map place_of_line reads n d (read_in_cycle 0 0) c.loop-k-test.true in
    let from : get_or c.args.origins.now n None ≡ origin H r = ap (λ os. get_or os n None) c.requires.origins ∙ get_or-map (origin H) R n (read_in_cycle 0 0) None within ∙ ap (origin H) at in
    ap (is_late_for H R p) at
    ∙ ap (λ e. writes e r.item && is_after (origin H r) p) (event_read H p c.index-events-place.result c.requires.within c.index-events-place.is)
    ∙ ap (λ o. writes c.index-events-place.result r.item && is_after o p) (sym from) ∙ sym c.writes_after.ensures

pub returns-then-writes_after : goal.returns-then-writes_after
returns-then-writes_after c =
    let within : c.loop-k.k < length (places_read c.args.reads.now) = omega (arith, c.loop-k-test.true, length-map c.args.reads.now place_of_line) in
    sym (late_here c.args.events.now (places_read c.args.reads.now) c.args.place c.loop-k.k (read_in_cycle 0 0) within (told (goal.at.returns-then-writes_after c).After-writes_after ∙ c.if-writes_after.true))

pub loop-k-preserved : goal.loop-k-preserved
loop-k-preserved c =
    let within : c.loop-k.k < length (places_read c.args.reads.now) = omega (arith, c.loop-k-test.true, length-map c.args.reads.now place_of_line) in
    late_more c.args.events.now (places_read c.args.reads.now) c.args.place c.loop-k.k (read_in_cycle 0 0) within c.loop-k.invariant (told (goal.at.loop-k-preserved c).After-writes_after ∙ c.if-writes_after.false)

pub returns : goal.returns
returns c =
    let all : length (places_read c.args.reads.now) ≤ c.loop-k.k = omega (arith, c.loop-k-test.false, length-map c.args.reads.now place_of_line) in
    sym (late_none c.args.events.now (places_read c.args.reads.now) c.args.place c.loop-k.k all c.loop-k.invariant)
