use Rattle.std.proofs.Common.{◌≡◌, ◌<◌, ◌+◌, ◌-◌, ℕ, true, false, All, IfSome, length, map, refl, sym, ap, subst, ◌∙◌, arith}
use Rattle.air_history.specs.Histories.{ItemsFit, event_at, reads, writes_of}
use Rattle.air_history.specs.Reads.{origin}
use Rattle.air_history.proofs.ColumnLemmas.{writes_fit}
use Rattle.air_history.proofs.MarkLemmas.{Forgets, Seeks, forgets_of, seeks_of}
use Rattle.live_replay.specs.Findings.{places_read}
use Rattle.live_replay.specs.Private.Alone.{is_met}
use Rattle.live_replay.proofs.AloneLemmas.{consistent_fails}
use Rattle.live_replay.proofs.BackwardLemmas.{IsPassed, met_alone, passed_all, passed_more, passed_none, passed_skip}
use Rattle.live_replay.proofs.SoughtLemmas.{reads_fit}
use Rattle.live_replay.proofs.alone.none_late.Goals as goal

pub loop-at-init : goal.loop-at-init
loop-at-init c =
    passed_none c.args.events.now (places_read c.args.reads.now) c.args.end c.args.sought.now c.requires.clear
    (subst (All (λ o. IfSome o (λ w. w < c.args.end))) c.requires.origins c.requires.end)

pub returns : goal.returns
returns c = sym (passed_all c.args.events.now (places_read c.args.reads.now) c.args.first c.loop-at.at c.loop-at.sought (omega arith) c.requires.first c.loop-at.invariant)

pub is_met-requires-clause-fits : goal.is_met-requires-clause-fits
is_met-requires-clause-fits c = subst (λ n. All (ItemsFit n) c.args.events.now) (sym c.loop-at.auto.sought) c.requires.fits

pub forget_written-requires : goal.forget_written-requires
forget_written-requires c =
    subst (λ ws. All (λ w. w.item < length c.loop-at.sought) ws) (sym c.writes.ensures)
    (subst (λ n. All (λ w. w.item < n) (writes_of c.index-events-at.result)) (sym c.loop-at.auto.sought)
    (writes_fit c.args.events.now (length c.args.sought.now) (c.loop-at.at - 1) c.index-events-at.result c.requires.fits (omega arith) c.index-events-at.is))

pub seek_read-requires : goal.seek_read-requires
seek_read-requires c =
    subst (λ rs. All (λ r. r < length c.forget_written.new.sought) rs) (sym c.reads.ensures)
    (subst (λ n. All (λ r. r < n) (reads c.index-events-at-then-is_met.result)) (sym (c.forget_written.auto.sought ∙ c.loop-at.auto.sought))
    (reads_fit c.args.events.now (length c.args.sought.now) (c.loop-at.at - 1) c.index-events-at-then-is_met.result c.requires.fits (omega arith) c.index-events-at-then-is_met.is))

pub returns-then-overwrites_read : goal.returns-then-overwrites_read
returns-then-overwrites_read c =
    let H = c.args.events.now in
    let R = places_read c.args.reads.now in
    let at : ℕ = c.loop-at.at - 1 in
    let m : IsPassed H R (at + 1) c.loop-at.sought = subst (λ k. IsPassed H R k c.loop-at.sought) (omega arith) c.loop-at.invariant in
    let met : is_met H (map (origin H) R) at c.loop-at.sought ≡ true = ap (λ os. is_met H os at c.loop-at.sought) (sym c.requires.origins) ∙ sym c.is_met.ensures ∙ c.if-is_met.true in
    sym (consistent_fails H R at (met_alone H R at c.loop-at.sought met m.walked) (sym c.overwrites_read.ensures ∙ c.if-overwrites_read.true))

pub loop-at-preserved-then-is_met : goal.loop-at-preserved-then-is_met
loop-at-preserved-then-is_met c =
    let H = c.args.events.now in
    let R = places_read c.args.reads.now in
    let at : ℕ = c.loop-at.at - 1 in
    let lt : at < length H = omega arith in
    let old = c.loop-at.sought in
    let mid = c.forget_written.new.sought in
    let new = c.seek_read.new.sought in
    let m : IsPassed H R (at + 1) old = subst (λ k. IsPassed H R k old) (omega arith) c.loop-at.invariant in
    let met : is_met H (map (origin H) R) at old ≡ true = ap (λ os. is_met H os at old) (sym c.requires.origins) ∙ sym c.is_met.ensures ∙ c.if-is_met.true in
    let forgets : Forgets (event_at H at) old mid = forgets_of H at c.index-events-at.result c.writes.result.now old old mid lt c.index-events-at.is c.writes.ensures refl c.forget_written.ensures in
    let seeks : Seeks (event_at H at) mid new = seeks_of H at c.index-events-at-then-is_met.result c.reads.result.now mid mid new lt c.index-events-at-then-is_met.is c.reads.ensures refl c.seek_read.ensures in
    passed_more H R at old mid new (met_alone H R at old met m.walked) (sym c.overwrites_read.ensures ∙ c.if-overwrites_read.false) forgets seeks m

pub loop-at-preserved : goal.loop-at-preserved
loop-at-preserved c =
    let H = c.args.events.now in
    let R = places_read c.args.reads.now in
    let at : ℕ = c.loop-at.at - 1 in
    let m : IsPassed H R (at + 1) c.loop-at.sought = subst (λ k. IsPassed H R k c.loop-at.sought) (omega arith) c.loop-at.invariant in
    let miss : is_met H (map (origin H) R) at c.loop-at.sought ≡ false = ap (λ os. is_met H os at c.loop-at.sought) (sym c.requires.origins) ∙ sym c.is_met.ensures ∙ c.if-is_met.false in
    passed_skip H R at c.loop-at.sought miss m
