use Rattle.std.proofs.Common.{◌≡◌, ◌<◌, ◌+◌, ◌-◌, ◌||◌, All, List, ℕ, false, length, get_or, map, refl, sym, ap, subst, ◌∙◌, arith}
use Rattle.air_history.specs.Histories.{event_at, reads, writes_of}
use Rattle.air_history.specs.Reads.{ReadAt, origin}
use Rattle.air_history.proofs.ColumnLemmas.{writes_fit}
use Rattle.air_history.proofs.MarkLemmas.{Forgets, Seeks, forgets_of, seeks_of, writes_some}
use Rattle.air_history.proofs.ScanLemmas.{event_read}
use Rattle.live_replay.specs.Private.Groups.{MarksOrigins}
use Rattle.live_replay.proofs.MarkedLemmas.{IsMarkedTo, marked_all, marked_more, marked_none, marked_skip}
use Rattle.live_replay.proofs.SoughtLemmas.{reads_fit}
use Rattle.live_replay.proofs.groups.mark_back.Goals as goal
use Rattle.live_replay.proofs.groups.mark_back.Goals.{After-is_reached}

pub loop-at-init : goal.loop-at-init
loop-at-init c = λ R o. marked_none c.args.events.now R c.args.first c.args.marks.now o c.args.sought.now c.requires.clear

pub is_reached-requires : goal.is_reached-requires
is_reached-requires c =
    let lt : c.args.first + (c.loop-at.at - 1) < length c.args.events.now = omega (arith, c.loop-at.auto.at, c.requires.within) in
    subst (λ n. All (λ w. w.item < n) (writes_of c.index-events-first.result)) (sym c.loop-at.auto.sought)
    (writes_fit c.args.events.now (length c.args.sought.now) (c.args.first + (c.loop-at.at - 1)) c.index-events-first.result c.requires.fits lt c.index-events-first.is)

pub forget_written-requires : goal.forget_written-requires
forget_written-requires c =
    let lt : c.args.first + (c.loop-at.at - 1) < length c.args.events.now = omega (arith, c.loop-at.auto.at, c.requires.within) in
    subst (λ ws. All (λ w. w.item < length c.loop-at.sought) ws) (sym c.writes.ensures)
    (subst (λ n. All (λ w. w.item < n) (writes_of c.index-events-first.result)) (sym c.loop-at.auto.sought)
    (writes_fit c.args.events.now (length c.args.sought.now) (c.args.first + (c.loop-at.at - 1)) c.index-events-first.result c.requires.fits lt c.index-events-first.is))

pub seek_read-requires : goal.seek_read-requires
seek_read-requires c =
    let lt : c.args.first + (c.loop-at.at - 1) < length c.args.events.now = omega (arith, c.loop-at.auto.at, c.requires.within) in
    subst (λ rs. All (λ r. r < length c.forget_written.new.sought) rs) (sym c.reads.ensures)
    (subst (λ n. All (λ r. r < n) (reads c.index-events-first.result)) (sym (c.forget_written.auto.sought ∙ c.loop-at.auto.sought))
    (reads_fit c.args.events.now (length c.args.sought.now) (c.args.first + (c.loop-at.at - 1)) c.index-events-first.result c.requires.fits lt c.index-events-first.is))

-- What is known before this place, and whether the place is met.
given : (c : After-is_reached) (R : List ReadAt) → MarksOrigins (map (origin c.args.events.now) R) c.args.first c.args.marks.now →
    IsMarkedTo c.args.events.now R c.args.first (c.loop-at.at - 1 + 1) c.args.marks.now c.loop-at.marks c.loop-at.sought
given c R o = subst (λ k. IsMarkedTo c.args.events.now R c.args.first k c.args.marks.now c.loop-at.marks c.loop-at.sought) (let e : c.loop-at.at ≡ c.loop-at.at - 1 + 1 = omega arith in e) (c.loop-at.invariant R o)

met : (c : After-is_reached) → (get_or c.loop-at.marks (c.loop-at.at - 1) false || writes_some (event_at c.args.events.now (c.args.first + (c.loop-at.at - 1))) c.loop-at.sought) ≡ c.is_reached.result
met c =
    let lt : c.args.first + (c.loop-at.at - 1) < length c.args.events.now = omega (arith, c.loop-at.auto.at, c.requires.within) in
    ap (λ e. get_or c.loop-at.marks (c.loop-at.at - 1) false || writes_some e c.loop-at.sought) (event_read c.args.events.now (c.args.first + (c.loop-at.at - 1)) c.index-events-first.result lt c.index-events-first.is)
    ∙ sym c.is_reached.ensures

pub loop-at-preserved-then-is_reached : goal.loop-at-preserved-then-is_reached
loop-at-preserved-then-is_reached c = λ R o.
    let H = c.args.events.now in
    let at : ℕ = c.loop-at.at - 1 in
    let lt : c.args.first + at < length H = omega (arith, c.loop-at.auto.at, c.requires.within) in
    let old = c.loop-at.sought in
    let mid = c.forget_written.new.sought in
    let new = c.seek_read.new.sought in
    let before = (goal.at.loop-at-preserved-then-is_reached c).After-is_reached in
    let forgets : Forgets (event_at H (c.args.first + at)) old mid = forgets_of H (c.args.first + at) c.index-events-first.result c.writes.result.now old old mid lt c.index-events-first.is c.writes.ensures refl c.forget_written.ensures in
    let seeks : Seeks (event_at H (c.args.first + at)) mid new = seeks_of H (c.args.first + at) c.index-events-first.result c.reads.result.now mid mid new lt c.index-events-first.is c.reads.ensures refl c.seek_read.ensures in
    marked_more H R c.args.first c.args.marks.now o at c.loop-at.marks old (given before R o) mid new (omega (arith, c.loop-at.auto.at)) (met before ∙ c.if-is_reached.true) forgets seeks

pub loop-at-preserved : goal.loop-at-preserved
loop-at-preserved c = λ R o.
    let before = (goal.at.loop-at-preserved c).After-is_reached in
    marked_skip c.args.events.now R c.args.first c.args.marks.now o (c.loop-at.at - 1) c.loop-at.marks c.loop-at.sought (given before R o) (met before ∙ c.if-is_reached.false)

pub returns : goal.returns
returns c = λ R o. marked_all c.args.events.now R c.args.first c.args.marks.now c.loop-at.marks c.loop-at.sought
    (subst (λ k. IsMarkedTo c.args.events.now R c.args.first k c.args.marks.now c.loop-at.marks c.loop-at.sought) (let e : c.loop-at.at ≡ 0 = omega arith in e) (c.loop-at.invariant R o))
