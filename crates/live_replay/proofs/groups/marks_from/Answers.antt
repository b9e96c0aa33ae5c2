use Rattle.std.proofs.Common.{◌≡◌, ◌<◌, ◌≤◌, ◌+◌, All, List, IfSome, false, length, get_or, map, sym, ap, subst, ◌∙◌, arith}
use Rattle.air_history.specs.Histories.{ItemsFit}
use Rattle.air_history.specs.Reads.{ReadAt, origin}
use Rattle.live_replay.specs.Findings.{place_of_line, places_read}
use Rattle.live_replay.specs.Private.Groups.{group_reads}
use Rattle.live_replay.proofs.AloneLemmas.{origins_within}
use Rattle.live_replay.proofs.MarkedLemmas.{before_later}
use Rattle.live_replay.proofs.groups.marks_from.Goals as goal
use Rattle.live_replay.proofs.groups.marks_from.Goals.{After-as_slice-places, After-deref_mut-2}

-- The origins are those of the group's reads.
its : (c : After-as_slice-places) → c.as_slice-places.result.now ≡
    map (origin c.events-events.result.now) (group_reads c.args.replay.now.deck.settings.group (length c.args.replay.now.deck.items) (place_of_line c.args.read.now))
its c =
    let H = c.args.replay.now.history in
    let R : List ReadAt = group_reads c.args.replay.now.deck.settings.group (length c.args.replay.now.deck.items) (place_of_line c.args.read.now) in
    c.as_slice-places.ensures.value ∙ c.in_ok-origins.ensures ∙ ap (λ rs. map (origin H) (places_read rs)) c.deref.ensures.value
    ∙ ap (map (origin H)) c.in_ok-group.ensures ∙ ap (λ G. map (origin G) R) (sym c.events-events.ensures.listed)

pub end_of-requires : goal.end_of-requires
end_of-requires c =
    let H = c.events-events.result.now in
    subst (All (λ o. IfSome o (λ w. w < length H))) (sym (its c))
    (origins_within H (group_reads c.args.replay.now.deck.settings.group (length c.args.replay.now.deck.items) (place_of_line c.args.read.now)))

long : (c : After-deref_mut-2) → (c.end_of.result ≤ c.args.first + length c.deref_mut.result.now) × (c.args.first + length c.deref_mut.result.now ≤ length c.events-events.result.now)
long c =
    let within = c.requires.within in
    let listed : length c.events-events.result.now ≡ length c.args.replay.now.history = ap length c.events-events.ensures.listed in
    let sized : length c.deref_mut.result.now ≡ length c.in_ok-marks.marks.items = ap length c.deref_mut.ensures.value in (
      omega (arith, c.in_ok-marks.ensures.sized, c.max-end.ensures, c.end_of.ensures.within),
      omega (arith, c.in_ok-marks.ensures.sized, c.max-end.ensures, c.end_of.ensures.within),
    )

pub mark_all-requires-clause-within : goal.mark_all-requires-clause-within
mark_all-requires-clause-within c = (long c).1

pub mark_all-requires-clause-unmarked : goal.mark_all-requires-clause-unmarked
mark_all-requires-clause-unmarked c = λ k. ap (λ xs. get_or xs k false) c.deref_mut.ensures.value ∙ c.in_ok-marks.ensures.clear k

pub mark_all-requires-clause-origins : goal.mark_all-requires-clause-origins
mark_all-requires-clause-origins c = before_later c.as_slice-places.result.now c.end_of.result (c.args.first + length c.deref_mut.result.now) (long c).0 c.end_of.ensures.all

pub mark_all-requires-clause-fits : goal.mark_all-requires-clause-fits
mark_all-requires-clause-fits c =
    let sized : length c.deref_mut-2.result.now ≡ length c.args.replay.now.deck.items = ap length c.deref_mut-2.ensures.value ∙ c.in_ok-sought.ensures.sized ∙ c.items.ensures in
    subst (λ n. All (ItemsFit n) c.events-events.result.now) (sym sized) c.events-events.ensures.fits

pub mark_all-requires-clause-clear : goal.mark_all-requires-clause-clear
mark_all-requires-clause-clear c = λ i. ap (λ xs. get_or xs i false) c.deref_mut-2.ensures.value ∙ c.in_ok-sought.ensures.clear i
