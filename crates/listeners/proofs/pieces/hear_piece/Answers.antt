use Rattle.std.proofs.Common.{◌≡◌, ◌∙◌, ℕ, Option, map, refl, length, ap, sym, subst, arith}
use Rattle.std.specs.List.{range_with_len}
use Rattle.std.proofs.lemmas.List.FromFn.{length-map-range_with_len}
use Rattle.air_model.specs.Buckets.{Bucket}
use Rattle.receiver_core.specs.Receivers.{heard_count}
use Rattle.listeners.specs.Listeners.{Listener, hears}
use Rattle.listeners.specs.Private.JudgedPieces.{IsJudged, member_at}
use Rattle.listeners.proofs.HearLemmas.{counted_all}
use Rattle.listeners.proofs.JudgedLemmas.{all_members}
use Rattle.listeners.proofs.SleepLemmas.{stretches}
use Rattle.listeners.proofs.pieces.hear_piece.Goals as goal

pub loop-place-init : goal.loop-place-init
unfolding hears
loop-place-init c = record { within = omega arith; heard = refl; air = refl }

pub hear_from-requires-clause-counts : goal.hear_from-requires-clause-counts
hear_from-requires-clause-counts c =
    let on = member_at c.args.piece.now.heard.items in
    let heard = map on (range_with_len 0 c.loop-place.place) in
    let same = ap (λ (l : Listener). heard_count l.state.counts) c.loop-place.invariant.heard in
    let counted = counted_all heard c.args.listener.now in
    let long = length-map-range_with_len on 0 c.loop-place.place in
    let within = c.loop-place.invariant.within in
    let room = c.requires.counts in
    omega (arith, same, counted, long, within, room)

pub hear_from-requires-clause-judged : goal.hear_from-requires-clause-judged
hear_from-requires-clause-judged c = subst (λ a. IsJudged a c.args.piece.now) (sym c.loop-place.invariant.air) c.requires.judged

pub loop-place-preserved : goal.loop-place-preserved
loop-place-preserved c =
    let on : ℕ → Option Bucket = member_at c.args.piece.now.heard.items in
    let next = c.in_ok-place.ensures.next in
    let from = next.0 in
    record {
      within = next.1;
      heard = stretches on c.loop-place.place c.in_ok-place.place c.args.listener.now c.loop-place.listener c.hear_from.new.self (omega arith) c.loop-place.invariant.heard c.in_ok-place.ensures.heard;
      air = c.hear_from.ensures.air ∙ c.loop-place.invariant.air;
    }

pub returns-clause-heard : goal.returns-clause-heard
returns-clause-heard c =
    let heard = c.args.piece.now.heard.items in
    let within = c.loop-place.invariant.within in
    let all : c.loop-place.place ≡ length heard = omega (arith, within, c.loop-place-test.false, c.args.piece.now.heard.ok) in
    c.loop-place.invariant.heard ∙ ap (λ n. hears (map (member_at heard) (range_with_len 0 n)) c.args.listener.now) all ∙ ap (λ members. hears members c.args.listener.now) (all_members heard)
