use Rattle.std.proofs.Common.{◌≡◌, ◌+◌, ◌-◌, ◌∙◌, [], ℕ, List, Option, Some, false, true, length, map, slice_get, ap, sym, subst, arith}
use Rattle.std.specs.List.{range_with_len}
use Rattle.std.specs.Result.{result_ok}
use Rattle.std.proofs.lemmas.List.{append-nil}
use Rattle.std.proofs.lemmas.Option.{get_or_from_slice_get}
use Rattle.air_model.specs.Buckets.{Bucket, bucket_in}
use Rattle.receiver_core.specs.Receivers.{heard_count}
use Rattle.listeners.specs.Listeners.{Listener, hears, hears_one, listener_of}
use Rattle.listeners.specs.PlaceListeners.{given_at, places_for, pushed_at}
use Rattle.listeners.proofs.HearLemmas.{counted_one}
use Rattle.listeners.proofs.PlaceReaderLemmas.{heard_before, heard_to_end, places_now}
use Rattle.listeners.proofs.SleepLemmas.{one_more}
use Rattle.listeners.proofs.place_listeners.PlaceListener.end.Goals as goal

pub end-requires : goal.end-requires
end-requires c = c.requires.3.quiet

pub loop-place-init : goal.loop-place-init
loop-place-init c =
    let own = c.requires.3 in
    let few = c.requires.5 in
    record {
      ended = c.end.ensures.ended;
      odds = c.end.ensures.odds;
      pushes = c.end.ensures.pushes;
      counts = omega (arith, own.counts, own.pushes, few, c.end.ensures.few);
      heard = λ deck number pushed own recent. (
        length (places_for deck number pushed false),
        c.end.ensures.follows deck.settings.seed number (length (places_for deck number pushed false)) own.follows,
        subst (λ (ps : List (List ℕ)). c.args.self.now.listener ≡ hears (map (given_at (pushed_at ps) (places_for deck number ps true)) (range_with_len 0 (length (places_for deck number pushed false)))) (listener_of deck number))
            (append-nil pushed) (heard_before deck number pushed [] true c.args.self.now.listener own.heard),
      );
    }

pub hear-requires-clause-counts : goal.hear-requires-clause-counts
hear-requires-clause-counts c = omega (arith, c.in-Some.ensures.fewer, c.loop-place.invariant.counts)

pub loop-place-preserved : goal.loop-place-preserved
loop-place-preserved c =
    let inv = c.loop-place.invariant in
    let next = c.in-Some.ensures in
    let place = c.in-Some.place in
    let mid = c.loop-place.self.listener in
    let one = ap (λ (l : Listener). heard_count l.state.counts) c.in_ok-hear.ensures.heard in
    let counted = counted_one (result_ok c.decode.result) mid in
    record {
      ended = next.ended ∙ inv.ended;
      odds = next.odds ∙ inv.odds;
      pushes = next.pushes ∙ inv.pushes;
      counts = omega (arith, one, counted, next.fewer, inv.counts);
      heard = λ deck number pushed own recent.
          let so = inv.heard deck number pushed own recent in
          let k = so.0 in
          let places = places_for deck number pushed true in
          let on : ℕ → Option Bucket = given_at (pushed_at pushed) places in
          let due = places_now deck number pushed c.loop-place.self.ether (inv.odds ∙ own.odds) (inv.pushes ∙ own.pushes) inv.ended in
          let at = subst (λ ps. slice_get ps k ≡ Some place) due (next.given deck.settings.seed number k so.1) in
          let pushes : c.loop-place.self.ether.pushes ≡ length pushed = inv.pushes ∙ own.pushes in
          let low = next.within.0 in
          let high = next.within.1 in
          let member = ap result_ok c.decode.ensures.reading ∙ ap bucket_in (c.at.ensures ∙ recent place (omega arith) (omega arith)) ∙ ap (pushed_at pushed) (sym (get_or_from_slice_get places k place 0 at)) in
          let before : k ≡ k - 0 = omega arith in
          let after : k + 1 - 0 ≡ k + 1 = omega arith in (
            k + 1,
            next.follows deck.settings.seed number k so.1,
            one_more on 0 k (listener_of deck number) mid c.hear.new.self (omega arith) (so.2 ∙ ap (λ n. hears (map on (range_with_len 0 n)) (listener_of deck number)) before)
                (c.in_ok-hear.ensures.heard ∙ ap (λ o. hears_one o mid) member)
                ∙ ap (λ n. hears (map on (range_with_len 0 n)) (listener_of deck number)) after,
          );
    }

pub returns : goal.returns
returns c = λ deck number pushed own recent.
    let inv = c.loop-place.invariant in
    let so = inv.heard deck number pushed own recent in
    let due = places_now deck number pushed c.loop-place.self.ether (inv.odds ∙ own.odds) (inv.pushes ∙ own.pushes) inv.ended in
    heard_to_end deck number pushed so.0 c.loop-place.self.listener (c.in_default.ensures.given deck.settings.seed number so.0 so.1 ∙ ap length due) so.2
