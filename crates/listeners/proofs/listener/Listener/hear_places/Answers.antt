use Rattle.std.proofs.Common.{◌≡◌, ◌+◌, ◌-◌, ◌<◌, ◌∙◌, ℕ, Option, Some, false, length, map, ap, sym, subst, arith, slice_get}
use Rattle.std.specs.List.{range_with_len}
use Rattle.std.proofs.lemmas.Option.{get_or_from_slice_get}
use Rattle.air_ether.specs.HeardPlaces.{left_before, places_of}
use Rattle.air_model.specs.Buckets.{Bucket}
use Rattle.air_model.specs.Ethers.{Odds}
use Rattle.air_model.specs.Programs.{program as slots_of}
use Rattle.receiver_core.specs.Receivers.{heard_count}
use Rattle.listeners.specs.AiredCycles.{AreFitting}
use Rattle.listeners.specs.Listeners.{Listener, hears, hears_one}
use Rattle.listeners.specs.PlaceListeners.{given_at}
use Rattle.listeners.specs.Private.PlaceSteps.{HasGiven, places_to}
use Rattle.listeners.specs.Private.Sleeping.{listening}
use Rattle.listeners.proofs.HearLemmas.{took_counts}
use Rattle.listeners.proofs.SleepLemmas.{one_more, stretch_none, stretch_took}
use Rattle.listeners.proofs.listener.Listener.hear_places.Goals as goal

pub sleep_places-requires-clause-counts : goal.sleep_places-requires-clause-counts
sleep_places-requires-clause-counts g c =
    let took = c.in_ok-take_verdicts.ensures in
    let inner = c.self.inside in
    let same = took_counts {r = inner.receiver} {M = inner.lines.items} {mid = c.take_verdicts.new.receiver} {N = c.take_verdicts.new.lines.items}
    (record { air = took.air; reader = took.reader; state = took.state }) in
    let seen = ap (λ (l : Listener). heard_count l.state.counts) c.self.view_is in
    let last : c.args.first + c.from.result ≡ c.args.first + length (slots_of c.args.program.now.disks) = ap (λ n. c.args.first + n) (c.from.ensures ∙ c.slots.ensures.counted) in
    let less = subst (λ n. left_before n c.next_before.new.self < left_before n c.args.ether.now) last c.in-Some.ensures.fewer in
    let most = c.requires.counts in
    omega (arith, same, seen, less, most)

pub sleep_places-requires-clause-fitting : goal.sleep_places-requires-clause-fitting
sleep_places-requires-clause-fitting g c =
    subst (λ a. AreFitting a c.args.form c.args.program.now.edition (slots_of c.args.program.now.disks) (g.S.Source.board c.args.source.now))
    (sym (c.in_ok-take_verdicts.ensures.air ∙ ap (λ (l : Listener). l.air) c.self.view_is)) c.requires.fitting

pub hear_place-requires-clause-counts : goal.hear_place-requires-clause-counts
hear_place-requires-clause-counts g c =
    let took = c.in_ok-take_verdicts.ensures in
    let inner = c.self.inside in
    let same = took_counts {r = inner.receiver} {M = inner.lines.items} {mid = c.take_verdicts.new.receiver} {N = c.take_verdicts.new.lines.items}
    (record { air = took.air; reader = took.reader; state = took.state }) in
    let seen = ap (λ (l : Listener). heard_count l.state.counts) c.self.view_is in
    let last : c.args.first + c.from.result ≡ c.args.first + length (slots_of c.args.program.now.disks) = ap (λ n. c.args.first + n) (c.from.ensures ∙ c.slots.ensures.counted) in
    let less = subst (λ n. left_before n c.next_before.new.self < left_before n c.args.ether.now) last c.in-Some.ensures.fewer in
    let most = c.requires.counts in
    omega (arith, same, seen, less, most, c.in-Some-sleep_places.ensures.counts)

pub returns-in_default-clause-heard : goal.returns-in_default-clause-heard
returns-in_default-clause-heard g c = λ seed number given member f members.
    let slots = slots_of c.args.program.now.disks in
    let last : c.args.first + c.from.result ≡ c.args.first + length slots = ap (λ n. c.args.first + n) (c.from.ensures ∙ c.slots.ensures.counted) in
    let all = subst (λ n. given ≡ length (places_of seed number c.args.ether.now.odds n false)) last (c.in_default.ensures.given seed number given f) in
    (given, omega arith, c.in_default.ensures.follows seed number given f, λ e. all, stretch_none (given_at member (places_to seed number c.args.ether.now (c.args.first + length slots))) given c.args.self.now)

pub returns-in_default-sleep_places-clause-heard : goal.returns-in_default-sleep_places-clause-heard
returns-in_default-sleep_places-clause-heard g c = λ seed number given member f members.
    let took = c.in_ok-take_verdicts.ensures in
    let inner = c.self.inside in
    let n = inner.number in
    let N = c.take_verdicts.new.lines.items in
    let slots = slots_of c.args.program.now.disks in
    let end = c.args.first + length slots in
    let last : c.args.first + c.from.result ≡ end = ap (λ n. c.args.first + n) (c.from.ensures ∙ c.slots.ensures.counted) in
    let odds = c.in-Some.ensures.odds in
    let same : places_to seed number c.next_before.new.self end ≡ places_to seed number c.args.ether.now end = ap (λ (o : Odds). places_of seed number o end false) odds in
    let start = c.in-Some.start in
    let at = subst (λ m. slice_get (places_of seed number c.args.ether.now.odds m false) given ≡ Some start) last (c.in-Some.ensures.given seed number given f) in
    let has : HasGiven seed number end given start c.next_before.new.self = (subst (λ ps. slice_get ps given ≡ Some start) (sym same) at, c.in-Some.ensures.follows seed number given f) in
    let so = c.in_default-sleep_places.ensures.slept seed number given c.args.recent.now member has members in
    let on : ℕ → Option Bucket = given_at member (places_to seed number c.next_before.new.self end) in (
      so.0,
      so.1,
      so.3.1,
      λ e. so.3.0 ∙ ap length same,
      so.4 n N
          ∙ stretch_took n {old = inner.receiver} {mid = c.take_verdicts.new.receiver} {M = inner.lines.items} {N = N} on given (so.0 - given) (omega (arith, so.2)) (record { air = took.air; reader = took.reader; state = took.state }) took.settled
          ∙ ap (hears (map on (range_with_len given (so.0 - given)))) c.self.view_is
          ∙ ap (λ ps. hears (map (given_at member ps) (range_with_len given (so.0 - given))) c.args.self.now) same,
    )

pub returns-clause-heard : goal.returns-clause-heard
returns-clause-heard g c = λ seed number given member f members.
    let took = c.in_ok-take_verdicts.ensures in
    let inner = c.self.inside in
    let n = inner.number in
    let N = c.take_verdicts.new.lines.items in
    let slots = slots_of c.args.program.now.disks in
    let end = c.args.first + length slots in
    let last : c.args.first + c.from.result ≡ end = ap (λ n. c.args.first + n) (c.from.ensures ∙ c.slots.ensures.counted) in
    let odds = c.in-Some.ensures.odds in
    let same : places_to seed number c.next_before.new.self end ≡ places_to seed number c.args.ether.now end = ap (λ (o : Odds). places_of seed number o end false) odds in
    let start = c.in-Some.start in
    let place = c.in-Some-sleep_places.place in
    let at = subst (λ m. slice_get (places_of seed number c.args.ether.now.odds m false) given ≡ Some start) last (c.in-Some.ensures.given seed number given f) in
    let has : HasGiven seed number end given start c.next_before.new.self = (subst (λ ps. slice_get ps given ≡ Some start) (sym same) at, c.in-Some.ensures.follows seed number given f) in
    let so = c.in-Some-sleep_places.ensures.slept seed number given c.args.recent.now member has members in
    let places = places_to seed number c.next_before.new.self end in
    let on : ℕ → Option Bucket = given_at member places in
    let heard : listening n c.hear_place.new.receiver N ≡ hears_one (on so.0) (listening n c.sleep_places.new.receiver N) =
    c.hear_place.ensures.heard member members n N ∙ ap (λ p. hears_one (member p) (listening n c.sleep_places.new.receiver N)) (sym (get_or_from_slice_get places so.0 place 0 so.3.0)) in
    let from = so.1 in (
      so.0 + 1,
      omega arith,
      so.3.1,
      λ e. cc,
      one_more on given so.0 (listening n c.take_verdicts.new.receiver N) (listening n c.sleep_places.new.receiver N) (listening n c.hear_place.new.receiver N) from (so.4 n N) heard
          ∙ stretch_took n {old = inner.receiver} {mid = c.take_verdicts.new.receiver} {M = inner.lines.items} {N = N} on given (so.0 + 1 - given) (omega arith) (record { air = took.air; reader = took.reader; state = took.state }) took.settled
          ∙ ap (hears (map on (range_with_len given (so.0 + 1 - given)))) c.self.view_is
          ∙ ap (λ ps. hears (map (given_at member ps) (range_with_len given (so.0 + 1 - given))) c.args.self.now) same,
    )

pub returns-in_default-sleep_places-clause-counts : goal.returns-in_default-sleep_places-clause-counts
returns-in_default-sleep_places-clause-counts g c =
    let took = c.in_ok-take_verdicts.ensures in
    let inner = c.self.inside in
    let same = took_counts {r = inner.receiver} {M = inner.lines.items} {mid = c.take_verdicts.new.receiver} {N = c.take_verdicts.new.lines.items}
    (record { air = took.air; reader = took.reader; state = took.state }) in
    let seen = ap (λ (l : Listener). heard_count l.state.counts) c.self.view_is in
    let last : c.args.first + c.from.result ≡ c.args.first + length (slots_of c.args.program.now.disks) = ap (λ n. c.args.first + n) (c.from.ensures ∙ c.slots.ensures.counted) in
    let less = subst (λ n. left_before n c.next_before.new.self < left_before n c.args.ether.now) last c.in-Some.ensures.fewer in
    omega (arith, same, seen, less, c.in_default-sleep_places.ensures.counts)

pub returns-clause-counts : goal.returns-clause-counts
returns-clause-counts g c =
    let took = c.in_ok-take_verdicts.ensures in
    let inner = c.self.inside in
    let same = took_counts {r = inner.receiver} {M = inner.lines.items} {mid = c.take_verdicts.new.receiver} {N = c.take_verdicts.new.lines.items}
    (record { air = took.air; reader = took.reader; state = took.state }) in
    let seen = ap (λ (l : Listener). heard_count l.state.counts) c.self.view_is in
    let last : c.args.first + c.from.result ≡ c.args.first + length (slots_of c.args.program.now.disks) = ap (λ n. c.args.first + n) (c.from.ensures ∙ c.slots.ensures.counted) in
    let less = subst (λ n. left_before n c.next_before.new.self < left_before n c.args.ether.now) last c.in-Some.ensures.fewer in
    omega (arith, same, seen, less, c.in-Some-sleep_places.ensures.counts, c.hear_place.ensures.counts)
