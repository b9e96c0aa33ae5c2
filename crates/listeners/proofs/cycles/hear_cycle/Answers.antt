use Rattle.std.proofs.Common.{◌∙◌, ℕ, Option, Some, map, refl, ap, sym, subst, arith}
use Rattle.std.specs.List.{range_with_len}
use Rattle.std.proofs.lemmas.List.FromFn.{length-map-range_with_len}
use Rattle.air_model.specs.Aired.{Air}
use Rattle.air_model.specs.Buckets.{Bucket}
use Rattle.air_model.specs.Programs.{program as slots_of}
use Rattle.air_sender.specs.BoardBuckets.{bucket_on}
use Rattle.receiver_core.specs.Receivers.{heard_count}
use Rattle.listeners.specs.AiredCycles.{AreFitting}
use Rattle.listeners.specs.Listeners.{Listener, hears}
use Rattle.listeners.proofs.HearLemmas.{counted_all}
use Rattle.listeners.proofs.SleepLemmas.{keeps_air, stretches}
use Rattle.listeners.proofs.cycles.hear_cycle.Goals as goal

pub loop-slot-init : goal.loop-slot-init
unfolding hears
loop-slot-init g c = record { within = omega arith; heard = refl; buffer = refl }

pub hear_stretch-requires-clause-counts : goal.hear_stretch-requires-clause-counts
hear_stretch-requires-clause-counts g c =
    let on : ℕ → Option Bucket = λ s. Some (bucket_on c.args.form c.args.program.now.edition (slots_of c.args.program.now.disks) (g.S.Source.board c.args.source.now) s) in
    let heard = map on (range_with_len 0 c.loop-slot.slot) in
    let same = ap (λ (l : Listener). heard_count l.state.counts) c.loop-slot.invariant.heard in
    let counted = counted_all heard c.args.listener.now in
    let long = length-map-range_with_len on 0 c.loop-slot.slot in
    let within = c.loop-slot.invariant.within in
    let room = c.requires.counts in
    omega (arith, same, counted, long, within, room)

pub hear_stretch-requires-clause-fitting : goal.hear_stretch-requires-clause-fitting
hear_stretch-requires-clause-fitting g c =
    let slots = slots_of c.args.program.now.disks in
    let on : ℕ → Option Bucket = λ s. Some (bucket_on c.args.form c.args.program.now.edition slots (g.S.Source.board c.args.source.now) s) in
    subst (λ a. AreFitting a c.args.form c.args.program.now.edition slots (g.S.Source.board c.args.source.now))
    (sym (ap (λ (l : Listener). l.air) c.loop-slot.invariant.heard ∙ keeps_air (map on (range_with_len 0 c.loop-slot.slot)) c.args.listener.now)) c.requires.fitting

pub hear_stretch-requires-clause-own : goal.hear_stretch-requires-clause-own
hear_stretch-requires-clause-own g c =
    let on : ℕ → Option Bucket = λ s. Some (bucket_on c.args.form c.args.program.now.edition (slots_of c.args.program.now.disks) (g.S.Source.board c.args.source.now) s) in
    c.requires.own
    ∙ ap (λ (a : Air). a.items) (sym (ap (λ (l : Listener). l.air) c.loop-slot.invariant.heard ∙ keeps_air (map on (range_with_len 0 c.loop-slot.slot)) c.args.listener.now))

pub loop-slot-preserved : goal.loop-slot-preserved
loop-slot-preserved g c =
    let on : ℕ → Option Bucket = λ s. Some (bucket_on c.args.form c.args.program.now.edition (slots_of c.args.program.now.disks) (g.S.Source.board c.args.source.now) s) in
    let next = c.in_ok-slot.ensures.next in
    let from = next.0 in
    record {
      within = next.1;
      heard = stretches on c.loop-slot.slot c.in_ok-slot.slot c.args.listener.now c.loop-slot.listener c.hear_stretch.new.self (omega arith) c.loop-slot.invariant.heard c.in_ok-slot.ensures.heard;
      buffer = c.in_ok-slot.ensures.buffer ∙ c.loop-slot.invariant.buffer;
    }
