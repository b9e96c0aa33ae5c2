use Rattle.std.proofs.Common.{◌≡◌, ◌+◌, ◌∙◌, sym, ap, arith}
use Rattle.air_model.specs.declared.deck.Settings.{Settings}
use Rattle.air_model.specs.Decks.{Deck, edition}
use Rattle.chunk_program.specs.Editions.{edition_disks}
use Rattle.deck_runs.specs.Private.CastSteps.{buckets_up_to}
use Rattle.deck_runs.proofs.CastLemmas.{buckets_more}
use Rattle.deck_runs.proofs.casts.bucket_count.Goals as goal

pub overflow_add-count : goal.overflow_add-count
overflow_add-count c =
    let few = c.loop-done.invariant.few in
    let more = c.slots.ensures.few in
    let same = c.from-count.ensures in
    let own = ap (λ (s : Settings). s.cycles) (c.settings-cycles.ensures ∙ ap (λ (d : Deck). d.settings) c.deck.ensures.told) in
    let most = c.deck.ensures.limits.settings.cycles in
    let next = c.loop-done-test.true in
    omega arith

pub loop-done-preserved : goal.loop-done-preserved
loop-done-preserved c =
    let deck = c.args.planned.now in
    let done = c.loop-done.done in
    let inv = c.loop-done.invariant in
    let next : done + 1 ≡ 1 + done = omega arith in
    let own = c.in_force.ensures.deck deck c.plans-plans.ensures.told in
    record {
      counted = ap (λ n. n + c.from-count.result) inv.counted
          ∙ sym (buckets_more deck done c.from-count.result c.in_force.result.now (own ∙ ap (λ k. edition_disks deck (edition deck k)) next) (c.from-count.ensures ∙ c.slots.ensures.counted));
      few = (let few = inv.few in let more = c.slots.ensures.few in let same = c.from-count.ensures in omega arith);
    }

pub returns : goal.returns
returns c =
    let deck = c.args.planned.now in
    let all : c.loop-done.done ≡ c.settings-cycles.result.cycles = omega arith in
    c.loop-done.invariant.counted ∙ ap (buckets_up_to deck) (all ∙ ap (λ (s : Settings). s.cycles) (c.settings-cycles.ensures ∙ ap (λ (d : Deck). d.settings) c.deck.ensures.told))
