use Rattle.std.proofs.Common.{◌≡◌, ◌∷◌, ◌++◌, ◌<◌, ◌≤◌, List, [], length, replicate, refl, sym, ap, ◌∙◌, arith}
use Rattle.std.proofs.lemmas.List.{length-map, replicate_more, take_all}
use Rattle.air_model.specs.Decks.{Item, values_in}
use Rattle.live_replay.specs.declared.writes.ItemWrite.{ItemWrite}
use Rattle.live_replay.proofs.RunLemmas.{run_none, value_first}
use Rattle.live_replay.proofs.running.ReplayState.new.Goals as goal

pub loop-item-preserved : goal.loop-item-preserved
loop-item-preserved c =
    let k = c.loop-item.item in
    let below : k < length c.args.deck.now.items = omega (arith, c.loop-item-test.true, c.items-item-end.ensures.told) in
    let none : List ItemWrite = [] in (
      c.in_ok-push.ensures.items ∙ ap (λ vs. vs ++ c.value.result ∷ []) c.loop-item.invariant.0 ∙ sym (value_first (λ (i : Item). i.value) c.args.deck.now.items k c.value.result below c.value.ensures),
      c.in_ok-push-2.ensures.items ∙ ap (λ ws. ws ++ c.new.result ∷ []) c.loop-item.invariant.1 ∙ ap (λ w. replicate k none ++ w ∷ []) c.new.ensures ∙ replicate_more k none,
    )

pub returns : goal.returns
returns c = λ H.
    let V = values_in c.args.deck.now in
    let end : c.loop-item.item ≡ length V = omega (arith, c.loop-item-test.false, c.loop-item.auto.item-end, c.items-item-end.ensures.told, length-map c.args.deck.now.items (λ (i : Item). i.value)) in
    let all : length V ≤ c.loop-item.item = omega arith in
    let none : List ItemWrite = [] in
    run_none V H _ (c.loop-item.invariant.0 ∙ take_all c.loop-item.item V all) refl (c.loop-item.invariant.1 ∙ ap (λ n. replicate n none) end)
