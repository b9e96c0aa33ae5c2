use Rattle.std.proofs.Common.{◌≡◌, ◌∷◌, ◌++◌, ◌<◌, ◌+◌, ℕ, false, None, List, [], get_or, length, set, take, sym, ap, ◌∙◌, inl, inr, arith}
use Rattle.std.proofs.lemmas.Bool.{cases_eq}
use Rattle.std.proofs.lemmas.List.{append-nil, get_or_default, get_or-set_same, get_or-set_other, length-set}
use Rattle.air_history.specs.declared.updates.Write.{Write}
use Rattle.live_replay.specs.declared.writes.ItemWrite.{ItemWrite}
use Rattle.live_replay.specs.Private.Runs.{added_write}
use Rattle.live_replay.proofs.RunLemmas.{added_here, added_other}
use Rattle.live_replay.proofs.running.add_writes.Goals as goal

pub loop-write-preserved : goal.loop-write-preserved
loop-write-preserved c = λ i l.
    let ws = c.args.written.now in
    let k = c.loop-write.write-index in
    let d : Write = record { item = 0; base = None; minus = false; amount = 0 } in
    let item = (get_or ws k d).item in
    let old = c.loop-write.writes in
    let within : item < length old = omega (arith, c.requires.fits k d c.loop-write-test.true, c.loop-write.auto.writes) in
    let below : i < length old = omega (arith, length-set old item c.push.new.self) in
    let added : ℕ → List ItemWrite = λ n. added_write c.args.place c.args.cycle c.args.values.now (take n ws) i in
    let new : ℕ → ItemWrite = λ j. record { place = c.args.place; cycle = c.args.cycle; value = get_or c.args.values.now j 0 } in
    elim (cases_eq i item) as (λ _. get_or (set old item c.push.new.self) i [] ≡ get_or c.args.writes.now i [] ++ added (k + 1)) [
      | inl same ↦ (let here = added_here c.args.place c.args.cycle c.args.values.now ws k i d c.loop-write-test.true c.requires.apart same in
          ap (λ j. get_or (set old item c.push.new.self) j []) same ∙ get_or-set_same old item c.push.new.self [] within ∙ c.in_ok-push.ensures
          ∙ ap (λ ws. ws ++ new item ∷ []) (get_or_default old item c.index-writes-item.result [] within)
          ∙ ap (λ j. get_or old j [] ++ new j ∷ []) (sym same)
          ∙ ap (λ xs. xs ++ new i ∷ []) (c.loop-write.invariant i below ∙ ap (λ w. get_or c.args.writes.now i [] ++ w) here.0 ∙ append-nil (get_or c.args.writes.now i []))
          ∙ ap (λ w. get_or c.args.writes.now i [] ++ w) (sym here.1))
      | inr other ↦ get_or-set_other old item i c.push.new.self [] other ∙ c.loop-write.invariant i below
          ∙ ap (λ w. get_or c.args.writes.now i [] ++ w) (sym (added_other c.args.place c.args.cycle c.args.values.now ws k i d c.loop-write-test.true other))
    ]
