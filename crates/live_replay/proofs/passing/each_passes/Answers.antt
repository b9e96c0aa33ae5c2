use Rattle.std.proofs.Common.{◌≡◌, ◌<◌, ℕ, true, length, get_or, take, sym, ◌∙◌, arith, below_more}
use Rattle.std.proofs.lemmas.List.{length-map}
use Rattle.air_base.specs.declared.verdicts.ReadOf.{ReadOf}
use Rattle.air_history.specs.ClashLaws.{passes}
use Rattle.air_model.specs.Aired.{scheme_in}
use Rattle.live_replay.specs.Findings.{place_of_line, places_read, read_in_cycle}
use Rattle.live_replay.proofs.PassLemmas.{at_place, pass_fails, passes_all}
use Rattle.live_replay.proofs.passing.each_passes.Goals as goal

pub returns-then-not-branch : goal.returns-then-not-branch
returns-then-not-branch c =
    let scheme = scheme_in c.args.replay.now.deck in
    let n = length c.args.replay.now.deck.items in
    let H = c.args.replay.now.history in
    let reads = c.args.reads.now in
    let k = c.loop-k.k in
    let d : ReadOf = record { item = 0; cycle = 0; value = 0 } in
    let within : k < length (places_read reads) = omega (arith, c.loop-k-test.true, length-map reads place_of_line) in
    sym (pass_fails scheme n H (places_read reads) k within
    (sym (at_place scheme n H reads k d c.loop-k-test.true) ∙ sym c.in_ok-passes.ensures ∙ c.if-not-branch.true))

pub loop-k-preserved : goal.loop-k-preserved
loop-k-preserved c =
    let scheme = scheme_in c.args.replay.now.deck in
    let n = length c.args.replay.now.deck.items in
    let H = c.args.replay.now.history in
    let reads = c.args.reads.now in
    let k = c.loop-k.k in
    let d : ReadOf = record { item = 0; cycle = 0; value = 0 } in
    let Passes : ℕ → Type 0 = λ j. passes scheme n H (take j (places_read reads)) (get_or (places_read reads) j (read_in_cycle 0 0)) ≡ true in
    below_more Passes k c.loop-k.invariant
    (sym (at_place scheme n H reads k d c.loop-k-test.true) ∙ sym c.in_ok-passes.ensures ∙ c.if-not-branch.false)

pub returns : goal.returns
returns c = sym (passes_all (scheme_in c.args.replay.now.deck) (length c.args.replay.now.deck.items) c.args.replay.now.history (places_read c.args.reads.now)
    (λ j l. c.loop-k.invariant j (omega (arith, c.loop-k-test.false, length-map c.args.reads.now place_of_line))))
