use Rattle.std.proofs.Common.{◌≡◌, ◌<◌, ◌∷◌, ℕ, true, [], length, get_or, take, sym, subst, ◌∙◌, arith, below_more}
use Rattle.std.proofs.lemmas.List.{length-map}
use Rattle.std.proofs.lemmas.List.Elements.{All-take}
use Rattle.air_base.specs.declared.verdicts.ReadOf.{ReadOf}
use Rattle.air_history.specs.ClashLaws.{passes}
use Rattle.air_model.specs.Aired.{scheme_in}
use Rattle.live_replay.specs.Findings.{place_of_line, places_read, read_in_cycle}
use Rattle.live_replay.specs.Private.Groups.{AreMarksOf, HaveMarks, IsItemRead}
use Rattle.live_replay.proofs.GroupClashLemmas.{have_front, marks_front}
use Rattle.live_replay.proofs.PassLemmas.{at_place, group_fails, group_passes, pass_fails, passes_all}
use Rattle.live_replay.proofs.group_clashes.all_pass_by_groups.Goals as goal

pub least_clash-requires-clause-held : goal.least_clash-requires-clause-held
least_clash-requires-clause-held c = All-take (IsItemRead (length c.args.replay.now.deck.items)) c.loop-k.k c.args.reads.now c.requires.reads

pub least_clash-requires-clause-new : goal.least_clash-requires-clause-new
least_clash-requires-clause-new c = c.requires.reads c.loop-k.k (record { item = 0; cycle = 0; value = 0 }) c.loop-k-test.true

pub least_clash-requires-clause-held_marks : goal.least_clash-requires-clause-held_marks
least_clash-requires-clause-held_marks c =
    let r = c.args.replay.now in
    let reads = c.args.reads.now in
    let k = c.loop-k.k in
    let none : ReadOf = record { item = 0; cycle = 0; value = 0 } in
    subst (λ ms. HaveMarks r (get_or reads k none ∷ []) (take k reads) (take k ms)) (sym c.deref.ensures.value)
    (have_front r reads reads c.in_ok-marks.marks.items k k none c.loop-k-test.true (omega (arith, c.loop-k-test.true)) c.in_ok-marks.ensures)

pub least_clash-requires-clause-marks : goal.least_clash-requires-clause-marks
least_clash-requires-clause-marks c =
    let r = c.args.replay.now in
    let reads = c.args.reads.now in
    let k = c.loop-k.k in
    let none : ReadOf = record { item = 0; cycle = 0; value = 0 } in
    let have : HaveMarks r reads reads c.in_ok-marks.marks.items = c.in_ok-marks.ensures in
    subst (AreMarksOf r (take k reads) (get_or reads k none)) (sym c.index.ensures)
    (marks_front r reads (get_or reads k none) (get_or c.in_ok-marks.marks.items k c.index.result.now) k (have.each k none c.index.result.now c.loop-k-test.true))

pub returns-then-is_some : goal.returns-then-is_some
returns-then-is_some c =
    let deck = c.args.replay.now.deck in
    let H = c.args.replay.now.history in
    let reads = c.args.reads.now in
    let k = c.loop-k.k in
    let d : ReadOf = record { item = 0; cycle = 0; value = 0 } in
    let n = length deck.items in
    let within : k < length (places_read reads) = omega (arith, c.loop-k-test.true, length-map reads place_of_line) in
    sym (pass_fails (scheme_in deck) n H (places_read reads) k within
    (sym (at_place (scheme_in deck) n H reads k d c.loop-k-test.true)
    ∙ group_fails (scheme_in deck) n H (places_read (take k reads)) (place_of_line (get_or reads k d)) c.least_clash.result c.requires.some c.least_clash.ensures (sym c.is_some.ensures ∙ c.if-is_some.true)))

pub loop-k-preserved : goal.loop-k-preserved
loop-k-preserved c =
    let deck = c.args.replay.now.deck in
    let H = c.args.replay.now.history in
    let reads = c.args.reads.now in
    let k = c.loop-k.k in
    let d : ReadOf = record { item = 0; cycle = 0; value = 0 } in
    let n = length deck.items in
    let Passes : ℕ → Type 0 = λ j. passes (scheme_in deck) n H (take j (places_read reads)) (get_or (places_read reads) j (read_in_cycle 0 0)) ≡ true in
    below_more Passes k c.loop-k.invariant
    (sym (at_place (scheme_in deck) n H reads k d c.loop-k-test.true)
    ∙ group_passes (scheme_in deck) n H (places_read (take k reads)) (place_of_line (get_or reads k d)) c.least_clash.result c.requires.some c.least_clash.ensures (sym c.is_some.ensures ∙ c.if-is_some.false))

pub returns : goal.returns
returns c = sym (passes_all (scheme_in c.args.replay.now.deck) (length c.args.replay.now.deck.items) c.args.replay.now.history (places_read c.args.reads.now)
    (λ j l. c.loop-k.invariant j (omega (arith, c.loop-k-test.false, length-map c.args.reads.now place_of_line))))
