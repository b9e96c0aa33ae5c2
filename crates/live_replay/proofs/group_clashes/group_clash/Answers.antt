use Rattle.std.proofs.Common.{length, sym, ◌∙◌}
use Rattle.live_replay.specs.Findings.{place_of_line}
use Rattle.live_replay.proofs.GroupClashLemmas.{clash_by_held, clash_by_new, hits_marked, marked_hits}
use Rattle.live_replay.proofs.group_clashes.group_clash.Goals as goal

pub returns-then-held-read : goal.returns-then-held-read
returns-then-held-read c =
    let r = c.args.replay.now in
    let held = c.args.held.now in
    let read = c.args.read.now in
    c.is_overwritten.ensures ∙ sym (clash_by_new r.history r.deck.settings.group (length r.deck.items) (place_of_line held) (place_of_line read) _
    c.requires.held.begun c.if-held-read.true
    (marked_hits r held read c.args.marks.now c.requires.marks) (hits_marked r held read c.args.marks.now c.requires.marks))

pub returns-else-held-read : goal.returns-else-held-read
returns-else-held-read c =
    let r = c.args.replay.now in
    let held = c.args.held.now in
    let read = c.args.read.now in
    c.is_overwritten-else-held-read.ensures ∙ sym (clash_by_held r.history r.deck.settings.group (length r.deck.items) (place_of_line held) (place_of_line read) _
    c.requires.new.begun c.if-held-read.false
    (marked_hits r read held c.args.held_marks.now c.requires.held_marks) (hits_marked r read held c.args.held_marks.now c.requires.held_marks))
