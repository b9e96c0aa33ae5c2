use Rattle.std.proofs.Common.{◌≡◌, ◌≤◌, ◌-◌, length, sym, ap, subst, ◌∙◌, arith}
use Rattle.air_history.specs.Histories.{starts}
use Rattle.air_index.specs.IndexedTapes.{AreBuckets}
use Rattle.air_model.specs.Decks.{Deck}
use Rattle.air_model.specs.Tapes.{TapeRead, tape_read}
use Rattle.air_sender.specs.TapeMasts.{told_by_tape}
use Rattle.air_sender.proofs.TapeLemmas.{script_airs}
use Rattle.chunk_program.specs.Editions.{HaveItems, Plans, programs_in}
use Rattle.scripts.proofs.BeamPieces.{IsBeamedWith, piece_asked, piece_buckets, piece_written, runs_on}
use Rattle.scripts.proofs.TapePieceLemmas.{piece_read}
use Rattle.scripts.proofs.script_beaming.ScriptBeaming.next_piece.Goals as goal
use Rattle.scripts.proofs.script_beaming.ScriptBeaming.next_piece.Goals.{After-tape, In_ok-next_piece}

-- The run before has no more starts than the run after it.
later : (c : In_ok-next_piece) → starts c.args.self.now.run.events.items ≤ starts c.next_piece.new.self.events.items
later c =
    let on = c.in_ok-next_piece.ensures.on c.requires.more in
    runs_on c.args.planned.now c.args.self.now.run c.next_piece.new.self c.requires.kept.run c.in_ok-next_piece.ensures.kept (omega (arith, on))

pub overflow_sub-more : goal.overflow_sub-more
overflow_sub-more c =
    let deck = c.args.planned.now in
    omega (arith, later (goal.at.overflow_sub-more c).In_ok-next_piece, c.cycles-before.ensures deck c.requires.kept.run, c.cycles-now.ensures deck c.in_ok-next_piece.ensures.kept)

-- The call is about the piece of this deck.
with_them : (c : After-tape) → IsBeamedWith c.args.planned.now c.args.self.now.run.events.items c.next_piece.new.self.events.items c.plans.result.now c.items-items.result c.cycles-before.result (c.cycles-now.result - c.cycles-before.result)
with_them c =
    let deck = c.args.planned.now in
    let first = c.cycles-before.ensures deck c.requires.kept.run in
    let last = c.cycles-now.ensures deck c.in_ok-next_piece.ensures.kept in
    record {
      plans = c.plans.ensures.told;
      items = c.items-items.ensures.told ∙ ap (λ (d : Deck). length d.items) c.deck.ensures.told;
      first = first;
      cycles = omega (arith, first, last);
    }

-- What the mast has is read as what was aired.
read : (c : After-tape) → (tape_read c.tape.result.now).records ≡ (told_by_tape c.next_piece.new.piece).buckets
read c =
    let deck = c.args.planned.now in
    let now = c.next_piece.new.self.events.items in
    ap (λ (t : TapeRead). t.records) (piece_read deck c.args.self.now.run.events.items now (told_by_tape c.next_piece.new.piece).buckets c.tape.result.now (length now) c.shows_planned.ensures.made
    c.in_ok-next_piece.ensures.kept.begun c.in_ok-next_piece.ensures.aired c.tape.ensures).0

pub beam_piece-requires-clause-items : goal.beam_piece-requires-clause-items
beam_piece-requires-clause-items c =
    let d = c.args.planned.now in
    let items = c.items-items.ensures.told ∙ ap (λ (d : Deck). length d.items) c.deck.ensures.told in
    subst (λ (p : Plans). HaveItems c.items-items.result p.programs) (sym c.plans.ensures.told) (subst (λ n. HaveItems n (programs_in d)) (sym items) c.plans.ensures.items)

pub beam_piece-requires-clause-whole : goal.beam_piece-requires-clause-whole
beam_piece-requires-clause-whole c =
    let now = c.next_piece.new.self.events.items in
    ap (λ (t : TapeRead). t.cut) (piece_read c.args.planned.now c.args.self.now.run.events.items now (told_by_tape c.next_piece.new.piece).buckets c.tape.result.now (length now) c.shows_planned.ensures.made
    c.in_ok-next_piece.ensures.kept.begun c.in_ok-next_piece.ensures.aired c.tape.ensures).0

pub beam_piece-requires-clause-counted : goal.beam_piece-requires-clause-counted
beam_piece-requires-clause-counted c =
    let at = goal.at.beam_piece-requires-clause-counted c in
    piece_asked c.args.planned.now c.args.self.now.run.events.items c.next_piece.new.self.events.items (told_by_tape c.next_piece.new.piece).buckets (tape_read c.tape.result.now).records c.plans.result.now c.items-items.result
    c.cycles-before.result (c.cycles-now.result - c.cycles-before.result) (with_them at.After-tape) c.in_ok-next_piece.ensures.aired (later at.In_ok-next_piece) (read at.After-tape)

pub beam_piece-requires-clause-grammar : goal.beam_piece-requires-clause-grammar
beam_piece-requires-clause-grammar c =
    let deck = c.args.planned.now in
    let now = c.next_piece.new.self.events.items in
    let can = script_airs deck c.shows_planned.ensures.made c.shows_planned.ensures.limits.script c.shows_planned.ensures.short in
    subst AreBuckets (sym (read (goal.at.beam_piece-requires-clause-grammar c).After-tape))
    (piece_buckets deck c.args.self.now.run.events.items now (told_by_tape c.next_piece.new.piece).buckets (length now) can c.in_ok-next_piece.ensures.kept.begun c.in_ok-next_piece.ensures.aired)

pub returns-clause-kept : goal.returns-clause-kept
returns-clause-kept c = record { run = c.in_ok-next_piece.ensures.kept; some = c.requires.kept.some }

pub returns-clause-beamed : goal.returns-clause-beamed
returns-clause-beamed c =
    let at = goal.at.returns-clause-beamed c in
    piece_written c.args.planned.now c.args.self.now.run.events.items c.next_piece.new.self.events.items (told_by_tape c.next_piece.new.piece).buckets (tape_read c.tape.result.now).records c.plans.result.now c.items-items.result
    c.cycles-before.result (c.cycles-now.result - c.cycles-before.result) c.clear.new.self.items c.beam_piece.new.out.items (with_them at.After-tape) c.in_ok-next_piece.ensures.aired (later at.In_ok-next_piece) (read at.After-tape)
    c.clear.ensures.items c.in_ok-beam_piece.ensures.written
