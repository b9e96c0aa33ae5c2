use Rattle.std.proofs.Common.{◌≡◌, ◌+◌, ◌++◌, ◌∷◌, [], ◌∙◌, length, sym, ap, subst}
use Rattle.air_history.specs.Boards.{board_of}
use Rattle.air_model.specs.Decks.{values_in}
use Rattle.air_sender.specs.DeckGroups.{HasGroups}
use Rattle.listeners.specs.AiredCycles.{AirsFrom}
use Rattle.scripts.specs.Private.RunSteps.{CountsScripted}
use Rattle.scripts.proofs.PieceLemmas.{piece_next}
use Rattle.scripts.proofs.piece_runs.PieceRun.run_next.Goals as goal

pub fill-requires-clause-stepped : goal.fill-requires-clause-stepped
fill-requires-clause-stepped c =
    c.in_ok-event.ensures.board ∙ ap (λ v. board_of (values_in c.args.planned.now) (v.items ++ c.in_ok-event.event ∷ [])) (sym c.in_ok-event.ensures.events)

pub fill-requires-clause-groups : goal.fill-requires-clause-groups
fill-requires-clause-groups c = subst (HasGroups c.args.planned.now) (sym c.in_ok-event.ensures.groups) c.requires.kept.groups

pub returns : goal.returns
returns c =
    let deck = c.args.planned.now in
    let s = c.args.self.now in
    let e = c.in_ok-event.event in
    let ran = c.in_ok-event.ensures in
    let filled = c.fill.ensures in
    let grew : c.push.new.self.items ≡ s.events.items ++ e ∷ [] = c.in_ok-push.ensures.items ∙ ap (λ v. v.items ++ e ∷ []) (filled.events ∙ ran.events) in
    record {
      kept = piece_next deck s (record { events = c.push.new.self; made = c.fill.new.self.made; board = c.fill.new.self.board; groups = c.fill.new.self.groups; room = c.fill.new.self.room }) e c.requires.kept c.requires.more
          ran.event grew (filled.board ∙ ran.board) (ap (λ v. length v.items) filled.made ∙ ran.updaters)
          (subst (λ v. CountsScripted deck (length s.events.items + 1) v.items) (sym filled.made) ran.made) filled.groups (ap (λ v. length v.items) (filled.room ∙ ran.room) ∙ c.requires.kept.room);
      event = e;
      one = grew;
      told = c.is_start-started.ensures;
      source = λ start. subst (λ H. AirsFrom deck H c.fill.new.self.board c.fill.new.self.groups) (ap (λ v. v.items) ran.events) (filled.source (sym c.is_start-started.ensures ∙ start));
    }
