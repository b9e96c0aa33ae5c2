use Rattle.std.proofs.Common.{◌++◌, ◌∷◌, [], ◌∙◌, ap, sym}
use Rattle.air_history.specs.declared.histories.Event.{Event}
use Rattle.air_history.specs.Boards.{board_of}
use Rattle.air_model.specs.Decks.{values_in}
use Rattle.air_sender.proofs.AiredLemmas.{start_event}
use Rattle.scripts.proofs.piece_runs.PieceRun.fill.Goals as goal

pub fill_groups-requires-clause-stepped : goal.fill_groups-requires-clause-stepped
fill_groups-requires-clause-stepped c =
    let before = c.args.self.now.events.items in
    (before, c.requires.stepped ∙ ap (λ (e : Event). board_of (values_in c.args.planned.now) (before ++ e ∷ [])) (start_event c.args.event.now (sym c.if-not-is_start.ensures)))

pub returns-clause-source : goal.returns-clause-source
returns-clause-source c = λ start.
    let before = c.args.self.now.events.items in
    c.fill_groups.ensures.source before (c.requires.stepped ∙ ap (λ (e : Event). board_of (values_in c.args.planned.now) (before ++ e ∷ [])) (start_event c.args.event.now start))
