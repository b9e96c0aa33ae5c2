use Rattle.std.proofs.Common.{[], ◌∙◌, ap, arith}
use Rattle.air_history.specs.Boards.{board_of}
use Rattle.air_model.specs.Decks.{values_in}
use Rattle.deck_runs.proofs.threads.stages.conductor_of.Goals as goal

pub returns-clause-board : goal.returns-clause-board
returns-clause-board c = c.in_ok-new.ensures.empty ∙ ap (λ values. board_of values []) (c.deref.ensures.value ∙ c.in_ok-values.ensures ∙ ap values_in c.deck-deck.ensures.told)

pub returns-clause-buffer : goal.returns-clause-buffer
returns-clause-buffer c = omega (arith, c.in_ok-vec.ensures.len, c.bucket_room.ensures, c.in_ok-vec.field-0.ok.0)
