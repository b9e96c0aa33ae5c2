-- The clause, for the reads that are held.
use Rattle.std.proofs.Common.{[], ◌∷◌, ◌++◌, ◌∙◌, map, ap}
use Rattle.air_history.specs.Ages.{span, spans_too_far}
use Rattle.air_history.specs.Clashes.{read_at}
use Rattle.air_history.specs.HeldReads.{HeldReads}
use Rattle.air_history.specs.Reads.{ReadAt}
use Rattle.core_pins.proofs.held_pins.apart_above_255.Goals as goal

pub returns : goal.returns
unfolding span spans_too_far
returns c = c.spans.ensures 0 ∙ ap (λ (h : HeldReads). let x : ReadAt = record { item = 0; cycle = 45 } in spans_too_far (map read_at h.reads ++ x ∷ [])) c.requires
