use Rattle.std.proofs.Common.{◌≡◌, map, take}
use Rattle.air_model.specs.Decks.{Replan}
use Rattle.chunk_program.proofs.planning.cycles.Given as goal

abbrev pub invariant-loop-k : goal.invariant-loop-k
invariant-loop-k l = l.cycles.items ≡ map (λ (r : Replan). r.cycle) (take l.k l.deck.replans)
