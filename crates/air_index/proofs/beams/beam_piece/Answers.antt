use Rattle.air_model.specs.Tapes.{tape_read}
use Rattle.air_index.proofs.ReadableLemmas.{tape_if_low}
use Rattle.air_index.proofs.beams.beam_piece.Goals as goal

pub returns-then-is_err-clause-indexed : goal.returns-then-is_err-clause-indexed
returns-then-is_err-clause-indexed c =
    tape_if_low c.args.plans.now c.args.n c.args.first c.args.cycles (tape_read c.args.tape.now).records c.requires.grammar c.requires.counted

pub returns-else-is_err-clause-indexed : goal.returns-else-is_err-clause-indexed
returns-else-is_err-clause-indexed c =
    tape_if_low c.args.plans.now c.args.n c.args.first c.args.cycles (tape_read c.args.tape.now).records c.requires.grammar c.requires.counted
