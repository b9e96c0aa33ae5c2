use Rattle.air_model.specs.Tapes.{tape_read}
use Rattle.air_cli.proofs.TapeHearerLemmas.{seeker_heard}
use Rattle.air_cli.proofs.tapes.tape_hearers.SeekerTapeHearer.hear_piece.Goals as goal

pub returns : goal.returns
returns g c = λ first so_far was rest. seeker_heard first c.args.self.now c.seek_on.new.seeker so_far (tape_read c.args.piece.now).records rest was c.seek_on.ensures
