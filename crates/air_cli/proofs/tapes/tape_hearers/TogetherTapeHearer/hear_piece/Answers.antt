use Rattle.std.proofs.Common.{length}
use Rattle.air_model.specs.Tapes.{tape_read}
use Rattle.air_cli.proofs.TapeHearerLemmas.{readers_have_room, readers_heard}
use Rattle.air_cli.proofs.tapes.tape_hearers.TogetherTapeHearer.hear_piece.Goals as goal

pub hear-requires-clause-counts : goal.hear-requires-clause-counts
hear-requires-clause-counts g c κs within =
    let few = c.requires.few in
    readers_have_room few.0 c.args.self.now few.1 (length (tape_read c.args.piece.now).records) few.2.0 few.2.1 few.3

pub returns : goal.returns
returns g c = λ first so_far was.
    (was.0, readers_heard first c.args.self.now so_far (tape_read c.args.piece.now).records c.hear.new.self was.1 c.in_ok-hear.ensures)
