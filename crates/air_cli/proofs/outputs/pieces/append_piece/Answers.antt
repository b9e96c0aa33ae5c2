use Rattle.std.proofs.Common.{Bor, List, ℕ, ap}
use Rattle.std.specs.Prelude.{Option}
use Rattle.std.specs.Option.{option_map}
use Rattle.air_cli.proofs.OutputLemmas.{none_added, piece_added, piece_cut}
use Rattle.air_cli.proofs.outputs.pieces.append_piece.Goals as goal

abbrev told_name : Option (Bor (List ℕ)) → Option (List ℕ)
told_name = option_map (λ name. name.now)

pub returns-in-Some-clause-added : goal.returns-in-Some-clause-added
returns-in-Some-clause-added g c = λ first so_far was.
    let S = g.S.Shelf in
    piece_added c.append.result (told_name c.args.output) c.in-Some.name.now so_far c.args.piece.now first (S.state c.args.shelf.now) (S.state c.append.new.self) (ap told_name c.in-Some.is) was
    c.append.ensures.all c.append.ensures.rest c.append.ensures.cause

pub returns-in-Some-clause-cut : goal.returns-in-Some-clause-cut
returns-in-Some-clause-cut g c = λ first so_far rest was.
    let S = g.S.Shelf in
    piece_cut c.append.result (told_name c.args.output) c.in-Some.name.now so_far c.args.piece.now rest first (S.state c.args.shelf.now) (S.state c.append.new.self) (ap told_name c.in-Some.is) was
    c.append.ensures.part c.append.ensures.rest c.append.ensures.cause

pub returns-in-None-clause-added : goal.returns-in-None-clause-added
returns-in-None-clause-added g c = λ first so_far was. none_added (told_name c.args.output) first (g.S.Shelf.state c.args.shelf.now) so_far c.args.piece.now (ap told_name c.in-None.is) was
