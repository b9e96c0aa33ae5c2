use Rattle.std.proofs.Common.{Bor, List, [], ℕ, subst, rules}
use Rattle.std.specs.Prelude.{Option}
use Rattle.std.specs.Option.{option_map}
use Rattle.std.proofs.lemmas.List.{append-nil}
use Rattle.air_cli.specs.Private.OutputPieces.{IsCutOff}
use Rattle.air_cli.proofs.outputs.write_tape.Goals as goal

pub returns-in_err-begin_output-clause-cut : goal.returns-in_err-begin_output-clause-cut
returns-in_err-begin_output-clause-cut g c =
    let S = g.S.Shelf in
    let output : Option (List ℕ) = option_map (λ (name : Bor (List ℕ)). name.now) c.args.output in
    let h : IsCutOff output c.args.tape.now (S.state c.args.shelf.now) (S.state c.begin_output.new.shelf) = c.in_err-begin_output.ensures.cut c.args.tape.now in
    search (rules, h)

pub returns-in_err-append_piece-clause-cut : goal.returns-in_err-append_piece-clause-cut
returns-in_err-append_piece-clause-cut g c =
    let S = g.S.Shelf in
    let before = S.state c.args.shelf.now in
    let now = S.state c.append_piece.new.shelf in
    let output : Option (List ℕ) = option_map (λ (name : Bor (List ℕ)). name.now) c.args.output in
    let h : IsCutOff output c.args.tape.now before now =
    subst (λ t. IsCutOff output t before now) (append-nil c.args.tape.now) (c.in_err-append_piece.ensures.cut before [] [] c.in_ok-begin_output.ensures.begun) in
    search (rules, h)

pub returns-clause-whole : goal.returns-clause-whole
returns-clause-whole g c = c.in_ok-append_piece.ensures.added (g.S.Shelf.state c.args.shelf.now) [] c.in_ok-begin_output.ensures.begun
