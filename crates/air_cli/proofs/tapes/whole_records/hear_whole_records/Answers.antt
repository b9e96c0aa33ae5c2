use Rattle.std.proofs.Common.{◌<◌, ◌+◌, ◌^◌, ◌++◌, length, sym, ap, subst}
use Rattle.air_model.specs.Tapes.{TapeRead}
use Rattle.air_cli.proofs.WholeRecordLemmas.{read_alone}
use Rattle.air_cli.proofs.tapes.whole_records.hear_whole_records.Goals as goal

pub hear_piece-requires-clause-whole : goal.hear_piece-requires-clause-whole
hear_piece-requires-clause-whole g c = ap (λ (t : TapeRead). t.cut) (read_alone c.whole_records_len-len.ensures)

pub hear_piece-requires-clause-few : goal.hear_piece-requires-clause-few
hear_piece-requires-clause-few g c =
    let few = c.requires in
    (few.0, few.1, few.2, subst (λ (t : TapeRead). length few.1 + length t.records < 2 ^ 64) (sym (read_alone c.whole_records_len-len.ensures)) few.3)

pub returns-clause-heard : goal.returns-clause-heard
returns-clause-heard g c = λ first so_far was.
    subst (λ (t : TapeRead). g.H.TapeHearer.HasHeard (so_far ++ t.records) first c.hear_piece.new.self) (read_alone c.whole_records_len-len.ensures) (c.in_ok-hear_piece.ensures first so_far was)
