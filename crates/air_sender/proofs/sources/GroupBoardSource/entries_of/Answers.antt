use Rattle.std.proofs.Common.{[], ◌<◌, ◌∙◌, length, sym, ap, arith}
use Rattle.std.proofs.lemmas.List.FromFn.{get_or-map-range_with_len}
use Rattle.group_matrix.specs.GroupBoards.{item_column}
use Rattle.air_sender.specs.BoardBuckets.{entries_on, spread}
use Rattle.air_sender.proofs.sources.GroupBoardSource.entries_of.Goals as goal

pub returns-clause-found : goal.returns-clause-found
returns-clause-found c =
    let groups = c.args.self.now in
    let item = c.args.item in
    let within : item < length groups.values = c.requires.within in
    c.column.ensures.found
    ∙ sym (ap (λ p. entries_on p (spread groups) item) c.requires.allowed ∙ get_or-map-range_with_len (item_column groups) 0 (length groups.values) item item [] within (omega arith))
