use Rattle.std.proofs.Common.{sym, subst}
use Rattle.listeners.specs.Private.JudgedPieces.{TellsItem}
use Rattle.listeners.proofs.JudgedLemmas.{own_item}
use Rattle.listeners.proofs.judged.item_in.Goals as goal

pub returns-in-Ok : goal.returns-in-Ok
returns-in-Ok c =
    let b = c.in-Ok.bucket in
    subst (TellsItem c.item.result) (sym c.in-Ok.is) (own_item c.item.result b.cycle b.body c.item.ensures)
