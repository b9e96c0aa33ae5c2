use Rattle.std.proofs.Common.{◌≡◌, ◌≤◌, ◌<◌, length, get_or, All, sym, ap, subst, ◌∙◌, arith}
use Rattle.std.proofs.lemmas.Bool.{eqb-false}
use Rattle.air_model.specs.Decks.{values_in}
use Rattle.air_history.proofs.HistoryLemmas.{writes_within}
use Rattle.live_replay.specs.declared.writes.ItemWrite.{ItemWrite}
use Rattle.live_replay.specs.Private.Groups.{writes_between}
use Rattle.live_replay.proofs.BetweenLemmas.{between_are, between_first}
use Rattle.live_replay.proofs.groups.first_after.Goals as goal

pub returns-clause-within : goal.returns-clause-within
returns-clause-within c =
    let V = values_in c.args.replay.now.deck in
    let H = c.args.replay.now.history in
    let read = c.args.read.now in
    let none : ItemWrite = record { place = 0; cycle = 0; value = 0 } in
    let some : 0 < length (writes_between V H read.item read.cycle c.args.cycle) = (let other = eqb-false (length c.writes_between-writes.result.now) 0 (sym c.is_empty.ensures ∙ c.if-is_empty.false) in
    let same : length c.writes_between-writes.result.now ≡ length (writes_between V H read.item read.cycle c.args.cycle) = ap length c.writes_between-writes.ensures in omega arith) in
    let is = between_are V H read.item read.cycle c.args.cycle 0 none some in
    let within = writes_within H (get_or (writes_between V H read.item read.cycle c.args.cycle) 0 none).place read.item is.writes in
    subst (λ ws. (get_or ws 0 none).place ≤ length H) (sym c.writes_between-writes.ensures) (omega arith)

pub returns-clause-least : goal.returns-clause-least
returns-clause-least c =
    let V = values_in c.args.replay.now.deck in
    let H = c.args.replay.now.history in
    let read = c.args.read.now in
    let none : ItemWrite = record { place = 0; cycle = 0; value = 0 } in
    subst (λ ws. All (λ w. (get_or ws 0 none).place ≤ w.place) (writes_between V H read.item read.cycle c.args.cycle)) (sym c.writes_between-writes.ensures)
    (between_first V H read.item read.cycle c.args.cycle none)
