use Rattle.std.proofs.Common.{◌≡◌, ◌<◌, ◌+◌, ◌-◌, ◌*◌, ℕ, Option, Some, None, [], drop, length, sym, subst, ap, ◌∙◌, arith}
use Rattle.std.specs.Prelude.{slice_index_or}
use Rattle.std.proofs.lemmas.List.{get_or_read}
use Rattle.disk_split.specs.declared.search.BestSizes.{BestSizes}
use Rattle.disk_split.specs.Private.Bests.{IsFound}
use Rattle.disk_split.specs.Rests.{IsFirst}
use Rattle.disk_split.specs.Private.Tables.{IsCell, IsTableRow, IsTable}
use Rattle.disk_split.proofs.BestSteps.{found_more, found_none}
use Rattle.disk_split.proofs.RestLemmas.{slots_many}
use Rattle.disk_split.proofs.search.best_sizes.Goals as goal
use Rattle.disk_split.proofs.search.best_sizes.Goals.{After-index-first}

pub loop-slots-init : goal.loop-slots-init
loop-slots-init c = λ other rest below. let many = slots_many c.args.sums.now c.args.chunks.now 0 other c.requires.chunks.some rest in let some = c.requires.some in omega arith

-- The first row is that of all disks from the first item on.
first_row : (c : After-index-first) → IsTableRow c.args.sums.now c.args.chunks.now 0 c.args.width c.index-first.result.now
first_row c =
    let sums = c.args.sums.now in let chunks = c.args.chunks.now in let tables = c.in_ok-tables.ensures in
    let all : IsTable sums chunks c.args.width (slice_index_or c.in_ok-tables.tables.items (length chunks) []) =
    subst (λ l. IsTable sums l c.args.width (slice_index_or c.in_ok-tables.tables.items (length chunks) [])) (ap (λ n. drop n chunks) (let e : length chunks - length chunks ≡ 0 = omega arith in e)) (tables.each (length chunks) (omega arith)) in
    let is : c.all.inside.rows.items ≡ slice_index_or c.in_ok-tables.tables.items (length chunks) [] =
    c.all.view_is ∙ get_or_read c.in_ok-tables.tables.items (length chunks) c.index-all.result.now (let long = tables.long in omega arith) c.index-all.ensures [] in
    let table = subst (IsTable sums chunks c.args.width) (sym is) all in
    let row = get_or_read c.all.inside.rows.items 0 c.index-first.result.now (let long = table.long in let some = c.requires.sums.some in omega arith) c.index-first.ensures [] in
    subst (IsTableRow sums chunks 0 c.args.width) (sym row) (table.each 0 c.requires.sums.some)

cell_is : (a : After-index-first) (slots : ℕ) (cell : Option ℕ) → slots < a.args.width → cell ≡ slice_index_or a.index-first.result.now slots None → IsCell a.args.sums.now a.args.chunks.now 0 slots cell
cell_is a slots cell below is = subst (IsCell a.args.sums.now a.args.chunks.now 0 slots) (sym is) ((first_row a).cells slots below)

pub loop-slots-preserved-in_default : goal.loop-slots-preserved-in_default
loop-slots-preserved-in_default c =
    let cell = cell_is ((goal.at.loop-slots-preserved-in_default c).After-index-first) c.loop-slots.slots c.cell.result c.loop-slots-test.true c.cell.ensures in
    found_none c.args.sums.now c.args.chunks.now c.loop-slots.slots c.loop-slots.best (subst (IsCell c.args.sums.now c.args.chunks.now 0 c.loop-slots.slots) c.in_default.is cell) c.loop-slots.invariant

pub loop-slots-preserved : goal.loop-slots-preserved
loop-slots-preserved c =
    let sums = c.args.sums.now in let chunks = c.args.chunks.now in let slots = c.loop-slots.slots in let weight = c.in-Some.weight in
    let cell = cell_is ((goal.at.loop-slots-preserved c).After-index-first) slots c.cell.result c.loop-slots-test.true c.cell.ensures in
    let first : IsFirst sums chunks 0 slots weight c.from_vec-sizes.result = subst (IsFirst sums chunks 0 slots weight) (sym c.from_vec-sizes.ensures) c.in_ok-sizes.ensures in
    let new : BestSizes = record { cost = slots * c.from.result; sizes = c.from_vec-sizes.result } in
    subst (λ (f : BestSizes). IsFound sums chunks (slots + 1) (Some f)) (sym c.better.ensures)
    (found_more sums chunks slots weight c.loop-slots.best new (omega arith) (ap (λ n. slots * n) c.from.ensures) (subst (IsCell sums chunks 0 slots) c.in-Some.is cell) first c.loop-slots.invariant)
