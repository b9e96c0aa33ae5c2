use Rattle.std.proofs.Common.{arith}
use Rattle.air_lanes.proofs.FirstLemmas.{counted_before, counted_reached, counted_within, first_bit, no_bit}
use Rattle.air_lanes.proofs.search.first_in_block.Goals as goal

pub returns-then-bits-eq0-clause-before : goal.returns-then-bits-eq0-clause-before
returns-then-bits-eq0-clause-before c k l =
    let column = c.args.column.now in let held = c.args.held.now in let at = c.args.at in
    counted_before column held at 8 k c.requires.room c.requires.same (no_bit column held at c.requires.room c.requires.same c.if-bits-eq0.true) (omega arith)

pub returns-else-bits-eq0-clause-within : goal.returns-else-bits-eq0-clause-within
returns-else-bits-eq0-clause-within c =
    let column = c.args.column.now in let held = c.args.held.now in let at = c.args.at in
    counted_within column held at _ c.requires.room c.requires.same (first_bit column held at c.requires.room c.requires.same c.if-bits-eq0.false)

pub returns-else-bits-eq0-clause-reached : goal.returns-else-bits-eq0-clause-reached
returns-else-bits-eq0-clause-reached c l =
    let column = c.args.column.now in let held = c.args.held.now in let at = c.args.at in
    counted_reached column held at _ c.requires.room c.requires.same (first_bit column held at c.requires.room c.requires.same c.if-bits-eq0.false) l

pub returns-else-bits-eq0-clause-before : goal.returns-else-bits-eq0-clause-before
returns-else-bits-eq0-clause-before c k l =
    let column = c.args.column.now in let held = c.args.held.now in let at = c.args.at in
    counted_before column held at _ k c.requires.room c.requires.same (first_bit column held at c.requires.room c.requires.same c.if-bits-eq0.false) l
