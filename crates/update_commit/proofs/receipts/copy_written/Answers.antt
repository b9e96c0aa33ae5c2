use Rattle.std.proofs.Common.{◌∙◌, sym, arith}
use mathlib.Core.List.{map-map}
use Rattle.air_history.specs.UpdateRules.{written_item}
use Rattle.air_history.specs.Tables.{values_of}
use Rattle.update_commit.proofs.StepLemmas.{map_by_all}
use Rattle.update_commit.proofs.receipts.copy_written.Goals as goal

pub returns : goal.returns
returns c = let i = c.loop-place.invariant in
    map_by_all (λ w. values_of c.args.values.now w.item) c.args.writes.now c.loop-place.into 0 i.0 (λ k d l. i.1 k d (omega arith))
    ∙ sym (map-map (values_of c.args.values.now) written_item c.args.writes.now)
