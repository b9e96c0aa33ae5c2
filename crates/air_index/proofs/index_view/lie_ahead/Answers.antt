use Rattle.std.proofs.Common.{◌&&◌, ◌∙◌, nat_le, sym, ap}
use Rattle.std.specs.List.{list_all}
use Rattle.air_index.specs.Indexes.{index_entries}
use Rattle.air_index.proofs.IndexLemmas.{tests_more, tests_none}
use Rattle.air_index.proofs.index_view.lie_ahead.Goals as goal

pub loop-i-init : goal.loop-i-init
loop-i-init c = sym (tests_none c.args.bytes.now)

pub loop-i-preserved : goal.loop-i-preserved
loop-i-preserved c =
    ap (λ b. b && nat_le 1 c.entry_at.result) c.loop-i.invariant
    ∙ ap (λ e. list_all (nat_le 1) (index_entries c.loop-i.i c.args.bytes.now) && nat_le 1 e) c.entry_at.ensures
    ∙ sym (tests_more c.loop-i.i c.args.bytes.now)
