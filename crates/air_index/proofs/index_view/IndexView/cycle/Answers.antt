use Rattle.std.proofs.Common.{◌∙◌, ap, arith}
use Rattle.air_index.specs.Indexes.{Index}
use Rattle.air_index.proofs.ViewLemmas.{cycle_is, view_long}
use Rattle.air_index.proofs.index_view.IndexView.cycle.Goals as goal

pub four_at-requires : goal.four_at-requires
four_at-requires c = let long = view_long c.self.inside.bytes.now c.self.invariant in omega arith

pub returns : goal.returns
returns c = c.four_at.ensures ∙ cycle_is c.self.inside.bytes.now ∙ ap (λ (x : Index). x.cycle) c.self.view_is
