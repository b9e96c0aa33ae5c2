use Rattle.std.proofs.Common.{◌∙◌, ap, arith}
use Rattle.air_index.specs.Indexes.{Index}
use Rattle.air_index.proofs.ViewLemmas.{minor_is, view_long}
use Rattle.air_index.proofs.index_view.IndexView.minor.Goals as goal

pub two_at-requires : goal.two_at-requires
two_at-requires c = let long = view_long c.self.inside.bytes.now c.self.invariant in omega arith

pub returns : goal.returns
returns c = c.two_at.ensures ∙ minor_is c.self.inside.bytes.now ∙ ap (λ (x : Index). x.minor) c.self.view_is
