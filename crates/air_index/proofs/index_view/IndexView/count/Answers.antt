use Rattle.std.proofs.Common.{◌∙◌, length, ap, arith}
use Rattle.air_index.specs.Indexes.{Index}
use Rattle.air_index.proofs.ViewLemmas.{count_is, view_long}
use Rattle.air_index.proofs.index_view.IndexView.count.Goals as goal

pub two_at-requires : goal.two_at-requires
two_at-requires c = let long = view_long c.self.inside.bytes.now c.self.invariant in omega arith

pub returns : goal.returns
returns c = c.two_at.ensures ∙ count_is c.self.inside.bytes.now ∙ ap (λ (x : Index). length x.entries) c.self.view_is
