use Rattle.std.proofs.Common.{◌∙◌, ◌≤◌, subst, sym}
use Rattle.air_index.proofs.ViewLemmas.{entry_room, view_ahead, view_entry}
use Rattle.air_index.proofs.index_view.IndexView.entry.Goals as goal

pub entry_at-requires : goal.entry_at-requires
entry_at-requires c = entry_room c.self.inside.bytes.now c.self.invariant c.args.self.now c.self.view_is c.args.i c.requires

pub returns-clause-told : goal.returns-clause-told
returns-clause-told c = c.entry_at.ensures ∙ view_entry c.self.inside.bytes.now c.self.invariant c.args.self.now c.self.view_is c.args.i c.requires

pub returns-clause-ahead : goal.returns-clause-ahead
returns-clause-ahead c = subst (λ x. 1 ≤ x) (sym c.entry_at.ensures) (view_ahead c.self.inside.bytes.now c.self.invariant c.args.self.now c.self.view_is c.args.i c.requires)
