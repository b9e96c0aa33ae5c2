use Rattle.std.proofs.Common.{◌∙◌, arith}
use Rattle.bucket_codec.proofs.ViewLemmas.{view_entries, view_room, view_told}
use Rattle.bucket_codec.proofs.view.BucketView.fill.Goals as goal

-- The slice has room for exactly the entries.
pub fill_entries-requires-clause-long : goal.fill_entries-requires-clause-long
fill_entries-requires-clause-long c =
    let room = view_room c.self.inside.bytes.now c.self.invariant c.args.self.now c.self.view_is c.requires.busy _ _ _ c.version.ensures c.cycle.ensures c.requires.room in
    omega arith

pub fill_entries-requires-clause-told : goal.fill_entries-requires-clause-told
fill_entries-requires-clause-told c =
    view_told c.self.inside.bytes.now c.self.invariant c.args.self.now c.self.view_is c.requires.busy _ _ _ c.version.ensures c.cycle.ensures c.requires.room

pub returns : goal.returns
returns c =
    c.fill_entries.ensures
    ∙ view_entries c.self.inside.bytes.now c.self.invariant c.args.self.now c.self.view_is c.requires.busy _ _ _ c.version.ensures c.cycle.ensures c.requires.room
