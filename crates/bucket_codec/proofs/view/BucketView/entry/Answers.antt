use Rattle.std.proofs.Common.{◌∙◌, refl}
use Rattle.bucket_codec.proofs.ViewLemmas.{entry_room, entry_tested, view_entry}
use Rattle.bucket_codec.proofs.view.BucketView.entry.Goals as goal

pub told_at-requires-clause-long : goal.told_at-requires-clause-long
told_at-requires-clause-long c =
    entry_room c.self.inside.bytes.now c.self.invariant c.args.self.now c.self.view_is c.requires.busy _ _ _ c.version.ensures c.cycle.ensures refl c.args.i c.requires.below

pub told_at-requires-clause-told : goal.told_at-requires-clause-told
told_at-requires-clause-told c =
    entry_tested c.self.inside.bytes.now c.self.invariant c.args.self.now c.self.view_is c.requires.busy _ _ _ c.version.ensures c.cycle.ensures refl c.args.i c.requires.below

pub returns : goal.returns
returns c =
    c.told_at.ensures
    ∙ view_entry c.self.inside.bytes.now c.self.invariant c.args.self.now c.self.view_is c.requires.busy _ _ _ c.version.ensures c.cycle.ensures refl c.args.i c.requires.below
