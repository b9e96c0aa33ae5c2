use Rattle.std.proofs.Common.{◌∙◌, length, sym}
use Rattle.bucket_codec.proofs.EntryLemmas.{entries_in_full, room_by_age, room_in_full, same_entries, same_tests}
use Rattle.bucket_codec.proofs.entries.fill_entries.Goals as goal

pub fill_by_ages-requires-clause-long : goal.fill_by_ages-requires-clause-long
fill_by_ages-requires-clause-long c = room_by_age c.args.version (length c.args.out.now) (length c.args.bytes.now) (sym c.tells_ages.ensures ∙ c.if-tells_ages.true) c.requires.long

pub fill_by_ages-requires-clause-told : goal.fill_by_ages-requires-clause-told
fill_by_ages-requires-clause-told c =
    sym (same_tests c.args.version 2 c.args.cycle (length c.args.out.now) c.args.bytes.now (sym c.tells_ages.ensures ∙ c.if-tells_ages.true)) ∙ c.requires.told

pub fill_in_full-requires : goal.fill_in_full-requires
fill_in_full-requires c = room_in_full c.args.version (length c.args.out.now) (length c.args.bytes.now) (sym c.tells_ages.ensures ∙ c.if-tells_ages.false) c.requires.long

pub returns-then-tells_ages : goal.returns-then-tells_ages
returns-then-tells_ages c =
    c.fill_by_ages.ensures ∙ sym (same_entries c.args.version 2 c.args.cycle (length c.args.out.now) c.args.bytes.now (sym c.tells_ages.ensures ∙ c.if-tells_ages.true))

pub returns-else-tells_ages : goal.returns-else-tells_ages
returns-else-tells_ages c =
    c.fill_in_full.ensures ∙ sym (entries_in_full c.args.version c.args.cycle (length c.args.out.now) c.args.bytes.now (sym c.tells_ages.ensures ∙ c.if-tells_ages.false))
