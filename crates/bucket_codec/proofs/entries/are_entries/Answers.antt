use Rattle.std.proofs.Common.{◌∙◌, length, sym}
use Rattle.bucket_codec.proofs.EntryLemmas.{room_by_age, room_in_full, same_tests}
use Rattle.bucket_codec.proofs.entries.are_entries.Goals as goal

pub are_ages-requires : goal.are_ages-requires
are_ages-requires c = room_by_age c.args.version c.args.n (length c.args.bytes.now) (sym c.tells_ages.ensures ∙ c.if-tells_ages.true) c.requires

pub entries_below-requires : goal.entries_below-requires
entries_below-requires c = room_in_full c.args.version c.args.n (length c.args.bytes.now) (sym c.tells_ages.ensures ∙ c.if-tells_ages.false) c.requires

pub returns-then-tells_ages : goal.returns-then-tells_ages
returns-then-tells_ages c = c.are_ages.ensures ∙ sym (same_tests c.args.version 2 c.args.cycle c.args.n c.args.bytes.now (sym c.tells_ages.ensures ∙ c.if-tells_ages.true))

pub returns-else-tells_ages : goal.returns-else-tells_ages
returns-else-tells_ages c = c.entries_below.ensures ∙ sym (same_tests c.args.version 1 c.args.cycle c.args.n c.args.bytes.now (sym c.tells_ages.ensures ∙ c.if-tells_ages.false))
