use Rattle.std.proofs.Common.{◌∙◌, length, sym}
use Rattle.bucket_codec.proofs.EncodingLemmas.{written_by_age, written_in_full}
use Rattle.bucket_codec.proofs.EntryLemmas.{room_by_age, room_in_full}
use Rattle.bucket_codec.proofs.encoding.put_told.Goals as goal

pub put_ages-requires-clause-room : goal.put_ages-requires-clause-room
put_ages-requires-clause-room c = room_by_age c.args.version (length c.args.entries.now) (length c.args.out.now) (sym c.tells_ages.ensures ∙ c.if-tells_ages.true) c.requires.room

pub put_entries-requires : goal.put_entries-requires
put_entries-requires c = room_in_full c.args.version (length c.args.entries.now) (length c.args.out.now) (sym c.tells_ages.ensures ∙ c.if-tells_ages.false) c.requires.room

pub returns-then-tells_ages : goal.returns-then-tells_ages
returns-then-tells_ages c =
    written_by_age c.args.version c.args.cycle c.args.entries.now c.args.out.now c.put_ages.new.out (sym c.tells_ages.ensures ∙ c.if-tells_ages.true) c.put_ages.ensures

pub returns-else-tells_ages : goal.returns-else-tells_ages
returns-else-tells_ages c =
    written_in_full c.args.version c.args.cycle c.args.entries.now c.args.out.now c.put_entries.new.out (sym c.tells_ages.ensures ∙ c.if-tells_ages.false) c.put_entries.ensures
