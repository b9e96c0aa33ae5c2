use Rattle.std.proofs.Common.{◌∙◌, sym}
use Rattle.bucket_codec.proofs.EntryLemmas.{test_by_age, told_by_age, told_in_full}
use Rattle.bucket_codec.proofs.entries.told_at.Goals as goal

pub entry_of_age-requires : goal.entry_of_age-requires
entry_of_age-requires c = sym (test_by_age c.args.version c.args.cycle c.args.i c.args.bytes.now (sym c.tells_ages.ensures ∙ c.if-tells_ages.true)) ∙ c.requires.told

pub returns-then-tells_ages : goal.returns-then-tells_ages
returns-then-tells_ages c = c.entry_of_age.ensures ∙ sym (told_by_age c.args.version c.args.cycle c.args.i c.args.bytes.now (sym c.tells_ages.ensures ∙ c.if-tells_ages.true))

pub returns-else-tells_ages : goal.returns-else-tells_ages
returns-else-tells_ages c = c.entry_at.ensures ∙ sym (told_in_full c.args.version c.args.cycle c.args.i c.args.bytes.now (sym c.tells_ages.ensures ∙ c.if-tells_ages.false))
