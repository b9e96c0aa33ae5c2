use Rattle.std.proofs.Common.{◌∙◌, length, sym, ap, arith}
use Rattle.std.proofs.lemmas.Grind.{same_number_lists}
use Rattle.air_model.specs.Buckets.{entries_at, entry_told, is_entry}
use Rattle.bucket_codec.proofs.EntryLemmas.{age_is, entry_is, length_entries, test_is}
use Rattle.bucket_codec.proofs.entries.fill_by_ages.Goals as goal

pub entry_of_age-requires : goal.entry_of_age-requires
entry_of_age-requires c =
    let i = c.loop-i.i in
    let same = c.loop-i.auto.out in
    ap (is_entry 2 c.args.cycle) (sym (age_is i c.args.bytes.now)) ∙ test_is 2 c.args.cycle (length c.args.out.now) i c.args.bytes.now c.requires.told (omega arith)

pub returns : goal.returns
returns c =
    let n = length c.args.out.now in
    let bytes = c.args.bytes.now in
    let same = c.loop-i.auto.out in
    let long = length_entries 2 c.args.cycle n bytes in
    same_number_lists c.loop-i.out (entries_at 2 c.args.cycle n bytes) (omega arith)
    (λ k below. c.loop-i.invariant k (omega arith) ∙ ap (entry_told 2 c.args.cycle) (sym (age_is k bytes)) ∙ sym (entry_is 2 c.args.cycle n k bytes (omega arith)))
