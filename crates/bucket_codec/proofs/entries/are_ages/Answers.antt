use Rattle.std.proofs.Common.{◌+◌, ◌&&◌, ◌∙◌, slice_index, sym, ap, arith}
use Rattle.std.specs.List.{list_all}
use Rattle.air_model.specs.Buckets.{is_entry, raw_entries}
use Rattle.bucket_codec.proofs.EntryLemmas.{age_is, age_test, tests_more, tests_none}
use Rattle.bucket_codec.proofs.entries.are_ages.Goals as goal

pub loop-i-init : goal.loop-i-init
loop-i-init c = sym (tests_none 2 c.args.cycle c.args.bytes.now)

pub loop-i-preserved : goal.loop-i-preserved
loop-i-preserved c =
    let i = c.loop-i.i in
    let bytes = c.args.bytes.now in
    ap (λ b. b && c.is_age-ages.result) c.loop-i.invariant
    ∙ ap (λ b. list_all (is_entry 2 c.args.cycle) (raw_entries 2 i bytes) && b)
    (c.is_age-ages.ensures ∙ age_test c.args.cycle c.min-latest.result (slice_index bytes (24 + i)) (omega (arith, c.type_inv.bytes (24 + i))) c.min-latest.ensures ∙ ap (is_entry 2 c.args.cycle) (sym (age_is i bytes)))
    ∙ sym (tests_more 2 c.args.cycle i bytes)
