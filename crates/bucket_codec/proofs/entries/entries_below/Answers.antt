use Rattle.std.proofs.Common.{◌&&◌, ◌∙◌, nat_lt, sym, ap}
use Rattle.std.specs.List.{list_all}
use Rattle.air_model.specs.Buckets.{is_entry, raw_entries}
use Rattle.bucket_codec.proofs.EntryLemmas.{test_in_full, tests_more, tests_none}
use Rattle.bucket_codec.proofs.entries.entries_below.Goals as goal

pub loop-i-init : goal.loop-i-init
loop-i-init c = sym (tests_none 1 c.args.cycle c.args.bytes.now)

pub loop-i-preserved : goal.loop-i-preserved
loop-i-preserved c =
    ap (λ b. b && nat_lt c.entry_at.result c.args.cycle) c.loop-i.invariant
    ∙ ap (λ b. list_all (is_entry 1 c.args.cycle) (raw_entries 1 c.loop-i.i c.args.bytes.now) && b) (ap (λ e. nat_lt e c.args.cycle) c.entry_at.ensures ∙ sym (test_in_full c.args.cycle _))
    ∙ sym (tests_more 1 c.args.cycle c.loop-i.i c.args.bytes.now)
