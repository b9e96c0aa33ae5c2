use Rattle.bucket_codec.proofs.EntryLemmas.{age_none, age_some}
use Rattle.std.proofs.Common.{rules, ◌∙◌}
use Rattle.bucket_codec.proofs.entries.age_in.Goals as goal

pub returns-then-entry-eq0 : goal.returns-then-entry-eq0
returns-then-entry-eq0 c = age_none c.args.cycle c.args.entry (search rules)

pub returns-else-entry-eq0 : goal.returns-else-entry-eq0
returns-else-entry-eq0 c = c.min-age.ensures ∙ age_some c.args.cycle c.args.entry (search rules)
