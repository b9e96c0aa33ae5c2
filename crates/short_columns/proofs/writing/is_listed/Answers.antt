use Rattle.short_columns.proofs.WriteLemmas.{listed_test}
use Rattle.short_columns.proofs.writing.is_listed.Goals as goal

pub returns : goal.returns
returns c = listed_test c.args.cycle c.args.entry c.saturating_sub.result c.saturating_sub.ensures
