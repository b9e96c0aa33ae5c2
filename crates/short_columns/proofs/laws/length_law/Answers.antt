use Rattle.std.proofs.Common.{◌≤◌, ◌∙◌, length, ap, sym, subst}
use Rattle.short_columns.proofs.ByteLemmas.{length_spelling}
use Rattle.short_columns.proofs.ListingLemmas.{entry_unlisted, length_unlisted, listed_count, listed_few, listed_is}
use Rattle.short_columns.proofs.laws.length_law.Goals as goal

pub returns-clause-listed : goal.returns-clause-listed
returns-clause-listed c = λ es. subst (λ l. length l ≤ length es) (sym (listed_is es)) (listed_few 0 es)

pub returns-clause-count : goal.returns-clause-count
returns-clause-count c = λ es. ap length (listed_is es) ∙ listed_count 0 es

pub returns-clause-unlisted : goal.returns-clause-unlisted
returns-clause-unlisted c = length_unlisted

pub returns-clause-spelling : goal.returns-clause-spelling
returns-clause-spelling c = length_spelling

pub returns-clause-entry : goal.returns-clause-entry
returns-clause-entry c = λ n item pairs below. entry_unlisted n item pairs below
