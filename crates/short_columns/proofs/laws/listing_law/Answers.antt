use Rattle.short_columns.proofs.ListingLemmas.{entries_back, listed_rise, pairs_back}
use Rattle.short_columns.proofs.laws.listing_law.Goals as goal

pub returns-clause-entries_back : goal.returns-clause-entries_back
returns-clause-entries_back c = entries_back

pub returns-clause-pairs_back : goal.returns-clause-pairs_back
returns-clause-pairs_back c = pairs_back

pub returns-clause-rise : goal.returns-clause-rise
returns-clause-rise c = listed_rise
