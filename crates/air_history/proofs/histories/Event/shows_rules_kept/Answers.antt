use Rattle.std.proofs.Common.{sym, subst}
use Rattle.air_history.specs.Tables.{BasesRead}
use Rattle.air_history.proofs.UpdateRuleLemmas.{bases_read}
use Rattle.air_history.proofs.histories.Event.shows_rules_kept.Goals as goal

pub returns-in-Commit : goal.returns-in-Commit
returns-in-Commit c = subst BasesRead (sym c.in-Commit.is) (bases_read c.in-Commit.by c.in-Commit.seq c.in-Commit.update c.shows_rules_kept.ensures)

pub returns-in-Start : goal.returns-in-Start
unfolding BasesRead
returns-in-Start c = subst BasesRead (sym c.in-Start.is) tt
