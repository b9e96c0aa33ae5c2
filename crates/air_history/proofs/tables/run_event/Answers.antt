use Rattle.std.proofs.Common.{sym, ap, ◌∙◌, subst, length}
use Rattle.air_history.specs.Histories.{ItemsFit}
use Rattle.air_history.specs.Tables.{value_after, values_of}
use Rattle.air_history.proofs.WriteLemmas.{put_commit, put_start}
use Rattle.air_history.proofs.tables.run_event.Goals as goal

pub run_update-requires : goal.run_update-requires
unfolding ItemsFit
run_update-requires c = subst (ItemsFit (length c.args.values.now)) c.in-Commit.is c.requires

pub returns-in-Commit : goal.returns-in-Commit
returns-in-Commit c = λ i. c.run_update.ensures i ∙ put_commit (values_of c.args.values.now) c.in-Commit.by c.in-Commit.seq c.in-Commit.update i ∙ ap (λ e. value_after (values_of c.args.values.now) e i) (sym c.in-Commit.is)

pub returns-in-Start : goal.returns-in-Start
returns-in-Start c = λ i. put_start (values_of c.args.values.now) i ∙ ap (λ e. value_after (values_of c.args.values.now) e i) (sym c.in-Start.is)
