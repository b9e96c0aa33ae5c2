use Rattle.std.proofs.Common.{◌≡◌, ◌<◌, ◌+◌, ◌++◌, ◌∷◌, ◌∙◌, [], ap, arith, sym}
use Rattle.std.proofs.lemmas.List.{length-set}
use Rattle.air_base.specs.declared.limits.TheConstants.{MOST_UPDATERS}
use Rattle.air_report.specs.ReportLines.{ReportLines, commits_by, starts_in}
use Rattle.air_report.specs.declared.reading.lines.EventLine.TheVariants.{Commit}
use Rattle.air_report.proofs.LineRuleLemmas.{commits_more, starts_all}
use Rattle.air_report.proofs.reading.draft.ReportDraft.push_event.Goals as goal

pub invariant_of-self-in-Commit : goal.invariant_of-self-in-Commit
invariant_of-self-in-Commit c =
    let inv = c.self.invariant in let by = c.in-Commit.by in let seq = c.in-Commit.seq in let made = c.self.inside.made in let events = c.self.inside.lines.events in
    let can : (by < MOST_UPDATERS) × (seq ≡ commits_by by c.args.self.now.events) = rw c.in-Commit.is at c.requires in
    let last : commits_by by events ≡ seq = ap (λ (r : ReportLines). commits_by by r.events) c.self.view_is ∙ sym can.1 in
    let next : c.from.result + 1 ≡ seq + 1 = ap (λ n. n + 1) c.from.ensures in
    let grown : c.push_event.new.self.events ≡ events ++ Commit by seq ∷ [] = ap (λ (r : ReportLines). r.events) c.in_ok-push_event.ensures ∙ ap (λ e. events ++ e ∷ []) c.in-Commit.is in
    record {
      updaters = length-set made by (c.from.result + 1) ∙ inv.updaters;
      commits = λ k below. commits_more made events by seq k (c.from.result + 1) (omega (arith, can.0, inv.updaters)) (inv.commits k below) last next ∙ sym (ap (commits_by k) grown);
      starts = inv.starts ∙ sym (ap starts_in grown ∙ starts_all events (Commit by seq ∷ []) ∙ omega arith);
    }
