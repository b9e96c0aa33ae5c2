use Rattle.std.proofs.Common.{◌∷◌, [], ◌++◌, ◌∙◌, ℕ, List, map, ap}
use Rattle.air_base.specs.declared.verdicts.Counts.{Counts}
use Rattle.air_model.specs.declared.reports.CountsLine.{CountsLine}
use Rattle.air_model.specs.Reports.{line_by}
use Rattle.air_model.specs.Sessions.{SessionLine}
use Rattle.listeners.specs.Listeners.{Listener, end_state}
use Rattle.listeners.proofs.listener.Listener.end.Goals as goal

pub returns : goal.returns
returns c =
    let told = c.in_ok-lines.ensures in
    let number = ap (λ (l : Listener). l.number) c.self.view_is in
    let verdicts = c.args.sessions.verdicts.items in
    let line : ℕ → Counts → List CountsLine = λ reader counts. let l : CountsLine = record { reader = reader; counts = counts } in c.args.sessions.counts.items ++ l ∷ [] in
    record {
      verdicts = c.in_ok-add_lines.ensures ∙ ap (λ (p : List SessionLine × Counts). verdicts ++ map (line_by c.self.inside.number) p.0) told
          ∙ ap (λ n. verdicts ++ map (line_by n) (end_state c.args.self).lines) number;
      counts = c.in_ok-push.ensures.items ∙ ap (λ (p : List SessionLine × Counts). line c.self.inside.number p.1) told ∙ ap (λ n. line n (end_state c.args.self).counts) number;
    }
