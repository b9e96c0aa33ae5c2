use Rattle.std.proofs.Common.{◌∙◌, map, ap, subst, sym}
use Rattle.air_model.specs.Reports.{counts_lines, verdict_lines}
use Rattle.listeners.specs.Listeners.{AreNumbered, end_state}
use Rattle.listeners.proofs.together.Together.end.Goals as goal

pub end_all-requires : goal.end_all-requires
end_all-requires c = subst AreNumbered (sym (c.in_ok-listeners.ensures ∙ c.self.view_is)) c.requires

pub returns : goal.returns
returns c = record {
  verdicts = c.in_ok-sessions.ensures.verdicts ∙ ap (λ ls. verdict_lines (map end_state ls)) (c.in_ok-listeners.ensures ∙ c.self.view_is);
  counts = c.in_ok-sessions.ensures.counts ∙ ap (λ ls. counts_lines (map end_state ls)) (c.in_ok-listeners.ensures ∙ c.self.view_is);
}
