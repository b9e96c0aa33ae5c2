use Rattle.std.proofs.Common.{◌∙◌, map, ap, subst, sym}
use Rattle.air_model.specs.Reports.{counts_lines, verdict_lines}
use Rattle.listeners.specs.Hearings.{AreHearing}
use Rattle.listeners.specs.Listeners.{AreNumbered, end_state}
use Rattle.listeners.proofs.RunLemmas.{ethers_in, numbered_over, sessions_over_each}
use Rattle.listeners.proofs.TogetherLemmas.{together_over}
use Rattle.listeners.proofs.hearers.Hearers.end.Goals as goal

pub end_all-requires : goal.end_all-requires
end_all-requires c =
    let deck = c.requires.0 in
    let pushed = c.requires.1 in
    subst AreNumbered (sym (together_over deck pushed c.in-Together.listeners.items (subst (AreHearing deck pushed) c.in-Together.is c.requires.2))) (numbered_over deck (ethers_in deck pushed))

pub returns-in_ok-sessions-in-Together : goal.returns-in_ok-sessions-in-Together
returns-in_ok-sessions-in-Together c = record {
  verdicts = λ deck pushed h.
      let heard = subst (AreHearing deck pushed) c.in-Together.is h in
      c.in_ok-sessions-in-Together.ensures.verdicts ∙ ap (λ ls. verdict_lines (map end_state ls)) (together_over deck pushed c.in-Together.listeners.items heard) ∙ ap verdict_lines (sessions_over_each deck (ethers_in deck pushed));
  counts = λ deck pushed h.
      let heard = subst (AreHearing deck pushed) c.in-Together.is h in
      c.in_ok-sessions-in-Together.ensures.counts ∙ ap (λ ls. counts_lines (map end_state ls)) (together_over deck pushed c.in-Together.listeners.items heard) ∙ ap counts_lines (sessions_over_each deck (ethers_in deck pushed));
}

pub end-requires : goal.end-requires
end-requires c = (c.requires.0, c.requires.1, subst (AreHearing c.requires.0 c.requires.1) c.in-Apart.is c.requires.2, c.requires.3)

pub returns-in-Apart : goal.returns-in-Apart
returns-in-Apart c = record {
  verdicts = λ deck pushed h. c.end.ensures.verdicts deck pushed (subst (AreHearing deck pushed) c.in-Apart.is h);
  counts = λ deck pushed h. c.end.ensures.counts deck pushed (subst (AreHearing deck pushed) c.in-Apart.is h);
}
