use Rattle.std.proofs.Common.{◌+◌, ◌∙◌, ◌∷◌, [], Some, ap, arith, length, get_or, sym}
use Rattle.std.proofs.Common.{length-append}
use Rattle.std.proofs.lemmas.List.{length-set}
use Rattle.air_model.specs.Decks.{scripted_commits}
use Rattle.item_catalog.specs.Faults.{count_starts}
use Rattle.item_catalog.proofs.ScriptLemmas.{commit_fits, commits_more, starts_all}
use Rattle.item_catalog.proofs.scripts.Script.commit.Goals as goal

pub invariant_of-self-2 : goal.invariant_of-self-2
invariant_of-self-2 c =
    let items = c.in_ok-push.ensures.items in let inv = c.self.invariant in let script = c.self.inside.events.items in let by = c.args.by in
    let fits = commit_fits script by (rw (← c.self.view_is) at c.requires) in
    record {
      few = omega (arith, ap length items, length-append script (Some by ∷ []), fits.1);
      starts = inv.starts ∙ sym (ap count_starts items ∙ starts_all script (Some by ∷ []) ∙ omega arith);
      few_starts = inv.few_starts;
      updaters = length-set c.self.inside.commits by (get_or c.self.inside.commits by 0 + 1) ∙ inv.updaters;
      commits = λ k below. commits_more c.self.inside.commits script by k (omega (arith, fits.0, inv.updaters)) (inv.commits k below) (inv.commits by fits.0) ∙ sym (ap (scripted_commits k) items);
    }
