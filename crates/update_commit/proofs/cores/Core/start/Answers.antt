use Rattle.std.proofs.Common.{◌≡◌, ◌+◌, ◌≤◌, List, [], ◌∷◌, ◌++◌, length, drop, All, sym, ap, ◌∙◌, subst, arith}
use Rattle.std.proofs.lemmas.List.Elements.{All-push}
use Rattle.air_history.specs.declared.histories.Event.{Event}
use Rattle.air_history.specs.declared.histories.Event.TheVariants.{Start}
use Rattle.air_history.specs.Histories.{starts, since_start, EventFits}
use Rattle.air_history.specs.Tables.{table, values_of}
use Rattle.air_model.specs.Decks.{count_made}
use Rattle.update_commit.proofs.EventLemmas.{starts_start, made_start, fresh_start}
use Rattle.update_commit.proofs.StepLemmas.{values_start, start_fits}
use Rattle.update_commit.proofs.cores.Core.start.Goals as goal

pub invariant_of-self : goal.invariant_of-self
invariant_of-self c =
    let v = c.self.invariant in
    let G = c.self.inside.events.items in
    let first = c.self.inside.first_values.items in
    let fit = EventFits (length c.self.inside.made.items) (length first) in
    let pushed : c.push_reserved.new.self.items ≡ c.self.inside.events.items ++ Start ∷ [] = c.push_reserved.ensures.items in
    let end : c.len-self-inside.result ≡ length c.push_reserved.new.self.items = c.len-self-inside.ensures ∙ c.push_reserved.new.self.ok.0 in
    let past : length (c.self.inside.events.items ++ Start ∷ []) ≤ c.len-self-inside.result = let p = ap length pushed in omega arith in
    record {
      sized = v.sized;
      values = λ i. values_start first c.self.inside.values.items G v.values i ∙ ap (λ (H : List Event). table (values_of first) H i) (sym pushed);
      made = λ by l. v.made by l ∙ sym (made_start by G) ∙ ap (count_made by) (sym pushed);
      cycle = ap (λ n. n + 1) v.cycle ∙ sym (starts_start G) ∙ ap starts (sym pushed);
      marked = omega arith;
      fresh = ap (drop c.len-self-inside.result) pushed ∙ fresh_start G c.len-self-inside.result past ∙ ap since_start (sym pushed);
      fits = subst (All fit) (sym pushed) (All-push fit G Start v.fits (start_fits (length c.self.inside.made.items) (length first)));
    }

pub returns-clause-cycle : goal.returns-clause-cycle
returns-clause-cycle c = ap (λ n. n + 1) c.self.invariant.cycle ∙ sym (starts_start c.self.inside.events.items) ∙ ap starts (sym c.push_reserved.ensures.items)
