use Rattle.std.proofs.Common.{rules, ◌≡◌, ◌<◌, List, [], length, get_or, All, replicate, sym, ap, ◌∙◌, subst, arith}
use Rattle.std.proofs.lemmas.List.{get_or-replicate, length-replicate}
use Rattle.std.proofs.lemmas.List.Elements.{All-nil}
use Rattle.air_history.specs.declared.histories.Event.{Event}
use Rattle.air_history.specs.Histories.{starts, since_start, EventFits}
use Rattle.air_history.specs.Tables.{table, values_of}
use Rattle.air_history.proofs.WriteLemmas.{run_none}
use Rattle.air_model.specs.Decks.{count_made}
use Rattle.update_commit.proofs.EventLemmas.{starts_none, since_none}
use Rattle.update_commit.proofs.cores.Core.new.Goals as goal

pub invariant_of-result : goal.invariant_of-result
invariant_of-result c =
    let first : c.in_ok-to_vec.field-0.items ≡ c.args.values.now = search rules in
    let same : c.in_ok-to_vec-2.field-0.items ≡ c.args.values.now = search rules in
    let zeros : c.in_ok-vec.field-0.items ≡ replicate c.args.updaters 0 = search rules in
    let none : c.new.result.items ≡ [] = c.new.ensures.items in
    record {
      sized = ap length (same ∙ sym first);
      values = λ i. ap (λ l. get_or l i 0) (same ∙ sym first) ∙ run_none c.in_ok-to_vec.field-0.items i ∙ ap (λ (G : List Event). table (values_of c.in_ok-to_vec.field-0.items) G i) (sym none);
      made = λ by l. let within : by < c.args.updaters = let n : length c.in_ok-vec.field-0.items ≡ c.args.updaters = ap length zeros ∙ length-replicate c.args.updaters 0 in omega arith in
          ap (λ l. get_or l by 0) zeros ∙ get_or-replicate c.args.updaters by 0 0 within ∙ ap (count_made by) (sym none);
      cycle = sym starts_none ∙ ap starts (sym none);
      marked = omega arith;
      fresh = none ∙ sym since_none ∙ ap since_start (sym none);
      fits = subst (All (EventFits (length c.in_ok-vec.field-0.items) (length c.in_ok-to_vec.field-0.items))) (sym none) (All-nil (EventFits (length c.in_ok-vec.field-0.items) (length c.in_ok-to_vec.field-0.items)));
    }
