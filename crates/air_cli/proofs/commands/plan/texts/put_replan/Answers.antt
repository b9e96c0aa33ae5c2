use Rattle.std.proofs.Common.{◌≡◌, length, sym, ap, subst, arith}
use Rattle.std.specs.List.{slice_get}
use Rattle.std.specs.Prelude.{IfSome}
use Rattle.air_model.specs.Decks.{Deck, Replan}
use Rattle.air_report.specs.RowWriters.{written_text}
use Rattle.air_cli.proofs.PlanLemmas.{replan_is}
use Rattle.air_cli.proofs.commands.plan.texts.put_replan.Goals as goal

pub replan-requires : goal.replan-requires
replan-requires c = omega (arith, ap (λ (d : Deck). length d.replans) c.deck-deck.ensures.told, c.requires.replan)

pub returns-clause-text : goal.returns-clause-text
returns-clause-text c =
    let k = c.args.k in
    let cycle = c.cycle.result in
    let own = subst (λ o. IfSome o (λ (r : Replan). cycle ≡ r.cycle)) (sym c.replan.ensures) c.cycle.ensures.told in
    let told = subst (λ (deck : Deck). IfSome (slice_get deck.replans k) (λ r. cycle ≡ r.cycle)) c.deck-deck.ensures.told own in
    replan_is c.args.planned.now k cycle (written_text c.args.wtr.now) (written_text c.add_numbers.new.wtr) (written_text c.put_edition.new.wtr) told c.requires.replan
    (rw (c.from.ensures, c.from-2.ensures) at c.in_ok-add_numbers.ensures.text) c.in_ok-put_edition.ensures.text
