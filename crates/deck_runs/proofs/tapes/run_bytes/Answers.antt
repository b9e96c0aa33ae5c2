use Rattle.std.proofs.Common.{◌≡◌, length, sym, ap, subst, ◌∙◌}
use Rattle.air_base.specs.declared.verdicts.Form.{Form}
use Rattle.air_model.specs.declared.deck.Settings.{Settings}
use Rattle.air_model.specs.Aired.{air_of, slots_at}
use Rattle.air_model.specs.Decks.{Deck}
use Rattle.air_sender.specs.TapeSizes.{tape_size}
use Rattle.air_sender.proofs.PlannedTapes.{planned_size}
use Rattle.chunk_program.specs.Editions.{HaveItems, Plans, programs_in}
use Rattle.deck_runs.proofs.HeardRunLemmas.{run_sum}
use Rattle.deck_runs.proofs.tapes.run_bytes.Goals as goal

pub tape_bytes-requires-clause-items : goal.tape_bytes-requires-clause-items
tape_bytes-requires-clause-items c =
    let d = c.args.planned.now in
    let items : c.items.result ≡ length d.items = c.items.ensures.told ∙ ap (λ (d : Deck). length d.items) c.deck-deck.ensures.told in
    subst (λ (p : Plans). HaveItems c.items.result p.programs) (sym c.plans.ensures.told) (subst (λ n. HaveItems n (programs_in d)) (sym items) c.plans.ensures.items)

pub returns : goal.returns
returns c =
    let d = c.args.planned.now in
    let slots = slots_at (air_of d) in
    let v = c.own_form.result.version in
    let cycles = c.settings-cycles.result.cycles in
    let told = c.deck-deck.ensures.told in
    c.tape_bytes.ensures
    ∙ planned_size d c.plans.result.now v c.items.result cycles c.plans.ensures.told
    ∙ ap (λ n. tape_size v n slots cycles) (c.items.ensures.told ∙ ap (λ (d : Deck). length d.items) told)
    ∙ ap (λ (s : Settings). tape_size v (length d.items) slots s.cycles) (c.settings-cycles.ensures ∙ ap (λ (d : Deck). d.settings) told)
    ∙ ap (λ (f : Form). tape_size f.version (length d.items) slots d.settings.cycles) c.own_form.ensures.form
    ∙ sym (run_sum d)
