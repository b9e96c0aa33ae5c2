use Rattle.std.proofs.Common.{length, sym, subst, ap, ◌∙◌}
use Rattle.item_catalog.specs.DeckLimits.{script_starts}
use Rattle.air_base.specs.declared.verdicts.Form.{Form}
use Rattle.air_model.specs.Aired.{air_of, slots_at}
use Rattle.air_model.specs.Decks.{Deck}
use Rattle.chunk_program.specs.Editions.{HaveItems, Plans, programs_in}
use Rattle.air_sender.specs.TapeSizes.{tape_size}
use Rattle.air_sender.proofs.PlannedTapes.{planned_size}
use Rattle.air_sender.proofs.TapeSizes.{length-script_tape}
use Rattle.air_sender.proofs.script_tapes.tape_len.Goals as goal

pub tape_bytes-requires-clause-items : goal.tape_bytes-requires-clause-items
tape_bytes-requires-clause-items c =
    let d = c.args.planned.now in
    let items = c.items.ensures.told ∙ ap (λ (d : Deck). length d.items) c.deck-deck.ensures.told in
    subst (λ (p : Plans). HaveItems c.items.result p.programs) (sym c.plans.ensures.told) (subst (λ n. HaveItems n (programs_in d)) (sym items) c.plans.ensures.items)

pub returns : goal.returns
returns c =
    let d = c.args.planned.now in
    let items = c.items.ensures.told ∙ ap (λ (d : Deck). length d.items) c.deck-deck.ensures.told in
    let starts = c.script_starts.ensures.told ∙ ap script_starts c.deck-deck.ensures.told in
    let slots = slots_at (air_of d) in
    c.tape_bytes.ensures
    ∙ planned_size d c.plans.result.now c.own_form-form.result.version c.items.result c.script_starts.result c.plans.ensures.told
    ∙ ap (tape_size c.own_form-form.result.version c.items.result slots) starts
    ∙ ap (λ n. tape_size c.own_form-form.result.version n slots (script_starts d)) items
    ∙ ap (λ (form : Form). tape_size form.version (length d.items) slots (script_starts d)) c.own_form-form.ensures.form
    ∙ sym (length-script_tape d)
