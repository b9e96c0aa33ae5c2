use Rattle.std.proofs.Common.{length, sym, subst, ap, ◌∙◌}
use Rattle.air_history.specs.Histories.{starts}
use Rattle.air_base.specs.declared.verdicts.Form.{Form}
use Rattle.air_index.specs.IndexedTapes.{indexed_size}
use Rattle.air_index.proofs.CountLemmas.{history_len}
use Rattle.air_model.specs.Decks.{Deck, script_history}
use Rattle.air_sender.proofs.TapeSizes.{starts_script}
use Rattle.chunk_program.specs.Editions.{HaveItems, Plans, plans_in, programs_in}
use Rattle.item_catalog.specs.DeckLimits.{script_starts}
use Rattle.air_cli.proofs.commands.beam.beam_len.Goals as goal

pub beam_bytes-requires-clause-items : goal.beam_bytes-requires-clause-items
beam_bytes-requires-clause-items c =
    let d = c.args.planned.now in
    let items = c.items.ensures.told ∙ ap (λ (d : Deck). length d.items) c.deck-deck.ensures.told in
    subst (λ (p : Plans). HaveItems c.items.result p.programs) (sym c.plans.ensures.told) (subst (λ n. HaveItems n (programs_in d)) (sym items) c.plans.ensures.items)

pub returns : goal.returns
returns c =
    let d = c.args.planned.now in
    let items = c.items.ensures.told ∙ ap (λ (d : Deck). length d.items) c.deck-deck.ensures.told in
    let cycles = c.script_starts.ensures.told ∙ ap script_starts c.deck-deck.ensures.told ∙ sym (starts_script d) in
    let version = c.own_form-form.result.version in
    c.beam_bytes.ensures
    ∙ ap (λ p. indexed_size version c.items.result p c.script_starts.result) c.plans.ensures.told
    ∙ ap (indexed_size version c.items.result (plans_in d)) cycles
    ∙ ap (λ n. indexed_size version n (plans_in d) (starts (script_history d))) items
    ∙ ap (λ (form : Form). indexed_size form.version (length d.items) (plans_in d) (starts (script_history d))) c.own_form-form.ensures.form
    ∙ sym (history_len d (script_history d))
