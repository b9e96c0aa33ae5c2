use Rattle.std.proofs.Common.{◌≡◌, ◌⊎◌, ◌∙◌, sym, ap, subst}
use Rattle.air_base.specs.declared.verdicts.Form.{Form}
use Rattle.air_model.specs.declared.deck.Settings.{Settings}
use Rattle.air_model.specs.Decks.{Deck}
use Rattle.air_sender.proofs.forms.own_form.Goals as goal

pub returns-clause-form : goal.returns-clause-form
returns-clause-form c =
    ap (λ (s : Settings). let form : Form = record { policy = s.policy; version = s.version } in form) (c.settings-set.ensures ∙ ap (λ (d : Deck). d.settings) c.deck.ensures.told)

pub returns-clause-version : goal.returns-clause-version
returns-clause-version c =
    subst (λ (s : Settings). (s.version ≡ 1) ⊎ (s.version ≡ 2)) (sym (c.settings-set.ensures ∙ ap (λ (d : Deck). d.settings) c.deck.ensures.told)) c.deck.ensures.made.version
