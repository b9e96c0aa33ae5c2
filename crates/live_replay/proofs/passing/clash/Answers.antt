use Rattle.std.proofs.Common.{◌≡◌, Option, length, sym, subst, ◌∙◌}
use Rattle.std.specs.Prelude.{IfOk}
use Rattle.air_base.specs.declared.verdicts.Clash.{Clash}
use Rattle.air_model.specs.Aired.{scheme_in}
use Rattle.live_replay.specs.Findings.{place_of_line, places_read}
use Rattle.live_replay.proofs.PassLemmas.{clash_bare, clash_grouped}
use Rattle.live_replay.proofs.passing.clash.Goals as goal

pub returns-then-has_groups : goal.returns-then-has_groups
returns-then-has_groups c =
    let deck = c.args.replay.now.deck in
    subst (λ (o : Option Clash). IfOk c.clash_by_groups.result (λ clash. clash ≡ o))
    (clash_grouped (scheme_in deck) (length deck.items) c.args.replay.now.history (places_read c.args.held.now) (place_of_line c.args.read.now) (sym c.has_groups.ensures ∙ c.if-has_groups.true)) c.clash_by_groups.ensures

pub returns : goal.returns
returns c =
    let deck = c.args.replay.now.deck in
    subst (λ (o : Option Clash). IfOk c.clash_by_policy.result (λ clash. clash ≡ o))
    (clash_bare (scheme_in deck) (length deck.items) c.args.replay.now.history (places_read c.args.held.now) (place_of_line c.args.read.now) (sym c.has_groups.ensures ∙ c.if-has_groups.false)) c.clash_by_policy.ensures
