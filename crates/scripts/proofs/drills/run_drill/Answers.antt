use Rattle.std.proofs.Common.{◌≡◌, ◌∙◌, List, ap, subst, sym}
use Rattle.air_history.specs.declared.histories.Event.{Event}
use Rattle.air_model.specs.declared.reports.CountsLine.{CountsLine}
use Rattle.air_model.specs.declared.reports.VerdictLine.{VerdictLine}
use Rattle.air_model.specs.Decks.{Deck, script_history}
use Rattle.air_model.specs.Outputs.{script_tape, true_sessions}
use Rattle.air_model.specs.Reports.{counts_lines, verdict_lines}
use Rattle.scripts.specs.DrillLines.{drill_line, drill_numbers, drill_output, script_line}
use Rattle.chunk_program.specs.Plans.{AreShort}
use Rattle.scripts.proofs.DrillTapes.{drill_short}
use Rattle.scripts.proofs.drills.run_drill.Goals as goal

-- What a deck's script came to is told by its line.
line_told : (deck : Deck) (H : List Event) (verdicts : List VerdictLine) (counts : List CountsLine) → H ≡ script_history deck
    → verdicts ≡ verdict_lines (true_sessions deck (script_history deck)) → counts ≡ counts_lines (true_sessions deck (script_history deck))
    → drill_line (drill_numbers deck H (script_tape deck) verdicts counts) ≡ script_line deck
line_told deck H verdicts counts ran judged counted =
    let sessions = true_sessions deck (script_history deck) in
    ap (λ h. drill_line (drill_numbers deck h (script_tape deck) verdicts counts)) ran
    ∙ ap (λ v. drill_line (drill_numbers deck (script_history deck) (script_tape deck) v counts)) judged
    ∙ ap (λ n. drill_line (drill_numbers deck (script_history deck) (script_tape deck) (verdict_lines sessions) n)) counted

pub plan_short-requires : goal.plan_short-requires
plan_short-requires c = subst AreShort (sym c.in_ok-deck.ensures) (drill_short c.args.seed c.args.size c.requires.some c.requires.few)

pub returns : goal.returns
unfolding drill_output
returns c =
    let deck = c.in_ok-planned.planned in
    let aired = c.in_ok-aired.aired in
    c.in_ok-text.ensures ∙ ap drill_line c.numbers_of.ensures
    ∙ line_told deck aired.events.items aired.sessions.verdicts.items aired.sessions.counts.items c.in_ok-aired.ensures.events c.in_ok-aired.ensures.verdicts c.in_ok-aired.ensures.counts
    ∙ ap script_line (c.in_ok-planned.ensures ∙ c.in_ok-deck.ensures)
