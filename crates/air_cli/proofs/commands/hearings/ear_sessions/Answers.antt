use Rattle.std.proofs.Common.{rules, ◌≡◌, ◌<◌, ◌^◌, ◌∙◌, All, Err, length, map, refl, ap, sym, subst, arith}
use Rattle.std.specs.List.{range_with_len}
use Rattle.air_devices.specs.Counts.{Rose}
use Rattle.air_model.specs.Buckets.{bucket_in}
use Rattle.air_model.specs.Decks.{Deck}
use Rattle.air_model.specs.Reports.{counts_lines, verdict_lines}
use Rattle.listeners.specs.Listeners.{AreNumbered, end_state, hears}
use Rattle.deck_runs.proofs.CastLemmas.{passed_on}
use Rattle.listeners.proofs.ReaderLemmas.{HasRoom, are_numbered, room_at_first, sessions_are}
use Rattle.air_cli.specs.Hearings.{IsHearAnswer, IsHeardOnEar, TakesUpTo}
use Rattle.air_cli.specs.declared.commands.hearings.HearFault.TheVariants as fault
use Rattle.air_cli.proofs.EarLemmas.{just_taken}
use Rattle.air_cli.proofs.commands.hearings.ear_sessions.Goals as goal

pub all_hear_ear-requires-clause-counts : goal.all_hear_ear-requires-clause-counts
all_hear_ear-requires-clause-counts g c =
    let deck = c.args.planned.now in
    let n = c.settings-hears.result.hears in
    let most = c.deck.ensures.limits.settings.hears in
    let same = ap (λ s. s.hears) c.settings-hears.ensures ∙ ap (λ (d : Deck). d.settings.hears) c.deck.ensures.told in
    let few : n < 2 ^ 64 = omega (arith, same, most) in
    subst (All (HasRoom n)) (sym c.in_ok-listeners.ensures) (room_at_first deck n (range_with_len 0 (length deck.readers)) few)

pub end_all-requires : goal.end_all-requires
end_all-requires g c =
    let deck = c.args.planned.now in
    let h = c.in_ok-heard.ensures.heard in
    let members = map bucket_in h.heard in
    subst AreNumbered (sym (h.same ∙ ap (map (hears members)) c.in_ok-listeners.ensures)) (are_numbered deck members)

pub returns-in_err-sessions-clause-fault : goal.returns-in_err-sessions-clause-fault
returns-in_err-sessions-clause-fault g c =
    let E = g.E.Ear in
    let most = c.args.planned.now.settings.hears in
    let old = E.state c.args.ear.now in
    let tuned = E.state c.tune_in.new.self in
    let new = E.state c.all_hear_ear.new.ear in
    let calm : tuned.faults ≡ old.faults = search rules in
    let heard = c.in_ok-heard.ensures.heard in
    let hears = ap (λ s. s.hears) c.settings-hears.ensures ∙ ap (λ (d : Deck). d.settings.hears) c.deck.ensures.told in
    let taken : TakesUpTo most old.told new.told = subst (λ n. TakesUpTo n old.told new.told) hears (subst (λ o. TakesUpTo c.settings-hears.result.hears o new.told) c.tune_in.ensures.kept heard.is.taken) in
    let h : IsHearAnswer most old new fault.NoMemory = (c.in_ok-heard.ensures.calm ∙ calm, just_taken most old.told new.told taken) in
    search (rules, h)

pub returns-clause-sessions : goal.returns-clause-sessions
returns-clause-sessions g c =
    let E = g.E.Ear in
    let deck = c.args.planned.now in
    let h = c.in_ok-heard.ensures.heard in
    let old = (E.state c.args.ear.now).told in
    let last = (E.state c.all_hear_ear.new.ear).told in
    let heard = h.same ∙ ap (map (hears (map bucket_in h.heard))) c.in_ok-listeners.ensures in
    let hears = ap (λ s. s.hears) c.settings-hears.ensures ∙ ap (λ (d : Deck). d.settings.hears) c.deck.ensures.told in
    record {
      heard = h.heard;
      is = subst (λ n. IsHeardOnEar n old last h.heard) hears (subst (λ o. IsHeardOnEar c.settings-hears.result.hears o last h.heard) c.tune_in.ensures.kept h.is);
      verdicts_are = c.in_ok-sessions.ensures.verdicts ∙ ap (λ ls. verdict_lines (map end_state ls)) heard ∙ ap verdict_lines (sessions_are deck h.heard);
      counts_are = c.in_ok-sessions.ensures.counts ∙ ap (λ ls. counts_lines (map end_state ls)) heard ∙ ap counts_lines (sessions_are deck h.heard);
    }

pub returns-then-is_err-clause-first : goal.returns-then-is_err-clause-first
returns-then-is_err-clause-first g c = λ heard is.
    let E = g.E.Ear in
    let rose : Rose (E.state c.args.ear.now).faults (E.state c.tune_in.new.self).faults = search rules in
    record { just_before = c.args.ear.now; calm = refl; rose = rose; kept = c.tune_in.ensures.kept }

pub returns-in_err-heard-clause-first : goal.returns-in_err-heard-clause-first
returns-in_err-heard-clause-first g c = λ heard is.
    let E = g.E.Ear in
    let calm : (E.state c.tune_in.new.self).faults ≡ (E.state c.args.ear.now).faults = search rules in
    let e = c.in_err-heard.field-0.0 in
    let first = c.in_err-heard.ensures.first heard (ap Err (passed_on e (fault.Ear heard) _ c.from_residual-in_err-heard.ensures.1 is)) in
    record { just_before = first.just_before; calm = first.calm ∙ calm; rose = first.rose; kept = first.kept }
