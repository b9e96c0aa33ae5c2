-- A run after one more event: what the event airs, and that readers who were given what was aired before can hear it.
-- The steps of `piece_runs` cite these.
use Rattle.std.proofs.Common.{◌≡◌, ◌+◌, ◌≤◌, Bool, true, false, cond, List, [], ◌∷◌, ◌++◌, length, refl, sym, ◌∙◌, ap, subst, arith}
use Rattle.air_history.specs.declared.histories.Event.{Event}
use Rattle.air_history.specs.declared.histories.Event.TheVariants.{Start}
use Rattle.air_history.specs.Histories.{starts}
use Rattle.air_model.specs.AiredLaws.{CanAir}
use Rattle.air_model.specs.Decks.{Deck, script_history}
use Rattle.air_model.specs.Outputs.{script_tape}
use Rattle.air_sender.specs.AiredBytes.{aired_bytes}
use Rattle.air_sender.proofs.AiredLemmas.{commit_aired, start_event, starts_more}
use Rattle.listeners.specs.declared.hearers.Hearers.{Hearers}
use Rattle.listeners.specs.declared.readers.TheConstants.{MOST_TAPE_RECORDS}
use Rattle.listeners.specs.Hearings.{AreHearing, CanHearAfter}
use Rattle.listeners.proofs.HistoryLemmas.{begins_airing, begins_few, few_aired}
use Rattle.scripts.specs.declared.piece_runs.PieceRun.{PieceRun}
use Rattle.scripts.specs.Private.RunSteps.{HasRun}

module _ (deck : Deck) (before : List Event) (started : Bool) (r : PieceRun) (ran : HasRun deck before started r) where
  -- There is a cycle more if so told.
  pub starts_told : starts r.events.items ≡ starts before + cond started 1 0
  starts_told = ap starts ran.one ∙ starts_more before ran.event ∙ ap (λ (b : Bool). starts before + cond b 1 0) (sym ran.told)

  -- The event is a start if so told,
  pub start_ran : started ≡ true → r.events.items ≡ before ++ Start ∷ []
  start_ran start = ran.one ∙ ap (λ e. before ++ e ∷ []) (start_event ran.event (sym ran.told ∙ start))

  -- or else nothing is aired.
  pub commit_ran : started ≡ false → aired_bytes deck before ≡ aired_bytes deck r.events.items
  commit_ran commit = commit_aired deck before ran.event (aired_bytes deck before) (sym ran.told ∙ commit) refl ∙ ap (aired_bytes deck) (sym ran.one)

  -- Readers can hear a cycle of the script.
  pub can_hear : (hearers : Hearers) → started ≡ true → CanAir deck (script_history deck) → length (script_tape deck) ≤ 1073741824 → AreHearing deck (aired_bytes deck before) hearers → CanHearAfter deck before hearers
  can_hear hearers start can few heard =
      let H = script_history deck in
      let k = length r.events.items in
      let is = start_ran start in
      let all : length (aired_bytes deck H) ≤ MOST_TAPE_RECORDS = omega (arith, few_aired deck H few) in
      let begun = sym ran.kept.begun ∙ is in
      record {
        can = subst (CanAir deck) begun (begins_airing deck H k can);
        few = subst (λ G. length (aired_bytes deck G) ≤ MOST_TAPE_RECORDS) begun (begins_few deck H k all);
        heard = heard;
      }
