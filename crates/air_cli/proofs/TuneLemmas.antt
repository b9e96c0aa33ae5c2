-- What the proofs of `tune` need of its definitions.
use Rattle.std.proofs.Common.{◌≡◌, ℕ, ◌≤◌, List, [], length, None, Some, refl, sym, ap, ◌∙◌, subst, inl, inr}
use Rattle.air_base.specs.declared.limits.TheConstants.{MOST_TAPE_BYTES}
use Rattle.air_devices.specs.Counts.{KeepsCounts, NoCountFalls}
use Rattle.air_devices.specs.Unchanged.{KeepsButPrinted}
use Rattle.air_devices.specs.Shelves.{ShelfState}
use Rattle.air_report.specs.declared.status.Status.{Status}
use Rattle.air_report.specs.declared.status.Status.TheVariants as status
use Rattle.air_devices.specs.WhatIsTold.{ToldIs, WhereTold}
use Rattle.air_model.specs.declared.reports.CountsLine.{CountsLine}
use Rattle.air_model.specs.declared.reports.VerdictLine.{VerdictLine}
use Rattle.air_model.specs.Aired.{scheme_in}
use Rattle.air_model.specs.Decks.{Deck}
use Rattle.air_model.specs.Judges.{by_entries}
use Rattle.air_model.specs.Outputs.{sessions_over, tune_output}
use Rattle.air_model.specs.Reports.{Report, report_text, verdict_lines}
use Rattle.air_model.specs.Tapes.{tape_read}
use Rattle.chunk_program.specs.Plans.{AreShort}
use Rattle.air_cli.specs.NamedDecks.{DeckCause, HasDeck}
use Rattle.air_cli.specs.RunnableDecks.{UnrunnableCause}
use Rattle.air_cli.specs.NamedFiles.{HasBytes, UnreadCause}
use Rattle.item_catalog.proofs.GrammarLemmas.{one_deck}
use Rattle.air_cli.specs.Tune.{TuneCause, tune_meaning}
use Rattle.air_cli.specs.Answers.{InputFailed}
use Rattle.air_cli.proofs.CauseLemmas.{OfDeck, of_bytes, of_had}
use Rattle.air_cli.proofs.AnswerLemmas.{only_text}
use Rattle.air_cli.proofs.ReadLemmas.{unread_since}
use Rattle.air_cli.proofs.RefusalLemmas.{IsSound, unrunnable_still, unread_still}
use Rattle.listeners.specs.declared.readers.Sessions.{Sessions}
use Rattle.air_cli.specs.HeardTapes.{AreFileSessions, UnheardCause}
use Rattle.air_cli.specs.ReportsAndTapes.{ReportAndTape}
use Rattle.air_cli.specs.Tune.{IsTuned, TuneGives, tune_given}
use Rattle.air_cli.specs.Truths.{IsTrueTape}
use Rattle.air_cli.specs.ToldInputs.{TellSameInputs, TellsInputs}
use Rattle.air_cli.specs.Answers.{NoCountRose}
use Rattle.air_cli.proofs.InputLemmas.{CommandFacts, deck_told, of_told, runs_fits, unread_fits}

-- If the deck can't be run, the tape isn't heard.
pub unrunnable_tune : (deck tape : List ℕ) (before now : ShelfState) (s : Status) → UnrunnableCause deck before now s → TuneCause deck tape before now s
unfolding TuneCause UnrunnableCause DeckCause UnreadCause
unrunnable_tune deck tape before now (status.TapeCut at) h = absurd h
unrunnable_tune deck tape before now s h = inl h

-- A tape that can't be heard gives no report.
pub unheard_tune : (deck tape : List ℕ) (before now : ShelfState) (s : Status) → HasDeck deck before AreShort → UnheardCause tape MOST_TAPE_BYTES before now s → TuneCause deck tape before now s
unfolding TuneCause UnheardCause
unheard_tune deck tape before now (status.TapeCut at) can h = (can, h)
unheard_tune deck tape before now s can h = inr (can, h)

-- Why a tape wasn't heard, stated for the moment before the deck was read.
pub unheard_since : (tape : List ℕ) (most : ℕ) (before mid now : ShelfState) (s : Status) → mid.told.file tape ≡ before.told.file tape → KeepsCounts before.faults mid.faults
    → UnheardCause tape most mid now s → UnheardCause tape most before now s
unfolding UnheardCause
unheard_since tape most before mid now (status.TapeCut at) same calm (bytes, known, cut) = (bytes, subst (λ file. ToldIs file bytes) same known, cut)
unheard_since tape most before mid now s same calm h = unread_since tape most before mid now s same calm h

-- The report over the whole tape that was heard is the one over the named tape.
pub of_heard : (tape : List ℕ) (before mid : ShelfState) (d : Deck) (text : List ℕ)
    → HasBytes tape mid (λ bytes. (length bytes ≤ MOST_TAPE_BYTES) × ((tape_read bytes).cut ≡ None) × (text ≡ tune_output d (tape_read bytes).records))
    → mid.told.file tape ≡ before.told.file tape → ((records : List (List ℕ)) → IsTrueTape d records) → HasBytes tape before (IsTuned d (only_text text))
of_heard tape before mid d text (bytes, told, (fits, whole, is)) same true_is = (
  bytes,
  subst (λ file. ToldIs file bytes) same told,
  record { fits = fits; whole = whole; true_is = true_is (tape_read bytes).records; given_is = ap only_text is },
)

-- The report of the sessions over its records.
pub heard_text : (tape : List ℕ) (shelf : ShelfState) (d : Deck) (sessions : Sessions) (text : List ℕ) → (heard : AreFileSessions tape MOST_TAPE_BYTES shelf d sessions)
    → text ≡ report_text (record { history = []; verdicts = sessions.verdicts.items; counts = sessions.counts.items; glances = []; looks = [] })
    → text ≡ tune_output d (tape_read heard.bytes).records
heard_text tape shelf d sessions text heard is =
    is ∙ ap (λ (v : List VerdictLine). let r : Report = record { history = []; verdicts = v; counts = sessions.counts.items; glances = []; looks = [] } in report_text r) heard.verdicts
    ∙ ap (λ (n : List CountsLine). let r : Report = record { history = []; verdicts = verdict_lines (sessions_over (by_entries (scheme_in d)) d (λ r. (tape_read heard.bytes).records)); counts = n; glances = []; looks = [] } in report_text r) heard.counts

tune_still : (deck tape : List ℕ) (before mid now : ShelfState) (s : Status) → KeepsButPrinted mid.told now.told → NoCountFalls mid.faults now.faults → TuneCause deck tape before mid s → TuneCause deck tape before now s
unfolding TuneCause
tune_still deck tape before mid now (status.TapeCut at) rest counts h = h
tune_still deck tape before mid now s rest counts (inl h) = inl (unrunnable_still deck before mid now s rest counts h)
tune_still deck tape before mid now s rest counts (inr h) = inr (h.0, unread_still tape MOST_TAPE_BYTES before mid now s rest counts h.1)

tune_input : (deck tape : List ℕ) (before now : ShelfState) → TuneCause deck tape before now status.ReadFault → InputFailed (tune_meaning deck tape) before now
unfolding TuneCause UnrunnableCause DeckCause UnreadCause
tune_input deck tape before now (inl h) = record { name = deck; named = inl refl; rose = h }
tune_input deck tape before now (inr h) = record { name = tape; named = inr refl; rose = h.1 }

tune_not_done : (deck tape : List ℕ) (before now : ShelfState) → TuneCause deck tape before now status.Ok → ⊥
unfolding TuneCause UnrunnableCause DeckCause UnreadCause
tune_not_done deck tape before now (inl h) = h
tune_not_done deck tape before now (inr h) = h.1

tune_not_different : (deck tape : List ℕ) (before now : ShelfState) → TuneCause deck tape before now status.Differs → ⊥
unfolding TuneCause UnrunnableCause DeckCause UnreadCause
tune_not_different deck tape before now (inl h) = h
tune_not_different deck tape before now (inr h) = h.1

tune_not_failed : (deck tape : List ℕ) (before now : ShelfState) → TuneCause deck tape before now status.WriteFault → ⊥
unfolding TuneCause UnrunnableCause DeckCause UnreadCause
tune_not_failed deck tape before now (inl h) = h
tune_not_failed deck tape before now (inr h) = h.1

tune_sound : (deck tape : List ℕ) → IsSound (tune_meaning deck tape)
tune_sound deck tape = record {
  still = tune_still deck tape;
  not_done = tune_not_done deck tape;
  not_different = tune_not_different deck tape;
  not_failed = tune_not_failed deck tape;
  input = tune_input deck tape;
}

-- ---- what its inputs decide

abbrev IsCutAt : ℕ → List ℕ → Type 0
IsCutAt at bytes = (length bytes ≤ MOST_TAPE_BYTES) × ((tape_read bytes).cut ≡ Some at)

-- A tape that is whole isn't cut.
tape_fits : (deck tape : List ℕ) (before now : ShelfState) (s : Status) → TellsInputs (tune_meaning deck tape) before → OfDeck deck before AreShort
    → WhereTold (before.told.file tape) (λ bytes. (length bytes ≤ MOST_TAPE_BYTES) × ((tape_read bytes).cut ≡ None)) → NoCountRose before.faults now.faults → TuneCause deck tape before now s → s ≡ status.NoMemory
unfolding TuneCause
tape_fits deck tape before now (status.TapeCut at) told runs whole calm h =
    let known = told tape (inr refl) in
    let good = of_told (before.told.file tape) known.0 (λ bytes. (length bytes ≤ MOST_TAPE_BYTES) × ((tape_read bytes).cut ≡ None)) known.1 whole in
    let bad = of_told (before.told.file tape) known.0 (IsCutAt at) known.1 (of_bytes tape before (IsCutAt at) h.1) in
    absurd (cc (good.1, bad.1))
tape_fits deck tape before now s told runs whole calm (inl h) = let known = told deck (inl refl) in runs_fits deck before now s known.0 known.1 runs calm h
tape_fits deck tape before now s told runs whole calm (inr h) =
    let known = told tape (inr refl) in
    let good = of_told (before.told.file tape) known.0 (λ bytes. (length bytes ≤ MOST_TAPE_BYTES) × ((tape_read bytes).cut ≡ None)) known.1 whole in
    unread_fits tape MOST_TAPE_BYTES before now s known.0 known.1 good.0 calm h.1

pub tune_one : (deck tape : List ℕ) (before other : ShelfState) (a b : ReportAndTape) → TellSameInputs (tune_meaning deck tape) before other
    → TuneGives deck tape before a → TuneGives deck tape other b → a ≡ b
unfolding TuneGives
tune_one deck tape before other a b same first second =
    let told = same deck (inl refl) in
    let x = deck_told deck before told.0 (λ d. AreShort d × HasBytes tape before (IsTuned d a)) told.1 (of_had deck before _ first.1) in
    let y = deck_told deck other told.0 (λ d. AreShort d × HasBytes tape other (IsTuned d b)) told.2 (of_had deck other _ second.1) in
    let heard = same tape (inr refl) in
    let v = of_told (before.told.file tape) heard.0 (IsTuned x.1.0 a) heard.1 (of_bytes tape before (IsTuned x.1.0 a) x.1.2.1) in
    let w = of_told (other.told.file tape) heard.0 (IsTuned y.1.0 b) heard.2 (of_bytes tape other (IsTuned y.1.0 b) y.1.2.1) in
    v.given_is ∙ ap (λ d. tune_given d (tape_read heard.0).records) (one_deck told.0 x.1.0 y.1.0 x.1.1 y.1.1) ∙ sym w.given_is

pub tune_facts : (deck tape : List ℕ) → CommandFacts (tune_meaning deck tape)
tune_facts deck tape = record {
  sound = tune_sound deck tape;
  inputs = record { fits = λ before now s told suits. tape_fits deck tape before now s told (of_had deck before AreShort suits.0) (of_bytes tape before (λ bytes. (length bytes ≤ MOST_TAPE_BYTES) × ((tape_read bytes).cut ≡ None)) suits.1) };
}
