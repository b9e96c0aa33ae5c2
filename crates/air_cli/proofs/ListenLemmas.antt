-- What the proofs of `listen` need of its definitions.
use Rattle.std.proofs.Common.{◌≡◌, ◌≢◌, ◌∙◌, ℕ, List, Result, Err, [], Option, Some, None, refl, ap, ap₂, inl, inr, arith}
use Rattle.std.specs.Prelude.{◌⊎◌}
use Rattle.chunk_program.specs.Plans.{AreShort}
use Rattle.air_cli.specs.Hearings.{AreEarSessions, EarFailsFirst, IsHearAnswer, IsHeardOnEar, TakesJust, TakesUpTo}
use Rattle.air_cli.specs.declared.commands.hearings.HearFault.{HearFault}
use Rattle.air_cli.specs.declared.commands.hearings.HearFault.TheVariants as fault
use Rattle.air_devices.specs.Counts.{NoCountFalls, Rose}
use Rattle.air_devices.specs.Ears.{EarState}
use Rattle.air_devices.specs.Shelves.{ShelfState}
use Rattle.air_devices.specs.Unchanged.{KeepsButPrinted}
use Rattle.air_model.specs.Decks.{Deck, IsDeck}
use Rattle.item_catalog.specs.DeckLimits.{WithinLimits}
use Rattle.air_model.specs.Reports.{report_text}
use Rattle.air_model.specs.declared.reports.CountsLine.{CountsLine}
use Rattle.air_model.specs.declared.reports.VerdictLine.{VerdictLine}
use Rattle.air_report.specs.declared.status.Status.{Status}
use Rattle.air_report.specs.declared.status.Status.TheVariants as status
use Rattle.air_cli.specs.NamedDecks.{DeckCause, HasDeck, SpellsDeck}
use Rattle.air_cli.proofs.CauseLemmas.{of_had}
use Rattle.air_cli.specs.NamedFiles.{UnreadCause}
use Rattle.air_cli.specs.RunnableDecks.{UnrunnableCause}
use Rattle.air_cli.specs.Answers.{NoCountRose}
use Rattle.air_cli.specs.Listen.{HasHeardPort, IsListenRefusal, IsListening, ListenCause, listen_meaning}
use Rattle.air_cli.specs.Words.{AsksListen}
use Rattle.air_cli.specs.OnAir.{LeavesEar}
use Rattle.air_cli.specs.Private.Airing.{hear_status}
use Rattle.air_cli.specs.ToldInputs.{TellsInputs}
use Rattle.air_cli.specs.Truths.{IsTrueTape}
use Rattle.air_cli.proofs.AnswerLemmas.{only_text}
use Rattle.air_cli.proofs.CastLemmas.{rose_later}
use Rattle.air_cli.proofs.InputLemmas.{CommandFacts, runs_fits}
use Rattle.air_cli.proofs.RefusalLemmas.{IsSound, unrunnable_still}

-- ---- why it is refused

-- The readers of a deck that can't be run don't listen.
pub unrunnable_listen : (deck : List ℕ) (on : ℕ) (ear : EarState) (before now : ShelfState) (s : Status) → UnrunnableCause deck before now s → ListenCause deck on ear ear before now s
unfolding ListenCause UnrunnableCause DeckCause UnreadCause
unrunnable_listen deck on ear before now (status.AirFault at) h = absurd h
unrunnable_listen deck on ear before now s h = (h, refl)

-- They don't report either if the ear fails.
pub refused_listen : (deck : List ℕ) (on : ℕ) (old new : EarState) (before now : ShelfState) (d : Deck) (s : Status) → SpellsDeck deck before d → IsDeck d × WithinLimits d → AreShort d
    → IsListenRefusal d on old new s → s ≢ status.NoMemory → ListenCause deck on old new before now s
unfolding ListenCause UnrunnableCause DeckCause UnreadCause IsListenRefusal
refused_listen deck on old new before now d (status.AirFault at) spells made short h some = (d, spells, made, (short, h))
refused_listen deck on old new before now d status.NoMemory spells made short h some = absurd (some refl)
refused_listen deck on old new before now d s spells made short h some = absurd h

-- Out of memory, the ear has not failed.
pub calm_listen : (d : Deck) (on : ℕ) (before now : EarState) (s : Status) → IsListenRefusal d on before now s → s ≡ status.NoMemory → now.faults ≡ before.faults
unfolding IsListenRefusal
calm_listen d on before now status.NoMemory h none = h
calm_listen d on before now s h none = absurd (cc none)

listen_still : (deck : List ℕ) (on : ℕ) (old new : EarState) (before mid now : ShelfState) (s : Status) → KeepsButPrinted mid.told now.told → NoCountFalls mid.faults now.faults
    → ListenCause deck on old new before mid s → ListenCause deck on old new before now s
unfolding ListenCause
listen_still deck on old new before mid now (status.AirFault at) rest counts h = h
listen_still deck on old new before mid now s rest counts h = (unrunnable_still deck before mid now s rest counts h.0, h.1)

pub listen_sound : (deck : List ℕ) (on : ℕ) (old new : EarState) → IsSound (listen_meaning deck on old new)
unfolding ListenCause UnrunnableCause DeckCause UnreadCause
listen_sound deck on old new = record {
  still = listen_still deck on old new;
  not_done = λ before now h. h.0;
  not_different = λ before now h. h.0;
  not_failed = λ before now h. h.0;
  input = λ before now h. record { name = deck; named = refl; rose = h.0 };
}

listen_fits : (deck : List ℕ) (on : ℕ) (old new : EarState) (before now : ShelfState) (s : Status) → TellsInputs (listen_meaning deck on old new) before
    → HasDeck deck before AreShort × (Rose old.faults new.faults → ⊥) → NoCountRose before.faults now.faults → ListenCause deck on old new before now s → s ≡ status.NoMemory
unfolding ListenCause
listen_fits deck on old new before now (status.AirFault at) told suits calm h = let broken = h.3.1 in absurd (suits.1 broken.rose)
listen_fits deck on old new before now s told suits calm h = let known = told deck refl in runs_fits deck before now s known.0 known.1 (of_had deck before AreShort suits.0) calm h.0

pub listen_facts : (deck : List ℕ) (on : ℕ) (old new : EarState) → CommandFacts (listen_meaning deck on old new)
listen_facts deck on old new = record {
  sound = listen_sound deck on old new;
  inputs = record { fits = listen_fits deck on old new };
}

-- ---- what was heard

just_up_to : (count : ℕ) (before now : Option (List (List ℕ))) → TakesJust count before now → TakesUpTo count before now
just_up_to count None now h = tt
just_up_to count (Some waiting) now h = h.1

-- Readers who report heard as many as the deck says, or all.
pub all_heard : (d : Deck) (on : ℕ) (before now : EarState) (heard : List (List ℕ)) → IsHeardOnEar d.settings.hears before.told now.told heard → now.faults ≡ before.faults
    → now.port ≡ Some on → HasHeardPort d on before now
all_heard d on before now heard is calm port = record { taken = (d.settings.hears, omega arith, is.taken); later = omega (arith, calm); port = port }

-- Readers who don't report heard at most as many.
pub part_heard : (d : Deck) (on : ℕ) (before now : EarState) (f : HearFault) → IsHearAnswer d.settings.hears before now f → now.port ≡ Some on → HasHeardPort d on before now
part_heard d on before now (fault.Ear at) h port =
    let few = h.1 in
    record { taken = (at, omega arith, just_up_to at before.told now.told h.2); later = rose_later before.faults now.faults h.0; port = port }
part_heard d on before now fault.NoMemory h port =
    let some = h.1 in
    record { taken = (some.0, some.1, just_up_to some.0 before.told now.told some.2); later = omega (arith, h.0); port = port }

-- Why they don't report.
pub fault_refused : (d : Deck) (on : ℕ) (before now : EarState) (f : HearFault) → IsHearAnswer d.settings.hears before now f → now.port ≡ Some on
    → IsListenRefusal d on before now (hear_status f)
unfolding IsListenRefusal
fault_refused d on before now (fault.Ear at) h port = record { rose = h.0; few = h.1; taken = h.2; port = port }
fault_refused d on before now fault.NoMemory h port = h.0

-- What listening leaves of the ear.
pub leaves_listen : (deck : List ℕ) (on : ℕ) (shelf : ShelfState) (before now : EarState) (d : Deck) → SpellsDeck deck shelf d → IsDeck d × WithinLimits d
    → (now ≡ before) ⊎ HasHeardPort d on before now → LeavesEar (Some (AsksListen deck on)) shelf before now
leaves_listen deck on shelf before now d spells made (inl same) = inl same
leaves_listen deck on shelf before now d spells made (inr heard) = inr (d, spells, made, heard)

-- ---- what it gives

pub is_listening : (d : Deck) (on : ℕ) (before now : EarState) (text : List ℕ) (verdicts : List VerdictLine) (counts : List CountsLine)
    → (h : AreEarSessions d before.told now.told verdicts counts) → ((records : List (List ℕ)) → IsTrueTape d records)
    → text ≡ report_text (record { history = []; verdicts = verdicts; counts = counts; glances = []; looks = [] })
    → now.faults ≡ before.faults → now.port ≡ Some on → IsListening d on before now (only_text text) h.heard
is_listening d on before now text verdicts counts h true same calm port = record {
  heard_is = h.is;
  true_is = true h.heard;
  given_is = ap only_text (same ∙ ap₂ (λ v n. report_text (record { history = []; verdicts = v; counts = n; glances = []; looks = [] })) h.verdicts_are h.counts_are);
  calm = calm;
  port = port;
}

-- ---- the first failure

-- The status tells the first failure that the fault tells.
pub hear_first : {E T : Type 0} (state : E → EarState) (old new : E) (r : Result T HearFault) (f : HearFault) → r ≡ Err f → ((heard : ℕ) → r ≡ Err (fault.Ear heard) → EarFailsFirst state old new)
    → (at : ℕ) → hear_status f ≡ status.AirFault at → EarFailsFirst state old new
hear_first state old new r (fault.Ear heard) is first at same = first heard is
hear_first state old new r fault.NoMemory is first at same = cc
