-- What commands on a told shelf give, and why they are refused: positive and negative examples of each relation.
use Rattle.std.proofs.Common.{◌≡◌, ◌<◌, ◌≤◌, ℕ, true, false, List, [], ◌∷◌, Option, Some, None, All, length, refl, sym, ap, subst, ◌∙◌, inl, inr, arith}
use Rattle.std.specs.Prelude.{codes}
use Rattle.std.proofs.lemmas.List.Elements.{All-from_recursion, All-nil}
use Rattle.air_base.specs.declared.limits.TheConstants.{MOST_ASKED, MOST_DECK_BYTES, MOST_RATE}
use Rattle.air_devices.specs.Counts.{Rose}
use Rattle.air_devices.specs.Shelves.{ShelfState}
use Rattle.air_devices.specs.WhatIsTold.{WhereTold}
use Rattle.air_model.specs.Decks.{Deck, IsDeck, script_history}
use Rattle.air_model.specs.Drills.{drill_deck}
use Rattle.air_model.specs.Outputs.{ether_of, script_tape}
use Rattle.air_model.specs.Tapes.{ends_inside, read_from, tape_read}
use Rattle.air_model.proofs.DeckLemmas.{events}
use Rattle.air_model.proofs.EtherLemmas.{heard_was_pushed}
use Rattle.air_model.proofs.RangeLemmas.{bytes_aired}
use Rattle.air_model.proofs.ReceiverLemmas.{receiver}
use Rattle.air_model.proofs.ScriptLemmas.{script}
use Rattle.air_report.specs.declared.status.Status.TheVariants as status
use Rattle.air_sender.proofs.TapeLemmas.{tape_back}
use Rattle.chunk_program.specs.Plans.{AreShort, IsFirstTooLong}
use Rattle.item_catalog.specs.DeckLimits.{DiskWithin, ReaderWithin, ReplanWithin, SettingsWithin, WithinLimits, script_starts}
use Rattle.item_catalog.specs.Grammar.{Spells}
use Rattle.item_catalog.proofs.GrammarLemmas.{one_deck}
use Rattle.live_replay.proofs.AuditExamples.{is_audit, its_bytes, one_finding, small, small_is_deck}
use Rattle.air_cli.specs.Audit.{AuditCause, AuditGives, HasReport, audit_meaning}
use Rattle.air_cli.specs.Drill.{DrillGives, drill_meaning}
use Rattle.air_cli.specs.ReportsAndTapes.{ReportAndTape}
use Rattle.air_cli.specs.NamedDecks.{DeckCause, HasDeck, IsFaulty, SpellsDeck}
use Rattle.air_cli.specs.NamedFiles.{HasBytes, UnreadCause}
use Rattle.air_cli.specs.Plan.{PlanGives}
use Rattle.air_cli.specs.RunnableDecks.{UnrunnableCause}
use Rattle.air_cli.specs.Script.{ScriptCause, ScriptGives}
use Rattle.air_cli.specs.Truths.{AreTrue, IsTrueScript, IsTrueTape}
use Rattle.air_cli.specs.Tune.{IsTuned, TuneCause, TuneGives, tune_given}
use Rattle.air_cli.specs.Private.GivenTexts.{audit_given, drill_given, plan_given, script_given}
use Rattle.air_cli.proofs.InputLemmas.{too_long}
use Rattle.air_cli.proofs.ToldExamples.{its_deck, script_bytes, shelf, short, small_made, spells, spells_deck}
use Rattle.air_cli.proofs.TruthLemmas.{true_script, true_tape}

-- ---- the deck that a file spells

has_deck : HasDeck (codes "d") shelf AreShort
has_deck = (small, spells_deck, small_made, short)

-- The told file spells no other deck than this one.
pub the_deck : (d : Deck) → SpellsDeck (codes "d") shelf d → d ≡ small
the_deck d h = one_deck its_deck d small h.1 spells

-- So the file spells no deck without an item.
no_deck : HasDeck (codes "d") shelf (λ d. length d.items ≡ 0) → ⊥
no_deck (d, is, made, none) = omega (arith, none, made.0.some)

has_bytes : HasBytes (codes "r") shelf (λ bytes. bytes ≡ its_bytes)
has_bytes = (its_bytes, refl, refl)

-- The bytes that a told file has are its own.
other_bytes : HasBytes (codes "r") shelf (λ bytes. bytes ≡ []) → ⊥
other_bytes (bytes, known, none) = let same : its_bytes ≡ [] = sym known ∙ none in cc

has_report : HasReport (codes "d") (codes "r") shelf (λ d bytes. bytes ≡ its_bytes)
has_report = (small, spells_deck, small_made, (its_bytes, refl, (omega arith, refl)))

other_report : HasReport (codes "d") (codes "r") shelf (λ d bytes. bytes ≡ []) → ⊥
other_report h = let same : its_bytes ≡ [] = sym h.3.1 ∙ h.3.2.1 in cc

-- ---- `plan`

pub plan_gives : PlanGives (codes "d") shelf (plan_given small)
unfolding PlanGives
plan_gives = (refl, (small, spells_deck, small_made, (short, refl)))

-- A plan has no tape, nothing in it differs, and it is the one of the deck that the file spells.
not_plan : (PlanGives (codes "d") shelf (record (plan_given small) { tape = 1 ∷ [] }) → ⊥) × (PlanGives (codes "d") shelf (record (plan_given small) { differs = true }) → ⊥)
unfolding PlanGives
not_plan = (
  λ h. let tape : ◌≡◌ {A = List ℕ} (1 ∷ []) [] = ap (λ (g : ReportAndTape). g.tape) h.1.3.1 in cc,
  λ h. let differs : true ≡ false = h.0 in cc,
)

-- If nothing is told, there still is a deck whose first program that is too long has this number of slots.
program_too_long : (d : Deck) (slots : ℕ) (untold : ShelfState) → untold.told.file (codes "d") ≡ None → IsDeck d × WithinLimits d → IsFirstTooLong d slots
    → UnrunnableCause (codes "d") untold untold (status.PlanTooLong slots)
unfolding UnrunnableCause
program_too_long d slots untold none made long =
    (d, subst (λ (file : Option (List ℕ)). WhereTold file (λ bytes. (length bytes ≤ MOST_DECK_BYTES) × Spells bytes d)) (sym none) tt, made, long)

-- ---- no deck

-- A file that wasn't read to its end has no fault.
not_read : (row kind : ℕ) → DeckCause (codes "d") shelf shelf (status.Deck row kind) → ⊥
unfolding DeckCause
not_read row kind h = let end : its_deck ≡ [] = h.read in cc

not_faulty : (row kind : ℕ) → IsFaulty (codes "d") row kind shelf shelf → ⊥
not_faulty row kind h = let end : its_deck ≡ [] = h.read in cc

-- The status of a file that is too large has the limit, and the file has more bytes.
abbrev of_five : ShelfState → ShelfState
of_five now = record now { told = record now.told { file = λ name. Some (codes "abcde"); left = λ name. Some (codes "e") } }

too_large : UnreadCause (codes "d") 3 (of_five shelf) (of_five shelf) (status.TooLarge 3)
unfolding UnreadCause
too_large = (refl, (omega arith, refl))

not_too_large : (UnreadCause (codes "d") 10 (of_five shelf) (of_five shelf) (status.TooLarge 9) → ⊥) × (UnreadCause (codes "d") 5 (of_five shelf) (of_five shelf) (status.TooLarge 5) → ⊥)
    × (UnreadCause (codes "d") 3 shelf shelf status.ReadFault → ⊥)
unfolding UnreadCause
not_too_large = (λ h. let limit : 9 ≡ 10 = h.0 in omega (arith, limit), λ h. let above : 5 < 5 = h.1.0 in omega arith, not_failed)
  where
    not_failed : Rose 0 0 → ⊥
    not_failed (inl rose) = omega arith
    not_failed (inr last) = omega (arith, last.0)

-- None of its programs is too long, with any number of slots.
not_unrunnable : (slots : ℕ) → UnrunnableCause (codes "d") shelf shelf (status.PlanTooLong slots) → ⊥
unfolding UnrunnableCause
not_unrunnable slots (d, is, made, long) = too_long small slots short (subst (λ d. IsFirstTooLong d slots) (the_deck d is) long)

-- Out of memory has no cause to show.
wanting : UnrunnableCause (codes "d") shelf shelf status.NoMemory
unfolding UnrunnableCause DeckCause UnreadCause
wanting = tt

-- ---- `script`

its_settings : SettingsWithin small.settings
its_settings = record {
  group = omega arith;
  cycles = omega arith;
  seed = omega arith;
  loss = omega arith;
  again = omega arith;
  late = omega arith;
  monitors = omega arith;
  some_hears = omega arith;
  hears = omega arith;
}

one_start : script_starts small ≡ 1
one_start = refl

pub within : WithinLimits small
within = record {
  rates = All-from_recursion (λ i. i.rate ≤ MOST_RATE) small.items (omega arith, (omega arith, tt));
  disks = omega arith;
  disk = All-from_recursion DiskWithin small.disks (record { size = omega arith; freq = omega arith }, tt);
  replans = All-nil ReplanWithin;
  updaters = omega arith;
  updates = omega arith;
  readers = omega arith;
  reader = All-from_recursion ReaderWithin small.readers (record { room = omega arith; age = omega arith; tries = omega arith }, tt);
  queries = omega arith;
  query = All-from_recursion (All (λ items. length items ≤ MOST_ASKED)) small.queries (All-from_recursion (λ items. length items ≤ MOST_ASKED) ((0 ∷ 1 ∷ []) ∷ []) (omega arith, tt), tt);
  script = omega arith;
  starts = omega arith;
  settings = its_settings;
}

-- Readers hear at least one datagram, so a deck in which they hear none isn't within the limits, if a file is told or not.
not_within : (SettingsWithin (record small.settings { hears = 0 }) → ⊥) × (WithinLimits (record small { settings = record small.settings { hears = 0 } }) → ⊥)
not_within = (λ h. let some : 1 ≤ 0 = h.some_hears in omega arith, λ h. let some : 1 ≤ 0 = h.settings.some_hears in omega arith)

kept_untold : (before : ShelfState) → HasDeck (codes "d") before (λ d. d.settings.hears ≡ 0) → ⊥
kept_untold before (d, is, made, none) = let some = made.1.settings.some_hears in omega (arith, none, some)

is_true_script : IsTrueScript small
is_true_script = true_script small small_is_deck within short script events bytes_aired heard_was_pushed receiver

are_true : AreTrue small (script_history small) (ether_of small (script_history small))
are_true = is_true_script.sessions

pub script_gives : ScriptGives (codes "d") shelf (script_given small)
unfolding ScriptGives
script_gives = (refl, (small, spells_deck, small_made, (short, omega (arith, script_bytes), is_true_script, refl)))

-- A script gives its tape, and nothing in its report differs.
not_script : (ScriptGives (codes "d") shelf (record (script_given small) { tape = [] }) → ⊥) × (ScriptGives (codes "d") shelf (record (script_given small) { differs = true }) → ⊥)
unfolding ScriptGives
not_script = (
  λ h. let tape : [] ≡ script_tape small = ap (λ (g : ReportAndTape). g.tape) h.1.3.3 ∙ ap script_tape (the_deck h.1.0 h.1.1) in
      omega (arith, script_bytes, ap length tape),
  λ h. let differs : true ≡ false = h.0 in cc,
)

-- Its tape isn't too long; a tape is from one byte above the limit on, and the status has its number of bytes.
not_script_too_long : (bytes : ℕ) → ScriptCause (codes "d") shelf shelf (status.TooLong bytes) → ⊥
unfolding ScriptCause
not_script_too_long bytes (d, is, made, long) =
    let few = subst (λ d. AreShort d × (bytes ≡ length (script_tape d)) × (1073741824 < bytes)) (the_deck d is) long in omega (arith, few.1, few.2, script_bytes)

script_too_long : (d : Deck) (untold : ShelfState) → untold.told.file (codes "d") ≡ None → IsDeck d × WithinLimits d → AreShort d → length (script_tape d) ≡ 1073741825
    → ScriptCause (codes "d") untold untold (status.TooLong 1073741825)
unfolding ScriptCause
script_too_long d untold none made can counted =
    (d, subst (λ (file : Option (List ℕ)). WhereTold file (λ bytes. (length bytes ≤ MOST_DECK_BYTES) × Spells bytes d)) (sym none) tt, made, (can, sym counted, omega arith))

not_at_the_most : (before : ShelfState) → ScriptCause (codes "d") before before (status.TooLong 1073741824) → ⊥
unfolding ScriptCause
not_at_the_most before (d, is, made, long) = let above : 1073741824 < 1073741824 = long.2 in omega arith

-- ---- `tune`

pub is_true_tape : (records : List (List ℕ)) → IsTrueTape small records
is_true_tape records = true_tape small small_is_deck receiver records

is_tuned : IsTuned small (tune_given small (tape_read (script_tape small)).records) (script_tape small)
is_tuned = record {
  fits = omega (arith, script_bytes);
  whole = ap (λ read. read.cut) (tape_back small (script_history small) (script_tape small) refl (omega (arith, script_bytes)));
  true_is = is_true_tape (tape_read (script_tape small)).records;
  given_is = refl;
}

pub tune_gives : TuneGives (codes "d") (codes "t") shelf (tune_given small (tape_read (script_tape small)).records)
unfolding TuneGives
tune_gives = (refl, (small, spells_deck, small_made, (short, (script_tape small, refl, is_tuned))))

-- What is tuned in to has no tape of its own.
not_tuned : TuneGives (codes "d") (codes "t") shelf (record { text = []; tape = 1 ∷ []; differs = false }) → ⊥
unfolding TuneGives
not_tuned h = let tape : ◌≡◌ {A = List ℕ} (1 ∷ []) [] = ap (λ (g : ReportAndTape). g.tape) h.1.3.1.2.given_is in cc

-- Three bytes are cut at byte 0, and at no other; nothing isn't cut.
cut_at_0 : (tape_read (0 ∷ 0 ∷ 0 ∷ [])).cut ≡ Some 0
unfolding ends_inside read_from
cut_at_0 = refl

-- The whole tape isn't cut.
not_cut : (at : ℕ) → TuneCause (codes "d") (codes "t") shelf shelf (status.TapeCut at) → ⊥
unfolding TuneCause
not_cut at (has, (bytes, known, cut)) = let whole : (tape_read bytes).cut ≡ None = subst (λ b. (tape_read b).cut ≡ None) (sym known) is_tuned.whole in let both : Some at ≡ None = sym cut.1 ∙ whole in cc

-- ---- `drill`

wanting_drill : (drill_meaning 1 1).Refuses shelf shelf status.NoMemory
wanting_drill = refl

-- No deck is refused.
not_refused : (row kind : ℕ) → (drill_meaning 1 1).Refuses shelf shelf (status.Deck row kind) → ⊥
not_refused row kind h = let is : status.Deck row kind ≡ status.NoMemory = h in cc

-- A drill gives its line and no tape.
drill_gives : IsTrueScript (drill_deck 1 1) → DrillGives 1 1 (drill_given 1 1)
unfolding DrillGives
drill_gives is = (is, refl)

not_drill : DrillGives 1 1 (record (drill_given 1 1) { tape = 1 ∷ [] }) → ⊥
unfolding DrillGives
not_drill h = let tape : ◌≡◌ {A = List ℕ} (1 ∷ []) [] = ap (λ (g : ReportAndTape). g.tape) h.1 in cc

-- It names no file and no output.
drill_input : (drill_meaning 1 1).IsInput (codes "d") → ⊥
drill_input h = h

-- ---- `audit`

pub audit_gives : AuditGives (codes "d") (codes "r") shelf (audit_given one_finding)
unfolding AuditGives
audit_gives = (one_finding, refl, (small, spells_deck, small_made, (its_bytes, refl, (omega arith, is_audit))))

not_audit : AuditGives (codes "d") (codes "r") shelf (record (audit_given one_finding) { tape = 1 ∷ [] }) → ⊥
unfolding AuditGives
not_audit (found, is, has) = let tape : ◌≡◌ {A = List ℕ} (1 ∷ []) [] = ap (λ (g : ReportAndTape). g.tape) is in cc

-- A report that wasn't read to its end has no fault.
not_report_fault : (row kind : ℕ) → AuditCause (codes "d") (codes "r") shelf shelf (status.Report row kind) → ⊥
unfolding AuditCause
not_report_fault row kind h = let end : its_bytes ≡ [] = h.0 in cc

-- It writes no output.
audit_output : (audit_meaning (codes "d") (codes "r")).output ≡ None
audit_output = refl
