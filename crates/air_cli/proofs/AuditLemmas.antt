-- What the proofs of `audit` need of its definitions.
use Rattle.std.proofs.Common.{◌≡◌, ◌≢◌, ℕ, ◌≤◌, Bool, List, [], length, Some, refl, sym, ap, ap₂, ◌∙◌, subst, inl, inr, arith}
use Rattle.std.specs.Prelude.{◌<◌, ⊤}
use Rattle.std.specs.Io.KnownBytes.{IsAtEnd}
use Rattle.air_report.specs.declared.reading.limits.TheConstants.{MOST_REPORT_BYTES}
use Rattle.air_devices.specs.Counts.{KeepsCounts, NoCountFalls}
use Rattle.air_devices.specs.Unchanged.{KeepsButLeft, KeepsButPrinted}
use Rattle.air_devices.specs.Shelves.{ShelfState}
use Rattle.air_devices.specs.WhatIsTold.{ToldIs, WhereTold}
use Rattle.air_model.specs.Decks.{Deck, IsDeck}
use Rattle.item_catalog.specs.DeckLimits.{WithinLimits}
use Rattle.air_report.specs.declared.status.Status.{Status}
use Rattle.air_report.specs.declared.status.Status.TheVariants as status
use Rattle.air_report.specs.declared.reading.ReadReport.{ReadReport}
use Rattle.live_replay.specs.AuditAnswers.{CanBeAudited, IsAudit, IsTooMuch, UnauditedCause}
use Rattle.live_replay.specs.FindingTexts.{findings_text, some_differ}
use Rattle.live_replay.proofs.AuditLemmas.{no_report_fault, one_report}
use Rattle.air_cli.specs.NamedDecks.{DeckCause, HasDeck, SpellsDeck}
use Rattle.air_cli.specs.NamedFiles.{UnreadCause}
use Rattle.air_cli.proofs.CauseLemmas.{OfDeck, of_bytes, of_deck}
use Rattle.air_cli.specs.ReportsAndTapes.{ReportAndTape}
use Rattle.air_cli.proofs.CountLemmas.{kept_twice}
use Rattle.item_catalog.specs.Grammar.{Spells}
use Rattle.item_catalog.proofs.GrammarLemmas.{one_deck}
use Rattle.live_replay.specs.Audits.{findings, replayed_in}
use Rattle.live_replay.specs.declared.findings.Finding.{Finding}
use Rattle.live_replay.specs.declared.limits.TheConstants.{MOST_REPLAYED}
use Rattle.air_report.specs.ReportGrammar.{HasReportFault}
use Rattle.air_cli.specs.Answers.{InputFailed, NoCountRose}
use Rattle.air_cli.specs.Audit.{AuditCause, AuditGives, HasReport, audit_meaning}
use Rattle.air_cli.specs.Private.BeforeDelivery.{IsMade, IsUnmade, ReadsInputs}
use Rattle.air_cli.specs.ToldInputs.{TellSameInputs, TellsInputs}
use Rattle.air_cli.specs.Private.GivenTexts.{audit_given}
use Rattle.air_cli.proofs.InputLemmas.{CommandFacts, deck_fits, deck_told, of_told, unread_fits}
use Rattle.air_cli.proofs.MakeLemmas.{both_ends}
use Rattle.air_cli.proofs.ReadLemmas.{end_still, falls_twice, unread_since}
use Rattle.air_cli.proofs.RefusalLemmas.{IsSound, deck_still, unread_still}

-- ---- why there is no audit

-- No report is audited if there is no deck.
pub deck_audit : (deck report : List ℕ) (before now : ShelfState) (s : Status) → DeckCause deck before now s → AuditCause deck report before now s
unfolding AuditCause DeckCause UnreadCause
deck_audit deck report before now (status.Report row kind) h = absurd h
deck_audit deck report before now (status.TooMuch product) h = absurd h
deck_audit deck report before now s h = inl h

-- A report that can't be read isn't audited.
pub unread_audit : (deck report : List ℕ) (before now : ShelfState) (s : Status) → HasDeck deck before (λ d. ⊤) → UnreadCause report MOST_REPORT_BYTES before now s → AuditCause deck report before now s
unfolding AuditCause UnreadCause
unread_audit deck report before now (status.Report row kind) has h = absurd h
unread_audit deck report before now (status.TooMuch product) has h = absurd h
unread_audit deck report before now s has h = inr (has, h)

-- The bytes that were read after the deck are those of the named report.
pub told_first : (report : List ℕ) (before mid : ShelfState) (bytes read : List ℕ) → ToldIs (mid.told.file report) bytes → mid.told.file report ≡ before.told.file report → read ≡ bytes
    → ToldIs (before.told.file report) read
told_first report before mid bytes read known same is = subst (λ file. ToldIs file read) same (subst (ToldIs (mid.told.file report)) (sym is) known)

-- If the files are told, the named deck and the bytes of the named report have this property.
abbrev OfReport : List ℕ → List ℕ → ShelfState → (Deck → List ℕ → Type 0) → Type 0
OfReport deck report before P = OfDeck deck before (λ d. WhereTold (before.told.file report) (λ bytes. (length bytes ≤ MOST_REPORT_BYTES) × P d bytes))

-- If the files are told, what holds of the deck and of the report holds of those that the files spell.
of_report : (deck report : List ℕ) (before : ShelfState) (P : Deck → List ℕ → Type 0) → HasReport deck report before P → OfReport deck report before P
of_report deck report before P (d, spells, made, has) = of_deck deck before d (λ d. WhereTold (before.told.file report) (λ bytes. (length bytes ≤ MOST_REPORT_BYTES) × P d bytes)) spells
    (of_bytes report before (λ bytes. (length bytes ≤ MOST_REPORT_BYTES) × P d bytes) has)

-- Bytes that were read to their end and aren't audited have no audit.
pub unaudited : (deck report : List ℕ) (before now : ShelfState) (d : Deck) (read : List ℕ) (s : Status) → IsAtEnd (now.told.left report) → SpellsDeck deck before d → IsDeck d × WithinLimits d
    → ToldIs (before.told.file report) read → length read ≤ MOST_REPORT_BYTES → UnauditedCause d read s → AuditCause deck report before now s
unfolding AuditCause DeckCause UnreadCause UnauditedCause
unaudited deck report before now d read (status.Report row kind) end spells made known few h = (end, (d, spells, made, (read, known, (few, h))))
unaudited deck report before now d read (status.TooMuch product) end spells made known few h = (end, (d, spells, made, (read, known, (few, h))))
unaudited deck report before now d read status.NoMemory end spells made known few h = inl tt
unaudited deck report before now d read s end spells made known few h = absurd h

-- ---- the deck was read, and then the report

-- The report could not be read.
pub unread_later : (deck report : List ℕ) (before mid now : ShelfState) (d : Deck) (s : Status) → SpellsDeck deck before d → IsDeck d × WithinLimits d → KeepsButLeft deck before.told mid.told
    → KeepsCounts before.faults mid.faults → UnreadCause report MOST_REPORT_BYTES mid now s → (s ≢ status.ReadFault → KeepsCounts mid.faults now.faults)
    → IsUnmade (audit_meaning deck report) before now s
unread_later deck report before mid now d s spells made first calm unread kept = record {
  cause = λ some. unread_audit deck report before now s (d, spells, made, tt) (unread_since report MOST_REPORT_BYTES before mid now s (first.files report) calm unread);
  kept = λ read. kept_twice before.faults mid.faults now.faults calm (kept read);
}

-- It was read, and isn't audited.
pub unaudited_later : (deck report : List ℕ) (before mid now : ShelfState) (d : Deck) (bytes read : List ℕ) (s : Status) → SpellsDeck deck before d → IsDeck d × WithinLimits d
    → KeepsButLeft deck before.told mid.told → KeepsCounts before.faults mid.faults → ToldIs (mid.told.file report) bytes → length bytes ≤ MOST_REPORT_BYTES → read ≡ bytes
    → IsAtEnd (now.told.left report) → KeepsCounts mid.faults now.faults → UnauditedCause d read s → IsUnmade (audit_meaning deck report) before now s
unaudited_later deck report before mid now d bytes read s spells made first calm known few is end later cause = record {
  cause = λ some. unaudited deck report before now d read s end spells made (told_first report before mid bytes read known (first.files report) is) (subst (λ b. length b ≤ MOST_REPORT_BYTES) (sym is) few) cause;
  kept = λ none. kept_twice before.faults mid.faults now.faults calm later;
}

-- It was audited.
pub audited_later : (deck report : List ℕ) (before mid now : ShelfState) (d : Deck) (bytes read text : List ℕ) (differs : Bool) → SpellsDeck deck before d → IsDeck d × WithinLimits d
    → KeepsButLeft deck before.told mid.told → IsAtEnd (mid.told.left deck) → KeepsCounts before.faults mid.faults → ToldIs (mid.told.file report) bytes
    → length bytes ≤ MOST_REPORT_BYTES → read ≡ bytes → KeepsButLeft report mid.told now.told → IsAtEnd (now.told.left report) → KeepsCounts mid.faults now.faults
    → (found : List Finding) × (text ≡ findings_text found) × (differs ≡ some_differ found) × IsAudit d read found
    → IsMade (audit_meaning deck report) before now (record { text = text; tape = []; differs = differs })
unfolding AuditGives
audited_later deck report before mid now d bytes read text differs spells made first deck_end calm known few is second end later (found, texts, differ, audit) = record {
  gives = (
    found,
    ap₂ (λ text differs. record { text = text; tape = []; differs = differs }) texts differ,
    (d, spells, made, (read, told_first report before mid bytes read known (first.files report) is, (subst (λ b. length b ≤ MOST_REPORT_BYTES) (sym is) few, audit))),
  );
  read = λ name. both_ends now deck report name (end_still deck report mid now second deck_end end) end;
  calm = kept_twice before.faults mid.faults now.faults calm later;
}

-- Nothing else changed.
pub reads_both : (deck report : List ℕ) (before mid now : ShelfState) → KeepsButLeft deck before.told mid.told → NoCountFalls before.faults mid.faults
    → KeepsButLeft report mid.told now.told → NoCountFalls mid.faults now.faults → ReadsInputs (audit_meaning deck report) before now
reads_both deck report before mid now first falls second falls_later = record {
  files = λ name. second.files name ∙ first.files name;
  left = λ name other. second.other_left name (λ same. other (inr same)) ∙ first.other_left name (λ same. other (inl same));
  outputs = λ name. second.outputs name ∙ first.outputs name;
  printed = second.printed ∙ first.printed;
  counts = falls_twice before.faults mid.faults now.faults falls falls_later;
}

-- ---- what makes its refusals sound

audit_still : (deck report : List ℕ) (before mid now : ShelfState) (s : Status) → KeepsButPrinted mid.told now.told → NoCountFalls mid.faults now.faults
    → AuditCause deck report before mid s → AuditCause deck report before now s
unfolding AuditCause
audit_still deck report before mid now (status.Report row kind) rest counts h = (subst IsAtEnd (sym (rest.left report)) h.0, h.1)
audit_still deck report before mid now (status.TooMuch product) rest counts h = (subst IsAtEnd (sym (rest.left report)) h.0, h.1)
audit_still deck report before mid now s rest counts (inl h) = inl (deck_still deck before mid now s rest counts h)
audit_still deck report before mid now s rest counts (inr h) = inr (h.0, unread_still report MOST_REPORT_BYTES before mid now s rest counts h.1)

audit_input : (deck report : List ℕ) (before now : ShelfState) → AuditCause deck report before now status.ReadFault → InputFailed (audit_meaning deck report) before now
unfolding AuditCause DeckCause UnreadCause
audit_input deck report before now (inl h) = record { name = deck; named = inl refl; rose = h }
audit_input deck report before now (inr h) = record { name = report; named = inr refl; rose = h.1 }

audit_not_done : (deck report : List ℕ) (before now : ShelfState) → AuditCause deck report before now status.Ok → ⊥
unfolding AuditCause DeckCause UnreadCause
audit_not_done deck report before now (inl h) = h
audit_not_done deck report before now (inr h) = h.1

audit_not_different : (deck report : List ℕ) (before now : ShelfState) → AuditCause deck report before now status.Differs → ⊥
unfolding AuditCause DeckCause UnreadCause
audit_not_different deck report before now (inl h) = h
audit_not_different deck report before now (inr h) = h.1

audit_not_failed : (deck report : List ℕ) (before now : ShelfState) → AuditCause deck report before now status.WriteFault → ⊥
unfolding AuditCause DeckCause UnreadCause
audit_not_failed deck report before now (inl h) = h
audit_not_failed deck report before now (inr h) = h.1

audit_sound : (deck report : List ℕ) → IsSound (audit_meaning deck report)
audit_sound deck report = record {
  still = audit_still deck report;
  not_done = audit_not_done deck report;
  not_different = audit_not_different deck report;
  not_failed = audit_not_failed deck report;
  input = audit_input deck report;
}

-- ---- what its inputs decide

-- What holds of the named files holds of the deck that the told bytes spell, and of the report's told bytes.
both_told : (deck report : List ℕ) (before : ShelfState) (db rb : List ℕ) (P : Deck → List ℕ → Type 0) → before.told.file deck ≡ Some db → before.told.file report ≡ Some rb
    → OfReport deck report before P → (d : Deck) × Spells db d × (length rb ≤ MOST_REPORT_BYTES) × P d rb
both_told deck report before db rb P first second h =
    let x = deck_told deck before db (λ d. WhereTold (before.told.file report) (λ bytes. (length bytes ≤ MOST_REPORT_BYTES) × P d bytes)) first h in
    let y = of_told (before.told.file report) rb (λ bytes. (length bytes ≤ MOST_REPORT_BYTES) × P x.1.0 bytes) second x.1.2 in
    (x.1.0, x.1.1, y.0, y.1)

-- If two things hold, they hold of one deck.
one_told : (deck report : List ℕ) (before other : ShelfState) (db rb : List ℕ) (P Q : Deck → List ℕ → Type 0) → before.told.file deck ≡ Some db → before.told.file report ≡ Some rb
    → other.told.file deck ≡ Some db → other.told.file report ≡ Some rb → OfReport deck report before P → OfReport deck report other Q → (d : Deck) × P d rb × Q d rb
one_told deck report before other db rb P Q first second first2 second2 p q =
    let a = both_told deck report before db rb P first second p in
    let b = both_told deck report other db rb Q first2 second2 q in
    (a.0, a.3, subst (λ d. Q d rb) (one_deck db b.0 a.0 b.1 a.1) b.3)

-- A report that can be audited has no fault, and isn't too much.
can_or_faulty : (d : Deck) (bytes : List ℕ) (row kind : ℕ) → CanBeAudited d bytes → HasReportFault d bytes row kind → ⊥
can_or_faulty d bytes row kind can fault = no_report_fault d bytes can.read row kind can.is fault

can_or_too_much : (d : Deck) (bytes : List ℕ) (product : ℕ) → CanBeAudited d bytes → IsTooMuch d bytes product → ⊥
can_or_too_much d bytes product can much =
    let same : replayed_in can.read.report ≡ replayed_in much.read.report = ap (λ (r : ReadReport). replayed_in r.report) (one_report d bytes can.read much.read can.is much.is) in
    let within : replayed_in can.read.report ≤ MOST_REPLAYED = can.within in
    let counted : product ≡ replayed_in much.read.report = much.counted in
    let above : MOST_REPLAYED < product = much.above in
    omega arith

audit_fits : (deck report : List ℕ) (before now : ShelfState) (s : Status) → TellsInputs (audit_meaning deck report) before → OfReport deck report before CanBeAudited
    → NoCountRose before.faults now.faults → AuditCause deck report before now s → s ≡ status.NoMemory
unfolding AuditCause
audit_fits deck report before now (status.Report row kind) told suits calm h =
    let d = told deck (inl refl) in
    let r = told report (inr refl) in
    let two = one_told deck report before before d.0 r.0 CanBeAudited (λ d bytes. HasReportFault d bytes row kind) d.1 r.1 d.1 r.1 suits (of_report deck report before (λ d bytes. HasReportFault d bytes row kind) h.1) in
    absurd (can_or_faulty two.0 r.0 row kind two.1 two.2)
audit_fits deck report before now (status.TooMuch product) told suits calm h =
    let d = told deck (inl refl) in
    let r = told report (inr refl) in
    let two = one_told deck report before before d.0 r.0 CanBeAudited (λ d bytes. IsTooMuch d bytes product) d.1 r.1 d.1 r.1 suits (of_report deck report before (λ d bytes. IsTooMuch d bytes product) h.1) in
    absurd (can_or_too_much two.0 r.0 product two.1 two.2)
audit_fits deck report before now s told suits calm (inl h) =
    let d = told deck (inl refl) in
    deck_fits deck before now s d.0 (λ d. WhereTold (before.told.file report) (λ bytes. (length bytes ≤ MOST_REPORT_BYTES) × CanBeAudited d bytes)) d.1 suits calm h
audit_fits deck report before now s told suits calm (inr h) =
    let d = told deck (inl refl) in
    let r = told report (inr refl) in
    unread_fits report MOST_REPORT_BYTES before now s r.0 r.1 (both_told deck report before d.0 r.0 CanBeAudited d.1 r.1 suits).2 calm h.1

-- Findings of the same bytes are the same.
same_found : (d : Deck) (bytes : List ℕ) (a b : List Finding) → IsAudit d bytes a → IsAudit d bytes b → a ≡ b
same_found d bytes a b first second = first.are ∙ ap (findings d) (one_report d bytes first.read second.read first.is second.is) ∙ sym second.are

-- If both files are told, all of it holds of the deck and of the report that they spell.
audit_told : (deck report : List ℕ) (before : ShelfState) (given : ReportAndTape) → AuditGives deck report before given
    → (found : List Finding) × (given ≡ audit_given found) × OfReport deck report before (λ d bytes. IsAudit d bytes found)
unfolding AuditGives
audit_told deck report before given (found, is, has) = (found, is, of_report deck report before (λ d bytes. IsAudit d bytes found) has)

pub audit_one : (deck report : List ℕ) (before other : ShelfState) (a b : ReportAndTape) → TellSameInputs (audit_meaning deck report) before other
    → AuditGives deck report before a → AuditGives deck report other b → a ≡ b
audit_one deck report before other a b same one two =
    let first = audit_told deck report before a one in
    let second = audit_told deck report other b two in
    let d = same deck (inl refl) in
    let r = same report (inr refl) in
    let pair = one_told deck report before other d.0 r.0 (λ d bytes. IsAudit d bytes first.0) (λ d bytes. IsAudit d bytes second.0) d.1 r.1 d.2 r.2 first.2 second.2 in
    first.1 ∙ ap audit_given (same_found pair.0 r.0 first.0 second.0 pair.1 pair.2) ∙ sym second.1

pub audit_facts : (deck report : List ℕ) → CommandFacts (audit_meaning deck report)
audit_facts deck report = record { sound = audit_sound deck report; inputs = record { fits = λ before now s told suits. audit_fits deck report before now s told (of_report deck report before CanBeAudited suits) } }
