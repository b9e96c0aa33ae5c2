-- A deck of which each split is too long: `split d` isn't done, and its refusal has the slots of the shortest split.
use Rattle.std.proofs.Common.{◌≡◌, ◌≤◌, ◌*◌, ℕ, List, [], ◌∷◌, All, Some, None, codes, length, refl, sym, ap, ◌∙◌, subst, inl, inr, arith}
use Rattle.std.proofs.Math.Nat.{mul-le-mul_left}
use Rattle.std.proofs.lemmas.List.Elements.{All-cons, All-nil}
use Rattle.std.specs.Prelude.{Option}
use Rattle.std.specs.Io.KnownBytes.{Appends}
use Rattle.csv.specs.Writing.{escaped, fields_text, is_blank}
use Rattle.air_base.specs.Numbers.{number_text}
use Rattle.air_devices.specs.Counts.{Rose}
use Rattle.air_devices.specs.Shelves.{ShelfState}
use Rattle.air_devices.specs.WhatIsTold.{WhereTold}
use Rattle.air_model.specs.Decks.{Deck}
use Rattle.air_model.specs.Programs.{least_common_multiple}
use Rattle.air_model.specs.Rows.{rows_text}
use Rattle.air_report.specs.Statuses.{status_line}
use Rattle.air_report.specs.declared.status.Status.{Status}
use Rattle.air_report.specs.declared.status.Status.TheVariants as status
use Rattle.item_catalog.specs.Grammar.{Spells}
use Rattle.item_catalog.proofs.GrammarLemmas.{one_deck}
use Rattle.disk_split.specs.SplitAnswers.{AreAllTooLong}
use Rattle.disk_split.specs.Splits.{IsShortSplit, IsSplit, slots_of}
use Rattle.disk_split.specs.Numbers.{chunks_in, minors_in}
use Rattle.disk_split.specs.Rests.{minor_from}
use Rattle.disk_split.proofs.DeckLemmas.{deck_sums, slots_walk, split_rest}
use Rattle.disk_split.proofs.RestLemmas.{slots_many}
use Rattle.air_cli.specs.Answers.{QuietAnswers}
use Rattle.air_base.specs.declared.limits.TheConstants.{MOST_DECK_BYTES}
use Rattle.air_cli.specs.NamedDecks.{SpellsDeck}
use Rattle.air_cli.specs.ReportsAndTapes.{ReportAndTape}
use Rattle.air_cli.specs.Split.{SplitCause, SplitGives, UnsplitCause, split_meaning}
use Rattle.command_pins.specs.SmallDecks.{long_deck}

-- ---- the slots of its splits

all_some : (a b c : ℕ) → 1 ≤ a → 1 ≤ b → 1 ≤ c → All (λ n. 1 ≤ n) (a ∷ b ∷ c ∷ [])
all_some a b c one two three =
    All-cons (λ n. 1 ≤ n) a (b ∷ c ∷ []) one (All-cons (λ n. 1 ≤ n) b (c ∷ []) two (All-cons (λ n. 1 ≤ n) c [] three (All-nil (λ n. 1 ≤ n))))

long_minors : minors_in long_deck ≡ 5544
unfolding minors_in least_common_multiple
long_minors = refl

long_chunks : chunks_in long_deck ≡ 88 ∷ 99 ∷ 126 ∷ []
unfolding chunks_in minors_in least_common_multiple
long_chunks = refl

at_least : (sizes : List ℕ) → IsSplit long_deck sizes → 16632 ≤ slots_of long_deck sizes
at_least sizes split =
    let some : All (λ n. 1 ≤ n) (chunks_in long_deck) = subst (All (λ n. 1 ≤ n)) (sym long_chunks) (all_some 88 99 126 (omega arith) (omega arith) (omega arith)) in
    let many = slots_many (deck_sums long_deck) (chunks_in long_deck) 0 sizes some (split_rest long_deck sizes split) in
    let grows : minors_in long_deck * 3 ≤ minors_in long_deck * minor_from (chunks_in long_deck) sizes = mul-le-mul_left (minors_in long_deck) (omega (arith, ap length long_chunks)) in
    omega (arith, slots_walk long_deck sizes split, long_minors)

short_split : IsSplit long_deck (1 ∷ 1 ∷ 89 ∷ [])
short_split = record { disks = refl; filled = all_some 1 1 89 (omega arith) (omega arith) (omega arith); all = refl }

three_slots : minors_in long_deck * minor_from (chunks_in long_deck) (1 ∷ 1 ∷ 89 ∷ []) ≡ 16632
unfolding minors_in chunks_in least_common_multiple minor_from
three_slots = refl

least_is : (slots : ℕ) → AreAllTooLong long_deck slots → slots ≡ 16632
least_is slots all =
    let low = all.least (1 ∷ 1 ∷ 89 ∷ []) short_split in
    let r = all.reached in let high = at_least r.0 r.1 in let is = r.2 in
    omega (arith, slots_walk long_deck (1 ∷ 1 ∷ 89 ∷ []) short_split, three_slots)

-- ---- what the refusal says if the file spells the deck

-- The deck that the file spells is this one.
is_long : (bytes : List ℕ) (before : ShelfState) (d : Deck) → before.told.file (codes "d") ≡ Some bytes → Spells bytes long_deck → SpellsDeck (codes "d") before d → d ≡ long_deck
is_long bytes before d told spells is =
    let known = subst (λ f. WhereTold f (λ bytes. (length bytes ≤ MOST_DECK_BYTES) × Spells bytes d)) told is in one_deck bytes d long_deck known.1 spells

none_given : (bytes : List ℕ) (before : ShelfState) (given : ReportAndTape) → before.told.file (codes "d") ≡ Some bytes → Spells bytes long_deck → SplitGives (codes "d") before given → ⊥
unfolding SplitGives
none_given bytes before given told spells (same, (d, is, made, (few, (sizes, best, text)))) =
    let short : IsShortSplit long_deck sizes = subst (λ d. IsShortSplit d sizes) (is_long bytes before d told spells is) best.short in
    let fits = short.short in let low = at_least sizes short.split in omega arith

told_by_cause : (bytes : List ℕ) (before now : ShelfState) (slots : ℕ) → before.told.file (codes "d") ≡ Some bytes → Spells bytes long_deck
    → SplitCause (codes "d") before now (status.PlanTooLong slots) → slots ≡ 16632
unfolding SplitCause UnsplitCause
told_by_cause bytes before now slots told spells (d, is, made, (few, all)) =
    least_is slots (subst (λ d. AreAllTooLong d slots) (is_long bytes before d told spells is) all)

pub not_done : (bytes : List ℕ) (before now : ShelfState) (s : Status) → before.told.file (codes "d") ≡ Some bytes → Spells bytes long_deck
    → QuietAnswers (split_meaning (codes "d")) before now s → s ≡ status.Ok → ⊥
unfolding QuietAnswers
not_done bytes before now s told spells answers e =
    let h = subst (QuietAnswers (split_meaning (codes "d")) before now) e answers in let gave = h.gives in none_given bytes before gave.0 told spells gave.1

pub slots_told : (bytes : List ℕ) (before now : ShelfState) (s : Status) (slots : ℕ) → before.told.file (codes "d") ≡ Some bytes → Spells bytes long_deck
    → QuietAnswers (split_meaning (codes "d")) before now s → s ≡ status.PlanTooLong slots → slots ≡ 16632
unfolding QuietAnswers
slots_told bytes before now s slots told spells answers e =
    let h = subst (QuietAnswers (split_meaning (codes "d")) before now) e answers in told_by_cause bytes before now slots told spells h.0

-- ---- the line that is printed

line_is : status_line (status.PlanTooLong 16632) ≡ codes "fault,13,16632\n"
unfolding rows_text number_text escaped fields_text is_blank
line_is = refl

grown : (now : Option (List ℕ)) (text : List ℕ) → Appends (Some []) now text → now ≡ Some text
grown None text h = absurd h
grown (Some ys) text h = ap Some h

not_rose : (before now : ℕ) → before ≡ 0 → now ≡ 0 → Rose before now → ⊥
not_rose before now none still (inl less) = omega arith
not_rose before now none still (inr (last, same)) = omega arith

pub line_told : (bytes : List ℕ) (before now : ShelfState) (s : Status) (slots : ℕ) → before.told.file (codes "d") ≡ Some bytes → Spells bytes long_deck → before.told.printed ≡ Some []
    → before.faults.printing ≡ 0 → now.faults.printing ≡ 0 → QuietAnswers (split_meaning (codes "d")) before now s → s ≡ status.PlanTooLong slots → now.told.printed ≡ Some (codes "fault,13,16632\n")
unfolding QuietAnswers
line_told bytes before now s slots told spells printed none calm answers e =
    let h = subst (QuietAnswers (split_meaning (codes "d")) before now) e answers in
    let is = told_by_cause bytes before now slots told spells h.0 in
    let adds = h.1.line.whole (not_rose before.faults.printing now.faults.printing none calm) in
    let from : Appends (Some []) now.told.printed (status_line (status.PlanTooLong slots)) = subst (λ p. Appends p now.told.printed (status_line (status.PlanTooLong slots))) printed adds in
    grown now.told.printed (status_line (status.PlanTooLong slots)) from ∙ ap (λ n. Some (status_line (status.PlanTooLong n))) is ∙ ap Some line_is
