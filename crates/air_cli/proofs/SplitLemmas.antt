-- What the proofs of `split` need of its definitions.
use Rattle.std.proofs.Common.{◌≡◌, ℕ, List, [], ◌∷◌, ◌++◌, map, codes, refl, sym, ap, ◌∙◌, subst, arith}
use Rattle.std.proofs.lemmas.List.{append-nil}
use Rattle.csv.specs.Writing.{row_text}
use Rattle.air_base.specs.NumberLists.{list_text}
use Rattle.air_base.specs.Numbers.{number_text}
use Rattle.air_devices.specs.Counts.{NoCountFalls}
use Rattle.air_devices.specs.Unchanged.{KeepsButPrinted}
use Rattle.air_devices.specs.Shelves.{ShelfState}
use Rattle.air_model.specs.Decks.{Deck, IsDeck}
use Rattle.item_catalog.specs.DeckLimits.{WithinLimits}
use Rattle.air_model.specs.Rows.{row_writer, rows_text}
use Rattle.air_report.specs.declared.status.Status.{Status}
use Rattle.air_report.specs.declared.status.Status.TheVariants as status
use Rattle.disk_split.specs.Splits.{IsBest, cost, sizes_in, split_row, split_text}
use Rattle.disk_split.proofs.BestLemmas.{one_best}
use Rattle.item_catalog.proofs.GrammarLemmas.{one_deck}
use Rattle.air_cli.specs.NamedDecks.{DeckCause, SpellsDeck}
use Rattle.air_cli.specs.NamedFiles.{UnreadCause}
use Rattle.air_cli.specs.ReportsAndTapes.{ReportAndTape}
use Rattle.air_cli.specs.Split.{CanBeSplit, SplitCause, SplitGives, UnsplitCause, split_meaning}
use Rattle.air_cli.specs.ToldInputs.{TellSameInputs, TellsInputs}
use Rattle.air_cli.specs.Answers.{NoCountRose}
use Rattle.air_cli.specs.Private.GivenTexts.{split_given}
use Rattle.air_cli.proofs.CauseLemmas.{OfDeck, of_deck, of_had}
use Rattle.air_cli.proofs.InputLemmas.{CommandFacts, both, deck_fits, deck_told}
use Rattle.air_cli.proofs.RefusalLemmas.{IsSound, deck_still}

-- ---- the text

two_rows : (one two : List (List ℕ)) (first second : List ℕ) → first ≡ row_text row_writer one → second ≡ first ++ row_text row_writer two → second ≡ rows_text (one ∷ two ∷ [])
unfolding rows_text
two_rows one two first second begins goes =
    goes ∙ ap (λ t. t ++ row_text row_writer two) begins ∙ ap (λ t. row_text row_writer one ++ t) (sym (append-nil (row_text row_writer two)))

-- The row of sizes that are these, with a cost that is theirs.
row_is : (name : List ℕ) (d : Deck) (sizes told : List ℕ) (n : ℕ) → told ≡ sizes → n ≡ cost d sizes
    → row_text row_writer (name ∷ list_text (map number_text told) ∷ number_text n ∷ []) ≡ row_text row_writer (split_row name d sizes)
row_is name d sizes told n same costs =
    ap (λ l. row_text row_writer (name ∷ list_text (map number_text l) ∷ number_text n ∷ [])) same
    ∙ ap (λ n. row_text row_writer (name ∷ list_text (map number_text sizes) ∷ number_text n ∷ [])) costs

-- The two rows, written one after the other.
pub split_is : (d : Deck) (sizes best own : List ℕ) (c g : ℕ) (before first second : List ℕ) → before ≡ [] → best ≡ sizes → own ≡ sizes_in d → c ≡ cost d sizes → g ≡ cost d (sizes_in d)
    → first ≡ before ++ row_text row_writer (codes "split" ∷ list_text (map number_text best) ∷ number_text c ∷ [])
    → second ≡ first ++ row_text row_writer (codes "given" ∷ list_text (map number_text own) ∷ number_text g ∷ []) → second ≡ split_text d sizes
unfolding split_text
split_is d sizes best own c g before first second none same owned costs gives one two =
    two_rows (split_row (codes "split") d sizes) (split_row (codes "given") d (sizes_in d)) first second
    (one ∙ ap (λ t. t ++ row_text row_writer (codes "split" ∷ list_text (map number_text best) ∷ number_text c ∷ [])) none ∙ row_is (codes "split") d sizes best c same costs)
    (two ∙ ap (λ t. first ++ t) (row_is (codes "given") d (sizes_in d) own g owned gives))

-- ---- why it is refused

-- There is no split if there is no deck.
pub deck_split : (name : List ℕ) (before now : ShelfState) (s : Status) → DeckCause name before now s → SplitCause name before now s
unfolding SplitCause DeckCause UnreadCause
deck_split name before now (status.TooMuch product) h = absurd h
deck_split name before now (status.PlanTooLong slots) h = absurd h
deck_split name before now s h = h

-- There is none either if no best split of the deck is given.
pub unsplit_split : (name : List ℕ) (before now : ShelfState) (d : Deck) (s : Status) → SpellsDeck name before d → IsDeck d × WithinLimits d → UnsplitCause d s → SplitCause name before now s
unfolding SplitCause DeckCause UnreadCause UnsplitCause
unsplit_split name before now d status.NoMemory spells made h = h
unsplit_split name before now d (status.TooMuch product) spells made h = (d, spells, made, h)
unsplit_split name before now d (status.PlanTooLong slots) spells made h = (d, spells, made, h)
unsplit_split name before now d s spells made h = absurd h

split_still : (name : List ℕ) (before mid now : ShelfState) (s : Status) → KeepsButPrinted mid.told now.told → NoCountFalls mid.faults now.faults → SplitCause name before mid s → SplitCause name before now s
unfolding SplitCause
split_still name before mid now (status.TooMuch product) rest counts h = h
split_still name before mid now (status.PlanTooLong slots) rest counts h = h
split_still name before mid now s rest counts h = deck_still name before mid now s rest counts h

split_sound : (deck : List ℕ) → IsSound (split_meaning deck)
unfolding SplitCause DeckCause UnreadCause
split_sound deck = record {
  still = split_still deck;
  not_done = λ before now h. h;
  not_different = λ before now h. h;
  not_failed = λ before now h. h;
  input = λ before now h. record { name = deck; named = refl; rose = h };
}

-- ---- what its input decides

-- A deck that can be split isn't too much.
can_or_much : (d : Deck) (product : ℕ) → CanBeSplit d → UnsplitCause d (status.TooMuch product) → ⊥
unfolding UnsplitCause
can_or_much d product can (counted, above) = let few = can.few in omega arith

-- Not all splits of a deck that can be split are too long.
can_or_long : (d : Deck) (slots : ℕ) → CanBeSplit d → UnsplitCause d (status.PlanTooLong slots) → ⊥
unfolding UnsplitCause
can_or_long d slots can (few, all) = let s = can.short in let fits = s.1.short in let low = all.least s.0 s.1.split in let above = all.above in omega arith

split_fits : (deck : List ℕ) (before now : ShelfState) (s : Status) → TellsInputs (split_meaning deck) before → OfDeck deck before CanBeSplit
    → NoCountRose before.faults now.faults → SplitCause deck before now s → s ≡ status.NoMemory
unfolding SplitCause UnsplitCause
split_fits deck before now (status.TooMuch product) told suits calm h =
    let known = told deck refl in
    let cause : Deck → Type 0 = λ d. UnsplitCause d (status.TooMuch product) in
    let two = both deck before known.0 CanBeSplit cause known.1 suits (of_had deck before cause h) in
    absurd (can_or_much two.0 product two.1 two.2)
split_fits deck before now (status.PlanTooLong slots) told suits calm h =
    let known = told deck refl in
    let cause : Deck → Type 0 = λ d. UnsplitCause d (status.PlanTooLong slots) in
    let two = both deck before known.0 CanBeSplit cause known.1 suits (of_had deck before cause h) in
    absurd (can_or_long two.0 slots two.1 two.2)
split_fits deck before now s told suits calm h = let known = told deck refl in deck_fits deck before now s known.0 CanBeSplit known.1 suits calm h

-- The deck's best split is given.
abbrev GivesBest : ReportAndTape → Deck → Type 0
GivesBest given d = (sizes : List ℕ) × IsBest d sizes × (given ≡ split_given d sizes)

-- If the deck's file is told, it is that of the deck that the file spells.
split_told : (deck : List ℕ) (before : ShelfState) (given : ReportAndTape) → SplitGives deck before given → OfDeck deck before (GivesBest given)
unfolding SplitGives
split_told deck before given (same, (d, spells, made, (few, gave))) = of_deck deck before d (GivesBest given) spells gave

gave_one : (d : Deck) (a b : ReportAndTape) → GivesBest a d → GivesBest b d → a ≡ b
gave_one d a b (sizes, best, is) (others, first, so) = is ∙ ap (split_given d) (one_best d sizes others best first) ∙ sym so

pub split_one : (deck : List ℕ) (before other : ShelfState) (a b : ReportAndTape) → TellSameInputs (split_meaning deck) before other → SplitGives deck before a → SplitGives deck other b → a ≡ b
split_one deck before other a b same first second =
    let told = same deck refl in
    let x = deck_told deck before told.0 (GivesBest a) told.1 (split_told deck before a first) in
    let y = deck_told deck other told.0 (GivesBest b) told.2 (split_told deck other b second) in
    gave_one x.1.0 a b x.1.2 (subst (GivesBest b) (one_deck told.0 y.1.0 x.1.0 y.1.1 x.1.1) y.1.2)

pub split_facts : (deck : List ℕ) → CommandFacts (split_meaning deck)
split_facts deck = record { sound = split_sound deck; inputs = record { fits = λ before now s told suits. split_fits deck before now s told (of_had deck before CanBeSplit suits) } }
