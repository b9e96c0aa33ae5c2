-- The record that is written for a declaration whose numbers fit spells that declaration.
use Rattle.std.proofs.Common.{◌≡◌, ◌<◌, ◌≤◌, ◌^◌, ◌++◌, ◌∷◌, [], ℕ, List, Option, Some, None, Ok, Bool, true, false, not, refl, ap, ◌∙◌, eqb, length, map, get_or, nat_lt, arith}
use Rattle.std.specs.Prelude.{◌==◌, ◌&&◌, All}
use Rattle.std.specs.Char.{is_ascii_digit}
use Rattle.std.specs.Cmp.Lexicographic.{pointwise}
use Rattle.std.specs.Prelude.{nat_eq}
use Rattle.std.specs.List.{list_all}
use Rattle.std.proofs.lemmas.Bool.{and_parts}
use Rattle.std.proofs.lemmas.Bool.Decides.{nat_tests}
use Rattle.std.proofs.lemmas.List.Elements.{All-cons, All-head, All-nil, All-tail}
use Rattle.std.proofs.lemmas.List.Folds.{list_all-append}
use Rattle.std.proofs.lemmas.List.Sums.{AllPass-from_list_all}
use Rattle.air_base.specs.NumberLists.{list_of, list_text, parts_of}
use Rattle.air_base.specs.Numbers.{number_text}
use Rattle.air_base.specs.declared.verdicts.Policy.{Policy}
use Rattle.air_base.specs.declared.verdicts.Policy.TheVariants as policy
use Rattle.air_base.proofs.ListLaws.{IsPart, list_text_spells, parts_of-list_text}
use Rattle.air_base.proofs.NumberLemmas.{number_digits, text_spells}
use Rattle.air_base.proofs.LeadingNumberLemmas.{all_such}
use Rattle.air_base.proofs.PartLemmas.{all_some-Some}
use Rattle.air_history.specs.declared.updates.Write.{Write}
use Rattle.item_catalog.specs.Writes.{spelled_value_write, spelled_write}
use Rattle.item_catalog.proofs.SplitWriteLemmas.{value_minus, value_number, value_plus, write_equals}
use Rattle.item_catalog.specs.RecordFields.{◌is◌}
use Rattle.item_catalog.specs.Declarations.{Declaration, spelled_declaration}
use Rattle.item_catalog.specs.Declarations as e
use Rattle.item_catalog.specs.Fields.{freq_of, spelled_event}
use Rattle.item_catalog.specs.Ranges.{outside}
use Rattle.item_catalog.specs.Settings.{range_of}
use Rattle.item_catalog.specs.declared.deck.draft.settings.Name.{Name}
use Rattle.item_catalog.specs.declared.deck.draft.settings.Name.TheVariants as n
use Rattle.item_catalog.specs.declared.deck.draft.settings.Setting.{Setting}
use Rattle.item_catalog.specs.declared.deck.draft.settings.Setting.TheVariants as setting
use Rattle.item_catalog.proofs.KeptLemmas.{InRange}
use Rattle.item_catalog.specs.DeckTexts.{declaration_row, event_text, freq_text, set_row, value_text, write_text}

-- ---- what fits

-- The number, if there is one, has at most 64 bits.
abbrev pub SmallNumber : Option ℕ → Type 0
SmallNumber None = Unit {0}
SmallNumber (Some k) = k < 2 ^ 64

-- Without a base there is no minus.
abbrev pub BaseFits : Bool → Option ℕ → Type 0
BaseFits minus None = minus ≡ false
BaseFits minus (Some base) = base < 2 ^ 64

pub record WriteFits (w : Write) : Type 0 where
  pub item : w.item < 2 ^ 64
  pub base : BaseFits w.minus w.base
  pub amount : w.amount < 2 ^ 64

abbrev pub Fits : Declaration → Type 0
Fits (e.DeclaredItem id value rate) = (id < 2 ^ 64) × (value < 2 ^ 64) × (rate < 2 ^ 64)
Fits (e.DeclaredDisk size freq) = (size < 2 ^ 64) × SmallNumber freq
Fits (e.DeclaredReplan cycle sizes freqs) = (cycle < 2 ^ 64) × All (λ s. s < 2 ^ 64) sizes × All SmallNumber freqs
Fits (e.DeclaredUpdate by reads writes) = (by < 2 ^ 64) × All (λ r. r < 2 ^ 64) reads × All WriteFits writes
Fits (e.DeclaredReader room age tries) = (room < 2 ^ 64) × (age < 2 ^ 64) × (tries < 2 ^ 64)
Fits (e.DeclaredQuery reader items) = (reader < 2 ^ 64) × All (λ i. i < 2 ^ 64) items
Fits (e.DeclaredScript events) = All SmallNumber events
Fits (e.DeclaredSetting s) = InRange s

-- ---- numbers

digits : (k : ℕ) → k < 2 ^ 64 → (0 < length (number_text k)) × (list_all is_ascii_digit (number_text k) ≡ true)
digits k small = number_digits (number_text k) k (text_spells k small)

-- A word that begins with a byte other than a digit isn't spelled by digits.
no_word : (s : ℕ) (word text : List ℕ) → is_ascii_digit s ≡ false → list_all is_ascii_digit text ≡ true → (text is (s ∷ word)) ≡ false
no_word s word [] other all = refl
no_word s word (c ∷ rest) other all = by (c == s) refl
  where
    by : (b : Bool) → (c == s) ≡ b → (c == s && pointwise nat_eq rest word) ≡ false
    by false e = rw e refl
    by true e =
        let same : c ≡ s = grind (arith, nat_tests) in let both = and_parts (is_ascii_digit c) (list_all is_ascii_digit rest) all in
        cc (ap is_ascii_digit same, other, both.0)

freq_spelled : (freq : Option ℕ) → SmallNumber freq → freq_of (freq_text freq) ≡ Some freq
unfolding freq_of
freq_spelled None small = refl
freq_spelled (Some k) small = rw (no_word 45 [] (number_text k) refl (digits k small).1, text_spells k small) refl

event_spelled : (event : Option ℕ) → SmallNumber event → spelled_event (event_text event) ≡ Some event
unfolding spelled_event
event_spelled None small = refl
event_spelled (Some k) small = rw (no_word 115 [] (number_text k) refl (digits k small).1, text_spells k small) refl

-- ---- writes

value_spelled : (item amount : ℕ) (minus : Bool) (base : Option ℕ) → BaseFits minus base → amount < 2 ^ 64
    → spelled_value_write (Some item) (value_text minus base amount) ≡ Some (record { item = item; base = base; minus = minus; amount = amount })
value_spelled item amount true None fits small = cc fits
value_spelled item amount false None fits small = value_number (Some item) (number_text amount) (digits amount small).1 ∙ rw (text_spells amount small) refl
value_spelled item amount true (Some base) fits small =
    value_minus (Some item) (number_text base) (number_text amount) (digits base fits).1 ∙ rw (text_spells base fits, text_spells amount small) refl
value_spelled item amount false (Some base) fits small =
    value_plus (Some item) (number_text base) (number_text amount) (digits base fits).1 ∙ rw (text_spells base fits, text_spells amount small) refl

write_spelled : (w : Write) → WriteFits w → spelled_write (write_text w) ≡ Some w
write_spelled w fits =
    write_equals (number_text w.item) (value_text w.minus w.base w.amount) (digits w.item fits.item).1
    ∙ ap (λ item. spelled_value_write item (value_text w.minus w.base w.amount)) (text_spells w.item fits.item)
    ∙ value_spelled w.item w.amount w.minus w.base fits.base fits.amount

-- ---- parts of lists

abbrev no_space : ℕ → Bool
no_space b = not (eqb b 32)

digit_no_space : (b : ℕ) → is_ascii_digit b ≡ true → no_space b ≡ true
digit_no_space b h = grind (arith, nat_tests)

number_no_space : (k : ℕ) → k < 2 ^ 64 → list_all no_space (number_text k) ≡ true
number_no_space k small = all_such is_ascii_digit no_space digit_no_space (number_text k) (digits k small).1

not_true : (b : Bool) → not b ≡ true → b ≡ false
not_true true h = cc h
not_true false h = refl

is_part : (text : List ℕ) → 0 < length text → list_all no_space text ≡ true → IsPart text
is_part text some all = record { some = some; no_space = λ k d below. not_true (eqb (get_or text k d) 32) (AllPass-from_list_all no_space text all k d below) }

some_bytes : (a : List ℕ) (b : ℕ) (c : List ℕ) → 0 < length (a ++ b ∷ c)
some_bytes [] b c = omega arith
some_bytes (x ∷ a) b c = omega arith

joined : (a : List ℕ) (b : ℕ) (c : List ℕ) → list_all no_space a ≡ true → no_space b ≡ true → list_all no_space c ≡ true → list_all no_space (a ++ b ∷ c) ≡ true
joined a b c front here back = list_all-append no_space a (b ∷ c) ∙ rw (front, here, back) refl

value_no_space : (minus : Bool) (base : Option ℕ) (amount : ℕ) → BaseFits minus base → amount < 2 ^ 64 → list_all no_space (value_text minus base amount) ≡ true
value_no_space minus None amount fits small = number_no_space amount small
value_no_space true (Some base) amount fits small = joined (number_text base) 45 (number_text amount) (number_no_space base fits) refl (number_no_space amount small)
value_no_space false (Some base) amount fits small = joined (number_text base) 43 (number_text amount) (number_no_space base fits) refl (number_no_space amount small)

write_part : (w : Write) → WriteFits w → IsPart (write_text w)
write_part w fits =
    let value = value_text w.minus w.base w.amount in
    is_part (number_text w.item ++ 61 ∷ value) (some_bytes (number_text w.item) 61 value)
    (joined (number_text w.item) 61 value (number_no_space w.item fits.item) refl (value_no_space w.minus w.base w.amount fits.base fits.amount))

event_part : (event : Option ℕ) → SmallNumber event → IsPart (event_text event)
event_part None small = is_part (115 ∷ []) (omega arith) refl
event_part (Some k) small = is_part (number_text k) (digits k small).0 (number_no_space k small)

freq_part : (freq : Option ℕ) → SmallNumber freq → IsPart (freq_text freq)
freq_part None small = is_part (45 ∷ []) (omega arith) refl
freq_part (Some k) small = is_part (number_text k) (digits k small).0 (number_no_space k small)

-- A list of what spells itself.
module _ {A : Type 0} (Small : A → Type 0) (text : A → List ℕ) (value : List ℕ → Option A)
    (spelled : (x : A) → Small x → value (text x) ≡ Some x) (part : (x : A) → Small x → IsPart (text x)) where
  parts : (xs : List A) → All Small xs → All IsPart (map text xs)
  parts [] all = All-nil IsPart
  parts (x ∷ xs) all = All-cons IsPart (text x) (map text xs) (part x (All-head Small x xs all)) (parts xs (All-tail Small x xs all))

  each : (xs : List A) → All Small xs → map value (map text xs) ≡ map Some xs
  each [] all = refl
  each (x ∷ xs) all = rw (spelled x (All-head Small x xs all), each xs (All-tail Small x xs all)) refl

  list_spelled : (xs : List A) → All Small xs → list_of value (list_text (map text xs)) ≡ Some xs
  list_spelled xs all = all_some-Some (map value (parts_of (list_text (map text xs)))) xs (ap (map value) (parts_of-list_text (map text xs) (parts xs all)) ∙ each xs all)

writes_spelled : (ws : List Write) → All WriteFits ws → list_of spelled_write (list_text (map write_text ws)) ≡ Some ws
writes_spelled ws all = list_spelled WriteFits write_text spelled_write write_spelled write_part ws all

events_spelled : (events : List (Option ℕ)) → All SmallNumber events → list_of spelled_event (list_text (map event_text events)) ≡ Some events
events_spelled events all = list_spelled SmallNumber event_text spelled_event event_spelled event_part events all

freqs_spelled : (freqs : List (Option ℕ)) → All SmallNumber freqs → list_of freq_of (list_text (map freq_text freqs)) ≡ Some freqs
freqs_spelled freqs all = list_spelled SmallNumber freq_text freq_of freq_spelled freq_part freqs all

-- ---- settings

small_range : (name : Name) (k : ℕ) → k ≤ (range_of name).1 → k < 2 ^ 64
small_range n.Delta k most = omega arith
small_range n.Version k most = omega arith
small_range n.Group k most = omega arith
small_range n.Cycles k most = omega arith
small_range n.Seed k most = omega arith
small_range n.Loss k most = omega arith
small_range n.Again k most = omega arith
small_range n.Late k most = omega arith
small_range n.Monitors k most = omega arith
small_range n.Hears k most = omega arith

inside : (least most k : ℕ) → least ≤ k → k ≤ most → outside least most k ≡ false
inside least most k low high =
    let a : nat_lt k least ≡ false = grind (arith, nat_tests) in let b : nat_lt most k ≡ false = grind (arith, nat_tests) in rw (a, b) refl

number_set : (name : Name) (k : ℕ) → InRange (setting.Number name k) → spelled_declaration (set_row (setting.Number name k)) ≡ Ok (e.DeclaredSetting (setting.Number name k))
number_set n.Delta k range = rw (text_spells k (small_range n.Delta k range.1), inside (range_of n.Delta).0 (range_of n.Delta).1 k range.0 range.1) refl
number_set n.Version k range = rw (text_spells k (small_range n.Version k range.1), inside (range_of n.Version).0 (range_of n.Version).1 k range.0 range.1) refl
number_set n.Group k range = rw (text_spells k (small_range n.Group k range.1), inside (range_of n.Group).0 (range_of n.Group).1 k range.0 range.1) refl
number_set n.Cycles k range = rw (text_spells k (small_range n.Cycles k range.1), inside (range_of n.Cycles).0 (range_of n.Cycles).1 k range.0 range.1) refl
number_set n.Seed k range = rw (text_spells k (small_range n.Seed k range.1), inside (range_of n.Seed).0 (range_of n.Seed).1 k range.0 range.1) refl
number_set n.Loss k range = rw (text_spells k (small_range n.Loss k range.1), inside (range_of n.Loss).0 (range_of n.Loss).1 k range.0 range.1) refl
number_set n.Again k range = rw (text_spells k (small_range n.Again k range.1), inside (range_of n.Again).0 (range_of n.Again).1 k range.0 range.1) refl
number_set n.Late k range = rw (text_spells k (small_range n.Late k range.1), inside (range_of n.Late).0 (range_of n.Late).1 k range.0 range.1) refl
number_set n.Monitors k range = rw (text_spells k (small_range n.Monitors k range.1), inside (range_of n.Monitors).0 (range_of n.Monitors).1 k range.0 range.1) refl
number_set n.Hears k range = rw (text_spells k (small_range n.Hears k range.1), inside (range_of n.Hears).0 (range_of n.Hears).1 k range.0 range.1) refl

policy_set : (p : Policy) → spelled_declaration (set_row (setting.Policy p)) ≡ Ok (e.DeclaredSetting (setting.Policy p))
policy_set policy.FMatrix = refl
policy_set policy.Datacycle = refl
policy_set policy.RMatrix = refl

set_spelled : (s : Setting) → InRange s → spelled_declaration (set_row s) ≡ Ok (e.DeclaredSetting s)
set_spelled (setting.Policy p) range = policy_set p
set_spelled (setting.Number name k) range = number_set name k range

-- ---- declarations

pub declaration_spelled : (x : Declaration) → Fits x → spelled_declaration (declaration_row x) ≡ Ok x
declaration_spelled (e.DeclaredItem id value rate) fits = rw (text_spells id fits.0, text_spells value fits.1, text_spells rate fits.2) refl
declaration_spelled (e.DeclaredDisk size freq) fits = rw (text_spells size fits.0, freq_spelled freq fits.1) refl
declaration_spelled (e.DeclaredReplan cycle sizes freqs) fits = rw (text_spells cycle fits.0, list_text_spells sizes fits.1, freqs_spelled freqs fits.2) refl
declaration_spelled (e.DeclaredUpdate by reads writes) fits = rw (text_spells by fits.0, list_text_spells reads fits.1, writes_spelled writes fits.2) refl
declaration_spelled (e.DeclaredReader room age tries) fits = rw (text_spells room fits.0, text_spells age fits.1, text_spells tries fits.2) refl
declaration_spelled (e.DeclaredQuery reader items) fits = rw (text_spells reader fits.0, list_text_spells items fits.1) refl
declaration_spelled (e.DeclaredScript events) fits = rw (events_spelled events fits) refl
declaration_spelled (e.DeclaredSetting s) fits = set_spelled s fits
