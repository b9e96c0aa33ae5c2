-- What holds of the parts that declarations declare, added one after another, if no kind applies to any.
--
-- `Kept` is the whole of it, and `Spelt` says what holds of a declaration that a record spells. `KeptSteps` has the steps.
use Rattle.std.proofs.Common.{◌≡◌, ◌<◌, ◌≤◌, ◌+◌, ◌^◌, ◌++◌, ◌∷◌, [], ℕ, zero, suc, List, Option, Bool, true, false, ap, arith, get_or, length, nat_le, inl, inr, length-append}
use Rattle.std.specs.Prelude.{All, AllPairs, sum_by}
use Rattle.std.specs.List.{list_all, list_any}
use Rattle.std.proofs.lemmas.Bool.{and_parts, cases_lt}
use Rattle.std.proofs.lemmas.List.{set_past}
use Rattle.std.proofs.lemmas.List.Elements.{All-append}
use Rattle.std.proofs.lemmas.List.Sums.{sum_by-set}
use Rattle.air_base.specs.declared.limits.TheConstants.{MOST_ASKED, MOST_CYCLES, MOST_DISKS, MOST_EVENTS, MOST_FREQ, MOST_ITEMS, MOST_QUERIES, MOST_RATE, MOST_READERS, MOST_REPLANS, MOST_SIZE, MOST_STARTS, MOST_UPDATERS, MOST_UPDATES}
use Rattle.air_history.specs.UpdateLists.{UpdateLists}
use Rattle.air_model.specs.Decks.{IsQuery, IsUpdate, scripted_commits}
use Rattle.air_model.specs.declared.deck.ReaderPlan.{ReaderPlan}
use Rattle.item_catalog.specs.DeckLimits.{ReaderWithin}
use Rattle.item_catalog.specs.Private.Drafts.{DraftValue, push_at}
use Rattle.item_catalog.specs.Declarations.{Declaration}
use Rattle.item_catalog.specs.Declarations as e
use Rattle.item_catalog.specs.Faults.{count_starts}
use Rattle.item_catalog.specs.ListTests.{option_any}
use Rattle.item_catalog.specs.Parts.{ReplanSaid}
use Rattle.item_catalog.specs.Ranges.{outside}
use Rattle.item_catalog.specs.Settings.{range_of}
use Rattle.item_catalog.specs.declared.parts.ItemPart.{ItemPart}
use Rattle.item_catalog.specs.declared.parts.DiskPart.{DiskPart}
use Rattle.item_catalog.specs.declared.deck.draft.settings.Setting.{Setting}
use Rattle.item_catalog.specs.declared.deck.draft.settings.Setting.TheVariants as setting
use Rattle.item_catalog.proofs.DeclarationLemmas.{is_signed, or_none}

-- ---- lists

pub all_push : {A : Type 0} (P : A → Type 0) (xs : List A) (x : A) → All P xs → P x → All P (xs ++ x ∷ [])
all_push {A = A} P xs x all here = All-append P xs (x ∷ []) all at
  where
    at : All P (x ∷ [])
    at zero d below = here
    at (suc k) d below = absurd (omega arith)

pub all_more : {A : Type 0} (P Q : A → Type 0) (xs : List A) → ((x : A) → P x → Q x) → All P xs → All Q xs
all_more P Q xs f all k d below = f (get_or xs k d) (all k d below)

pub none_all : {A : Type 0} (p : A → Bool) (xs : List A) → list_any p xs ≡ false → All (λ x. p x ≡ false) xs
none_all p [] none k d below = absurd (omega arith)
none_all p (x ∷ xs) none zero d below = (or_none (p x) (list_any p xs) none).0
none_all p (x ∷ xs) none (suc k) d below = none_all p xs (or_none (p x) (list_any p xs) none).1 k d (omega arith)

pub every : {A : Type 0} (p : A → Bool) (xs : List A) → list_all p xs ≡ true → All (λ x. p x ≡ true) xs
every p [] all k d below = absurd (omega arith)
every p (x ∷ xs) all zero d below = (and_parts (p x) (list_all p xs) all).0
every p (x ∷ xs) all (suc k) d below = every p xs (and_parts (p x) (list_all p xs) all).1 k d (omega arith)

pub sum_push : {A : Type 0} (lists : List (List A)) (i : ℕ) (x : A) → sum_by length (push_at lists i x) ≤ sum_by length lists + 1
sum_push lists i x = elim (cases_lt i (length lists)) [
  | inl below ↦ let s = sum_by-set length lists i (get_or lists i [] ++ x ∷ []) [] below in omega (arith, s, length-append (get_or lists i []) (x ∷ []))
  | inr past ↦ let same : push_at lists i x ≡ lists = set_past lists i (get_or lists i [] ++ x ∷ []) past in omega (arith, ap (λ l. sum_by length l) same)
]

-- ---- what holds of a record's declaration alone

-- The declaration's numbers fit: a value and amounts have 64 bits, a setting is in its range; a minus has a base.
abbrev pub InRange : Setting → Type 0
InRange (setting.Policy policy) = Unit {0}
InRange (setting.Number name n) = ((range_of name).0 ≤ n) × (n ≤ (range_of name).1)

abbrev pub Spelt : Declaration → Type 0
Spelt (e.DeclaredItem id value rate) = value < 2 ^ 64
Spelt (e.DeclaredDisk size freq) = Unit {0}
Spelt (e.DeclaredReplan cycle sizes freqs) = Unit {0}
Spelt (e.DeclaredUpdate by reads writes) = (list_all is_signed writes ≡ true) × All (λ w. w.amount < 2 ^ 64) writes
Spelt (e.DeclaredReader room age tries) = Unit {0}
Spelt (e.DeclaredQuery reader items) = Unit {0}
Spelt (e.DeclaredScript events) = Unit {0}
Spelt (e.DeclaredSetting s) = InRange s

-- ---- what is kept

pub record DiskKept (d : DiskPart) : Type 0 where
  pub some : 1 ≤ d.size
  pub few : d.size ≤ MOST_SIZE
  pub freq : option_any (outside 1 MOST_FREQ) d.freq ≡ false

pub record ReaderKept (r : ReaderPlan) : Type 0 where
  pub within : ReaderWithin r
  pub some : 1 ≤ r.tries

pub record QueryKept (n : ℕ) (items : List ℕ) : Type 0 where
  pub query : IsQuery n items
  pub few : length items ≤ MOST_ASKED

pub record ItemsKept (items : List ItemPart) : Type 0 where
  pub each : All (λ i. (i.value < 2 ^ 64) × (i.rate ≤ MOST_RATE)) items
  pub few : length items ≤ MOST_ITEMS

pub record DisksKept (disks : List DiskPart) : Type 0 where
  pub each : All DiskKept disks
  pub few : length disks ≤ MOST_DISKS

pub record ReplanKept (r : ReplanSaid) : Type 0 where
  pub from_two : 2 ≤ r.cycle
  pub within_a_run : r.cycle ≤ MOST_CYCLES
  pub disks : DisksKept r.disks

pub record ReplansKept (replans : List ReplanSaid) (last : ℕ) : Type 0 where
  pub each : All ReplanKept replans
  pub few : length replans ≤ MOST_REPLANS
  pub rising : AllPairs (λ a b. a.cycle < b.cycle) replans
  pub up_to_last : All (λ r. r.cycle ≤ last) replans

pub record UpdatesKept (n : ℕ) (updates : List (List UpdateLists)) (updaters count : ℕ) : Type 0 where
  pub each : All (All (IsUpdate n)) updates
  pub lists : length updates ≡ MOST_UPDATERS
  pub few : updaters ≤ MOST_UPDATERS
  pub past : (by : ℕ) → updaters ≤ by → length (get_or updates by []) ≡ 0
  pub few_in_all : count ≤ MOST_UPDATES
  pub all : sum_by length updates ≤ count

pub record ReadersKept (readers : List ReaderPlan) : Type 0 where
  pub each : All ReaderKept readers
  pub few : length readers ≤ MOST_READERS

pub record QueriesKept (n : ℕ) (queries : List (List (List ℕ))) (count : ℕ) : Type 0 where
  pub each : All (All (QueryKept n)) queries
  pub lists : length queries ≡ MOST_READERS
  pub few_in_all : count ≤ MOST_QUERIES
  pub all : sum_by length queries ≤ count

pub record EventsKept (updates : List (List UpdateLists)) (script : List (Option ℕ)) : Type 0 where
  pub few : length script ≤ MOST_EVENTS
  pub few_starts : count_starts script ≤ MOST_STARTS
  pub updaters : list_any (option_any (nat_le MOST_UPDATERS)) script ≡ false
  pub fits : (by : ℕ) → scripted_commits by script ≤ length (get_or updates by [])

pub record Kept (d : DraftValue) : Type 0 where
  pub items : ItemsKept d.items
  pub disks : DisksKept d.disks
  pub replans : ReplansKept d.replans d.last_replan_cycle
  pub updates : UpdatesKept (length d.items) d.updates d.updaters d.update_count
  pub readers : ReadersKept d.readers
  pub queries : QueriesKept (length d.items) d.queries d.query_count
  pub script : EventsKept d.updates d.script
  pub set : All InRange d.set
