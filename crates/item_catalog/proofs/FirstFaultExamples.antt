-- Which records spell a deck and which fail, by the relations themselves: where each holds, and where it doesn't.
use Rattle.std.proofs.Common.{◌≡◌, ◌<◌, ◌≤◌, get_or, ℕ, zero, suc, List, [], ◌∷◌, Contains, refl, ap, arith}
use Rattle.std.specs.Prelude.{codes, length}
use Rattle.air_base.specs.Numbers.{number_of}
use Rattle.air_base.specs.declared.verdicts.Policy.TheVariants.{FMatrix}
use Rattle.air_model.specs.Decks.{Deck}
use Rattle.item_catalog.specs.Fields.{freq_of}
use Rattle.item_catalog.specs.Faults.{kinds_at}
use Rattle.item_catalog.specs.FirstFaults.{IsFirstFault, IsLeastKind, NoneBefore}
use Rattle.item_catalog.specs.Grammar.{RecordsFail, RecordsSpell}

-- ---- the least kind of a place, and the first place

-- No kind at place 0, and two kinds from place 1 on.
abbrev from_one : ℕ → List ℕ
from_one zero = []
from_one (suc place) = 6 ∷ 7 ∷ []

is_least : IsLeastKind 6 (6 ∷ 7 ∷ [])
is_least = record { one = (0, omega arith, refl); least = least }
  where
    least : (k d : ℕ) → k < 2 → 6 ≤ get_or (6 ∷ 7 ∷ []) k d
    least zero d below = omega arith
    least (suc zero) d below = omega arith
    least (suc (suc k)) d below = absurd (omega arith)

-- A greater one isn't the least, and a lesser one isn't among them.
not_least : (IsLeastKind 7 (6 ∷ 7 ∷ []) → ⊥) × (IsLeastKind 5 (6 ∷ 7 ∷ []) → ⊥)
not_least = (λ h. let low : 7 ≤ 6 = h.least 0 0 (omega arith) in omega arith, λ h. none h.one)
  where
    none : Contains {X = ℕ} (6 ∷ 7 ∷ []) 5 → ⊥
    none (zero, within, is) = let e : 6 ≡ 5 = is in omega (arith, e)
    none (suc zero, within, is) = let e : 7 ≡ 5 = is in omega (arith, e)
    none (suc (suc k), within, is) = omega arith

none_before : NoneBefore from_one 1
none_before zero below = refl
none_before (suc place) below = absurd (omega arith)

some_before : NoneBefore from_one 2 → ⊥
some_before h = let e : ◌≡◌ {A = List ℕ} (6 ∷ 7 ∷ []) [] = h 1 (omega arith) in cc

is_first : IsFirstFault 3 from_one 1 6
is_first = record { within = omega arith; first = none_before; least = is_least }

-- A later place isn't the first, nor is one after the last place, or one with a greater kind.
not_first : (IsFirstFault 3 from_one 2 6 → ⊥) × (IsFirstFault 1 from_one 1 6 → ⊥) × (IsFirstFault 3 from_one 1 7 → ⊥)
not_first = (λ h. some_before h.first, λ h. let within : 1 < 1 = h.within in omega arith, λ h. not_least.0 h.least)

-- ---- records

-- The fields of a record.
abbrev Row : Type 0
Row = List (List ℕ)

abbrev item0 : Row
item0 = codes "item" ∷ codes "0" ∷ codes "10" ∷ codes "1" ∷ []

abbrev disk1 : Row
disk1 = codes "disk" ∷ codes "1" ∷ codes "1" ∷ []

-- A deck of one item, with no reader and an empty script.
abbrev small : Deck
small = record {
  items = record { value = 10; rate = 1 } ∷ [];
  disks = record { size = 1; freq = 1 } ∷ [];
  replans = [];
  updates = [];
  readers = [];
  queries = [];
  script = [];
  settings = record { policy = FMatrix; version = 1; group = 0; cycles = 10; seed = 0; loss = 0; again = 0; late = 0; monitors = 0; hears = 1000000 };
}

spell : RecordsSpell (item0 ∷ disk1 ∷ []) small
unfolding kinds_at number_of freq_of
spell = record { faultless = none; parts = refl }
  where
    none : (place : ℕ) → place < 3 → kinds_at (item0 ∷ disk1 ∷ []) place ≡ []
    none zero below = refl
    none (suc zero) below = refl
    none (suc (suc zero)) below = refl
    none (suc (suc (suc place))) below = absurd (omega arith)

-- The records don't spell it without the disk, nor do they spell another deck.
not_spell : (RecordsSpell (item0 ∷ []) (record small { disks = [] }) → ⊥) × (RecordsSpell (item0 ∷ disk1 ∷ []) (record small { disks = [] }) → ⊥)
unfolding kinds_at number_of freq_of
not_spell = (
  λ h. let e : ◌≡◌ {A = List ℕ} (6 ∷ 7 ∷ []) [] = h.faultless 1 (omega arith) in cc,
  λ h. let e : 0 ≡ 1 = ap (λ d. length d.disks) h.parts in omega (arith, e),
)

-- Without a disk the end fails: the sum of the sizes is less than the number of items.
fail : RecordsFail (item0 ∷ []) 1 6
unfolding kinds_at number_of
fail = record { within = omega arith; first = before; least = is_least }
  where
    before : (place : ℕ) → place < 1 → kinds_at (item0 ∷ []) place ≡ []
    before zero below = refl
    before (suc place) below = absurd (omega arith)

not_fail : (RecordsFail (item0 ∷ []) 1 7 → ⊥) × (RecordsFail (item0 ∷ []) 0 6 → ⊥)
unfolding kinds_at number_of
not_fail = (λ h. not_least.0 h.least, λ h. none h.least.one)
  where
    none : Contains {X = ℕ} [] 6 → ⊥
    none (k, within, is) = omega arith
