-- What a call that reads a record answers.
use Rattle.std.specs.Prelude.{◌≡◌, Option, Some, None, Result, Ok, Err}
use Rattle.item_catalog.specs.declared.records.refusals.Refusal.{Refusal}
use Rattle.item_catalog.specs.declared.records.refusals.Refusal.TheVariants.{NoMemory, Kind}

-- A call answers the least kind if one applies; otherwise its result has this property. Out of memory has no cause.
abbrev pub Answers : {A K : Type 0} → Result A (Refusal K) → Option K → (A → Type 0) → Type 0
Answers (Ok x) least Holds = (least ≡ None) × Holds x
Answers (Err (Kind kind)) least Holds = least ≡ Some kind
Answers (Err NoMemory) least Holds = Unit {0}

-- A call reads what a record spells.
abbrev pub ReadsRecord : {A K : Type 0} → Result A (Refusal K) → Result A K → Type 0
ReadsRecord (Ok x) spelled = spelled ≡ Ok x
ReadsRecord (Err (Kind kind)) spelled = spelled ≡ Err kind
ReadsRecord (Err NoMemory) spelled = Unit {0}
