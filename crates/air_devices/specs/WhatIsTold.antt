-- Facts about what a form may leave untold: each holds if it is told. `Appends`, `Consumes` and `ReadConsumes` of std are used
-- together with these.
use Rattle.std.specs.Prelude.{◌≡◌, ℕ, List, Option, Some, None, ⊤, take}
use Rattle.std.specs.Io.KnownBytes.{Appends}

-- If contents are told, they are these bytes.
abbrev pub ToldIs : Option (List ℕ) → List ℕ → Type 0
ToldIs None bytes = ⊤
ToldIs (Some xs) bytes = bytes ≡ xs

-- What is told, if anything is, has this property.
abbrev pub WhereTold : {T : Type 0} → Option T → (T → Type 0) → Type 0
WhereTold None P = ⊤
WhereTold (Some told) P = P told

-- Contents that were told are told again, and are now these bytes.
abbrev pub Becomes : Option (List ℕ) → Option (List ℕ) → List ℕ → Type 0
Becomes None now bytes = ⊤
Becomes (Some xs) now bytes = now ≡ Some bytes

-- Contents that were told are told again, and grew by a prefix of these bytes.
abbrev pub AppendsBeginning : Option (List ℕ) → Option (List ℕ) → List ℕ → Type 0
AppendsBeginning before now bytes = (n : ℕ) × Appends before now (take n bytes)
