-- The kinds of fault that apply to what a record spells. A kind has a number, its code. Which kinds apply is given by a list of
-- kinds with their tests, by rising number.
use Rattle.std.specs.Prelude.{ℕ, List, [], ◌∷◌, Bool, Option, Some, None, Result, Ok, Err, map, if◌then◌else◌}
use Rattle.std.specs.List.{filter}

-- The first kind whose test holds, which is the least, since the tests are by rising kind.
abbrev pub first_of : {K : Type 0} → List (K × Bool) → Option K
first_of [] = None
first_of (t ∷ tests) = if t.1 then Some t.0 else first_of tests

-- The numbers of the kinds whose tests hold.
abbrev pub kinds_of : {K : Type 0} → (K → ℕ) → List (K × Bool) → List ℕ
kinds_of code tests = map (λ t. code t.0) (filter (λ t. t.1) tests)

-- The numbers of the kinds that apply to what a record spells: the one that is given, or those whose tests hold of what is
-- spelled.
abbrev pub spelled_kinds : {K X : Type 0} → (K → ℕ) → (X → List (K × Bool)) → Result X K → List ℕ
spelled_kinds code tests (Err kind) = code kind ∷ []
spelled_kinds code tests (Ok x) = kinds_of code (tests x)

-- The least of these kinds.
abbrev pub least_kind : {K X : Type 0} → (X → List (K × Bool)) → Result X K → Option K
least_kind tests (Err kind) = Some kind
least_kind tests (Ok x) = first_of (tests x)

-- What was read so far after a record: with what the record spells, if it spells something; otherwise as before.
abbrev pub with_spelled : {D K X : Type 0} → (D → X → D) → D → Result X K → D
with_spelled more d (Err kind) = d
with_spelled more d (Ok x) = more d x
