-- What fields spell together: a value from all of them, or the kind of a fault.
use Rattle.std.specs.Prelude.{Option, Some, None, Result, Ok, Err}

-- What follows from a value, if there is one. For spelled texts this is a step of `do`.
abbrev pub spelled_then : {A B : Type 0} → Option A → (A → Option B) → Option B
spelled_then None f = None
spelled_then (Some x) f = f x

-- What is spelled, or a fault of this kind.
abbrev pub or_fault : {K A : Type 0} → K → Option A → Result A K
or_fault kind None = Err kind
or_fault kind (Some x) = Ok x
