-- What a sink took of a tape whose pieces it is given until one of them isn't aired, or isn't taken.
use Rattle.std.specs.Prelude.{◌≡◌, ◌⊎◌, ◌++◌, ℕ, List}

-- The tape has a beginning of which this holds: that it was taken, and nothing else.
pub record HasBeginning (Taken : List ℕ → Type 0) (tape : List ℕ) : Type 0 where
  pub so_far : List ℕ
  pub left : List ℕ
  pub joined : tape ≡ so_far ++ left
  pub taken : Taken so_far

-- Why no more of the tape was taken: memory ran out, and a beginning of it was taken; or the sink failed.
abbrev pub StopsAt : {F : Type 0} → (F → Type 0) → (List ℕ → Type 0) → (List ℕ → F → Type 0) → List ℕ → F → Type 0
StopsAt Wants Taken Failed tape fault = (Wants fault × HasBeginning Taken tape) ⊎ Failed tape fault
