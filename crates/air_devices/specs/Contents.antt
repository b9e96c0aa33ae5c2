-- What a shelf tells of what it holds. A name is the list of its bytes. None stands for what a form doesn't tell: of real files
-- nothing is known. Every clause of a shelf uses these definitions.
use Rattle.std.specs.Prelude.{ℕ, List, Option, None}

-- What a shelf tells: the bytes of each file, what is left of each to read, the bytes of each output, the printed bytes.
pub record Contents : Type 0 where
  pub file : List ℕ → Option (List ℕ)
  pub left : List ℕ → Option (List ℕ)
  pub output : List ℕ → Option (List ℕ)
  pub printed : Option (List ℕ)

-- A form that tells nothing.
abbrev pub nothing_told : Contents
nothing_told = record { file = λ _. None; left = λ _. None; output = λ _. None; printed = None }
