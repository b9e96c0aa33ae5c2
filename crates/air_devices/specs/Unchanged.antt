-- What a call of a shelf leaves unchanged: everything that is told, except the one thing that the call is for.
use Rattle.std.specs.Prelude.{◌≡◌, ◌≢◌, ℕ, List}
use Rattle.air_devices.specs.Contents.{Contents}

-- Everything told is unchanged, except what is left of the file of this name.
pub record KeepsButLeft (name : List ℕ) (before now : Contents) : Type 0 where
  pub files : (n : List ℕ) → now.file n ≡ before.file n
  pub other_left : (n : List ℕ) → n ≢ name → now.left n ≡ before.left n
  pub outputs : (n : List ℕ) → now.output n ≡ before.output n
  pub printed : now.printed ≡ before.printed

-- Everything told is unchanged, except the bytes of the output of this name.
pub record KeepsButOutput (name : List ℕ) (before now : Contents) : Type 0 where
  pub files : (n : List ℕ) → now.file n ≡ before.file n
  pub left : (n : List ℕ) → now.left n ≡ before.left n
  pub other_outputs : (n : List ℕ) → n ≢ name → now.output n ≡ before.output n
  pub printed : now.printed ≡ before.printed

-- Everything told is unchanged, except the printed bytes.
pub record KeepsButPrinted (before now : Contents) : Type 0 where
  pub files : (n : List ℕ) → now.file n ≡ before.file n
  pub left : (n : List ℕ) → now.left n ≡ before.left n
  pub outputs : (n : List ℕ) → now.output n ≡ before.output n
