-- How often the calls of a device failed. A caller that gets a failure knows that the count of its call went up.
use Rattle.std.specs.Prelude.{◌≡◌, ◌<◌, ◌≤◌, ◌⊎◌, ◌-◌, ◌^◌, ℕ, List, Result, OnErr, OnOk}

-- How often reading and writing by each name failed, and how often printing did.
pub record Faults : Type 0 where
  pub reading : List ℕ → ℕ
  pub writing : List ℕ → ℕ
  pub printing : ℕ

-- The count of failed readings by a name.
abbrev pub reading_of : List ℕ → Faults → ℕ
reading_of name faults = faults.reading name

-- The count of failed writings by a name.
abbrev pub writing_of : List ℕ → Faults → ℕ
writing_of name faults = faults.writing name

-- The count of failed printings.
abbrev pub printing_of : Faults → ℕ
printing_of faults = faults.printing

-- One number that a form has for all of its counts.
abbrev pub one_count : ℕ → Faults
one_count n = record { reading = λ _. n; writing = λ _. n; printing = n }

-- A count of faults went up, or was at its last value and stays there.
abbrev pub Rose : ℕ → ℕ → Type 0
Rose before now = (before < now) ⊎ ((before ≡ 2 ^ 64 - 1) × (now ≡ before))

-- No count is lower than before.
pub record NoCountFalls (before now : Faults) : Type 0 where
  pub reading : (n : List ℕ) → before.reading n ≤ now.reading n
  pub writing : (n : List ℕ) → before.writing n ≤ now.writing n
  pub printing : before.printing ≤ now.printing

-- Every count is as before.
pub record KeepsCounts (before now : Faults) : Type 0 where
  pub reading : (n : List ℕ) → now.reading n ≡ before.reading n
  pub writing : (n : List ℕ) → now.writing n ≡ before.writing n
  pub printing : now.printing ≡ before.printing

-- A call of a device with one count fails only if the count went up; otherwise the count is unchanged. The count never falls.
pub record TellsFailure {T E : Type 0} (before now : ℕ) (result : Result T E) : Type 0 where
  pub rose : OnErr result (Rose before now)
  pub later : before ≤ now
  pub calm : OnOk result (now ≡ before)

-- A call of a device with several counts fails only if its own count went up; otherwise every count is unchanged. No count
-- falls.
pub record TellsFailureIn {T E : Type 0} (own : Faults → ℕ) (before now : Faults) (result : Result T E) : Type 0 where
  pub rose : OnErr result (Rose (own before) (own now))
  pub later : NoCountFalls before now
  pub calm : OnOk result (KeepsCounts before now)
