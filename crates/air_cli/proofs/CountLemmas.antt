-- Counts of faults over two moments: kept twice is kept, and a count that went up later went up.
use Rattle.std.proofs.Common.{ℕ, ◌≤◌, ◌∙◌, inl, inr, arith}
use Rattle.std.proofs.lemmas.Bool.{cases_lt}
use Rattle.air_devices.specs.Counts.{Faults, KeepsCounts, Rose}

-- Counts that were kept twice were kept.
pub kept_twice : (before mid now : Faults) → KeepsCounts before mid → KeepsCounts mid now → KeepsCounts before now
kept_twice before mid now a b = record {
  reading = λ n. b.reading n ∙ a.reading n;
  writing = λ n. b.writing n ∙ a.writing n;
  printing = b.printing ∙ a.printing;
}

-- A count that went up since a later moment went up since an earlier one.
pub rose_since : (before mid now : ℕ) → before ≤ mid → Rose mid now → Rose before now
rose_since before mid now le (inl rose) = inl (omega arith)
rose_since before mid now le (inr last) = let top = last.0 in let stays = last.1 in elim (cases_lt before now) as (λ _. Rose before now) [
  | inl less ↦ inl less
  | inr same ↦ inr (omega arith, omega arith)
]
