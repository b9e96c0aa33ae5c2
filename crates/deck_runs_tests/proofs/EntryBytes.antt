-- The entries of any version have at most as many bytes as in full.
use Rattle.std.proofs.Common.{◌*◌, ◌≤◌, ℕ, Bool, true, false, if◌then◌else◌, arith, mul-le-mul_right}
use Rattle.air_model.specs.Buckets.{entry_len, has_ages}

pub few_bytes : (version n : ℕ) → entry_len version * n ≤ 4 * n
few_bytes version n = mul-le-mul_right n (by (has_ages version))
  where
    by : (ages : Bool) → (if ages then 1 else 4) ≤ 4
    by true = omega arith
    by false = omega arith
