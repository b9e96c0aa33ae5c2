-- Whether a number is outside of two limits. The limits themselves are constants of `air_base`.
use Rattle.std.specs.Prelude.{ℕ, Bool, ◌||◌, nat_lt}

-- Whether the number is below the least or above the most.
abbrev pub outside : ℕ → ℕ → ℕ → Bool
outside least most n = nat_lt n least || nat_lt most n
