-- For private steps alone. When a bucket of a kind and an item stands rightly in a slot, by the policy.
use Rattle.std.specs.Prelude.{ℕ, zero, suc, Bool, not, ◌&&◌, is_none, Option}
use Rattle.air_base.specs.declared.verdicts.Policy.{Policy}
use Rattle.air_model.specs.Aired.{airs_columns}
use Rattle.air_model.specs.Airings.{carries}

-- An idle bucket fills an idle slot. A column fills the slot of its item where the policy airs columns, and a vector where
-- it airs vectors. The kinds are those of the bytes: 0 idle, 1 column, 2 vector.
unfoldable pub kind_fits : Policy → Option ℕ → ℕ → ℕ → Bool
kind_fits policy slot zero item = is_none slot
kind_fits policy slot (suc zero) item = carries item slot && airs_columns policy
kind_fits policy slot (suc (suc more)) item = carries item slot && not (airs_columns policy)
