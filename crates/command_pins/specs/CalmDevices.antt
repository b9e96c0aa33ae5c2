-- Masts and ears without a failure, for the pins of failed calls of the air.
use Rattle.std.specs.Prelude.{◌≡◌, ◌+◌, ℕ, List, length, Some}
use Rattle.air_devices.specs.Ears.{EarState}
use Rattle.air_devices.specs.Masts.{MastState}

-- Some ear of the type had counted no failure, and had given `heard` datagrams of `all`.
pub record HadLeft {E : Type 0} (state : E → EarState) (heard all : ℕ) : Type 0 where
  pub ear : E
  pub calm : (state ear).faults ≡ 0
  pub left : List (List ℕ)
  pub told : (state ear).told ≡ Some left
  pub count : heard + length left ≡ all

-- This ear tells what some ear of the type told that had counted no failure.
pub record ToldByCalmEar {E : Type 0} (state : E → EarState) (now : E) : Type 0 where
  pub ear : E
  pub calm : (state ear).faults ≡ 0
  pub same : (state now).told ≡ (state ear).told

-- This mast tells what some mast of the type told that had counted no failure.
pub record ToldByCalmMast {M : Type 0} (state : M → MastState) (now : M) : Type 0 where
  pub mast : M
  pub calm : (state mast).faults ≡ 0
  pub same : (state now).told ≡ (state mast).told
