-- A mast that has sent some buckets without a failure, for the pins of casts.
use Rattle.std.specs.Prelude.{◌≡◌, ℕ, length, Some}
use Rattle.air_devices.specs.Masts.{MastState, SentBuckets}

-- Some mast of the type had counted no failure, and had sent this number of buckets and no end.
pub record HadSent {M : Type 0} (state : M → MastState) (sent : ℕ) : Type 0 where
  pub mast : M
  pub calm : (state mast).faults ≡ 0
  pub buckets : SentBuckets
  pub told : (state mast).told ≡ Some buckets
  pub count : length buckets.buckets ≡ sent
