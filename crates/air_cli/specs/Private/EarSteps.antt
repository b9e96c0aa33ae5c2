-- For private steps alone. What listeners have heard of an ear so far.
use Rattle.std.specs.Prelude.{◌≡◌, ℕ, List, map, Option}
use Rattle.air_model.specs.Buckets.{bucket_in}
use Rattle.listeners.specs.Listeners.{Listener, hears}
use Rattle.air_cli.specs.Hearings.{IsHeardOnEar}

-- The listeners have heard what the ear gave, until its end, or until the greatest number of datagrams was heard.
pub record HaveHeardEar (most : ℕ) (before now : Option (List (List ℕ))) (first last : List Listener) : Type 0 where
  pub heard : List (List ℕ)
  pub is : IsHeardOnEar most before now heard
  pub same : last ≡ map (hears (map bucket_in heard)) first
