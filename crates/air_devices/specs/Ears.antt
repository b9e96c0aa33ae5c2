-- An ear, as a call finds or leaves it. The trait `Ear` has this as its one ghost function, and every clause on an ear uses it.
-- None stands for what a form doesn't tell.
use Rattle.std.specs.Prelude.{◌≡◌, ◌≤◌, ℕ, List, [], ◌∷◌, length, take, Option, Some, None, ⊤}
use Rattle.air_devices.specs.declared.ears.Heard.{Heard}
use Rattle.air_devices.specs.declared.ears.Heard.TheVariants as heard

-- What an ear tells: the datagrams that are still to be heard, how often its calls failed, and the port that it was tuned to,
-- if it was tuned.
pub record EarState : Type 0 where
  pub told : Option (List (List ℕ))
  pub faults : ℕ
  pub port : Option ℕ

-- If it is told what is still to be heard, that began with this datagram, which was taken from it.
abbrev pub TakesFirst : Option (List (List ℕ)) → Option (List (List ℕ)) → (List ℕ → Type 0) → Type 0
TakesFirst None now P = ⊤
TakesFirst (Some []) now P = ⊥
TakesFirst (Some (first ∷ rest)) now P = (now ≡ Some rest) × P first

-- If it is told what is still to be heard, that is nothing, and stays so.
abbrev pub IsUsedUp : Option (List (List ℕ)) → Option (List (List ℕ)) → Type 0
IsUsedUp None now = ⊤
IsUsedUp (Some waiting) now = (waiting ≡ []) × (now ≡ Some [])

-- What a call heard: the first datagram, cut to the room, at the beginning of the buffer; or the end, if nothing is left.
abbrev pub Hears : Option (List (List ℕ)) → Option (List (List ℕ)) → List ℕ → Heard → Type 0
Hears before now buf (heard.Bucket len) = (1 ≤ len) × (len ≤ length buf) × TakesFirst before now (λ first. take len buf ≡ take (length buf) first)
Hears before now buf heard.Over = IsUsedUp before now
