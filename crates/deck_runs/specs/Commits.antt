-- What an updater's job leaves: how its pass continues.
use Rattle.std.specs.Prelude.{◌≡◌, ℕ, ◌<◌, List, ◌++◌, length, take}
use mathlib.Core.List.{IsPrefix}
use Rattle.air_history.specs.UpdateLists.{UpdateLists}
use Rattle.air_model.specs.Decks.{count_made}
use Rattle.air_model.specs.DeckLaws.{commits_from, made_by}
use Rattle.station.specs.PassStates.{PassState}

-- The pass p became q, and its further commits are exactly these updates, in order.
pub record Makes (updates : List UpdateLists) (p q : PassState) : Type 0 where
  pub seen : IsPrefix p.seen q.seen
  pub made : made_by p.number q.seen ≡ made_by p.number p.seen ++ commits_from p.number (count_made p.number p.seen) updates

-- Its further commits are the first of these updates, and not all.
abbrev pub MakesSome : List UpdateLists → PassState → PassState → Type 0
MakesSome updates p q = (n : ℕ) × (n < length updates) × Makes (take n updates) p q
