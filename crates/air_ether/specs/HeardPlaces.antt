-- What contracts see of an ether without bytes: how many of the places that are due it gave.
use Rattle.std.specs.Prelude.{ℕ, ◌+◌, ◌-◌, ◌*◌, Bool, List, [], replicate}
use Rattle.air_model.specs.Draws.{words_of}
use Rattle.air_model.specs.Ethers.{Odds, places_due}
use Rattle.air_ether.specs.HeardSoFar.{Ether, IsEtherAfter, left_of, limit_of}
use Rattle.air_ether.specs.declared.ether.TheConstants.{MOST_DUE}

-- The places of what is due of n pushes, at these odds, by the words of this seed and this reader's number, before or after the end.
unfoldable pub places_of : ℕ → ℕ → Odds → ℕ → Bool → List ℕ
places_of seed number odds n ended = places_due odds (words_of seed number (3 * n)) n (limit_of ended n)

-- The ether of this seed and this number gave this many of the places that are due of its pushes: it was pushed empty buckets.
abbrev pub IsPlacesAfter : ℕ → ℕ → ℕ → Ether → Type 0
IsPlacesAfter seed number given e = IsEtherAfter seed number (replicate e.pushes []) given e

-- A bound on the number of buckets that are given before the push at a place. It falls with each one that is given.
abbrev pub left_before : ℕ → Ether → ℕ
left_before last e = (last - e.pushes) * (MOST_DUE + 1) + left_of e
