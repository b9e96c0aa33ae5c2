-- The pins of ethers use small ones, of reader 0.
--
-- The first words of seed 12 are 1370425950, 978885209, 847163202, 130869789, 1125954119 and 649016008. If all are late, the
-- first two pushes are due at 1 and 2.
use Rattle.std.specs.Prelude.{◌≡◌, ℕ, Bool, List, [], ◌∷◌, codes}
use Rattle.air_model.specs.Ethers.{Odds}
use Rattle.air_ether.specs.HeardPlaces.{IsPlacesAfter}
use Rattle.air_ether.specs.HeardSoFar.{Ether, IsEtherAfter}

-- Of a hundred pushes, these numbers are lost, heard again, and late.
abbrev pub odds : ℕ → ℕ → ℕ → Odds
odds loss again late = record { loss = loss; again = again; late = late }

-- The ether of this seed and these odds was given these buckets, it gave this number of them, and the end was told or not.
pub record HasGivenBytes (seed : ℕ) (odds : Odds) (pushed : List (List ℕ)) (given : ℕ) (ended : Bool) (e : Ether) : Type 0 where
  pub odds_are : e.odds ≡ odds
  pub follows : IsEtherAfter seed 0 pushed given e
  pub told : e.ended ≡ ended

-- Nine buckets. With seed 1910, if all are late, the first is due at 8, and the others later.
abbrev pub nine : List (List ℕ)
nine = codes "a" ∷ codes "b" ∷ codes "c" ∷ codes "d" ∷ codes "e" ∷ codes "f" ∷ codes "g" ∷ codes "h" ∷ codes "i" ∷ []

-- The ether of this seed and these odds, without bytes, was pushed this often, it gave this number of places, and the end was told or not.
--
-- The first two pushes of seed 17 are due at 3 and 2 if all are late, and the third later.
pub record HasGivenPlaces (seed : ℕ) (odds : Odds) (pushes given : ℕ) (ended : Bool) (e : Ether) : Type 0 where
  pub odds_are : e.odds ≡ odds
  pub pushed : e.pushes ≡ pushes
  pub follows : IsPlacesAfter seed 0 given e
  pub told : e.ended ≡ ended
