-- For private steps only. The answer to a newcomer as one definition: the four of `Caches`, by case.
use Rattle.std.specs.Prelude.{ℕ, List}
use Rattle.air_model.specs.Reads.{Read}
use Rattle.pix_cache.specs.declared.cache.KeepAnswer.{KeepAnswer}
use Rattle.pix_cache.specs.declared.cache.KeepAnswer.TheVariants.{Replaced, Placed, Declined, Evicted}
use Rattle.pix_cache.specs.Caches.{FindsRoom, GivesWay, HasCopy, IsLeastCopy}

-- What the answer says of the copies before it and of the newcomer.
abbrev pub IsKeepAnswer : ℕ → List ℕ → List Read → Read → KeepAnswer → Type 0
IsKeepAnswer room pix copies x Replaced = HasCopy copies x
IsKeepAnswer room pix copies x Placed = FindsRoom room copies x
IsKeepAnswer room pix copies x Declined = IsLeastCopy room pix copies x
IsKeepAnswer room pix copies x (Evicted item) = GivesWay room pix copies x item
