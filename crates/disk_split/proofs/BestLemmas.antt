-- A deck has one best split.
use Rattle.std.proofs.Common.{◌≡◌, ℕ, List, arith}
use Rattle.air_model.specs.Decks.{Deck}
use Rattle.disk_split.specs.Splits.{IsBest, cost}
use Rattle.disk_split.proofs.Orders.{level}

pub one_best : (deck : Deck) (sizes others : List ℕ) → IsBest deck sizes → IsBest deck others → sizes ≡ others
one_best deck sizes others one two =
    let same : cost deck others ≡ cost deck sizes = (let down = one.least others two.short in let up = two.least sizes one.short in omega arith) in
    let back : cost deck sizes ≡ cost deck others = omega arith in
    level sizes others (two.first sizes one.short back) (one.first others two.short same)
