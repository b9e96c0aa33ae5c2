-- What an ether is after a bucket was given: after its place, or once the bucket that `next` lent is given back.
use Rattle.std.specs.Prelude.{◌≡◌, ℕ, ◌+◌, ◌<◌, List, Option, IfNone, MatchOption, OnSome}
use Rattle.std.specs.Borrow.{MutBor, Fml}
use Rattle.std.specs.Io.BufRead.{Rests}
use denote.Ref.{Bor}
use Rattle.air_ether.specs.contracts.ether.Ether.{the_row}
use Rattle.air_ether.specs.HeardSoFar.{Ether, IsEtherAfter, IsQuiet, left_of}

-- The same ether: if a bucket was given, one member further; if none was given, quiet.
pub record Gave {X : Type 0} (old : Ether) (result : Option X) (new : Ether) : Type 0 where
  pub most : new.most ≡ old.most
  pub odds : new.odds ≡ old.odds
  pub pushes : new.pushes ≡ old.pushes
  pub ended : new.ended ≡ old.ended
  pub fewer : OnSome result (left_of new < left_of old)
  pub quiet : IfNone result (IsQuiet new)
  pub follows : (seed number given : ℕ) (pushed : List (List ℕ)) → IsEtherAfter seed number pushed given old →
      MatchOption result (IsEtherAfter seed number pushed given new) (λ _. IsEtherAfter seed number pushed (given + 1) new)

-- The ether is the one of `Gave` once the result is given back.
abbrev pub Gives : MutBor Ether → Option (Bor (List ℕ)) → Fml
Gives e result = Rests the_row e (Gave e.now result)
