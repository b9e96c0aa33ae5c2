use Rattle.std.proofs.Common.{◌≡◌, ◌++◌, ℕ, List, None, length}
use Rattle.air_index.specs.Searches.{seeker_tells}
use Rattle.air_model.specs.Tapes.{tape_read}
use Rattle.air_cli.proofs.tapes.tape_hearers.seek_on.Given as goal

-- What the seeker tells of the records that are left is what it told of all.
abbrev pub invariant-loop-record : goal.invariant-loop-record
invariant-loop-record l = record {
  cut : l.records.cut ≡ None;
  told : (rest : List (List ℕ)) → seeker_tells l.seeker (l.records.records ++ rest) ≡ seeker_tells l.fn.seeker ((tape_read l.fn.piece).records ++ rest);
}

abbrev pub decreases-loop-record : goal.decreases-loop-record
decreases-loop-record l = length l.records.records
