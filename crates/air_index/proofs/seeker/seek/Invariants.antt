use Rattle.std.proofs.Common.{◌≡◌, length}
use Rattle.air_model.specs.Tapes.{tape_read}
use Rattle.air_index.specs.Searches.{seeker_tells}
use Rattle.air_index.specs.Seeks.{sought}
use Rattle.air_index.proofs.seeker.seek.Given as goal

-- What the seeker tells of the records that are left is what is sought on all.
abbrev pub invariant-loop-record : goal.invariant-loop-record
invariant-loop-record l = record {
  cut : l.records.cut ≡ (tape_read l.fn.tape).cut;
  told : seeker_tells l.seeker l.records.records ≡ sought (tape_read l.fn.tape).records l.fn.item l.fn.from;
}

abbrev pub decreases-loop-record : goal.decreases-loop-record
decreases-loop-record l = length l.records.records
