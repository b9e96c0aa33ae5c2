-- The buckets that are heard are in range.
use Rattle.std.proofs.Common.{◌≡◌, [], ◌∷◌, Result, Ok, refl, sym, subst, inl, inr, rules, arith}
use Rattle.std.specs.Prelude.{IfOk}
use Rattle.std.proofs.lemmas.Bool.{false≢true}
use Rattle.air_model.specs.declared.bucket.BucketFault.{BucketFault}
use Rattle.air_model.specs.Buckets.{Bucket, Column, IsInRange, Vector, count_of, entries_of, item_of, kind_of, value_of}
use Rattle.session_pins.specs.EditionReceivers.{changed_bucket}
use Rattle.session_pins.specs.SmallBuckets.{bucket}

-- What holds of a bucket holds of the answer that has it.
pub of_answer : (b : Bucket) (answer : Result Bucket BucketFault) → answer ≡ Ok b → IsInRange b → IfOk answer IsInRange
of_answer b answer is range = subst (λ a. IfOk a IsInRange) (sym is) range

pub vector_range : (answer : Result Bucket BucketFault) → answer ≡ Ok (bucket 2 1 (Vector 1 20 (0 ∷ 0 ∷ []))) → IfOk answer IsInRange
unfolding count_of entries_of item_of kind_of value_of
vector_range answer is = of_answer (bucket 2 1 (Vector 1 20 (0 ∷ 0 ∷ []))) answer is (record {
  version = inl refl;
  edition = omega arith;
  some = omega arith;
  count = omega arith;
  started = omega arith;
  cycle = omega arith;
  slot = omega arith;
  placed = inr (omega arith);
  value = omega arith;
  entries = search rules;
  told = λ ages. absurd (false≢true ages);
})

pub edition_range : (answer : Result Bucket BucketFault) → answer ≡ Ok (record (bucket 1 0 (Column 0 10 (0 ∷ 0 ∷ []))) { edition = 1 }) → IfOk answer IsInRange
unfolding count_of entries_of item_of kind_of value_of
edition_range answer is = of_answer (record (bucket 1 0 (Column 0 10 (0 ∷ 0 ∷ []))) { edition = 1 }) answer is (record {
  version = inl refl;
  edition = omega arith;
  some = omega arith;
  count = omega arith;
  started = omega arith;
  cycle = omega arith;
  slot = omega arith;
  placed = inr (omega arith);
  value = omega arith;
  entries = search rules;
  told = λ ages. absurd (false≢true ages);
})

pub clash_range : (answer : Result Bucket BucketFault) → answer ≡ Ok (bucket 2 1 (Column 1 25 (1 ∷ 1 ∷ []))) → IfOk answer IsInRange
unfolding count_of entries_of item_of kind_of value_of
clash_range answer is = of_answer (bucket 2 1 (Column 1 25 (1 ∷ 1 ∷ []))) answer is (record {
  version = inl refl;
  edition = omega arith;
  some = omega arith;
  count = omega arith;
  started = omega arith;
  cycle = omega arith;
  slot = omega arith;
  placed = inr (omega arith);
  value = omega arith;
  entries = search rules;
  told = λ ages. absurd (false≢true ages);
})

pub first_range : (answer : Result Bucket BucketFault) → answer ≡ Ok (bucket 1 0 (Column 0 10 (0 ∷ 0 ∷ []))) → IfOk answer IsInRange
unfolding count_of entries_of item_of kind_of value_of
first_range answer is = of_answer (bucket 1 0 (Column 0 10 (0 ∷ 0 ∷ []))) answer is (record {
  version = inl refl;
  edition = omega arith;
  some = omega arith;
  count = omega arith;
  started = omega arith;
  cycle = omega arith;
  slot = omega arith;
  placed = inr (omega arith);
  value = omega arith;
  entries = search rules;
  told = λ ages. absurd (false≢true ages);
})

pub changed_range : (answer : Result Bucket BucketFault) → answer ≡ Ok changed_bucket → IfOk answer IsInRange
unfolding count_of entries_of item_of kind_of value_of
changed_range answer is = of_answer changed_bucket answer is (record {
  version = inl refl;
  edition = omega arith;
  some = omega arith;
  count = omega arith;
  started = omega arith;
  cycle = omega arith;
  slot = omega arith;
  placed = inr (omega arith);
  value = omega arith;
  entries = search rules;
  told = λ ages. absurd (false≢true ages);
})
