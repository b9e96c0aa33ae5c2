-- The buckets of version 2 that are heard are in range.
use Rattle.std.proofs.Common.{◌≡◌, [], ◌∷◌, Result, Ok, refl, inr, rules, arith}
use Rattle.std.specs.Prelude.{IfOk}
use Rattle.std.proofs.lemmas.List.Elements.{All-cons, All-nil}
use Rattle.air_history.specs.Ages.{capped}
use Rattle.air_model.specs.declared.bucket.BucketFault.{BucketFault}
use Rattle.air_model.specs.Buckets.{Bucket, IsInRange, count_of, entries_of, item_of, kind_of, value_of}
use Rattle.session_pins.proofs.RangeLemmas.{of_answer}
use Rattle.session_pins.specs.AgedReceivers.{early_bucket, far_bucket}

pub early_range : (answer : Result Bucket BucketFault) → answer ≡ Ok early_bucket → IfOk answer IsInRange
unfolding count_of entries_of item_of kind_of value_of capped
early_range answer is = of_answer early_bucket answer is (record {
  version = inr refl;
  edition = omega arith;
  some = omega arith;
  count = omega arith;
  started = omega arith;
  cycle = omega arith;
  slot = omega arith;
  placed = inr (omega arith);
  value = omega arith;
  entries = search rules;
  told = λ ages. All-cons (λ e. capped e 1 ≡ e) 0 (0 ∷ []) refl (All-cons (λ e. capped e 1 ≡ e) 0 [] refl (All-nil (λ e. capped e 1 ≡ e)));
})

pub far_range : (answer : Result Bucket BucketFault) → answer ≡ Ok far_bucket → IfOk answer IsInRange
unfolding count_of entries_of item_of kind_of value_of capped
far_range answer is = of_answer far_bucket answer is (record {
  version = inr refl;
  edition = omega arith;
  some = omega arith;
  count = omega arith;
  started = omega arith;
  cycle = omega arith;
  slot = omega arith;
  placed = inr (omega arith);
  value = omega arith;
  entries = search rules;
  told = λ ages. All-cons (λ e. capped e 256 ≡ e) 255 (0 ∷ []) refl (All-cons (λ e. capped e 256 ≡ e) 0 [] refl (All-nil (λ e. capped e 256 ≡ e)));
})
