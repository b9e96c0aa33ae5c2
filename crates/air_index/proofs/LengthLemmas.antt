-- How long a bucket is at most.
use Rattle.std.proofs.Common.{◌≡◌, ◌≤◌, ◌+◌, ◌*◌, ◌==◌, nat_le, if◌then◌else◌, ℕ, Bool, true, false, Some, Result, Ok, Err, List, length, slice_index, refl, arith}
use Rattle.std.specs.List.{list_all}
use Rattle.std.specs.Result.{result_ok}
use Rattle.std.proofs.lemmas.Bool.{and_parts, leb-true}
use Rattle.air_base.specs.declared.limits.TheConstants.{MOST_ITEMS}
use Rattle.air_model.specs.declared.bucket.BucketFault.{BucketFault}
use Rattle.air_model.specs.Buckets.{Bucket, bucket_in, entry_count, entry_len, has_ages, is_entry, is_placed, is_shaped, most_count, number_at, raw_entries, reading}
use Rattle.air_model.proofs.BucketLemmas.{whole_from_ok}

count_within : (bytes : List ℕ) → is_shaped bytes ≡ true → number_at 6 2 bytes ≤ most_count (slice_index bytes 2)
unfolding is_shaped
count_within bytes t =
    let n = number_at 6 2 bytes in
    let a = and_parts _ (list_all (is_entry (slice_index bytes 2) (number_at 8 4 bytes)) (raw_entries (slice_index bytes 2) (entry_count (slice_index bytes 3) n) bytes)) t in
    let b = and_parts _ (is_placed (slice_index bytes 3) (number_at 14 2 bytes) (number_at 16 8 bytes) n) a.0 in
    let c = and_parts _ (nat_le 1 (number_at 8 4 bytes)) b.0 in
    leb-true n (most_count (slice_index bytes 2)) (and_parts (nat_le 1 n) (nat_le n (most_count (slice_index bytes 2))) c.0).1

entries_within : (version kind n : ℕ) → n ≤ most_count version → entry_len version * entry_count kind n ≤ 4 * 1024
unfolding entry_count
entries_within version kind n few = by (has_ages version) (kind == 0) few
  where
    by : (ages idle : Bool) → n ≤ (if ages then MOST_ITEMS else 256) → (if ages then 1 else 4) * (if idle then 0 else n) ≤ 4 * 1024
    by true true few = omega arith
    by true false few = omega arith
    by false true few = omega arith
    by false false few = omega arith

pub bucket_short : (bytes : List ℕ) (b : Bucket) → bucket_in bytes ≡ Some b → length bytes ≤ 24 + 4 * 1024
bucket_short bytes b e = by (reading bytes) refl e
  where
    by : (r : Result Bucket BucketFault) → reading bytes ≡ r → result_ok r ≡ Some b → length bytes ≤ 24 + 4 * 1024
    by (Err f) read e = cc e
    by (Ok x) read e =
        let whole = (whole_from_ok bytes x read).0 in
        let exact = whole.exact in
        let entries = entries_within (slice_index bytes 2) (slice_index bytes 3) (number_at 6 2 bytes) (count_within bytes whole.shaped) in
        omega arith
