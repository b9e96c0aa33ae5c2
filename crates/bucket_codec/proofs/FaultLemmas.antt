-- Each fault, and the bucket, from what the tests before it said. Each return of `first_fault` has one lemma of this file; the
-- last four say what `decode` answers from it.
use Rattle.std.proofs.Common.{◌≡◌, ◌≢◌, ◌≤◌, ◌<◌, ◌⊎◌, inl, inr, ◌+◌, ◌*◌, ◌&&◌, ◌||◌, ◌==◌, nat_le, ℕ, Bool, true, false, Option, Some, None, Result, Ok, Err, List, length, slice_index, refl, sym, ◌∙◌, ap, arith}
use Rattle.std.specs.List.{list_all}
use Rattle.std.specs.Result.{result_err}
use Rattle.std.proofs.lemmas.Bool.{eqb-true, le-ltb, le-leb, lt-ltb}
use Rattle.air_model.specs.declared.bucket.BucketFault.{BucketFault}
use Rattle.air_model.specs.declared.bucket.BucketFault.TheVariants.{Short, Magic, Version, Kind, Length, Shape}
use Rattle.air_model.specs.Buckets.{Bucket, IsBucket, bucket_at, entry_count, entry_len, fault_of, is_entry, is_placed, is_shaped, most_count, number_at, raw_entries, reading}
use Rattle.air_model.proofs.ByteLemmas.{AllBytes, are_bytes}
use Rattle.air_model.proofs.BucketLemmas.{fault_exactly, ok_from_whole, reading_agrees, whole_from_ok}
use Rattle.bucket_codec.specs.DatagramKinds.{IsNoBucket}

other : (a b : ℕ) → a ≢ b → (a == b) ≡ false
other a b ne = grind arith

same : (a b : ℕ) → a ≡ b → (a == b) ≡ true
same a b e = grind arith

pub fault_short : (bytes : List ℕ) → length bytes < 24 → fault_of bytes ≡ Some (Short (length bytes))
unfolding reading
fault_short bytes short = rw (lt-ltb (length bytes) 24 short) refl

pub fault_magic : (bytes : List ℕ) → 24 ≤ length bytes → (slice_index bytes 0 ≢ 65) ⊎ (slice_index bytes 1 ≢ 68) → fault_of bytes ≡ Some Magic
unfolding reading
fault_magic bytes long (inl a) = rw (le-ltb (length bytes) 24 long, other (slice_index bytes 0) 65 a) refl
fault_magic bytes long (inr b) = rw (le-ltb (length bytes) 24 long, other (slice_index bytes 1) 68 b, and_false (slice_index bytes 0 == 65)) refl
  where
    and_false : (b : Bool) → (b && false) ≡ false
    and_false true = refl
    and_false false = refl

-- Whether a byte is a version.
abbrev known : ℕ → Bool
known v = (v == 1) || (v == 2)

version_from : (v : ℕ) → known v ≡ true → (v ≡ 1) ⊎ (v ≡ 2)
version_from v e = by (v == 1) (v == 2) refl refl e
  where
    by : (a b : Bool) → (v == 1) ≡ a → (v == 2) ≡ b → (a || b) ≡ true → (v ≡ 1) ⊎ (v ≡ 2)
    by true b one two e = inl (eqb-true v 1 one)
    by false true one two e = inr (eqb-true v 2 two)
    by false false one two e = cc

module _ (bytes : List ℕ) (long : 24 ≤ length bytes) (m0 : slice_index bytes 0 ≡ 65) (m1 : slice_index bytes 1 ≡ 68) where
  pub fault_version : known (slice_index bytes 2) ≡ false → fault_of bytes ≡ Some Version
  unfolding reading
  fault_version none = rw (le-ltb (length bytes) 24 long, same (slice_index bytes 0) 65 m0, same (slice_index bytes 1) 68 m1, none) refl

  module _ (v : known (slice_index bytes 2) ≡ true) where
    pub fault_kind : 2 < slice_index bytes 3 → fault_of bytes ≡ Some Kind
    unfolding reading
    fault_kind big = rw (le-ltb (length bytes) 24 long, same (slice_index bytes 0) 65 m0, same (slice_index bytes 1) 68 m1, v, lt-leb big) refl
      where
        lt-leb : {k : ℕ} → 2 < k → nat_le k 2 ≡ false
        lt-leb {k} big = grind arith

    module _ (k : slice_index bytes 3 ≤ 2) (w n : ℕ) (width : w ≡ entry_len (slice_index bytes 2)) (many : n ≡ entry_count (slice_index bytes 3) (number_at 6 2 bytes)) where
      pub fault_length : length bytes ≢ 24 + w * n → fault_of bytes ≡ Some Length
      unfolding reading
      fault_length ne =
          rw (le-ltb (length bytes) 24 long, same (slice_index bytes 0) 65 m0, same (slice_index bytes 1) 68 m1, v, le-leb (slice_index bytes 3) 2 k, sym width, sym many, other (length bytes) (24 + w * n) ne) refl

      pub fault_shape : length bytes ≡ 24 + w * n → is_shaped bytes ≡ false → fault_of bytes ≡ Some Shape
      unfolding reading
      fault_shape exact bad =
          rw (le-ltb (length bytes) 24 long, same (slice_index bytes 0) 65 m0, same (slice_index bytes 1) 68 m1, v, le-leb (slice_index bytes 3) 2 k, sym width, sym many, same (length bytes) (24 + w * n) exact, bad) refl

      pub no_fault : length bytes ≡ 24 + w * n → is_shaped bytes ≡ true → fault_of bytes ≡ None
      no_fault exact good =
          ap result_err
          (ok_from_whole bytes
          (record {
            long = long;
            magic0 = m0;
            magic1 = m1;
            version = version_from (slice_index bytes 2) v;
            kind = k;
            exact = exact ∙ ap (λ w. 24 + w * n) width ∙ ap (λ n. 24 + entry_len (slice_index bytes 2) * n) many;
            shaped = good;
          }))

-- The shape, from what the readers give.
pub shape_is : (bytes : List ℕ) (version kind count n cycle item value : ℕ) → version ≡ slice_index bytes 2 → kind ≡ slice_index bytes 3 → count ≡ number_at 6 2 bytes → n ≡ entry_count kind count
    → cycle ≡ number_at 8 4 bytes → item ≡ number_at 14 2 bytes → value ≡ number_at 16 8 bytes
    → (nat_le 1 count && nat_le count (most_count version) && nat_le 1 cycle && is_placed kind item value count && list_all (is_entry version cycle) (raw_entries version n bytes)) ≡ is_shaped bytes
unfolding is_shaped
shape_is bytes version kind count n cycle item value v a b c d e f = rw (c, v, a, b, d, e, f) refl

-- ---- the answer of `decode`
pub ok_from_none : (bytes : List ℕ) → fault_of bytes ≡ None → reading bytes ≡ Ok (bucket_at bytes)
ok_from_none bytes none = by (reading bytes) refl
  where
    by : (r : Result Bucket BucketFault) → reading bytes ≡ r → reading bytes ≡ Ok (bucket_at bytes)
    by (Ok b) e = e ∙ ap Ok (sym (whole_from_ok bytes b e).1)
    by (Err f) e = let some : Some f ≡ None = sym (ap result_err e) ∙ none in cc

pub err_from_some : (bytes : List ℕ) (f : BucketFault) → fault_of bytes ≡ Some f → reading bytes ≡ Err f
err_from_some bytes f some = by (reading bytes) refl
  where
    by : (r : Result Bucket BucketFault) → reading bytes ≡ r → reading bytes ≡ Err f
    by (Ok b) e = let none : ◌≡◌ {A = Option BucketFault} None (Some f) = sym (ap result_err e) ∙ some in cc
    by (Err g) e = let is : Some g ≡ Some f = sym (ap result_err e) ∙ some in e ∙ (let same : g ≡ f = cc in ap Err same)

-- Bytes without a fault are in the grammar.
pub in_grammar : (bytes : List ℕ) → AllBytes bytes → fault_of bytes ≡ None → IsBucket bytes (bucket_at bytes)
in_grammar bytes all none = (reading_agrees bytes (bucket_at bytes) (are_bytes bytes all)).1 (ok_from_none bytes none)

-- Bytes with a fault are no bucket.
pub no_bucket : (bytes : List ℕ) (f : BucketFault) → AllBytes bytes → fault_of bytes ≡ Some f → IsNoBucket bytes
no_bucket bytes f all some = (fault_exactly bytes (are_bytes bytes all)).0 (rw (err_from_some bytes f some) refl)
