-- The records of an indexed tape: the reading and the relation agree.
use Rattle.std.proofs.Common.{◌≡◌, ◌≤◌, ◌<◌, ◌+◌, ◌++◌, ◌==◌, nat_le, is_some, ℕ, zero, suc, Bool, true, false, Option, Some, None, Result, Ok, Err, List, ◌∷◌, length, drop, slice_index, refl, sym, ◌∙◌, ap, subst, arith}
use Rattle.std.specs.Prelude.{MatchOption}
use Rattle.std.specs.Result.{result_ok}
use Rattle.std.proofs.lemmas.Bool.{and_from, and_parts, eq-eqb, eqb-true, le-leb, leb-true}
use Rattle.std.proofs.lemmas.List.{get_or-drop, length-drop}
use Rattle.byteorder.specs.Endian.{big_bytes}
use Rattle.byteorder.specs.Numbers.{big_number-reads_back}
use Rattle.air_model.specs.declared.bucket.BucketFault.{BucketFault}
use Rattle.air_model.specs.Buckets.{Bucket, bucket_at, bucket_in, number_at, reading, spelling}
use Rattle.air_model.proofs.ByteLemmas.{AllBytes, are_bytes}
use Rattle.air_model.proofs.BucketLemmas.{reading_agrees, whole_from_ok}
use Rattle.air_index.specs.Indexes.{Index, index_at, is_index}
use Rattle.air_index.specs.Records.{IsDataInRange, IsNoRecord, IsRecord, data_bytes, indexed_at, is_data, payload_at}
use Rattle.air_index.specs.declared.records.Indexed.{Indexed}
use Rattle.air_index.specs.declared.records.Indexed.TheVariants as variant
use Rattle.air_index.proofs.IndexLemmas as index
use Rattle.air_index.proofs.IndexLemmas.{first_one, number_below, part, record_from_test, record_read}

-- ---- data records

pub record IsWholeData (bytes : List ℕ) : Type 0 where
  pub long : 5 ≤ length bytes
  pub tag : slice_index bytes 0 ≡ 1
  pub ahead : 1 ≤ number_at 1 4 bytes
  pub bucket : reading (drop 5 bytes) ≡ Ok (bucket_at (drop 5 bytes))

bucket_from : (bytes : List ℕ) → is_some (bucket_in bytes) ≡ true → reading bytes ≡ Ok (bucket_at bytes)
bucket_from bytes t = by (reading bytes) refl t
  where
    by : (r : Result Bucket BucketFault) → reading bytes ≡ r → is_some (result_ok r) ≡ true → reading bytes ≡ Ok (bucket_at bytes)
    by (Ok b) e t = e ∙ ap Ok (sym (whole_from_ok bytes b e).1)
    by (Err f) e t = cc t

pub whole_from_test : (bytes : List ℕ) → is_data bytes ≡ true → IsWholeData bytes
unfolding is_data
whole_from_test bytes t =
    let a = and_parts _ (is_some (bucket_in (drop 5 bytes))) t in
    let b = and_parts (slice_index bytes 0 == 1) (nat_le 1 (number_at 1 4 bytes)) a.0 in
    let bucket = bucket_from (drop 5 bytes) a.1 in
    let exact = (whole_from_ok (drop 5 bytes) (bucket_at (drop 5 bytes)) bucket).0.exact in
    let left = length-drop 5 bytes in
    record {
      long = omega arith;
      tag = eqb-true (slice_index bytes 0) 1 b.0;
      ahead = leb-true 1 (number_at 1 4 bytes) b.1;
      bucket = bucket;
    }

pub test_from_whole : (bytes : List ℕ) → IsWholeData bytes → is_data bytes ≡ true
unfolding is_data
test_from_whole bytes w =
    and_from _ _ (and_from _ _ (eq-eqb (slice_index bytes 0) 1 w.tag) (le-leb 1 (number_at 1 4 bytes) w.ahead)) (ap (λ r. is_some (result_ok r)) w.bucket)

rest_all : (n : ℕ) (bytes : List ℕ) → AllBytes bytes → AllBytes (drop n bytes)
rest_all n bytes all i = subst (λ x. x < 256) (sym (get_or-drop n bytes i 0)) (all (n + i))

-- Bytes that pass the tests are the data record that is read.
pub data_from_test : (bytes : List ℕ) → AllBytes bytes → is_data bytes ≡ true → IsRecord bytes (variant.Payload (number_at 1 4 bytes) (bucket_at (drop 5 bytes)))
unfolding data_bytes
data_from_test bytes all t =
    let w = whole_from_test bytes t in
    let long = w.long in
    let bucket = (reading_agrees (drop 5 bytes) (bucket_at (drop 5 bytes)) (are_bytes (drop 5 bytes) (rest_all 5 bytes all))).1 w.bucket in (
      record { ahead = w.ahead; wait = number_below bytes 1 4 all; bucket = bucket.0 },
      first_one bytes (omega arith)
          ∙ fronted (slice_index bytes 0) (drop 1 bytes) _ w.tag
          (part bytes 1 4 all (omega arith) ∙ ap (λ l. big_bytes 4 (number_at 1 4 bytes) ++ l) bucket.1),
    )
  where
    fronted : (a : ℕ) (l r : List ℕ) → a ≡ 1 → l ≡ r → a ∷ l ≡ 1 ∷ r
    fronted a l r p q = rw (p, q) refl

-- A data record passes the tests and is read back.
module _ (w : ℕ) (b : Bucket) (r : IsDataInRange w b) where
  bytes_of : List ℕ
  bytes_of = data_bytes w (spelling b)

  wait_back : number_at 1 4 bytes_of ≡ w
  unfolding bytes_of data_bytes
  wait_back = big_number-reads_back 4 w (spelling b) r.wait

  rest_back : drop 5 bytes_of ≡ spelling b
  unfolding bytes_of data_bytes
  rest_back = refl

  tag_back : slice_index bytes_of 0 ≡ 1
  unfolding bytes_of data_bytes
  tag_back = refl

  long_back : 5 ≤ length bytes_of
  unfolding bytes_of data_bytes
  long_back = omega arith

pub data_read : (bytes : List ℕ) (w : ℕ) (b : Bucket) → AllBytes bytes → IsRecord bytes (variant.Payload w b)
    → IsWholeData bytes × (number_at 1 4 bytes ≡ w) × (bucket_at (drop 5 bytes) ≡ b)
unfolding bytes_of
data_read bytes w b all h =
    let rest : drop 5 bytes ≡ spelling b = ap (drop 5) h.1 ∙ rest_back w b h.0 in
    let number : number_at 1 4 bytes ≡ w = ap (number_at 1 4) h.1 ∙ wait_back w b h.0 in
    let read : reading (drop 5 bytes) ≡ Ok b = (reading_agrees (drop 5 bytes) b (are_bytes (drop 5 bytes) (rest_all 5 bytes all))).0 (h.0.bucket, rest) in
    let same : bucket_at (drop 5 bytes) ≡ b = (whole_from_ok (drop 5 bytes) b read).1 in (
      record {
        long = subst (λ (l : List ℕ). 5 ≤ length l) (sym h.1) (long_back w b h.0);
        tag = ap (λ (l : List ℕ). slice_index l 0) h.1 ∙ tag_back w b h.0;
        ahead = subst (λ n. 1 ≤ n) (sym number) h.0.ahead;
        bucket = read ∙ ap Ok (sym same);
      },
      number,
      same,
    )

-- ---- both

-- What tag 1 has is no index.
pub data_no_index : (bytes : List ℕ) → slice_index bytes 0 ≡ 1 → is_index bytes ≡ false
data_no_index bytes tag = by (is_index bytes) refl
  where
    by : (b : Bool) → is_index bytes ≡ b → is_index bytes ≡ false
    by true t = absurd (let zero = (index.whole_from_test bytes t).tag in omega arith)
    by false t = t

pub indexed_index : (bytes : List ℕ) → is_index bytes ≡ true → indexed_at bytes ≡ Some (variant.Index (index_at bytes))
unfolding indexed_at
indexed_index bytes t = rw t refl

pub indexed_payload : (bytes : List ℕ) → is_index bytes ≡ false → indexed_at bytes ≡ payload_at bytes
unfolding indexed_at
indexed_payload bytes t = rw t refl

pub payload_some : (bytes : List ℕ) → is_data bytes ≡ true → payload_at bytes ≡ Some (variant.Payload (number_at 1 4 bytes) (bucket_at (drop 5 bytes)))
unfolding payload_at
payload_some bytes t = rw t refl

pub payload_none : (bytes : List ℕ) → is_data bytes ≡ false → payload_at bytes ≡ None
unfolding payload_at
payload_none bytes t = rw t refl

-- What is read is the record, and each record is read.
pub indexed_is : (bytes : List ℕ) (r : Indexed) → AllBytes bytes → indexed_at bytes ≡ Some r → IsRecord bytes r
indexed_is bytes r all e = first (is_index bytes) refl
  where
    second : (b : Bool) → is_data bytes ≡ b → is_index bytes ≡ false → IsRecord bytes r
    second true t apart =
        let same : variant.Payload (number_at 1 4 bytes) (bucket_at (drop 5 bytes)) ≡ r = some_same _ r (sym (payload_some bytes t) ∙ sym (indexed_payload bytes apart) ∙ e) in
        subst (IsRecord bytes) same (data_from_test bytes all t)
      where
        some_same : (x y : Indexed) → Some x ≡ Some y → x ≡ y
        some_same x y e = cc e
    second false t apart = absurd (no_some r (sym (payload_none bytes t) ∙ sym (indexed_payload bytes apart) ∙ e))
      where
        no_some : (x : Indexed) → ◌≡◌ {A = Option Indexed} None (Some x) → ⊥
        no_some x e = cc e

    first : (b : Bool) → is_index bytes ≡ b → IsRecord bytes r
    first true t =
        let same : variant.Index (index_at bytes) ≡ r = some_same _ r (sym (indexed_index bytes t) ∙ e) in
        subst (IsRecord bytes) same (record_from_test bytes all t)
      where
        some_same : (x y : Indexed) → Some x ≡ Some y → x ≡ y
        some_same x y e = cc e
    first false t = second (is_data bytes) refl t

pub is_indexed : (bytes : List ℕ) (r : Indexed) → AllBytes bytes → IsRecord bytes r → indexed_at bytes ≡ Some r
is_indexed bytes (variant.Index index) all h = let read = record_read bytes index h in indexed_index bytes read.0 ∙ ap (λ (i : Index). Some (variant.Index i)) read.1
is_indexed bytes (variant.Payload w b) all h =
    let read = data_read bytes w b all h in
    indexed_payload bytes (data_no_index bytes read.0.tag) ∙ payload_some bytes (test_from_whole bytes read.0)
    ∙ ap (λ n. Some (variant.Payload n (bucket_at (drop 5 bytes)))) read.1 ∙ ap (λ (b : Bucket). Some (variant.Payload w b)) read.2

pub none_is : (bytes : List ℕ) → AllBytes bytes → indexed_at bytes ≡ None → IsNoRecord bytes
none_is bytes all none r h = no_some r (sym none ∙ is_indexed bytes r all h)
  where
    no_some : (x : Indexed) → ◌≡◌ {A = Option Indexed} None (Some x) → ⊥
    no_some x e = cc e

-- ---- the tests of a data record in the order in which the code makes them

none_by : (bytes : List ℕ) → is_data bytes ≡ false → None ≡ payload_at bytes
none_by bytes t = sym (payload_none bytes t)

pub payload_short : (bytes : List ℕ) → length bytes < 5 → None ≡ payload_at bytes
payload_short bytes short = by (is_data bytes) refl
  where
    by : (b : Bool) → is_data bytes ≡ b → None ≡ payload_at bytes
    by true t = absurd (let long = (whole_from_test bytes t).long in omega arith)
    by false t = none_by bytes t

pub payload_tag : (bytes : List ℕ) → (slice_index bytes 0 ≡ 1 → ⊥) → None ≡ payload_at bytes
payload_tag bytes other = by (is_data bytes) refl
  where
    by : (b : Bool) → is_data bytes ≡ b → None ≡ payload_at bytes
    by true t = absurd (other (whole_from_test bytes t).tag)
    by false t = none_by bytes t

pub payload_wait : (bytes : List ℕ) (wait : ℕ) → wait ≡ number_at 1 4 bytes → wait ≡ 0 → None ≡ payload_at bytes
payload_wait bytes wait is none = by (is_data bytes) refl
  where
    by : (b : Bool) → is_data bytes ≡ b → None ≡ payload_at bytes
    by true t = absurd (let ahead = (whole_from_test bytes t).ahead in omega arith)
    by false t = none_by bytes t

pub payload_fault : (bytes : List ℕ) (f : BucketFault) → Err f ≡ reading (drop 5 bytes) → None ≡ payload_at bytes
payload_fault bytes f e = by (is_data bytes) refl
  where
    clash : (b : Bucket) → ◌≡◌ {A = Result Bucket BucketFault} (Err f) (Ok b) → ⊥
    clash b e = cc e

    by : (b : Bool) → is_data bytes ≡ b → None ≡ payload_at bytes
    by true t = absurd (clash (bucket_at (drop 5 bytes)) (e ∙ (whole_from_test bytes t).bucket))
    by false t = none_by bytes t

pub payload_ok : (bytes : List ℕ) (wait : ℕ) (b : Bucket) → 5 ≤ length bytes → slice_index bytes 0 ≡ 1 → wait ≡ number_at 1 4 bytes → (wait ≡ 0 → ⊥) → Ok b ≡ reading (drop 5 bytes)
    → Some (variant.Payload wait b) ≡ payload_at bytes
payload_ok bytes wait b long tag is some e =
    let same : bucket_at (drop 5 bytes) ≡ b = (whole_from_ok (drop 5 bytes) b (sym e)).1 in
    let whole : IsWholeData bytes = record { long = long; tag = tag; ahead = subst (λ n. 1 ≤ n) is (positive wait some); bucket = sym e ∙ ap Ok (sym same) } in
    sym
    (payload_some bytes (test_from_whole bytes whole) ∙ ap (λ n. Some (variant.Payload n (bucket_at (drop 5 bytes)))) (sym is)
    ∙ ap (λ (b : Bucket). Some (variant.Payload wait b)) same)
  where
    positive : (n : ℕ) → (n ≡ 0 → ⊥) → 1 ≤ n
    positive zero other = absurd (other refl)
    positive (suc n) other = omega arith

-- What `indexed` returns is what its clauses say.
pub read_index : (bytes : List ℕ) (index : Index) → is_index bytes ≡ true → index ≡ index_at bytes → Some (variant.Index index) ≡ indexed_at bytes
read_index bytes index t is = ap (λ (i : Index). Some (variant.Index i)) is ∙ sym (indexed_index bytes t)

pub read_payload : (bytes : List ℕ) (r : Option Indexed) → is_index bytes ≡ false → r ≡ payload_at bytes → r ≡ indexed_at bytes
read_payload bytes r t is = is ∙ sym (indexed_payload bytes t)

pub in_grammar : (bytes : List ℕ) (r : Option Indexed) → AllBytes bytes → r ≡ indexed_at bytes → MatchOption r (IsNoRecord bytes) (λ x. IsRecord bytes x)
in_grammar bytes None all e = none_is bytes all (sym e)
in_grammar bytes (Some x) all e = indexed_is bytes x all (sym e)
