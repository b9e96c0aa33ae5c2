-- The bytes of a record, put at the end part by part.
use Rattle.std.proofs.Common.{◌≡◌, ◌≤◌, ◌+◌, ◌-◌, ◌*◌, ◌++◌, ℕ, suc, None, Some, All, List, [], ◌∷◌, drop, length, map, take, refl, sym, subst, ◌∙◌, ap, append_assoc, arith}
use Rattle.std.specs.Prelude.{slice_index_or}
use Rattle.std.specs.List.{flat_map, range_with_len}
use Rattle.std.proofs.lemmas.Grind.{flat_map-append}
use Rattle.std.proofs.lemmas.List.{append-nil, drop-drop, length-take, take-take}
use Rattle.std.proofs.lemmas.List.Elements.{All-drop, All-head}
use Rattle.std.proofs.lemmas.List.FromFn.{map-range_with_len_more}
use Rattle.byteorder.specs.Endian.{big_bytes}
use Rattle.air_model.specs.Buckets.{Bucket, bucket_in}
use Rattle.air_model.specs.Tapes.{TapeRead, record_bytes, tape_of, with_record}
use Rattle.air_index.specs.Indexes.{index_bytes}
use Rattle.air_index.specs.IndexedTapes.{AreBuckets}
use Rattle.air_index.specs.Records.{data_bytes}
use Rattle.air_index.specs.Private.Beaming.{data_head, index_head, slot_records}
use Rattle.air_index.proofs.IndexLemmas.{length_numbers}
use Rattle.air_index.proofs.LengthLemmas.{bucket_short}

-- ---- heads

pub index_head_is : (len cycle minor count : List ℕ) (n c m : ℕ) → len ≡ big_bytes 4 (13 + 4 * n) → cycle ≡ big_bytes 8 c → minor ≡ big_bytes 2 m → count ≡ big_bytes 2 n
    → slice_index_or len 0 0 ∷ slice_index_or len 1 0 ∷ slice_index_or len 2 0 ∷ slice_index_or len 3 0 ∷ 0 ∷ 0 ∷ 0 ∷ 0 ∷ 0
    ∷ slice_index_or cycle 4 0 ∷ slice_index_or cycle 5 0 ∷ slice_index_or cycle 6 0 ∷ slice_index_or cycle 7 0
    ∷ slice_index_or minor 0 0 ∷ slice_index_or minor 1 0 ∷ slice_index_or count 0 0 ∷ slice_index_or count 1 0 ∷ [] ≡ index_head n c m
unfolding index_head
index_head_is len cycle minor count n c m l y i k = rw (l, y, i, k) refl

pub data_head_is : (len wait : List ℕ) (n w : ℕ) → len ≡ big_bytes 4 (5 + n) → wait ≡ big_bytes 4 w
    → slice_index_or len 0 0 ∷ slice_index_or len 1 0 ∷ slice_index_or len 2 0 ∷ slice_index_or len 3 0 ∷ 1
    ∷ slice_index_or wait 0 0 ∷ slice_index_or wait 1 0 ∷ slice_index_or wait 2 0 ∷ slice_index_or wait 3 0 ∷ [] ≡ data_head n w
unfolding data_head
data_head_is len wait n w l i = rw (l, i) refl

-- ---- index records

pub entry_put : (f : ℕ → ℕ) (front out new bytes : List ℕ) (i e : ℕ) → out ≡ front ++ flat_map (big_bytes 4) (map f (range_with_len 0 i)) → new ≡ out ++ bytes → bytes ≡ big_bytes 4 e → e ≡ f i
    → new ≡ front ++ flat_map (big_bytes 4) (map f (range_with_len 0 (i + 1)))
entry_put f front out new bytes i e so_far more spelled is =
    let before = map f (range_with_len 0 i) in
    more ∙ ap (λ l. out ++ l) (spelled ∙ ap (big_bytes 4) is) ∙ ap (λ l. l ++ big_bytes 4 (f i)) so_far ∙ append_assoc front (flat_map (big_bytes 4) before) (big_bytes 4 (f i))
    ∙ ap (λ l. front ++ l)
    (ap (λ l. flat_map (big_bytes 4) before ++ l) (sym (append-nil (big_bytes 4 (f i)))) ∙ sym (flat_map-append (big_bytes 4) before (f i ∷ []))
    ∙ ap (flat_map (big_bytes 4)) (sym (map-range_with_len_more f 0 i i (omega arith))))

pub long_index : (c m : ℕ) (es : List ℕ) → length (index_bytes c m es) ≡ 13 + 4 * length es
unfolding index_bytes
long_index c m es = let entries = length_numbers es in omega arith

whole_index : (c m : ℕ) (es : List ℕ) → index_head (length es) c m ++ flat_map (big_bytes 4) es ≡ big_bytes 4 (13 + 4 * length es) ++ index_bytes c m es
unfolding index_head index_bytes
whole_index c m es = refl

pub index_put : (n c m : ℕ) (es old out : List ℕ) → length es ≡ n → out ≡ (old ++ index_head n c m) ++ flat_map (big_bytes 4) es → out ≡ old ++ record_bytes (index_bytes c m es)
unfolding record_bytes
index_put n c m es old out many is =
    is ∙ append_assoc old (index_head n c m) (flat_map (big_bytes 4) es)
    ∙ ap (λ l. old ++ l)
    (ap (λ k. index_head k c m ++ flat_map (big_bytes 4) es) (sym many) ∙ whole_index c m es ∙ ap (λ k. big_bytes 4 k ++ index_bytes c m es) (sym (long_index c m es)))

-- ---- data records

pub long_data : (w : ℕ) (bucket : List ℕ) → length (data_bytes w bucket) ≡ 5 + length bucket
unfolding data_bytes
long_data w bucket = omega arith

whole_data : (w : ℕ) (bucket : List ℕ) → data_head (length bucket) w ++ bucket ≡ big_bytes 4 (5 + length bucket) ++ data_bytes w bucket
unfolding data_head data_bytes
whole_data w bucket = refl

pub data_put : (w : ℕ) (bucket old one two head : List ℕ) → head ≡ data_head (length bucket) w → one ≡ old ++ head → two ≡ one ++ bucket → two ≡ old ++ record_bytes (data_bytes w bucket)
unfolding record_bytes
data_put w bucket old one two head is first second =
    second ∙ ap (λ l. l ++ bucket) (first ∙ ap (λ l. old ++ l) is) ∙ append_assoc old (data_head (length bucket) w) bucket
    ∙ ap (λ l. old ++ l) (whole_data w bucket ∙ ap (λ k. big_bytes 4 k ++ data_bytes w bucket) (sym (long_data w bucket)))

-- ---- the slots of a minor cycle

abbrev IsRead : List ℕ → Type 0
IsRead r = (b : Bucket) × (bucket_in r ≡ Some b)

pub next_short : (bs : List (List ℕ)) (slot : ℕ) (read new : TapeRead) (r : List ℕ) → AreBuckets bs → read.records ≡ drop slot bs → read ≡ with_record r new → length r ≤ 4120
next_short bs slot read new r are left is =
    let records : drop slot bs ≡ r ∷ new.records = sym left ∙ ap (λ (t : TapeRead). t.records) is in
    let read = All-head IsRead r new.records (subst (All IsRead) records (All-drop IsRead slot bs are)) in
    bucket_short r read.0 read.1

pub next_cut : (read new : TapeRead) (r : List ℕ) → read.cut ≡ None → read ≡ with_record r new → new.cut ≡ None
next_cut read new r whole is = sym (ap (λ (t : TapeRead). t.cut) is) ∙ whole

pub next_left : (bs : List (List ℕ)) (slot : ℕ) (read new : TapeRead) (r : List ℕ) → read.records ≡ drop slot bs → read ≡ with_record r new → new.records ≡ drop (slot + 1) bs
next_left bs slot read new r left is =
    let records : drop slot bs ≡ r ∷ new.records = sym left ∙ ap (λ (t : TapeRead). t.records) is in
    ap (drop 1) (sym records) ∙ drop-drop 1 slot bs

pub slot_written : (slots slot : ℕ) (read new : TapeRead) (r old out next : List ℕ) (all : List (List ℕ)) → slot + 1 ≤ slots → read ≡ with_record r new
    → out ++ tape_of (slot_records (slots - slot) read.records) ≡ old ++ tape_of all → next ≡ out ++ record_bytes (data_bytes (slots - slot) r)
    → next ++ tape_of (slot_records (slots - (slot + 1)) new.records) ≡ old ++ tape_of all
unfolding slot_records tape_of
slot_written slots slot read new r old out next all within is so_far put =
    let w = slots - (slot + 1) in
    let left : slots - slot ≡ suc w = omega arith in
    ap (λ l. l ++ tape_of (slot_records w new.records)) (put ∙ ap (λ k. out ++ record_bytes (data_bytes k r)) left)
    ∙ append_assoc out (record_bytes (data_bytes (suc w) r)) (tape_of (slot_records w new.records))
    ∙ sym (ap (λ (t : TapeRead). out ++ tape_of (slot_records (suc w) t.records)) is) ∙ sym (ap (λ k. out ++ tape_of (slot_records k read.records)) left) ∙ so_far

pub slots_done : (slots slot : ℕ) (bs : List (List ℕ)) (out all : List ℕ) → slots ≤ slot → out ++ tape_of (slot_records (slots - slot) bs) ≡ all → out ≡ all
unfolding slot_records tape_of
slots_done slots slot bs out all end is =
    let none : slots - slot ≡ 0 = omega arith in
    sym (append-nil out) ∙ sym (ap (λ k. out ++ tape_of (slot_records k bs)) none) ∙ is

pub begun_more : (old out next : List ℕ) → take (length old) out ≡ old → take (length out) next ≡ out → take (length old) next ≡ old
begun_more old out next first second =
    let room : length old ≤ length out = (let cut = ap length (sym first) in let long = length-take (length old) out in omega arith) in
    sym (take-take (length old) (length out) next room) ∙ ap (take (length old)) second ∙ first
