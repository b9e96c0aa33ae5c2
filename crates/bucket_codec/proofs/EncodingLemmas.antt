-- A spelling is its head and its entries. What is spelled of a bucket's true entries is read back as the bucket with its
-- entries as ages give them. `whole_is` joins the two writes of `encode`, and `decodes` is what it promises of its bytes.
use Rattle.std.proofs.Common.{◌≡◌, ◌≤◌, ◌<◌, ◌+◌, ◌-◌, ◌*◌, ◌++◌, ◌∷◌, [], ℕ, Bool, true, false, cond, if◌then◌else◌, nat_lt, List, Ok, All, length, map, take, drop, get_or, refl, sym, ◌∙◌, ap, subst, arith, length-append}
use Rattle.std.specs.List.{flat_map}
use Rattle.std.proofs.lemmas.Bool.{ltb-false}
use Rattle.std.proofs.lemmas.List.{get_or-map, length-map, take_at}
use Rattle.std.proofs.lemmas.List.Folds.{flat_map-map}
use Rattle.byteorder.specs.Endian.{big_bytes}
use Rattle.air_base.specs.declared.limits.TheConstants.{AGE_CAP, MOST_FULL_ITEMS, MOST_ITEMS}
use Rattle.air_history.specs.Ages.{capped}
use Rattle.air_model.specs.Buckets.{Bucket, IsInRange, age_of, capped_bucket, capped_entries, count_of, entries_of, entry_bytes, entry_len, has_ages, most_count, reading, spelling}
use Rattle.air_model.proofs.BucketLemmas.{ok_from_whole, whole_from_bucket}
use Rattle.air_model.proofs.CapLemmas.{aged_entries, capped_length, count_kept, entries_told, full_entries, item_kept, kind_kept, value_kept}
use Rattle.bucket_codec.specs.Private.Heads.{aged_bytes, head_bytes, head_of}
use Rattle.bucket_codec.proofs.WriteLemmas.{length_ages, length_numbers, put_next}

-- ---- entries, in full and by age

spelled_by_age : (v c : ℕ) (es : List ℕ) → has_ages v ≡ true → flat_map (entry_bytes v c) (capped_entries v c es) ≡ flat_map (aged_bytes c) es
unfolding entry_bytes capped_entries
spelled_by_age v c es ages =
    ap (λ (b : Bool). flat_map (λ e. if b then age_of c e ∷ [] else big_bytes 4 e) (if b then map (λ e. capped e c) es else es)) ages
    ∙ flat_map-map (λ e. age_of c e ∷ []) (λ e. capped e c) es

spelled_in_full : (v c : ℕ) (es : List ℕ) → has_ages v ≡ false → flat_map (entry_bytes v c) (capped_entries v c es) ≡ flat_map (big_bytes 4) es
unfolding entry_bytes capped_entries
spelled_in_full v c es full = ap (λ (b : Bool). flat_map (λ e. if b then age_of c e ∷ [] else big_bytes 4 e) (if b then map (λ e. capped e c) es else es)) full

-- The entries by age take one byte each.
by_age : (c : ℕ) (es : List ℕ) → length (flat_map (λ e. age_of c e ∷ []) es) ≡ 1 * length es
by_age c [] = refl
by_age c (e ∷ es) = omega (arith, by_age c es)

length_told : (v c : ℕ) (es : List ℕ) → length (flat_map (entry_bytes v c) es) ≡ entry_len v * length es
unfolding entry_bytes
length_told v c es = by (has_ages v)
  where
    by : (b : Bool) → length (flat_map (λ e. if b then age_of c e ∷ [] else big_bytes 4 e) es) ≡ (if b then 1 else 4) * length es
    by true = by_age c es
    by false = length_numbers es

-- What was written, by ages or in full, is what the version gives.
pub written_by_age : (v c : ℕ) (es old new : List ℕ) → has_ages v ≡ true → new ≡ take 24 old ++ (flat_map (aged_bytes c) es ++ drop (24 + length es) old)
    → new ≡ take 24 old ++ (flat_map (entry_bytes v c) (capped_entries v c es) ++ drop (24 + entry_len v * length es) old)
written_by_age v c es old new ages wrote =
    let many : length es ≡ entry_len v * length es = sym (length_ages c es) ∙ sym (ap length (spelled_by_age v c es ages)) ∙ length_told v c (capped_entries v c es) ∙ ap (λ n. entry_len v * n) (capped_length v c es) in
    wrote ∙ ap (λ l. take 24 old ++ (l ++ drop (24 + length es) old)) (sym (spelled_by_age v c es ages))
    ∙ ap (λ n. take 24 old ++ (flat_map (entry_bytes v c) (capped_entries v c es) ++ drop (24 + n) old)) many

pub written_in_full : (v c : ℕ) (es old new : List ℕ) → has_ages v ≡ false → new ≡ take 24 old ++ (flat_map (big_bytes 4) es ++ drop (24 + 4 * length es) old)
    → new ≡ take 24 old ++ (flat_map (entry_bytes v c) (capped_entries v c es) ++ drop (24 + entry_len v * length es) old)
written_in_full v c es old new full wrote =
    let many : 4 * length es ≡ entry_len v * length es = sym (length_numbers es) ∙ sym (ap length (spelled_in_full v c es full)) ∙ length_told v c (capped_entries v c es) ∙ ap (λ n. entry_len v * n) (capped_length v c es) in
    wrote ∙ ap (λ l. take 24 old ++ (l ++ drop (24 + 4 * length es) old)) (sym (spelled_in_full v c es full))
    ∙ ap (λ n. take 24 old ++ (flat_map (entry_bytes v c) (capped_entries v c es) ++ drop (24 + n) old)) many

-- ---- whole buckets

spelling_is : (b : Bucket) → head_bytes (head_of b) ++ flat_map (entry_bytes b.version b.cycle) (entries_of b.body) ≡ spelling b
unfolding head_bytes head_of spelling
spelling_is b = refl

length_head : (b : Bucket) → length (head_bytes (head_of b)) ≡ 24
unfolding head_bytes head_of
length_head b = refl

-- The length of a spelling.
pub length_spelling : (b : Bucket) → length (spelling b) ≡ 24 + entry_len b.version * length (entries_of b.body)
length_spelling b =
    let rest = flat_map (entry_bytes b.version b.cycle) (entries_of b.body) in
    sym (ap length (spelling_is b)) ∙ length-append (head_bytes (head_of b)) rest ∙ ap (λ n. n + length rest) (length_head b) ∙ ap (λ n. 24 + n) (length_told b.version b.cycle (entries_of b.body))

-- Capping the entries doesn't change a bucket's length.
same_length : (b : Bucket) → length (spelling (capped_bucket b)) ≡ length (spelling b)
same_length b =
    length_spelling (capped_bucket b) ∙ ap (λ n. 24 + entry_len b.version * n) (ap length (entries_told b.version b.cycle b.body) ∙ capped_length b.version b.cycle (entries_of b.body))
    ∙ sym (length_spelling b)

-- Capping the entries doesn't change a bucket's head.
head_kept : (b : Bucket) → head_of (capped_bucket b) ≡ head_of b
unfolding head_of
head_kept b = let v = b.version in let c = b.cycle in let y = b.body in rw (kind_kept v c y, count_kept v c y, item_kept v c y, value_kept v c y) refl

spelled : (b : Bucket) (es : List ℕ) → es ≡ entries_of b.body → head_bytes (head_of b) ++ flat_map (entry_bytes b.version b.cycle) (capped_entries b.version b.cycle es) ≡ spelling (capped_bucket b)
spelled b es e =
    let v = b.version in
    let c = b.cycle in
    ap (λ h. head_bytes h ++ flat_map (entry_bytes v c) (capped_entries v c es)) (sym (head_kept b))
    ∙ ap (λ l. head_bytes (head_of (capped_bucket b)) ++ flat_map (entry_bytes v c) l) (ap (capped_entries v c) e ∙ sym (entries_told v c b.body))
    ∙ spelling_is (capped_bucket b)

-- The head was written, and then the entries.
pub whole_is : (b : Bucket) (es old out new : List ℕ) (n : ℕ) → es ≡ entries_of b.body → n ≡ length (spelling b) → out ≡ head_bytes (head_of b) ++ drop 24 old
    → new ≡ take 24 out ++ (flat_map (entry_bytes b.version b.cycle) (capped_entries b.version b.cycle es) ++ drop (24 + entry_len b.version * length es) out)
    → new ≡ spelling (capped_bucket b) ++ drop n old
whole_is b es old out new n e size told wrote =
    let v = b.version in
    let c = b.cycle in
    let w = entry_len v * length es in
    let many : length (flat_map (entry_bytes v c) (capped_entries v c es)) ≡ w = length_told v c (capped_entries v c es) ∙ ap (λ n. entry_len v * n) (capped_length v c es) in
    let end : 24 + w ≡ n = ap (λ l. 24 + entry_len v * length l) e ∙ sym (length_spelling b) ∙ sym size in
    put_next old out new (head_bytes (head_of b)) (flat_map (entry_bytes v c) (capped_entries v c es)) 24 w (length_head b) many told wrote
    ∙ ap (λ l. l ++ drop (24 + w) old) (spelled b es e) ∙ ap (λ n. spelling (capped_bucket b) ++ drop n old) end

-- What was written at the front is read as the bucket with capped entries.
pub decodes : (b : Bucket) (n : ℕ) (rest new : List ℕ) → IsInRange (capped_bucket b) → n ≡ length (spelling b) → new ≡ spelling (capped_bucket b) ++ rest → reading (take n new) ≡ Ok (capped_bucket b)
decodes b n rest new range size wrote =
    let t = capped_bucket b in
    let w = whole_from_bucket (spelling t) t (range, refl) in
    ap reading (ap (take n) wrote ∙ take_at (spelling t) rest n (same_length b ∙ sym size)) ∙ ok_from_whole (spelling t) w.0 ∙ ap Ok w.1

-- ---- a bucket that is in range with capped entries

most_few : (v : ℕ) → most_count v ≤ MOST_ITEMS
most_few v = by (has_ages v)
  where
    by : (b : Bool) → (if b then MOST_ITEMS else MOST_FULL_ITEMS) ≤ MOST_ITEMS
    by true = omega arith
    by false = omega arith

-- Such a bucket has few items.
pub count_few : (b : Bucket) → IsInRange (capped_bucket b) → count_of b.body ≤ MOST_ITEMS
count_few b range =
    let same = count_kept b.version b.cycle b.body in
    let most = range.count in
    let few = most_few b.version in
    omega arith

-- An entry is below the cycle if the capped entry is.
capped_below : (e c : ℕ) → capped e c < c → e < c
unfolding capped
capped_below e c = by (nat_lt (c - e) AGE_CAP) refl
  where
    by : (b : Bool) → nat_lt (c - e) AGE_CAP ≡ b → cond b e 0 < c → e < c
    by true young less = less
    by false old less = let most = ltb-false (c - e) AGE_CAP old in omega arith

-- Such a bucket's true entries are below the cycle.
pub entries_below : (b : Bucket) → IsInRange (capped_bucket b) → All (λ e. e < b.cycle) (entries_of b.body)
entries_below b range = by (has_ages b.version) refl
  where
    es : List ℕ
    es = entries_of b.body

    told : All (λ e. e < b.cycle) (capped_entries b.version b.cycle es)
    told = subst (All (λ e. e < b.cycle)) (entries_told b.version b.cycle b.body) range.entries

    by : (a : Bool) → has_ages b.version ≡ a → All (λ e. e < b.cycle) es
    by true ages = λ k d l.
        let less = subst (All (λ e. e < b.cycle)) (aged_entries b.version b.cycle es ages) told k (capped d b.cycle) (subst (λ n. k < n) (sym (length-map es (λ e. capped e b.cycle))) l) in
        capped_below (get_or es k d) b.cycle (subst (λ x. x < b.cycle) (get_or-map (λ e. capped e b.cycle) es k d (capped d b.cycle) l) less)
    by false full = subst (All (λ e. e < b.cycle)) (full_entries b.version b.cycle es full) told
