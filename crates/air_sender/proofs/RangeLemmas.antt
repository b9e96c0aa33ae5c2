-- The buckets of a board that can air its cycle are in range, so that they have bytes.
use Rattle.std.proofs.Common.{◌≡◌, ◌⊎◌, ◌<◌, ◌≤◌, ◌+◌, ◌*◌, ◌^◌, ◌∙◌, ℕ, Bool, true, false, if◌then◌else◌, List, [], length, get_or, refl, sym, ap, subst, inl, inr, arith}
use Rattle.std.specs.Prelude.{All}
use Rattle.std.proofs.lemmas.Bool.{cases_lt}
use Rattle.std.proofs.lemmas.List.{get_or_past}
use Rattle.std.proofs.lemmas.List.Elements.{All-get_or, All-nil}
use Rattle.air_base.specs.declared.verdicts.Policy.{Policy}
use Rattle.air_base.specs.declared.verdicts.Policy.TheVariants.{FMatrix, Datacycle, RMatrix}
use Rattle.air_history.specs.Ages.{capped}
use Rattle.air_history.specs.Boards.{Board}
use Rattle.air_model.specs.Aired.{aired_as}
use Rattle.air_model.specs.Buckets.{Body, Bucket, Idle, IsInRange, capped_body, capped_bucket, count_of, entries_of, entry_len, has_ages, item_of, kind_of, most_count, spelling, value_of}
use Rattle.air_model.proofs.CapLemmas.{capped_is_told, capped_length, capped_under, count_kept, entries_told, item_kept, kind_kept, value_kept}
use Rattle.bucket_codec.proofs.EncodingLemmas.{length_spelling}
use Rattle.air_sender.specs.BoardBuckets.{EntriesBelow, entries_on}

-- Entries of a board that can air its cycle are below it.
pub column_below : (board : Board) (item : ℕ) (es : List ℕ) → EntriesBelow board → es ≡ get_or board.columns item [] → All (λ e. e < board.cycle) es
column_below board item es below e = subst (All (λ e. e < board.cycle)) (sym e) (elim (cases_lt item (length board.columns)) as (λ _. All (λ e. e < board.cycle) (get_or board.columns item [])) [
  | inl l ↦ All-get_or (All (λ e. e < board.cycle)) board.columns item [] l below.columns
  | inr past ↦ subst (All (λ e. e < board.cycle)) (sym (get_or_past board.columns item [] past)) (All-nil _)
])

-- A capped bucket is in range if its body fits the version and its entries are below its cycle.
record BodyFits (version c : ℕ) (y : Body) : Type 0 where
  some : 1 ≤ count_of y
  count : count_of y ≤ most_count version
  placed : (kind_of y ≡ 0) ⊎ (item_of y < count_of y)
  value : value_of y < 2 ^ 64
  entries : All (λ e. e < c) (entries_of y)

placed_told : (v c : ℕ) (y : Body) → (kind_of y ≡ 0) ⊎ (item_of y < count_of y) → (kind_of (capped_body v c y) ≡ 0) ⊎ (item_of (capped_body v c y) < count_of (capped_body v c y))
placed_told v c y (inl idle) = inl (kind_kept v c y ∙ idle)
placed_told v c y (inr below) = let item = item_kept v c y in let count = count_kept v c y in inr (omega arith)

told_range : (v e c s : ℕ) (y : Body) → (v ≡ 1) ⊎ (v ≡ 2) → e < 2 ^ 16 → 1 ≤ c → c < 2 ^ 32 → s < 2 ^ 16 → BodyFits v c y → IsInRange (capped_bucket (record { version = v; edition = e; cycle = c; slot = s; body = y }))
told_range v e c s y known few one wide slot body = record {
  version = known;
  edition = few;
  some = subst (λ n. 1 ≤ n) (sym (count_kept v c y)) body.some;
  count = subst (λ n. n ≤ most_count v) (sym (count_kept v c y)) body.count;
  started = one;
  cycle = wide;
  slot = slot;
  placed = placed_told v c y body.placed;
  value = subst (λ n. n < 2 ^ 64) (sym (value_kept v c y)) body.value;
  entries = subst (All (λ e. e < c)) (sym (entries_told v c y)) (capped_under v c c (entries_of y) body.entries);
  told = λ ages. subst (All (λ e. capped e c ≡ e)) (sym (entries_told v c y)) (capped_is_told v c (entries_of y) ages);
}

-- An idle bucket.
pub idle_range : (v e c s n : ℕ) → (v ≡ 1) ⊎ (v ≡ 2) → e < 2 ^ 16 → 1 ≤ c → c < 2 ^ 32 → s < 2 ^ 16 → 1 ≤ n → n ≤ most_count v
    → IsInRange (capped_bucket (record { version = v; edition = e; cycle = c; slot = s; body = Idle n }))
unfolding count_of entries_of item_of kind_of value_of
idle_range v e c s n known low one wide slot some few =
    told_range v e c s (Idle n) known low one wide slot (record { some = some; count = few; placed = inl refl; value = omega arith; entries = All-nil _ })

-- The bucket of an item under any policy.
item_fits : (by : Policy) (v c i value : ℕ) (es : List ℕ) → i < length es → length es ≤ most_count v → value < 2 ^ 64 → All (λ e. e < c) es → BodyFits v c (aired_as by i value es)
unfolding count_of entries_of item_of kind_of value_of
item_fits FMatrix v c i value es within few wide below = record { some = omega arith; count = few; placed = inr within; value = wide; entries = below }
item_fits Datacycle v c i value es within few wide below = record { some = omega arith; count = few; placed = inr within; value = wide; entries = below }
item_fits RMatrix v c i value es within few wide below = record { some = omega arith; count = few; placed = inr within; value = wide; entries = below }

pub aired_range : (by : Policy) (v e c s i value : ℕ) (es : List ℕ) → (v ≡ 1) ⊎ (v ≡ 2) → e < 2 ^ 16 → 1 ≤ c → c < 2 ^ 32 → s < 2 ^ 16 → i < length es → length es ≤ most_count v → value < 2 ^ 64
    → All (λ e. e < c) es → IsInRange (capped_bucket (record { version = v; edition = e; cycle = c; slot = s; body = aired_as by i value es }))
aired_range by v e c s i value es known small one wide slot within few low below = told_range v e c s (aired_as by i value es) known small one wide slot (item_fits by v c i value es within few low below)

-- Its entries are below the board's cycle, if the board can air it.
pub aired_below : (by : Policy) (board : Board) (i : ℕ) → EntriesBelow board → All (λ e. e < board.cycle) (entries_on by board i)
aired_below FMatrix board i below = column_below board i _ below refl
aired_below Datacycle board i below = below.vector
aired_below RMatrix board i below = below.vector

-- These are the entries that the bucket carries.
pub aired_entries : (by : Policy) (i v : ℕ) (es : List ℕ) → entries_of (aired_as by i v es) ≡ es
unfolding entries_of
aired_entries FMatrix i v es = refl
aired_entries Datacycle i v es = refl
aired_entries RMatrix i v es = refl

-- How long the bytes of a bucket are: those of an entry are one or four.
entry_more : (v k n : ℕ) → k ≤ n → entry_len v * k ≤ entry_len v * n
entry_more v k n few = by (has_ages v)
  where
    by : (b : Bool) → (if b then 1 else 4) * k ≤ (if b then 1 else 4) * n
    by true = omega arith
    by false = omega arith

pub spelling_within : (b : Bucket) (es : List ℕ) (n : ℕ) → entries_of b.body ≡ es → length es ≤ n → length (spelling b) ≤ 24 + entry_len b.version * n
spelling_within b es n e few =
    let long : length (spelling b) ≡ 24 + entry_len b.version * length es = length_spelling b ∙ ap (λ l. 24 + entry_len b.version * length l) e in
    let short : entry_len b.version * length es ≤ entry_len b.version * n = entry_more b.version (length es) n few in
    omega arith

-- A bucket and its capped bucket have the same number of entries.
pub told_length : (b : Bucket) → length (entries_of (capped_bucket b).body) ≡ length (entries_of b.body)
told_length b = ap length (entries_told b.version b.cycle b.body) ∙ capped_length b.version b.cycle (entries_of b.body)

pub told_spelling : (b : Bucket) → length (spelling (capped_bucket b)) ≡ length (spelling b)
told_spelling b = length_spelling (capped_bucket b) ∙ ap (λ n. 24 + entry_len b.version * n) (told_length b) ∙ sym (length_spelling b)

pub spelling_long : (b : Bucket) → 24 ≤ length (spelling b)
spelling_long b = omega (arith, length_spelling b)
