-- The buckets of a history that can be aired are in range, and their bytes are read back as they are.
use Rattle.std.proofs.Common.{◌≡◌, ◌⊎◌, ℕ, zero, suc, ◌+◌, ◌-◌, ◌^◌, ◌<◌, ◌≤◌, Bool, true, false, cond, ◌==◌, Option, Some, None, List, [], ◌∷◌, length, map, get_or, All, refl, sym, ◌∙◌, ap, subst, inl, inr, arith}
use Rattle.std.specs.Prelude.{Contains, IfSome}
use Rattle.std.specs.List.{find, range_with_len}
use Rattle.std.specs.Result.{result_ok}
use Rattle.std.proofs.lemmas.Bool.{cases_lt}
use Rattle.std.proofs.lemmas.Nat.{mod_below}
use Rattle.std.proofs.lemmas.Option.{slice_get-get_or}
use Rattle.std.proofs.lemmas.List.{get_or_past}
use Rattle.std.proofs.lemmas.List.Elements.{All-head, All-map, All-nil, All-tail, All-take, Contains-get_or}
use Rattle.std.proofs.lemmas.List.FromFn.{get_or-map-range_with_len, length-map-range_with_len}
use Rattle.air_base.specs.declared.verdicts.Policy.{Policy}
use Rattle.air_base.specs.declared.verdicts.Policy.TheVariants.{FMatrix, Datacycle, RMatrix}
use Rattle.air_history.specs.declared.updates.Write.{Write}
use Rattle.air_history.specs.declared.histories.Event.{Event}
use Rattle.air_history.specs.declared.histories.Event.TheVariants.{Commit, Start}
use Rattle.air_history.specs.Histories.{cycle_at, front, starts, writer, writes_of}
use Rattle.air_history.specs.Ages.{capped}
use Rattle.air_history.specs.Columns.{Scheme, aired_entries, column_entry, group_column, group_entry, has_groups, policy_entries, vector_entry}
use Rattle.air_history.proofs.StaleLemmas.{cycle_of}
use Rattle.air_history.specs.Tables.{table, value_after, value_after_write, value_on_base, values_of, write_of}
use Rattle.air_history.specs.Reads.{read_value}
use Rattle.air_history.proofs.GroupLemmas.{group_before}
use Rattle.air_history.proofs.PlaceLemmas.{greatest_below}
use Rattle.air_history.proofs.HistoryLemmas.{front_cycle, front_cycle_same, front_prefix, writer_before_some}
use Rattle.air_model.specs.Buckets.{Body, Bucket, IsInRange, bucket_in, capped_body, count_of, entries_of, item_of, kind_of, most_count, spelling, value_of}
use Rattle.air_model.specs.Decks.{Deck, IsDeck, IsLegal, values_in}
use Rattle.air_model.specs.Aired.{scheme_in, air_of, aired_as, body_of, bucket_of, buckets_of, edition_at, slots_at, IsAired}
use Rattle.air_model.specs.AiredLaws.{CanAir}
use Rattle.air_model.proofs.BucketLemmas.{ok_from_whole, whole_from_bucket}
use Rattle.air_model.proofs.CapLemmas.{at_or_none, capped_is_told, capped_under, count_kept, entries_told, item_kept, kind_kept, value_kept}
use Rattle.air_model.proofs.DeckLemmas.{air, update_is}
use Rattle.air_model.proofs.EditionLemmas.{edition_is, edition_within}
use Rattle.air_model.proofs.AiredLemmas.{aired, own_from, scheme_long}

-- ---- entries are below the cycle

front_place : (H : List Event) (c p : ℕ) → p < length (front H c) → cycle_at (front H c) p < c
front_place H c p l = subst (λ n. n < c) (sym (front_cycle_same H c p l)) (front_cycle H c p l)

column_below : (H : List Event) (c j i : ℕ) → 1 ≤ c → column_entry (front H c) j i < c
unfolding column_entry
column_below H c j i one = greatest_below (length (front H c)) _ (cycle_at (front H c)) c one (λ p l e. front_place H c p l)

vector_below : (H : List Event) (c i : ℕ) → 1 ≤ c → vector_entry (front H c) i < c
unfolding vector_entry writer
vector_below H c i one = by (writer (front H c) i) refl
  where
    by : (o : Option ℕ) → writer (front H c) i ≡ o → cycle_of (front H c) o < c
    by None e = one
    by (Some w) e = front_place H c w ((writer_before_some (front H c) (length (front H c)) i w e).0)

map_below : (f : ℕ → ℕ) (n c : ℕ) → ((i : ℕ) → f i < c) → All (λ e. e < c) (map f (range_with_len 0 n))
map_below f n c h k d l =
    let within : k < n = omega (arith, length-map-range_with_len f 0 n) in
    subst (λ e. e < c) (sym (get_or-map-range_with_len f 0 n k k d within (omega arith))) (h k)

entries_below : (p : Policy) (n : ℕ) (H : List Event) (c j : ℕ) → 1 ≤ c → All (λ e. e < c) (policy_entries p n H c j)
entries_below FMatrix n H c j one = map_below (column_entry (front H c) j) n c (λ i. column_below H c j i one)
entries_below Datacycle n H c j one = map_below (vector_entry (front H c)) n c (λ i. vector_below H c i one)
entries_below RMatrix n H c j one = map_below (vector_entry (front H c)) n c (λ i. vector_below H c i one)

scheme_below : (scheme : Scheme) (n : ℕ) (H : List Event) (c j : ℕ) → 1 ≤ c → All (λ e. e < c) (aired_entries scheme n H c j)
scheme_below scheme n H c j one = by (has_groups scheme)
  where
    by : (b : Bool) → All (λ e. e < c) (cond b (group_column scheme.group n (front H c) j) (policy_entries scheme.policy n H c j))
    by true = map_below (group_entry scheme.group n (front H c) j) n c (λ i. group_before scheme.group n H c j i one)
    by false = entries_below scheme.policy n H c j one

-- ---- values are below 2^64

-- Every amount of the event is below 2^64.
abbrev AmountsFit : Event → Type 0
AmountsFit e = All (λ w. w.amount < 2 ^ 64) (writes_of e)

find_has : (P : Write → Type 0) (test : Write → Bool) (ws : List Write) → All P ws → IfSome (find test ws) P
find_has P test [] h = tt
find_has P test (w ∷ ws) h = by (test w) (find_has P test ws (All-tail P w ws h))
  where
    by : (b : Bool) → IfSome (find test ws) P → IfSome (cond b (Some w) (find test ws)) P
    by true rest = All-head P w ws h
    by false rest = rest

write_fits : (e : Event) (i : ℕ) → AmountsFit e → IfSome (write_of e i) (λ w. w.amount < 2 ^ 64)
unfolding write_of writes_of
write_fits (Commit by seq u) i h = find_has (λ w. w.amount < 2 ^ 64) (λ w. w.item == i) u.writes h
write_fits Start i h = tt

on_base_below : (V : ℕ → ℕ) (o : Option ℕ) (minus : Bool) (amount : ℕ) → amount < 2 ^ 64 → value_on_base V o minus amount < 2 ^ 64
unfolding value_on_base
on_base_below V None minus amount l = l
on_base_below V (Some b) true amount l = mod_below (V b + (2 ^ 64 - amount)) (2 ^ 64) (omega arith)
on_base_below V (Some b) false amount l = mod_below (V b + amount) (2 ^ 64) (omega arith)

table_below : (V : ℕ → ℕ) → ((i : ℕ) → V i < 2 ^ 64) → (G : List Event) → All AmountsFit G → (i : ℕ) → table V G i < 2 ^ 64
unfolding table value_after
table_below V low [] h i = low i
table_below V low (e ∷ G) h i = table_below (value_after V e) (λ i. by i (write_of e i) (write_fits e i (All-head AmountsFit e G h))) G (All-tail AmountsFit e G h) i
  where
    by : (i : ℕ) (o : Option Write) → IfSome o (λ w. w.amount < 2 ^ 64) → value_after_write V i o < 2 ^ 64
    by i None h = low i
    by i (Some w) h = on_base_below V w.base w.minus w.amount h

amounts_fit : (deck : Deck) (H : List Event) → IsDeck deck → IsLegal deck H → All AmountsFit H
unfolding writes_of
amounts_fit deck H is legal p d l = by (get_or H p d) (slice_get-get_or H p d l)
  where
    by : (e : Event) → Rattle.std.specs.List.slice_get H p ≡ Some e → AmountsFit e
    by Start s = All-nil _
    by (Commit who seq u) s = (update_is deck is who seq u ((legal p who seq u s).given)).amounts

catalog_below : (deck : Deck) → IsDeck deck → (i : ℕ) → values_of (values_in deck) i < 2 ^ 64
catalog_below deck is i = elim (cases_lt i (length (values_in deck))) as (λ _. values_of (values_in deck) i < 2 ^ 64) [
  | inl l ↦ All-map (λ v. v < 2 ^ 64) (λ i. i.value) deck.items is.values i 0 l
  | inr past ↦ subst (λ v. v < 2 ^ 64) (sym (get_or_past (values_in deck) i 0 past)) (omega arith)
]

value_below : (deck : Deck) (H : List Event) → IsDeck deck → IsLegal deck H → (c i : ℕ) → table (values_of (values_in deck)) (front H c) i < 2 ^ 64
value_below deck H is legal c i = table_below (values_of (values_in deck)) (catalog_below deck is) (front H c)
    (subst (All AmountsFit) (sym (front_prefix H c)) (All-take AmountsFit (length (front H c)) H (amounts_fit deck H is legal))) i

-- ---- a bucket is in range

record BodyFits (most c : ℕ) (y : Body) : Type 0 where
  some : 1 ≤ count_of y
  count : count_of y ≤ most
  placed : (kind_of y ≡ 0) ⊎ (item_of y < count_of y)
  value : value_of y < 2 ^ 64
  entries : All (λ e. e < c) (entries_of y)

body_in_range : (deck : Deck) (H : List Event) → CanAir deck H → (c : ℕ) → 1 ≤ c → (o : Option ℕ) → IfSome o (λ i. i < length deck.items) → BodyFits (most_count deck.settings.version) c (body_of (values_in deck) (air_of deck) H c o)
unfolding body_of count_of kind_of item_of value_of entries_of
body_in_range deck H can c one None h = record { some = can.made.some; count = can.made.most; placed = inl refl; value = omega arith; entries = All-nil _ }
body_in_range deck H can c one (Some i) h = by deck.settings.policy
  where
    n : ℕ
    n = length deck.items

    v : ℕ
    v = read_value (values_of (values_in deck)) H (record { item = i; cycle = c })

    es : List ℕ
    es = aired_entries (scheme_in deck) n H c i

    long : length es ≡ n
    long = scheme_long (scheme_in deck) n H c i

    low : All (λ e. e < c) es
    low = scheme_below (scheme_in deck) n H c i one

    some : 0 < n
    some = can.made.some

    most : n ≤ most_count deck.settings.version
    most = can.made.most

    by : (p : Policy) → BodyFits (most_count deck.settings.version) c (aired_as p i v es)
    by FMatrix = record { some = omega (arith, long, some); count = omega (arith, long, most); placed = inr (omega (arith, long, h)); value = value_below deck H can.made can.legal c i; entries = low }
    by Datacycle = record { some = omega (arith, long, some); count = omega (arith, long, most); placed = inr (omega (arith, long, h)); value = value_below deck H can.made can.legal c i; entries = low }
    by RMatrix = record { some = omega (arith, long, some); count = omega (arith, long, most); placed = inr (omega (arith, long, h)); value = value_below deck H can.made can.legal c i; entries = low }

-- The edition of a cycle fits in 16 bits.
edition_few : (deck : Deck) → IsDeck deck → (c : ℕ) → edition_at (air_of deck) c < 2 ^ 16
edition_few deck is c =
    let same = edition_is deck c in
    let within = edition_within deck c in
    let few = is.few in
    omega arith

placed_kept : (v c : ℕ) (y : Body) → (kind_of y ≡ 0) ⊎ (item_of y < count_of y) → (kind_of (capped_body v c y) ≡ 0) ⊎ (item_of (capped_body v c y) < count_of (capped_body v c y))
placed_kept v c y (inl idle) = inl (kind_kept v c y ∙ idle)
placed_kept v c y (inr below) = let item = item_kept v c y in let count = count_kept v c y in inr (omega arith)

bucket_in_range : (deck : Deck) (H : List Event) → CanAir deck H → (c s : ℕ) → 1 ≤ c → c ≤ starts H → s < length (slots_at (air_of deck) c) →
    IsInRange (bucket_of (values_in deck) (air_of deck) H deck.settings.version c s)
unfolding bucket_of
bucket_in_range deck H can c s one started within =
    let a = air_of deck in
    let v = deck.settings.version in
    let slot = get_or (slots_at a c) s None in
    let items : All (λ o. IfSome o (λ i. i < length deck.items)) (slots_at a c) = at_or_none (All (λ o. IfSome o (λ i. i < length deck.items))) a.slots (edition_at a c) (air deck can.made).0 (All-nil _) in
    let y = body_of (values_in deck) a H c slot in
    let body : BodyFits (most_count v) c y = body_in_range deck H can c one slot (items s None within) in
    let cycles = can.cycles in
    let slots : length (slots_at a c) ≤ 2 ^ 16 = at_or_none (λ l. length l ≤ 2 ^ 16) a.slots (edition_at a c) can.slots (omega arith) in
    record {
      version = can.made.version;
      edition = edition_few deck can.made c;
      some = subst (λ n. 1 ≤ n) (sym (count_kept v c y)) body.some;
      count = subst (λ n. n ≤ most_count v) (sym (count_kept v c y)) body.count;
      started = one;
      cycle = omega arith;
      slot = omega arith;
      placed = placed_kept v c y body.placed;
      value = subst (λ n. n < 2 ^ 64) (sym (value_kept v c y)) body.value;
      entries = subst (All (λ e. e < c)) (sym (entries_told v c y)) (capped_under v c c (entries_of y) body.entries);
      told = λ ages. subst (All (λ e. capped e c ≡ e)) (sym (entries_told v c y)) (capped_is_told v c (entries_of y) ages);
    }

own_in_range : (deck : Deck) (H : List Event) → CanAir deck H → (b : Bucket) → Contains (buckets_of (values_in deck) (air_of deck) H) b → IsInRange b
own_in_range deck H can b h =
    let own = own_from (values_in deck) (air_of deck) H b h in
    subst IsInRange (sym own.same) (bucket_in_range deck H can own.cycle own.slot own.from_one own.started own.within)

pub range : (deck : Deck) (H : List Event) → CanAir deck H → All IsInRange (buckets_of (values_in deck) (air_of deck) H)
range deck H can k d l = own_in_range deck H can (get_or (buckets_of (values_in deck) (air_of deck) H) k d) (Contains-get_or (buckets_of (values_in deck) (air_of deck) H) k d l)

-- ---- bytes

read_back : (b : Bucket) → IsInRange b → bucket_in (spelling b) ≡ Some b
read_back b h =
    let whole = whole_from_bucket (spelling b) b (h, refl) in
    ap result_ok (ok_from_whole (spelling b) whole.0) ∙ ap Some whole.1

-- Bytes of the list are those of one of the buckets.
map_has : (bs : List Bucket) (bytes : List ℕ) → Contains (map spelling bs) bytes → (b : Bucket) × Contains bs b × (bytes ≡ spelling b)
map_has [] bytes (k, l, e) = absurd (omega arith)
map_has (b ∷ bs) bytes (zero, l, e) = (b, (0, omega arith, refl), sym e)
map_has (b ∷ bs) bytes (suc k, l, e) = let rest = map_has bs bytes (k, omega arith, e) in (rest.0, (suc rest.1.0, (let within = rest.1.1 in omega arith), rest.1.2), rest.2)

-- The heard bytes are those of one of the history's buckets.
own_bytes : (deck : Deck) (H : List Event) → CanAir deck H → (bytes : List ℕ) → Contains (map spelling (buckets_of (values_in deck) (air_of deck) H)) bytes →
    (b : Bucket) × Contains (buckets_of (values_in deck) (air_of deck) H) b × (bucket_in bytes ≡ Some b)
own_bytes deck H can bytes h =
    let at = map_has (buckets_of (values_in deck) (air_of deck) H) bytes h in
    (at.0, at.1, ap bucket_in at.2 ∙ read_back at.0 (own_in_range deck H can at.0 at.1))

pub bytes_aired : (deck : Deck) (H : List Event) (heard : List (List ℕ)) → CanAir deck H →
    All (Contains (map spelling (buckets_of (values_in deck) (air_of deck) H))) heard →
    IsAired (values_in deck) (air_of deck) H (map bucket_in heard) × All (λ bytes. (b : Bucket) × (bucket_in bytes ≡ Some b)) heard
bytes_aired deck H heard can h = (
  aired (values_in deck) (air_of deck) H (map bucket_in heard) (All-map Own bucket_in heard (λ k d l.
      let own = own_bytes deck H can (get_or heard k d) (h k d l) in subst Own (sym own.2) own.1)),
  λ k d l. let own = own_bytes deck H can (get_or heard k d) (h k d l) in (own.0, own.2),
)
  where
    Own : Option Bucket → Type 0
    Own o = IfSome o (Contains (buckets_of (values_in deck) (air_of deck) H))
