-- The buckets of a history whose writes' amounts are below 2^64 are in range, whoever made it.
use Rattle.std.proofs.Common.{◌≡◌, ◌⊎◌, ℕ, ◌+◌, ◌-◌, ◌^◌, ◌<◌, ◌≤◌, Bool, true, false, cond, ◌==◌, Option, Some, None, List, [], ◌∷◌, length, map, get_or, All, refl, sym, ◌∙◌, subst, inl, inr, arith}
use Rattle.std.specs.Prelude.{Contains, IfSome}
use Rattle.std.specs.List.{find, range_with_len}
use Rattle.std.proofs.lemmas.Bool.{cases_lt}
use Rattle.std.proofs.lemmas.Nat.{mod_below}
use Rattle.std.proofs.lemmas.List.{get_or_past}
use Rattle.std.proofs.lemmas.List.Elements.{All-head, All-map, All-nil, All-tail, All-take, Contains-get_or}
use Rattle.std.proofs.lemmas.List.FromFn.{get_or-map-range_with_len, length-map-range_with_len}
use Rattle.air_base.specs.declared.verdicts.Policy.{Policy}
use Rattle.air_base.specs.declared.verdicts.Policy.TheVariants.{FMatrix, Datacycle, RMatrix}
use Rattle.air_history.specs.declared.updates.Write.{Write}
use Rattle.air_history.specs.declared.histories.Event.{Event}
use Rattle.air_history.specs.declared.histories.Event.TheVariants.{Commit, Start}
use Rattle.air_history.specs.Histories.{front, starts, writer, writes_of}
use Rattle.air_history.specs.Ages.{capped}
use Rattle.air_history.specs.Columns.{Scheme, aired_entries, column_entry, group_column, group_entry, has_groups, policy_entries, vector_entry}
use Rattle.air_history.specs.Tables.{table, value_after, value_after_write, value_on_base, values_of, write_of}
use Rattle.air_history.specs.Reads.{read_value}
use Rattle.air_history.proofs.StaleLemmas.{cycle_of}
use Rattle.air_history.proofs.GroupLemmas.{column_before, group_before}
use Rattle.air_history.proofs.HistoryLemmas.{front_cycle, front_cycle_same, front_prefix, writer_before_some}
use Rattle.air_model.specs.Buckets.{Body, Bucket, IsInRange, capped_body, count_of, entries_of, item_of, kind_of, most_count, value_of}
use Rattle.air_model.specs.Decks.{Deck, IsDeck, count_editions, disks_in, values_in}
use Rattle.air_model.specs.Aired.{scheme_in, air_of, aired_as, body_of, bucket_of, buckets_of, edition_at, slots_at}
use Rattle.air_model.specs.Programs.{program}
use Rattle.air_model.proofs.CapLemmas.{at_or_none, capped_is_told, capped_under, count_kept, entries_told, item_kept, kind_kept, value_kept}
use Rattle.air_model.proofs.DeckLemmas.{air}
use Rattle.air_model.proofs.EditionLemmas.{edition_is, edition_within}
use Rattle.air_model.proofs.AiredLemmas.{own_from, scheme_long}
use Rattle.chunk_program.specs.Plans.{AreShort}
use Rattle.air_index.specs.SeekLaws.{AmountsFit}

-- ---- entries are below the cycle

vector_before : (H : List Event) (c i : ℕ) → 1 ≤ c → vector_entry (front H c) i < c
unfolding vector_entry writer
vector_before H c i one = by (writer (front H c) i) refl
  where
    by : (o : Option ℕ) → writer (front H c) i ≡ o → cycle_of (front H c) o < c
    by None e = one
    by (Some w) e =
        let within = (writer_before_some (front H c) (length (front H c)) i w e).0 in
        subst (λ n. n < c) (sym (front_cycle_same H c w within)) (front_cycle H c w within)

map_below : (f : ℕ → ℕ) (n c : ℕ) → ((i : ℕ) → f i < c) → All (λ e. e < c) (map f (range_with_len 0 n))
map_below f n c h k d l =
    let within : k < n = omega (arith, length-map-range_with_len f 0 n) in
    subst (λ e. e < c) (sym (get_or-map-range_with_len f 0 n k k d within (omega arith))) (h k)

policy_before : (p : Policy) (n : ℕ) (H : List Event) (c j : ℕ) → 1 ≤ c → All (λ e. e < c) (policy_entries p n H c j)
policy_before FMatrix n H c j one = map_below (column_entry (front H c) j) n c (λ i. column_before H c j i one)
policy_before Datacycle n H c j one = map_below (vector_entry (front H c)) n c (λ i. vector_before H c i one)
policy_before RMatrix n H c j one = map_below (vector_entry (front H c)) n c (λ i. vector_before H c i one)

entries_before : (scheme : Scheme) (n : ℕ) (H : List Event) (c j : ℕ) → 1 ≤ c → All (λ e. e < c) (aired_entries scheme n H c j)
entries_before scheme n H c j one = by (has_groups scheme)
  where
    by : (b : Bool) → All (λ e. e < c) (cond b (group_column scheme.group n (front H c) j) (policy_entries scheme.policy n H c j))
    by true = map_below (group_entry scheme.group n (front H c) j) n c (λ i. group_before scheme.group n H c j i one)
    by false = policy_before scheme.policy n H c j one

-- ---- values are below 2^64

abbrev EventFits : Event → Type 0
EventFits e = All (λ w. w.amount < 2 ^ 64) (writes_of e)

found_fits : (test : Write → Bool) (ws : List Write) → All (λ w. w.amount < 2 ^ 64) ws → IfSome (find test ws) (λ w. w.amount < 2 ^ 64)
found_fits test [] h = tt
found_fits test (w ∷ ws) h = by (test w) (found_fits test ws (All-tail (λ w. w.amount < 2 ^ 64) w ws h))
  where
    by : (b : Bool) → IfSome (find test ws) (λ w. w.amount < 2 ^ 64) → IfSome (cond b (Some w) (find test ws)) (λ w. w.amount < 2 ^ 64)
    by true rest = All-head (λ w. w.amount < 2 ^ 64) w ws h
    by false rest = rest

write_fits : (e : Event) (i : ℕ) → EventFits e → IfSome (write_of e i) (λ w. w.amount < 2 ^ 64)
unfolding write_of writes_of
write_fits (Commit by seq u) i h = found_fits (λ w. w.item == i) u.writes h
write_fits Start i h = tt

on_base_fits : (V : ℕ → ℕ) (o : Option ℕ) (minus : Bool) (amount : ℕ) → amount < 2 ^ 64 → value_on_base V o minus amount < 2 ^ 64
unfolding value_on_base
on_base_fits V None minus amount l = l
on_base_fits V (Some b) true amount l = mod_below (V b + (2 ^ 64 - amount)) (2 ^ 64) (omega arith)
on_base_fits V (Some b) false amount l = mod_below (V b + amount) (2 ^ 64) (omega arith)

table_fits : (V : ℕ → ℕ) → ((i : ℕ) → V i < 2 ^ 64) → (G : List Event) → All EventFits G → (i : ℕ) → table V G i < 2 ^ 64
unfolding table value_after
table_fits V low [] h i = low i
table_fits V low (e ∷ G) h i = table_fits (value_after V e) (λ i. by i (write_of e i) (write_fits e i (All-head EventFits e G h))) G (All-tail EventFits e G h) i
  where
    by : (i : ℕ) (o : Option Write) → IfSome o (λ w. w.amount < 2 ^ 64) → value_after_write V i o < 2 ^ 64
    by i None h = low i
    by i (Some w) h = on_base_fits V w.base w.minus w.amount h

first_values : (deck : Deck) → IsDeck deck → (i : ℕ) → values_of (values_in deck) i < 2 ^ 64
first_values deck is i = elim (cases_lt i (length (values_in deck))) as (λ _. values_of (values_in deck) i < 2 ^ 64) [
  | inl l ↦ All-map (λ v. v < 2 ^ 64) (λ i. i.value) deck.items is.values i 0 l
  | inr past ↦ subst (λ v. v < 2 ^ 64) (sym (get_or_past (values_in deck) i 0 past)) (omega arith)
]

-- ---- a bucket is in range

record BodyFits (most c : ℕ) (y : Body) : Type 0 where
  some : 1 ≤ count_of y
  count : count_of y ≤ most
  placed : (kind_of y ≡ 0) ⊎ (item_of y < count_of y)
  value : value_of y < 2 ^ 64
  entries : All (λ e. e < c) (entries_of y)

module _ (deck : Deck) (H : List Event) (made : IsDeck deck) (amounts : AmountsFit H) (few : starts H < 2 ^ 32) (short : AreShort deck) where
  value_fits : (c i : ℕ) → table (values_of (values_in deck)) (front H c) i < 2 ^ 64
  value_fits c i = table_fits (values_of (values_in deck)) (first_values deck made) (front H c) (subst (All EventFits) (sym (front_prefix H c)) (All-take EventFits (length (front H c)) H amounts)) i

  body_fits : (c : ℕ) → 1 ≤ c → (o : Option ℕ) → IfSome o (λ i. i < length deck.items) → BodyFits (most_count deck.settings.version) c (body_of (values_in deck) (air_of deck) H c o)
  unfolding body_of count_of kind_of item_of value_of entries_of
  body_fits c one None h = record { some = made.some; count = made.most; placed = inl refl; value = omega arith; entries = All-nil _ }
  body_fits c one (Some i) h = by deck.settings.policy
    where
      n : ℕ
      n = length deck.items

      es : List ℕ
      es = aired_entries (scheme_in deck) n H c i

      long : length es ≡ n
      long = scheme_long (scheme_in deck) n H c i

      low : All (λ e. e < c) es
      low = entries_before (scheme_in deck) n H c i one

      some : 0 < n
      some = made.some

      most : n ≤ most_count deck.settings.version
      most = made.most

      by : (p : Policy) → BodyFits (most_count deck.settings.version) c (aired_as p i (read_value (values_of (values_in deck)) H (record { item = i; cycle = c })) es)
      by FMatrix = record { some = omega (arith, long, some); count = omega (arith, long, most); placed = inr (omega (arith, long, h)); value = value_fits c i; entries = low }
      by Datacycle = record { some = omega (arith, long, some); count = omega (arith, long, most); placed = inr (omega (arith, long, h)); value = value_fits c i; entries = low }
      by RMatrix = record { some = omega (arith, long, some); count = omega (arith, long, most); placed = inr (omega (arith, long, h)); value = value_fits c i; entries = low }

  -- The edition of a cycle fits in 16 bits.
  edition_few : (c : ℕ) → edition_at (air_of deck) c < 2 ^ 16
  edition_few c =
      let same = edition_is deck c in
      let within = edition_within deck c in
      let some = made.few in
      omega arith

  placed_kept : (v c : ℕ) (y : Body) → (kind_of y ≡ 0) ⊎ (item_of y < count_of y) → (kind_of (capped_body v c y) ≡ 0) ⊎ (item_of (capped_body v c y) < count_of (capped_body v c y))
  placed_kept v c y (inl idle) = inl (kind_kept v c y ∙ idle)
  placed_kept v c y (inr below) = let item = item_kept v c y in let count = count_kept v c y in inr (omega arith)

  slots_few : (c : ℕ) → length (slots_at (air_of deck) c) ≤ 2 ^ 16
  slots_few c = at_or_none (λ l. length l ≤ 2 ^ 16) (air_of deck).slots (edition_at (air_of deck) c) each (omega arith)
    where
      slots_of : ℕ → List (Option ℕ)
      slots_of e = program (disks_in deck e)

      each : All (λ slots. length slots ≤ 2 ^ 16) (map slots_of (range_with_len 0 (count_editions deck)))
      each k d below =
          let whole : length (map slots_of (range_with_len 0 (count_editions deck))) ≡ count_editions deck = length-map-range_with_len slots_of 0 (count_editions deck) in
          let within : k < count_editions deck = omega (arith, whole, below) in
          let at = get_or-map-range_with_len slots_of 0 (count_editions deck) k k d within (omega arith) in
          let few : length (slots_of k) ≤ 16384 = short k within in
          subst (λ (l : List (Option ℕ)). length l ≤ 2 ^ 16) (sym at) (omega (arith, few))

  bucket_fits : (c s : ℕ) → 1 ≤ c → c ≤ starts H → s < length (slots_at (air_of deck) c) → IsInRange (bucket_of (values_in deck) (air_of deck) H deck.settings.version c s)
  unfolding bucket_of
  bucket_fits c s one started within =
      let a = air_of deck in
      let v = deck.settings.version in
      let slot = get_or (slots_at a c) s None in
      let items : All (λ o. IfSome o (λ i. i < length deck.items)) (slots_at a c) = at_or_none (All (λ o. IfSome o (λ i. i < length deck.items))) a.slots (edition_at a c) (air deck made).0 (All-nil _) in
      let y = body_of (values_in deck) a H c slot in
      let body : BodyFits (most_count v) c y = body_fits c one slot (items s None within) in
      let slots = slots_few c in
      record {
        version = made.version;
        edition = edition_few c;
        some = subst (λ n. 1 ≤ n) (sym (count_kept v c y)) body.some;
        count = subst (λ n. n ≤ most_count v) (sym (count_kept v c y)) body.count;
        started = one;
        cycle = omega arith;
        slot = omega arith;
        placed = placed_kept v c y body.placed;
        value = subst (λ n. n < 2 ^ 64) (sym (value_kept v c y)) body.value;
        entries = subst (All (λ e. e < c)) (sym (entries_told v c y)) (capped_under v c c (entries_of y) body.entries);
        told = λ ages. subst (All (λ e. capped e c ≡ e)) (sym (entries_told v c y)) (capped_is_told v c (entries_of y) ages);
      }

  own_fits : (b : Bucket) → Contains (buckets_of (values_in deck) (air_of deck) H) b → IsInRange b
  own_fits b h =
      let own = own_from (values_in deck) (air_of deck) H b h in
      subst IsInRange (sym own.same) (bucket_fits own.cycle own.slot own.from_one own.started own.within)

  pub all_fit : All IsInRange (buckets_of (values_in deck) (air_of deck) H)
  all_fit k d l = own_fits (get_or (buckets_of (values_in deck) (air_of deck) H) k d) (Contains-get_or (buckets_of (values_in deck) (air_of deck) H) k d l)
