-- How long the tape of a history is: each record has the bytes of its slot, and each cycle has its own slots.
use Rattle.std.proofs.Common.{◌≡◌, ℕ, zero, suc, ◌+◌, ◌*◌, Option, Some, None, List, [], ◌∷◌, ◌++◌, length, map, get_or, refl, sym, ◌∙◌, ap, arith, length-append}
use Rattle.std.specs.List.{flat_map, range_with_len, sum_by}
use Rattle.std.proofs.Math.Nat.{mul-zero, suc-mul}
use Rattle.std.proofs.lemmas.List.{map-append}
use Rattle.std.proofs.lemmas.Grind.{flat_map-append}
use Rattle.std.proofs.lemmas.List.Sums.{sum_by-cons}
use Rattle.std.proofs.lemmas.List.FromFn.{fill_by_all}
use Rattle.air_base.specs.declared.verdicts.Policy.{Policy}
use Rattle.air_base.specs.declared.verdicts.Policy.TheVariants.{FMatrix, Datacycle, RMatrix}
use Rattle.air_history.specs.declared.histories.Event.{Event}
use Rattle.air_history.specs.Histories.{starts}
use Rattle.air_model.specs.Buckets.{Bucket, capped_bucket, entries_of, entry_len, spelling}
use Rattle.air_model.specs.Tapes.{record_bytes, tape_of}
use Rattle.air_model.specs.Aired.{Air, aired_as, air_of, body_of, bucket_of, buckets_of, cycle_buckets, edition_at, history_tape, slots_at}
use Rattle.air_model.specs.Decks.{Deck, disks_in, values_in}
use Rattle.air_model.specs.Programs.{program}
use Rattle.air_model.proofs.AiredLemmas.{scheme_long}
use Rattle.air_model.proofs.EditionLemmas.{plain_slots}
use Rattle.bucket_codec.proofs.EncodingLemmas.{length_spelling}
use Rattle.bucket_codec.proofs.TapeReadLemmas.{record_size as record_long}
use Rattle.air_sender.proofs.RangeLemmas.{told_length}
use Rattle.air_sender.specs.TapeSizes.{cycle_size, record_size, tape_size}

-- ---- one record

aired_entries_are : (p : Policy) (item value : ℕ) (es : List ℕ) → entries_of (aired_as p item value es) ≡ es
unfolding entries_of
aired_entries_are FMatrix item value es = refl
aired_entries_are Datacycle item value es = refl
aired_entries_are RMatrix item value es = refl

body_size : (values : List ℕ) (air : Air) (H : List Event) (v c : ℕ) (o : Option ℕ) → 28 + entry_len v * length (entries_of (body_of values air H c o)) ≡ record_size v air.items o
unfolding body_of entries_of
body_size values air H v c None = omega (arith, mul-zero (entry_len v))
body_size values air H v c (Some item) =
    ap (λ es. 28 + entry_len v * length es) (aired_entries_are air.scheme.policy item _ _)
    ∙ ap (λ n. 28 + entry_len v * n) (scheme_long air.scheme air.items H c item)

slot_size : (values : List ℕ) (air : Air) (H : List Event) (v c s : ℕ) → length (record_bytes (spelling (bucket_of values air H v c s))) ≡ record_size v air.items (get_or (slots_at air c) s None)
unfolding bucket_of
slot_size values air H v c s =
    let o = get_or (slots_at air c) s None in
    let b : Bucket = record { version = v; edition = edition_at air c; cycle = c; slot = s; body = body_of values air H c o } in
    let long : length (spelling (capped_bucket b)) ≡ 24 + entry_len v * length (entries_of (body_of values air H c o)) =
    length_spelling (capped_bucket b) ∙ ap (λ n. 24 + entry_len v * n) (told_length b) in
    let body = body_size values air H v c o in
    omega (arith, long, body, record_long (spelling (capped_bucket b)))

-- ---- a cycle

slots_size : (values : List ℕ) (air : Air) (H : List Event) (v c : ℕ) (ks : List ℕ) →
    length (tape_of (map spelling (map (bucket_of values air H v c) ks))) ≡ sum_by (record_size v air.items) (map (λ s. get_or (slots_at air c) s None) ks)
unfolding tape_of
slots_size values air H v c [] = refl
slots_size values air H v c (s ∷ ks) =
    let r = record_bytes (spelling (bucket_of values air H v c s)) in
    let o = get_or (slots_at air c) s None in
    length-append r (tape_of (map spelling (map (bucket_of values air H v c) ks)))
    ∙ ap (λ n. n + length (tape_of (map spelling (map (bucket_of values air H v c) ks)))) (slot_size values air H v c s)
    ∙ ap (λ n. record_size v air.items o + n) (slots_size values air H v c ks)
    ∙ sym (sum_by-cons (record_size v air.items) o (map (λ s. get_or (slots_at air c) s None) ks))

whole_cycle : (values : List ℕ) (air : Air) (H : List Event) (c : ℕ) → length (tape_of (map spelling (cycle_buckets values air H c))) ≡ cycle_size air.version air.items (slots_at air c)
whole_cycle values air H c =
    let slots = slots_at air c in
    slots_size values air H air.version c (range_with_len 0 (length slots))
    ∙ ap (sum_by (record_size air.version air.items)) (sym (fill_by_all (λ s. get_or slots s None) slots (length slots) None refl (λ k l. refl)))

-- ---- all cycles

cycles_size : (values : List ℕ) (air : Air) (H : List Event) (cs : List ℕ) →
    length (tape_of (map spelling (flat_map (cycle_buckets values air H) cs))) ≡ sum_by (λ c. cycle_size air.version air.items (slots_at air c)) cs
unfolding tape_of
cycles_size values air H [] = refl
cycles_size values air H (c ∷ cs) =
    let size : ℕ → ℕ = λ c. cycle_size air.version air.items (slots_at air c) in
    let here = cycle_buckets values air H c in
    let rest = flat_map (cycle_buckets values air H) cs in
    let joined : tape_of (map spelling (here ++ rest)) ≡ tape_of (map spelling here) ++ tape_of (map spelling rest) =
    ap tape_of (map-append spelling here rest) ∙ flat_map-append record_bytes (map spelling here) (map spelling rest) in
    ap length joined ∙ length-append (tape_of (map spelling here)) (tape_of (map spelling rest))
    ∙ ap (λ n. n + length (tape_of (map spelling rest))) (whole_cycle values air H c) ∙ ap (λ n. size c + n) (cycles_size values air H cs) ∙ sym (sum_by-cons size c cs)

-- The statement of `tape_size_law`, for those who take it from there.
abbrev pub TapeSizeLaw : Type 0
TapeSizeLaw = (values : List ℕ) (air : Air) (H : List Event) →
    length (history_tape values air H) ≡ tape_size air.version air.items (slots_at air) (starts H)

pub history_size : TapeSizeLaw
unfolding buckets_of
history_size values air H = cycles_size values air H (range_with_len 1 (starts H))

-- ---- cycles that are alike

-- If all cycles have the same slots, the sum is a product.
even_sum : (f : ℕ → ℕ) (m a n : ℕ) → ((c : ℕ) → f c ≡ m) → sum_by f (range_with_len a n) ≡ n * m
even_sum f m a zero same = omega arith
even_sum f m a (suc n) same =
    sum_by-cons f a (range_with_len (a + 1) n) ∙ ap (λ k. k + sum_by f (range_with_len (a + 1) n)) (same a) ∙ ap (λ k. m + k) (even_sum f m (a + 1) n same) ∙ omega (arith, suc-mul n m)

-- So the tape of a history of a deck without replans has the bytes of one cycle's records for each cycle.
pub plain_size : (deck : Deck) → deck.replans ≡ [] → (H : List Event) → length (history_tape (values_in deck) (air_of deck) H) ≡ starts H * cycle_size deck.settings.version (length deck.items) (program (disks_in deck 0))
plain_size deck plain H =
    let air = air_of deck in
    let n = length deck.items in
    history_size (values_in deck) air H
    ∙ even_sum (λ c. cycle_size air.version n (slots_at air c)) (cycle_size air.version n (program (disks_in deck 0))) 1 (starts H) (λ c. ap (cycle_size air.version n) (plain_slots deck c plain))
