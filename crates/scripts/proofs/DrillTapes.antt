-- How long the tape of a drill is: it has at most 2,002 cycles, of at most 432 slots, of at most 892 bytes each.
use Rattle.std.proofs.Common.{◌≡◌, ℕ, ◌+◌, ◌*◌, ◌≤◌, Option, Some, None, List, [], length, All, get_or, refl, sym, subst, ap, ◌∙◌, arith}
use Rattle.std.specs.List.{range_with_len}
use Rattle.std.proofs.lemmas.List.{length-map}
use Rattle.std.proofs.lemmas.List.Concat.{length-flat_map}
use Rattle.std.proofs.lemmas.List.FromFn.{length-map-range_with_len, length-range_with_len}
use Rattle.std.proofs.lemmas.List.Sums.{sum_by-le}
use Rattle.std.proofs.lemmas.Nat.{mul-le}
use Rattle.air_history.specs.declared.histories.Event.{Event}
use Rattle.air_history.specs.Histories.{starts}
use Rattle.air_history.proofs.ScanLemmas.{starts_within}
use Rattle.air_model.specs.Aired.{Air, air_of, bucket_of, buckets_of, cycle_buckets, slots_at}
use Rattle.air_model.specs.Buckets.{spelling}
use Rattle.air_model.specs.Decks.{count_editions, disks_in, script_history, values_in}
use Rattle.air_model.specs.Draws.{generator}
use Rattle.air_model.specs.Drills.{draw_item, drill_deck, drill_items}
use Rattle.air_model.specs.Outputs.{script_tape}
use Rattle.air_model.specs.Programs.{program}
use Rattle.air_model.proofs.EditionLemmas.{plain_slots}
use Rattle.air_sender.specs.TapeSizes.{cycle_size, record_size}
use Rattle.air_sender.proofs.TapeLengths.{plain_size}
use Rattle.chunk_program.specs.Plans.{AreShort}
use Rattle.item_catalog.proofs.DealLemmas.{script_short}
use Rattle.item_catalog.proofs.DrawLemmas.{length-draw_each}
use Rattle.air_sender.specs.AiredBytes.{aired_bytes}
use Rattle.air_sender.proofs.RunLoops.{script_length}
use Rattle.scripts.proofs.DrillSlots.{drill_slots}

record_few : (n : ℕ) (slot : Option ℕ) → record_size 1 n slot ≤ 28 + 4 * n
record_few n None = omega arith
record_few n (Some item) = omega arith

cycle_few : (n : ℕ) (slots : List (Option ℕ)) → cycle_size 1 n slots ≤ length slots * (28 + 4 * n)
cycle_few n slots = sum_by-le (record_size 1 n) (28 + 4 * n) slots (λ k d below. record_few n (get_or slots k d))

-- A drill starts at most 2,002 cycles, since its script has no more parts.
pub drill_starts : (seed size : ℕ) → size ≤ 100 → starts (script_history (drill_deck seed size)) ≤ 2002
unfolding drill_deck
drill_starts seed size few =
    let deck = drill_deck seed size in
    omega (arith, starts_within (script_history deck), script_length deck, script_short (10 * size))

-- Its buckets are of version 1, and it has no replan.
drill_version : (seed size : ℕ) → (drill_deck seed size).settings.version ≡ 1
unfolding drill_deck
drill_version seed size = refl

no_replans : (seed size : ℕ) → (drill_deck seed size).replans ≡ []
unfolding drill_deck
no_replans seed size = refl

-- So none of its editions is too long.
pub drill_short : (seed size : ℕ) → 1 ≤ size → size ≤ 100 → AreShort (drill_deck seed size)
drill_short seed size some few e below =
    let deck = drill_deck seed size in
    let one : count_editions deck ≡ 1 = ap (λ rs. length rs + 1) (no_replans seed size) in
    let first : e ≡ 0 = omega (arith, one, below) in
    let slots = drill_slots seed size some in
    subst (λ e. length (program (disks_in deck e)) ≤ 16384) (sym first) (omega (arith, slots))

-- It has the items of its size.
drill_length : (seed size : ℕ) → length ((drill_deck seed size).items) ≡ drill_items size
unfolding drill_deck
drill_length seed size = length-draw_each (λ i. draw_item) (drill_items size) (generator seed 1)

pub drill_tape : (seed size : ℕ) → 1 ≤ size → size ≤ 100 → length (script_tape (drill_deck seed size)) ≤ 1073741824
drill_tape seed size some few =
    let deck = drill_deck seed size in
    let H = script_history deck in
    let n = length deck.items in
    let slots = program (disks_in deck 0) in
    let long = plain_size deck (no_replans seed size) H ∙ ap (λ v. starts H * cycle_size v n slots) (drill_version seed size) in
    let items = drill_length seed size in
    let count = drill_slots seed size some in
    let cycle = cycle_few n slots in
    let each = mul-le (length slots) (28 + 4 * n) 432 892 (omega arith) (omega arith) in
    let all = mul-le (starts H) (cycle_size 1 n slots) 2002 385344 (drill_starts seed size few) (omega arith) in
    omega arith

-- ---- buckets

-- A cycle has a bucket for each of its slots.
cycle_long : (values : List ℕ) (air : Air) (H : List Event) (c : ℕ) → length (cycle_buckets values air H c) ≡ length (slots_at air c)
cycle_long values air H c = length-map-range_with_len (bucket_of values air H air.version c) 0 (length (slots_at air c))

-- A history airs at most n buckets for each cycle, where no cycle has more than n slots.
buckets_long : (values : List ℕ) (air : Air) (H : List Event) (n : ℕ) → ((c : ℕ) → length (slots_at air c) ≤ n) → length (buckets_of values air H) ≤ starts H * n
unfolding buckets_of
buckets_long values air H n few =
    let cycle = cycle_buckets values air H in
    let cycles = range_with_len 1 (starts H) in
    let each : All (λ c. length (cycle c) ≤ n) cycles = λ k d below. omega (arith, cycle_long values air H (get_or cycles k d), few (get_or cycles k d)) in
    let all = sum_by-le (λ c. length (cycle c)) n cycles each in
    omega (arith, length-flat_map cycle cycles, ap (λ k. k * n) (length-range_with_len 1 (starts H)))

-- A drill airs at most 864,864 buckets.
pub drill_buckets : (seed size : ℕ) → 1 ≤ size → size ≤ 100 → length (aired_bytes (drill_deck seed size) (script_history (drill_deck seed size))) ≤ 864864
drill_buckets seed size some few =
    let deck = drill_deck seed size in
    let H = script_history deck in
    let buckets = buckets_of (values_in deck) (air_of deck) H in
    let count = drill_slots seed size some in
    let all = mul-le (starts H) (length (program (disks_in deck 0))) 2002 432 (drill_starts seed size few) (omega arith) in
    let slots = λ (c : ℕ). plain_slots deck c (no_replans seed size) in
    let long = buckets_long (values_in deck) (air_of deck) H (length (program (disks_in deck 0))) (λ c. omega (arith, ap length (slots c))) in
    omega (arith, length-map buckets spelling, long)
