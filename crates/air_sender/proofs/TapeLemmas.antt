-- The tape of a history of a deck: it is whole, its records are the buckets that the history airs, and none of them is long.
use Rattle.std.proofs.Common.{◌≡◌, ℕ, ◌+◌, ◌*◌, ◌<◌, ◌≤◌, ◌^◌, Option, None, Some, List, [], ◌∷◌, length, map, get_or, All, refl, sym, ◌∙◌, ap, subst, arith}
use Rattle.std.specs.List.{flat_map, range_with_len}
use Rattle.std.proofs.lemmas.List.{map-append}
use Rattle.std.proofs.lemmas.List.Elements.{All-append, All-cons, All-map, All-nil}
use Rattle.std.proofs.lemmas.List.FromFn.{get_or-map-range_with_len, length-map-range_with_len}
use Rattle.std.proofs.lemmas.Simd.{map-map}
use Rattle.air_base.specs.declared.verdicts.Policy.{Policy}
use Rattle.air_base.specs.declared.verdicts.Policy.TheVariants.{FMatrix, Datacycle, RMatrix}
use Rattle.air_history.specs.declared.histories.Event.{Event}
use Rattle.air_history.specs.Histories.{starts}
use Rattle.air_history.specs.Columns.{aired_entries}
use Rattle.air_history.specs.Reads.{read_value}
use Rattle.air_history.specs.Tables.{values_of}
use Rattle.air_history.proofs.ScanLemmas.{starts_within}
use Rattle.air_model.specs.Aired.{Air, aired_as, air_of, body_of, bucket_of, buckets_of, cycle_buckets, edition_at, history_tape, slots_at}
use Rattle.air_model.specs.AiredLaws.{CanAir}
use Rattle.air_model.specs.Buckets.{Bucket, capped_bucket, entries_of, entry_len, spelling}
use Rattle.air_model.specs.Decks.{Deck, IsDeck, count_editions, disks_in, script_history, values_in}
use Rattle.air_model.specs.Programs.{program}
use Rattle.air_model.specs.Tapes.{tape_of, tape_read}
use Rattle.air_model.proofs.AiredLemmas.{scheme_long}
use Rattle.chunk_program.specs.Plans.{AreShort}
use Rattle.air_model.proofs.ScriptLemmas.{script}
use Rattle.air_model.proofs.TapeLemmas.{length_record, whole_read}
use Rattle.air_sender.proofs.RangeLemmas.{spelling_within, told_length}
use Rattle.air_sender.specs.AiredBytes.{aired_bytes}
use Rattle.air_sender.proofs.RunLoops.{script_length}

-- ---- the tape

-- Records of a tape that isn't too long are short.
short_records : (rs : List (List ℕ)) → length (tape_of rs) < 2 ^ 32 → All (λ r. length r < 2 ^ 32) rs
unfolding tape_of
short_records [] few = All-nil (λ r. length r < 2 ^ 32)
short_records (r ∷ rs) few =
    let long = length_record r (tape_of rs) in
    All-cons (λ r. length r < 2 ^ 32) r rs (omega arith) (short_records rs (omega arith))

-- Such a tape is read back as its records.
pub tape_back : (deck : Deck) (H : List Event) (tape : List ℕ) → tape ≡ history_tape (values_in deck) (air_of deck) H → length tape ≤ 1073741824 → tape_read tape ≡ record { records = aired_bytes deck H; cut = None }
tape_back deck H tape same few =
    let rs = aired_bytes deck H in
    let long = ap length same in
    ap tape_read same ∙ whole_read rs (length (tape_of rs)) 0 (short_records rs (omega arith)) (omega arith)

-- If no edition is too long, each list of slots is short.
pub slots_short : (deck : Deck) → AreShort deck → All (λ slots. length slots ≤ 2 ^ 16) ((air_of deck).slots)
slots_short deck short e d below =
    let n = count_editions deck in
    let slots : ℕ → List (Option ℕ) = λ e. program (disks_in deck e) in
    let within : e < n = (let all = length-map-range_with_len slots 0 n in omega arith) in
    subst (λ (l : List (Option ℕ)). length l ≤ 2 ^ 16) (sym (get_or-map-range_with_len slots 0 n e e d within (omega arith))) (let few = short e within in omega arith)

-- A deck's script can be aired with it.
pub script_airs : (deck : Deck) → IsDeck deck → length deck.script ≤ 200000 → AreShort deck → CanAir deck (script_history deck)
script_airs deck made few short = record {
  made = made;
  legal = script deck made.script;
  cycles = (let most = starts_within (script_history deck) in let long = script_length deck in omega arith);
  slots = slots_short deck short;
}

-- ---- the records

entries_aired : (p : Policy) (item value : ℕ) (es : List ℕ) → entries_of (aired_as p item value es) ≡ es
unfolding entries_of
entries_aired FMatrix item value es = refl
entries_aired Datacycle item value es = refl
entries_aired RMatrix item value es = refl

entries_few : (values : List ℕ) (air : Air) (H : List Event) (c : ℕ) (o : Option ℕ) → length (entries_of (body_of values air H c o)) ≤ air.items
unfolding body_of entries_of
entries_few values air H c None = omega arith
entries_few values air H c (Some item) =
    let same = ap length (entries_aired air.scheme.policy item (read_value (values_of values) H (record { item = item; cycle = c })) (aired_entries air.scheme air.items H c item)) in
    let long = scheme_long air.scheme air.items H c item in
    omega arith

-- A bucket of a history has a head, and an entry for each item at most.
bucket_short : (values : List ℕ) (air : Air) (H : List Event) (v c s : ℕ) → length (spelling (bucket_of values air H v c s)) ≤ 24 + entry_len v * air.items
unfolding bucket_of
bucket_short values air H v c s =
    let o = get_or (slots_at air c) s None in
    let b : Bucket = record { version = v; edition = edition_at air c; cycle = c; slot = s; body = body_of values air H c o } in
    let few : length (entries_of (capped_bucket b).body) ≤ air.items = let same = told_length b in let many = entries_few values air H c o in omega (arith, same, many) in
    spelling_within (capped_bucket b) (entries_of (capped_bucket b).body) air.items refl few

abbrev IsShort : Air → List ℕ → Type 0
IsShort air r = length r ≤ 24 + entry_len air.version * air.items

cycles_short : (values : List ℕ) (air : Air) (H : List Event) (cs : List ℕ) → All (IsShort air) (map spelling (flat_map (cycle_buckets values air H) cs))
cycles_short values air H [] = All-nil (IsShort air)
cycles_short values air H (c ∷ cs) =
    let v = air.version in
    let ks = range_with_len 0 (length (slots_at air c)) in
    let here = cycle_buckets values air H c in
    let rest = flat_map (cycle_buckets values air H) cs in
    subst (All (IsShort air)) (sym (map-append spelling here rest)) (All-append (IsShort air) (map spelling here) (map spelling rest)
    (subst (All (IsShort air)) (sym (map-map spelling (bucket_of values air H v c) ks)) (All-map (IsShort air) (λ s. spelling (bucket_of values air H v c s)) ks (λ k d below. bucket_short values air H v c (get_or ks k d))))
    (cycles_short values air H cs))

-- So no record is longer than that.
pub records_short : (deck : Deck) (H : List Event) → All (λ r. length r ≤ 24 + entry_len deck.settings.version * length deck.items) (aired_bytes deck H)
unfolding buckets_of
records_short deck H = cycles_short (values_in deck) (air_of deck) H (range_with_len 1 (starts H))
