-- What the pins of `beam_tape` are handed may be handed to it, and what its definition computes to.
use Rattle.std.proofs.Common.{◌≡◌, ◌++◌, ℕ, List, [], ◌∷◌, None, Some, Result, Ok, Err, length, refl, sym, subst, ◌∙◌, ap}
use Rattle.std.specs.Prelude.{OnOk}
use Rattle.std.proofs.lemmas.List.Elements.{All-cons, All-nil}
use Rattle.air_model.specs.Buckets.{Bucket, body_at, bucket_at, bucket_in, count_of, entries_at, entries_of, entry_bytes, entry_count, entry_told, is_entry, is_placed, is_shaped, item_of, kind_of, raw_entries, reading, spelling, value_of}
use Rattle.air_model.specs.Disks.{all_items}
use Rattle.air_model.specs.Programs.{chunk, chunk_len, least_common_multiple, minor_cycle, num_chunks, num_minors, program}
use Rattle.air_model.specs.Tapes.{TapeRead, tape_of}
use Rattle.chunk_program.specs.Editions.{EditionDisks, HaveItems, Plans}
use Rattle.air_index.specs.IndexedTapes.{AreBuckets, entries_for, indexed_piece, records_at_marks, records_from, slots_after}
use Rattle.air_index.specs.OnAir.{ahead, entry_for, marks_index, marks_item, marks_of, wait_for}
use Rattle.index_pins.specs.ShortPlans.{disks_beamed, editions_beamed, minor_beamed, one_minor_cycle, two_disks, two_editions, two_items, two_minor_cycles, whole}
use Rattle.index_pins.specs.ShortTapes.{first_item, second_item}

-- ---- the conditions

bucket_read : (bytes : List ℕ) (b : Bucket) → bucket_in bytes ≡ Some b → (b : Bucket) × (bucket_in bytes ≡ Some b)
bucket_read bytes b e = (b, e)

two_buckets : ((b : Bucket) × (bucket_in (first_item 1) ≡ Some b)) × ((b : Bucket) × (bucket_in (second_item 1) ≡ Some b))
unfolding entry_bytes kind_of count_of item_of value_of entries_of spelling bucket_at reading is_shaped is_placed is_entry raw_entries entry_count entries_at entry_told body_at
two_buckets = (bucket_read (first_item 1) _ refl, bucket_read (second_item 1) _ refl)

abbrev IsRead : List ℕ → Type 0
IsRead r = (b : Bucket) × (bucket_in r ≡ Some b)

pub two_read : AreBuckets one_minor_cycle
two_read = All-cons IsRead (first_item 1) (second_item 1 ∷ []) two_buckets.0 (All-cons IsRead (second_item 1) [] two_buckets.1 (All-nil IsRead))

pub four_read : AreBuckets two_minor_cycles
four_read =
    All-cons IsRead (first_item 1) (second_item 1 ∷ first_item 1 ∷ second_item 1 ∷ []) two_buckets.0
    (All-cons IsRead (second_item 1) (first_item 1 ∷ second_item 1 ∷ []) two_buckets.1 two_read)

abbrev Has : ℕ → EditionDisks → Type 0
Has n p = length (all_items p.disks) ≡ n

-- The plans and the tape may be handed to it, with the number of items, for the cycle after the first ones.
pub record CanBeam (n first : ℕ) (plans : Plans) (tape : TapeRead) : Type 0 where
  pub items : HaveItems n plans.programs
  pub whole : tape.cut ≡ None
  pub counted : length tape.records ≡ slots_after plans first 1
  pub grammar : AreBuckets tape.records

pub two_can : CanBeam 2 0 two_items (whole one_minor_cycle)
unfolding all_items chunk chunk_len least_common_multiple minor_cycle num_chunks num_minors program
two_can = record { items = All-cons (Has 2) _ [] refl (All-nil (Has 2)); whole = refl; counted = refl; grammar = two_read }

pub disks_can : CanBeam 2 0 two_disks (whole two_minor_cycles)
unfolding all_items chunk chunk_len least_common_multiple minor_cycle num_chunks num_minors program
disks_can = record { items = All-cons (Has 2) _ [] refl (All-nil (Has 2)); whole = refl; counted = refl; grammar = four_read }

pub later_can : CanBeam 2 3 two_disks (whole two_minor_cycles)
unfolding all_items chunk chunk_len least_common_multiple minor_cycle num_chunks num_minors program
later_can = record { items = All-cons (Has 2) _ [] refl (All-nil (Has 2)); whole = refl; counted = refl; grammar = four_read }

pub editions_can : CanBeam 3 0 two_editions (whole two_minor_cycles)
unfolding all_items chunk chunk_len least_common_multiple minor_cycle num_chunks num_minors program
editions_can = record { items = All-cons (Has 3) _ (_ ∷ []) refl (All-cons (Has 3) _ [] refl (All-nil (Has 3))); whole = refl; counted = refl; grammar = four_read }

-- What are these may be handed to it, too.
pub handed : {n first : ℕ} {plans known : Plans} {tape is : TapeRead} → CanBeam n first known is → plans ≡ known → tape ≡ is → CanBeam n first plans tape
handed {n} {first} {plans} {known} {tape} {is} can same read = subst (λ p. CanBeam n first p tape) (sym same) (subst (CanBeam n first known) (sym read) can)

-- ---- what is written

pub two_written : indexed_piece two_items 2 0 1 one_minor_cycle ≡ tape_of (minor_beamed 1 0 (1 ∷ 2 ∷ []))
unfolding chunk chunk_len least_common_multiple minor_cycle num_chunks num_minors marks_of ahead marks_index marks_item entry_for wait_for entries_for records_at_marks records_from
two_written = refl

pub disks_written : indexed_piece two_disks 2 0 1 two_minor_cycles ≡ tape_of (disks_beamed 1)
unfolding chunk chunk_len least_common_multiple minor_cycle num_chunks num_minors marks_of ahead marks_index marks_item entry_for wait_for entries_for records_at_marks records_from
disks_written = refl

pub later_written : indexed_piece two_disks 2 3 1 two_minor_cycles ≡ tape_of (disks_beamed 4)
unfolding chunk chunk_len least_common_multiple minor_cycle num_chunks num_minors marks_of ahead marks_index marks_item entry_for wait_for entries_for records_at_marks records_from
later_written = refl

pub editions_written : indexed_piece two_editions 3 0 1 two_minor_cycles ≡ tape_of editions_beamed
unfolding chunk chunk_len least_common_multiple minor_cycle num_chunks num_minors marks_of ahead marks_index marks_item entry_for wait_for entries_for records_at_marks records_from
editions_written = refl

-- What is written where the plans and the tape are these.
pub written_is : {A F : Type 0} (r : Result A F) (old new tape : List ℕ) (plans known : Plans) (read is : TapeRead) (n first cycles : ℕ)
    → OnOk r (new ≡ old ++ indexed_piece plans n first cycles read.records) → plans ≡ known → read ≡ is → indexed_piece known n first cycles is.records ≡ tape → OnOk r (new ≡ old ++ tape)
written_is (Ok a) old new tape plans known read is n first cycles h same told computes =
    h ∙ ap (λ (p : Plans). old ++ indexed_piece p n first cycles read.records) same ∙ ap (λ (t : TapeRead). old ++ indexed_piece known n first cycles t.records) told ∙ ap (λ l. old ++ l) computes
written_is (Err e) old new tape plans known read is n first cycles h same told computes = h
