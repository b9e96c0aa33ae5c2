-- What the laws of the program give of a deck's disks and of an item's home; what a slot carries is an item.
use Rattle.std.proofs.Common.{◌≡◌, ◌≤◌, ◌<◌, ◌+◌, ◌-◌, ◌*◌, ◌%◌, ℕ, zero, suc, Option, Some, None, List, [], ◌∷◌, length, get_or, slice_get, refl, sym, subst, ap, ◌∙◌, arith}
use Rattle.std.specs.Prelude.{IfSome}
use Rattle.std.specs.List.{All, Contains, flat_map, range_with_len}
use Rattle.std.proofs.lemmas.Nat.{mod_below}
use Rattle.std.proofs.lemmas.List.Elements.{All-append, All-head, All-map, All-tail}
use Rattle.std.proofs.lemmas.Option.{slice_get_read}
use Rattle.air_base.specs.declared.limits.TheConstants.{MOST_SLOTS}
use Rattle.air_model.specs.Disks.{Disk, all_items}
use Rattle.air_model.specs.Programs.{chunk, chunk_len, minor_cycle, minor_len, num_chunks, num_minors, program}
use Rattle.air_model.specs.Airings.{ComesEvery, IsNextWake, airings, disk_number, gap_of, next_wake}
use Rattle.air_model.proofs.ProgramLemmas.{item_airings, item_comes_every, item_next_wake, item_times_gap, length_program}
use Rattle.air_model.proofs.Elements.{all_at, at_all, has_contains}
use Rattle.chunk_program.specs.declared.homes.Home.{Home}
use Rattle.chunk_program.specs.declared.programs.Program.TheInside.{Inside}
use Rattle.chunk_program.specs.ProgramFields.{IsLaidOut}
use Rattle.chunk_program.specs.Homes.{IsHome}
use Rattle.chunk_program.specs.CutConditions.{AreDeckDisks}
use Rattle.chunk_program.specs.Places.{place_number}
use Rattle.chunk_program.proofs.ChunkLemmas.{chunk_len_few, chunks_few, chunks_some, freq_some}
use Rattle.chunk_program.proofs.HomeLemmas.{held_item}
use Rattle.chunk_program.proofs.PlaceSteps.{all_of_disk, below_count}

-- ---- an item below the number of items
module _ (disks : List Disk) (i : ℕ) (limits : AreDeckDisks disks) (below : i < length (all_items disks)) where
  disk : Disk
  disk = (held_item disks i limits below).0

  at : slice_get disks (disk_number disks i) ≡ Some disk
  unfolding disk
  at = (held_item disks i limits below).1.at

  has : Contains disk.items i
  unfolding disk
  has = has_contains disk.items i (place_number disks i, (held_item disks i limits below).1.item)

  aired : airings (program disks) i ≡ disk.freq
  aired = item_airings disks (disk_number disks i) disk i limits.airable at has

  pub item_even : ComesEvery (program disks) i (gap_of disks i)
  item_even = item_comes_every disks (disk_number disks i) disk i limits.airable at has

  pub item_whole : airings (program disks) i * gap_of disks i ≡ length (program disks)
  item_whole = item_times_gap disks (disk_number disks i) disk i limits.airable at has

  pub item_gap_within : gap_of disks i ≤ length (program disks)
  item_gap_within = by (airings (program disks) i) (let some = freq_some disks limits (disk_number disks i) disk at in let same = aired in omega arith) item_whole
    where
      by : (t : ℕ) → 0 < t → t * gap_of disks i ≡ length (program disks) → gap_of disks i ≤ length (program disks)
      by zero some whole = absurd (omega arith)
      by (suc t) some whole = omega arith

  pub item_wait : (s : ℕ) → s < length (program disks)
      → (IsNextWake (program disks) s i (next_wake (program disks) s i)) × (next_wake (program disks) s i ≡ (next_wake (program disks) 0 i + (gap_of disks i - s % gap_of disks i)) % gap_of disks i)
  item_wait s within =
      let known = item_next_wake disks (disk_number disks i) disk i limits.airable at has s within in ((known.0 (next_wake (program disks) s i)).1 refl, known.1)

  pub item_first_below : next_wake (program disks) 0 i < gap_of disks i
  item_first_below =
      let some = item_even.some in let within = item_gap_within in
      let wait = (item_wait 0 (omega arith)).1 in
      let low = mod_below (next_wake (program disks) 0 i + (gap_of disks i - 0 % gap_of disks i)) (gap_of disks i) some in omega arith

  pub item_freq : (times : ℕ) → times ≡ airings (program disks) i → IfSome (slice_get disks (disk_number disks i)) (λ (d : Disk). times ≡ d.freq)
  item_freq times is = subst (λ (o : Option Disk). IfSome o (λ d. times ≡ d.freq)) (sym at) (is ∙ aired)

-- What is known of the numbers of a home.
pub home_fits : (disks : List Disk) (i : ℕ) (h : Home) → AreDeckDisks disks → i < length (all_items disks) → length (program disks) ≤ MOST_SLOTS → IsHome disks i h
    → (h.gap ≤ MOST_SLOTS) × (h.first < h.gap)
home_fits disks i h limits below short is =
    let within = item_gap_within disks i limits below in let first = item_first_below disks i limits below in
    let gap = is.gap in let own = is.first in (omega arith, omega arith)

-- The wait that a home gives.
pub home_wait : (disks : List Disk) (i s : ℕ) (h : Home) → AreDeckDisks disks → i < length (all_items disks) → s < length (program disks) → IsHome disks i h
    → (h.first + (h.gap - s % h.gap)) % h.gap ≡ next_wake (program disks) s i
home_wait disks i s h limits below within is = rw (is.gap, is.first) (sym (item_wait disks i limits below s within).1)

-- A deck's disks have a slot.
pub slots_some : (disks : List Disk) → AreDeckDisks disks → 1 ≤ length (program disks)
slots_some disks limits =
    let within = item_gap_within disks 0 limits limits.some in let some = (item_even disks 0 limits limits.some).some in omega arith

-- ---- what slots carry
All-flat_map : {X A : Type 0} (P : A → Type 0) (f : X → List A) (xs : List X) → All (λ x. All P (f x)) xs → All P (flat_map f xs)
All-flat_map P f [] all = λ k d below. absurd (omega arith)
All-flat_map P f (x ∷ xs) all =
    All-append P (f x) (flat_map f xs) (All-head (λ x. All P (f x)) x xs all) (All-flat_map P f xs (All-tail (λ x. All P (f x)) x xs all))

read_all : (P : ℕ → Type 0) (xs : List ℕ) (k : ℕ) → All P xs → IfSome (slice_get xs k) P
read_all P xs k all = by (slice_get xs k) refl
  where
    by : (o : Option ℕ) → slice_get xs k ≡ o → IfSome o P
    by None e = tt
    by (Some x) e = all_at P xs k x all e

pub carried_items : (disks : List Disk) → AreDeckDisks disks → All (λ o. IfSome o (λ i. i < length (all_items disks))) (program disks)
unfolding program minor_cycle chunk
carried_items disks limits =
    let n = length (all_items disks) in
    All-flat_map (λ o. IfSome o (λ i. i < n)) (minor_cycle (num_minors disks) disks) (range_with_len 0 (num_minors disks)) (λ j e under.
    All-flat_map (λ o. IfSome o (λ i. i < n)) (λ d. chunk (num_minors disks) d (get_or (range_with_len 0 (num_minors disks)) j e % num_chunks (num_minors disks) d)) disks
    (at_all (λ d. All (λ o. IfSome o (λ i. i < n)) (chunk (num_minors disks) d (get_or (range_with_len 0 (num_minors disks)) j e % num_chunks (num_minors disks) d))) disks (λ k d at.
    All-map (λ o. IfSome o (λ i. i < n)) (slice_get d.items) _ (λ q f less. read_all (λ i. i < n) d.items _ (all_of_disk (λ i. i < n) disks k d (below_count disks n limits refl) at)))))

-- ---- the numbers of a program
pub slots_are : (disks : List Disk) (m row slots : ℕ) → m ≡ num_minors disks → row ≡ minor_len m disks → slots ≡ m * row → slots ≡ length (program disks)
slots_are disks m row slots minors rows is =
    is ∙ ap (λ r. m * r) rows ∙ ap (λ n. n * minor_len n disks) minors ∙ sym (length_program disks)

pub minors_short : (m row slots : ℕ) → 1 ≤ slots → slots ≡ m * row → slots ≤ MOST_SLOTS → m ≤ MOST_SLOTS
minors_short m zero slots some is short = absurd (omega arith)
minors_short m (suc row) slots some is short = omega arith

pub minors_few : (disks : List Disk) → AreDeckDisks disks → length (program disks) ≤ MOST_SLOTS → num_minors disks ≤ MOST_SLOTS
minors_few disks limits short = minors_short (num_minors disks) (minor_len (num_minors disks) disks) (length (program disks)) (slots_some disks limits) (length_program disks) short

-- ---- a disk that is read, and what its chunks are
pub record IsDiskOf (disks : List Disk) (m n : ℕ) (d : Disk) : Type 0 where
  pub at : slice_get disks n ≡ Some d
  pub aired : 0 < d.freq
  pub some : 0 < num_chunks m d
  pub chunks : num_chunks m d ≤ MOST_SLOTS
  pub len : chunk_len m d ≤ 1024

pub read_disk : (disks : List Disk) (m n : ℕ) (d : Disk) → AreDeckDisks disks → length (program disks) ≤ MOST_SLOTS → m ≡ num_minors disks → n < length disks → d ≡ get_or disks n d → IsDiskOf disks m n d
read_disk disks m n d limits short minors below is =
    let at = slice_get_read disks (length disks) n d refl below is in
    let few = minors_few disks limits short in
    rw minors (record {
      at = at;
      aired = freq_some disks limits n d at;
      some = chunks_some disks limits n d at;
      chunks = (let fewer = chunks_few disks limits n d at in omega arith);
      len = chunk_len_few disks limits n d at;
    })

-- The disk that is read of a program's fields.
pub laid_disk : (p : Inside) (view : List Disk) (m n : ℕ) (d : Disk) → IsLaidOut p → p.disks.items ≡ view → m ≡ p.minors → n < length view → d ≡ get_or p.disks.items n d
    → IsDiskOf p.disks.items m n d
laid_disk p view m n d laid same minors within is =
    let short : length (program p.disks.items) ≤ MOST_SLOTS = (let slots = ap length laid.slots in let few = laid.short in omega arith) in
    read_disk p.disks.items m n d laid.limits short (minors ∙ laid.minors) (subst (λ (l : List Disk). n < length l) (sym same) within) is

pub of_read : (P : Disk → Type 0) (o : Option Disk) (d : Disk) → o ≡ Some d → P d → IfSome o P
of_read P o d is here = subst (λ (o : Option Disk). IfSome o P) (sym is) here

pub read_slot : (P : Option ℕ → Type 0) (slots : List (Option ℕ)) (s : ℕ) (o : Option ℕ) → All P slots → s < length slots → o ≡ get_or slots s o → P o
read_slot P slots s o all below is = subst P (sym is) (all s o below)
