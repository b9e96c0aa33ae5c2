-- The chunks of a disk of a deck: there is one at least, and none is longer than the disk.
-- Then the slots as they are laid out: one more disk, one more minor cycle.
use Rattle.std.proofs.Common.{◌≡◌, ◌≤◌, ◌<◌, ◌+◌, ◌-◌, ◌*◌, ◌/◌, ◌%◌, ◌++◌, ℕ, zero, suc, Option, Some, List, [], ◌∷◌, length, get_or, map, slice_get, take, sum_by, refl, sym, ap, ◌∙◌, arith}
use Rattle.std.specs.List.{flat_map, range_with_len}
use Rattle.std.proofs.lemmas.List.{append-nil, flat_map_more, get_or-take, length-take-le, map-id, take_more}
use Rattle.std.proofs.lemmas.List.FromFn.{map-range_with_len_more}
use Rattle.std.proofs.lemmas.List.Sums.{sum_by_push}
use Rattle.std.proofs.lemmas.Nat.{div_below, mod_below, row_fits}
use Rattle.std.proofs.lemmas.Nat.Gcd.{dvd_of_mod-eq-zero}
use Rattle.std.proofs.lemmas.Option.{slice_get_read}
use Rattle.std.proofs.Math.Nat.{div-le_self, div-mul_cancel, mul-le-mul_left}
use Rattle.air_base.specs.declared.limits.TheConstants.{MOST_SLOTS}
use Rattle.air_model.specs.Disks.{Disk}
use Rattle.air_model.specs.Programs.{chunk, chunk_len, minor_cycle, minor_len, num_chunks, num_minors, program}
use Rattle.air_model.proofs.ProgramLemmas.{airable_aired}
use Rattle.air_model.proofs.CommonMultiples.{num_minors_common, num_minors_pos}
use Rattle.chunk_program.specs.CutConditions.{AreDeckDisks}
use Rattle.chunk_program.proofs.PlaceSteps.{fewer_items}

positive : (a b : ℕ) → 0 < a * b → 0 < a
positive zero b h = absurd (omega arith)
positive (suc a) b h = omega arith

-- What is rounded up is no more than what is divided.
ceiling_below : (s n : ℕ) → 0 < n → (s + n - 1) / n ≤ s
ceiling_below s zero some = absurd (omega arith)
ceiling_below s (suc n) some = let less = div_below (s + suc n - 1) (suc n) (s + 1) some (omega arith) in omega arith

module _ (disks : List Disk) (limits : AreDeckDisks disks) (n : ℕ) (d : Disk) (at : slice_get disks n ≡ Some d) where
  pub freq_some : 0 < d.freq
  freq_some = airable_aired disks limits.airable n d at

  pub chunks_times : num_chunks (num_minors disks) d * d.freq ≡ num_minors disks
  unfolding num_chunks
  chunks_times = div-mul_cancel d.freq (dvd_of_mod-eq-zero d.freq (num_minors_common disks (airable_aired disks limits.airable) n d at))

  pub chunks_some : 0 < num_chunks (num_minors disks) d
  chunks_some = positive (num_chunks (num_minors disks) d) d.freq (let times = chunks_times in let some = num_minors_pos disks (airable_aired disks limits.airable) in omega arith)

  pub chunks_few : num_chunks (num_minors disks) d ≤ num_minors disks
  unfolding num_chunks
  chunks_few = div-le_self (num_minors disks) d.freq

  pub chunk_len_few : chunk_len (num_minors disks) d ≤ 1024
  unfolding chunk_len
  chunk_len_few =
      let below = ceiling_below (length d.items) (num_chunks (num_minors disks) d) chunks_some in
      let fewer = fewer_items disks n d at in let few = limits.few in omega arith

-- Where the chunk that a minor cycle airs ends on its disk, in a program that isn't too long.
pub chunk_ends : (disks : List Disk) (n : ℕ) (d : Disk) (minors k chunk len : ℕ) → AreDeckDisks disks → slice_get disks n ≡ Some d → minors ≡ num_minors disks → minors ≤ MOST_SLOTS
    → chunk ≡ k % num_chunks minors d → len ≡ chunk_len minors d → chunk * len + len ≤ 1024 * MOST_SLOTS
chunk_ends disks n d minors k chunk len limits at is few aired long =
    let chunks = num_chunks minors d in
    let some : 0 < chunks = rw is (chunks_some disks limits n d at) in
    let fewer : chunks ≤ minors = (let own = chunks_few disks limits n d at in let same = ap (λ m. num_chunks m d) is in omega arith) in
    let short : len ≤ 1024 = (let own = chunk_len_few disks limits n d at in let same = long ∙ ap (λ m. chunk_len m d) is in omega arith) in
    let whole : k % chunks * len + len ≤ chunks * len = row_fits (k % chunks) len chunks len (mod_below k chunks some) (omega arith) in
    let same = ap (λ c. c * len + len) aired in
    let wide = mul-le-mul_left chunks short in
    let turned : chunks * 1024 ≡ 1024 * chunks = omega arith in omega arith

-- A disk of the first n is that disk of all.
pub record IsEarlierDisk (disks : List Disk) (n k : ℕ) (d : Disk) : Type 0 where
  pub earlier : k < n
  pub within : k < length disks
  pub is : d ≡ get_or disks k d
  pub at : slice_get disks k ≡ Some d

pub earlier_disk : (disks : List Disk) (n k : ℕ) (d : Disk) → n ≤ length disks → k < length (take n disks) → d ≡ get_or (take n disks) k d → IsEarlierDisk disks n k d
earlier_disk disks n k d whole below is =
    let long = length-take-le n disks whole in
    let own = is ∙ get_or-take n disks k d (omega arith) in
    record { earlier = omega arith; within = omega arith; is = own; at = slice_get_read disks (length disks) k d refl (omega arith) own }

-- ---- a minor cycle as long as a chunk of each disk so far
pub len_none : (m : ℕ) → 0 ≡ minor_len m []
unfolding minor_len
len_none m = refl

pub len_more : (m : ℕ) (disks : List Disk) (n : ℕ) (d : Disk) (now : ℕ) → n < length disks → d ≡ get_or disks n d → now ≡ minor_len m (take n disks)
    → now + chunk_len m d ≡ minor_len m (take (n + 1) disks)
unfolding minor_len
len_more m disks n d now below is told =
    ap (λ s. s + chunk_len m d) told ∙ sym (sum_by_push (chunk_len m) (take n disks) d)
    ∙ ap (sum_by (chunk_len m)) (ap (λ x. take n disks ++ x ∷ []) is ∙ sym (take_more disks n d below))

-- ---- the slots, one disk on and one minor cycle on
pub minor_none : (m k : ℕ) (old : List (Option ℕ)) → old ≡ old ++ minor_cycle m [] k
unfolding minor_cycle
minor_none m k old = sym (append-nil old)

pub minor_more : (m k : ℕ) (disks : List Disk) (n : ℕ) (d : Disk) (c len : ℕ) (old now new : List (Option ℕ)) → n < length disks → d ≡ get_or disks n d
    → c ≡ k % num_chunks m d → len ≡ chunk_len m d → now ≡ old ++ minor_cycle m (take n disks) k → new ≡ now ++ map (slice_get d.items) (range_with_len (c * len) len)
    → new ≡ old ++ minor_cycle m (take (n + 1) disks) k
unfolding minor_cycle chunk
minor_more m k disks n d c len old now new below is aired long told grew =
    let f : Disk → List (Option ℕ) = λ d. chunk m d (k % num_chunks m d) in
    grew ∙ ap (λ l. l ++ map (slice_get d.items) (range_with_len (c * len) len)) told
    ∙ ap (λ x. (old ++ flat_map f (take n disks)) ++ map (slice_get d.items) (range_with_len (c * x) x)) long
    ∙ ap (λ x. (old ++ flat_map f (take n disks)) ++ map (slice_get d.items) (range_with_len (x * chunk_len m d) (chunk_len m d))) aired
    ∙ flat_map_more f old (take n disks) d ∙ ap (λ l. old ++ flat_map f l) (ap (λ x. take n disks ++ x ∷ []) is ∙ sym (take_more disks n d below))

range_more : (n : ℕ) → range_with_len 0 (n + 1) ≡ range_with_len 0 n ++ n ∷ []
range_more n =
    sym (map-id (range_with_len 0 (n + 1))) ∙ map-range_with_len_more (λ x. x) 0 n n (omega arith) ∙ ap (λ l. l ++ n ∷ []) (map-id (range_with_len 0 n))

pub slots_more : (m : ℕ) (disks : List Disk) (k : ℕ) (now new : List (Option ℕ)) → now ≡ flat_map (minor_cycle m disks) (range_with_len 0 k) → new ≡ now ++ minor_cycle m disks k
    → new ≡ flat_map (minor_cycle m disks) (range_with_len 0 (k + 1))
slots_more m disks k now new told grew =
    grew ∙ ap (λ l. l ++ minor_cycle m disks k) told ∙ flat_map_more (minor_cycle m disks) [] (range_with_len 0 k) k ∙ ap (flat_map (minor_cycle m disks)) (sym (range_more k))

pub slots_whole : (m : ℕ) (disks : List Disk) (now : List (Option ℕ)) → m ≡ num_minors disks → now ≡ flat_map (minor_cycle m disks) (range_with_len 0 m) → now ≡ program disks
unfolding program
slots_whole m disks now is told = told ∙ ap (λ n. flat_map (minor_cycle n disks) (range_with_len 0 n)) is
