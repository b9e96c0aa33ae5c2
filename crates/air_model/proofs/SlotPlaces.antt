-- Where an item is in the program: its slots are those of one remainder. `minor_at` says it for a minor cycle, by induction on
-- the disks; `comes_at` for the whole cycle.
use Rattle.std.proofs.Common.{◌≡◌, ◌≤◌, ◌<◌, ◌↔◌, ◌⊎◌, inl, inr, ◌+◌, ◌-◌, ◌*◌, ◌/◌, ◌%◌, ◌++◌, ℕ, zero, suc, zero-add, Option, Some, None, List, [], ◌∷◌, length, get_or, take, slice_get, refl, sym, subst, ap, ◌∙◌, arith, length-append}
use Rattle.std.specs.List.{flat_map, range_with_len}
use Rattle.std.proofs.lemmas.Bool.{cases_lt}
use Rattle.std.proofs.lemmas.List.{get_or_append_left, get_or-append_right}
use Rattle.std.proofs.lemmas.List.FromFn.{get_or-map-range_with_len, length-map-range_with_len}
use Rattle.std.proofs.lemmas.List.Sums.{sum_by-cons}
use Rattle.std.proofs.lemmas.Option.{slice_get_within, same_Some}
use Rattle.std.proofs.lemmas.Nat.{div_below, div-mul-add, mod-mul-add, mod_below, same_from_place, mul-add-lt}
use Rattle.std.proofs.Math.Nat.{div-add-mod'}
use Rattle.std.proofs.Math.Arith.{mod-mul}
use Rattle.air_model.specs.Disks.{Disk, all_items}
use Rattle.air_model.specs.Programs.{chunk, chunk_len, minor_cycle, minor_len, num_chunks}
use Rattle.air_model.proofs.Elements.{Distinct, Distinct-apart, Distinct-left, Distinct-right, get_left, get_right}
use Rattle.air_model.proofs.Periods.{ComesAt}

-- The slots of m minor cycles.
unfoldable pub slots_of : ℕ → List Disk → List (Option ℕ)
slots_of m disks = flat_map (minor_cycle m disks) (range_with_len 0 m)

-- The slots from one airing of a disk's item to the next.
unfoldable pub disk_gap : ℕ → List Disk → Disk → ℕ
disk_gap m disks d = num_chunks m d * minor_len m disks

-- The first slot of item q of disk n.
unfoldable pub place_slot : ℕ → List Disk → ℕ → Disk → ℕ → ℕ
place_slot m disks n d q = q / chunk_len m d * minor_len m disks + (minor_len m (take n disks) + q % chunk_len m d)

-- ---- a list of parts of one length
pub length_even : {X : Type 0} (f : ℕ → List X) (l a n : ℕ) → ((k : ℕ) → length (f k) ≡ l) → length (flat_map f (range_with_len a n)) ≡ n * l
length_even f l a zero even = omega arith
length_even f l a (suc n) even = omega (arith, length-append (f a) (flat_map f (range_with_len (a + 1) n)), even a, length_even f l (a + 1) n even)

pub get_or_even : {X : Type 0} (f : ℕ → List X) (l a n m r : ℕ) (d : X) → ((k : ℕ) → length (f k) ≡ l) → m < n → r < l
    → get_or (flat_map f (range_with_len a n)) (m * l + r) d ≡ get_or (f (a + m)) r d
get_or_even f l a zero m r d even below under = absurd (omega arith)
get_or_even f l a (suc n) zero r d even below under =
    let e : 0 * l + r ≡ r = omega arith in let z : a + 0 ≡ a = omega arith in
    rw (e, z) (get_or_append_left (f a) (flat_map f (range_with_len (a + 1) n)) d r (let s = even a in omega arith))
get_or_even f l a (suc n) (suc m) r d even below under =
    let part = even a in
    let back : suc m * l + r - l ≡ m * l + r = omega arith in
    let next : a + 1 + m ≡ a + suc m = omega arith in
    get_or-append_right (f a) (flat_map f (range_with_len (a + 1) n)) l (suc m * l + r) d part (omega arith)
    ∙ ap (λ k. get_or (flat_map f (range_with_len (a + 1) n)) k d) back ∙ get_or_even f l (a + 1) n m r d even (omega arith) under ∙ ap (λ k. get_or (f k) r d) next

-- ---- chunks and minor cycles
pub length_chunk : (m : ℕ) (d : Disk) (c : ℕ) → length (chunk m d c) ≡ chunk_len m d
unfolding chunk
length_chunk m d c = length-map-range_with_len (slice_get d.items) (c * chunk_len m d) (chunk_len m d)

pub length_minor : (m : ℕ) (disks : List Disk) (k : ℕ) → length (minor_cycle m disks k) ≡ minor_len m disks
unfolding minor_cycle minor_len
length_minor m [] k = refl
length_minor m (d ∷ ds) k =
    omega (arith, length-append (chunk m d (k % num_chunks m d)) (flat_map (λ d. chunk m d (k % num_chunks m d)) ds), length_chunk m d (k % num_chunks m d), length_minor m ds k, sum_by-cons (chunk_len m) d ds)

chunk_at : (m : ℕ) (d : Disk) (c r : ℕ) → r < chunk_len m d → get_or (chunk m d c) r None ≡ slice_get d.items (c * chunk_len m d + r)
unfolding chunk
chunk_at m d c r under = get_or-map-range_with_len (slice_get d.items) (c * chunk_len m d) (chunk_len m d) r _ None under refl

minor_first : (m : ℕ) (d : Disk) (ds : List Disk) (k r : ℕ) → r < chunk_len m d
    → get_or (minor_cycle m (d ∷ ds) k) r None ≡ slice_get d.items (k % num_chunks m d * chunk_len m d + r)
unfolding minor_cycle
minor_first m d ds k r under =
    get_or_append_left (chunk m d (k % num_chunks m d)) (flat_map (λ d. chunk m d (k % num_chunks m d)) ds) None r (let e = length_chunk m d (k % num_chunks m d) in omega arith)
    ∙ chunk_at m d (k % num_chunks m d) r under

minor_rest : (m : ℕ) (d : Disk) (ds : List Disk) (k r : ℕ) → chunk_len m d ≤ r
    → get_or (minor_cycle m (d ∷ ds) k) r None ≡ get_or (minor_cycle m ds k) (r - chunk_len m d) None
unfolding minor_cycle
minor_rest m d ds k r over =
    get_or-append_right (chunk m d (k % num_chunks m d)) (flat_map (λ d. chunk m d (k % num_chunks m d)) ds) (chunk_len m d) r None (length_chunk m d (k % num_chunks m d)) over

-- What a minor cycle airs is one of the items.
minor_item : (m : ℕ) (disks : List Disk) (k r i : ℕ) → get_or (minor_cycle m disks k) r None ≡ Some i → (t : ℕ) × (slice_get (all_items disks) t ≡ Some i)
unfolding all_items minor_cycle
minor_item m [] k r i e = cc e
minor_item m (d ∷ ds) k r i e = by (cases_lt r (chunk_len m d)) (λ over. minor_item m ds k (r - chunk_len m d) i (sym (minor_rest m d ds k r over) ∙ e))
  where
    by : ((r < chunk_len m d) ⊎ (chunk_len m d ≤ r)) → (chunk_len m d ≤ r → (t : ℕ) × (slice_get (all_items ds) t ≡ Some i))
        → (t : ℕ) × (slice_get (d.items ++ all_items ds) t ≡ Some i)
    by (inl under) later =
        let at = k % num_chunks m d * chunk_len m d + r in
        (at, get_left d.items (all_items ds) at i (sym (minor_first m d ds k r under) ∙ e))
    by (inr over) later =
        let more = later over in
        (length d.items + more.0, get_right d.items (all_items ds) more.0 ∙ more.1)

pub item_of_disk : (disks : List Disk) (n : ℕ) (d : Disk) (q i : ℕ) → slice_get disks n ≡ Some d → slice_get d.items q ≡ Some i → (t : ℕ) × (slice_get (all_items disks) t ≡ Some i)
unfolding all_items
item_of_disk [] n d q i a b = cc a
item_of_disk (e ∷ ds) zero d q i a b = let same = same_Some e d a in (q, get_left e.items (all_items ds) q i (ap (λ d. slice_get d.items q) same ∙ b))
item_of_disk (e ∷ ds) (suc n) d q i a b =
    let more = item_of_disk ds n d q i a b in (length e.items + more.0, get_right e.items (all_items ds) more.0 ∙ more.1)

-- An item is on only one disk.
pub same_disk : (disks : List Disk) (k n : ℕ) (e d : Disk) (p q i : ℕ) → Distinct (all_items disks)
    → slice_get disks k ≡ Some e → slice_get disks n ≡ Some d → slice_get e.items p ≡ Some i → slice_get d.items q ≡ Some i → k ≡ n
unfolding all_items
same_disk [] k n e d p q i apart a b at to = cc a
same_disk (c ∷ ds) zero zero e d p q i apart a b at to = refl
same_disk (c ∷ ds) zero (suc n) e d p q i apart a b at to =
    let other = item_of_disk ds n d q i b to in
    absurd (Distinct-apart c.items (all_items ds) p other.0 i apart (ap (λ (x : Disk). slice_get x.items p) (same_Some c e a) ∙ at) other.1)
same_disk (c ∷ ds) (suc k) zero e d p q i apart a b at to =
    let other = item_of_disk ds k e p i a at in
    absurd (Distinct-apart c.items (all_items ds) q other.0 i apart (ap (λ (x : Disk). slice_get x.items q) (same_Some c d b) ∙ to) other.1)
same_disk (c ∷ ds) (suc k) (suc n) e d p q i apart a b at to =
    ap suc (same_disk ds k n e d p q i (Distinct-right c.items (all_items ds) apart) a b at to)

-- The chunk length is the ceiling: the chunks hold the disk.
chunks_hold : (m : ℕ) (d : Disk) → 0 < num_chunks m d → length d.items ≤ num_chunks m d * chunk_len m d
unfolding chunk_len
chunks_hold m d some =
    let n = num_chunks m d in let s = length d.items + n - 1 in
    let split = div-add-mod' s n in let rest = mod_below s n some in
    let turned : s / n * n ≡ n * (s / n) = omega arith in omega arith

-- Item q of a disk: its chunk and its place in the chunk.
abbrev pub At : ℕ → List Disk → ℕ → Disk → ℕ → ℕ → ℕ → Type 0
At m disks n d q k r = (k % num_chunks m d ≡ q / chunk_len m d) × (r ≡ minor_len m (take n disks) + q % chunk_len m d)

above_zero : (a b n : ℕ) → n < a * b → 0 < b
above_zero a zero n h = absurd (omega arith)
above_zero a (suc b) n h = omega arith

-- A chunk of a disk with an item isn't empty.
pub chunk_some : (m : ℕ) (d : Disk) (q i : ℕ) → slice_get d.items q ≡ Some i → 0 < num_chunks m d → 0 < chunk_len m d
chunk_some m d q i item some = above_zero (num_chunks m d) (chunk_len m d) q (let hold = chunks_hold m d some in let under = slice_get_within d.items q i item in omega arith)

minor_len_cons : (m : ℕ) (d : Disk) (ds : List Disk) → minor_len m (d ∷ ds) ≡ chunk_len m d + minor_len m ds
unfolding minor_len
minor_len_cons m d ds = sum_by-cons (chunk_len m) d ds

minor_len_nil : (m : ℕ) → minor_len m [] ≡ 0
unfolding minor_len
minor_len_nil m = refl

-- The first disk's item.
minor_here : (m q i : ℕ) (d : Disk) (ds : List Disk) (k r : ℕ) → Distinct (d.items ++ all_items ds) → slice_get d.items q ≡ Some i → 0 < num_chunks m d
    → (get_or (minor_cycle m (d ∷ ds) k) r None ≡ Some i) ↔ At m (d ∷ ds) 0 d q k r
minor_here m q i d ds k r apart item some = ((λ e. there e (cases_lt r len)), (λ a. back a.0 a.1))
  where
    len : ℕ
    len = chunk_len m d

    c : ℕ
    c = k % num_chunks m d

    there : get_or (minor_cycle m (d ∷ ds) k) r None ≡ Some i → ((r < len) ⊎ (len ≤ r)) → At m (d ∷ ds) 0 d q k r
    there e (inl under) =
        let place = Distinct-left d.items (all_items ds) apart (c * len + r) q i (sym (minor_first m d ds k r under) ∙ e) item in
        let chunk = sym (ap (λ n. n / len) (sym place) ∙ div-mul-add c len r under) in
        let rest = ap (λ n. n % len) (sym place) ∙ mod-mul-add c len r under in
        let none = minor_len_nil m in
        (chunk, omega arith)
    there e (inr over) =
        let other = minor_item m ds k (r - len) i (sym (minor_rest m d ds k r over) ∙ e) in
        absurd (Distinct-apart d.items (all_items ds) q other.0 i apart item other.1)

    back : c ≡ q / len → r ≡ minor_len m [] + q % len → get_or (minor_cycle m (d ∷ ds) k) r None ≡ Some i
    back chunk place =
        let full = chunk_some m d q i item some in let none = minor_len_nil m in
        let rest : r ≡ q % len = omega arith in
        let under : r < len = let b = mod_below q len full in omega arith in
        let whole : c * len + r ≡ q = rw (chunk, rest) (div-add-mod' q len) in
        minor_first m d ds k r under ∙ ap (slice_get d.items) whole ∙ item

-- Item q of disk n is in the minor cycles that air its chunk, at one place.
pub minor_at : (m q i : ℕ) (disks : List Disk) (n : ℕ) (d : Disk) (k r : ℕ) → Distinct (all_items disks) → slice_get disks n ≡ Some d → slice_get d.items q ≡ Some i
    → 0 < num_chunks m d → (get_or (minor_cycle m disks k) r None ≡ Some i) ↔ At m disks n d q k r
unfolding all_items
minor_at m q i [] n d k r apart at item some = cc at
minor_at m q i (e ∷ ds) zero d k r apart at item some =
    let same = same_Some e d at in
    subst (λ x. (get_or (minor_cycle m (x ∷ ds) k) r None ≡ Some i) ↔ At m (x ∷ ds) 0 d q k r) (sym same)
    (minor_here m q i d ds k r (subst (λ x. Distinct (x.items ++ all_items ds)) same apart) item some)
minor_at m q i (e ∷ ds) (suc n) d k r apart at item some =
    let len = chunk_len m e in
    let later = minor_at m q i ds n d k (r - len) (Distinct-right e.items (all_items ds) apart) at item some in
    let held = item_of_disk ds n d q i at item in
    by later held (cases_lt r len)
  where
    by : (get_or (minor_cycle m ds k) (r - chunk_len m e) None ≡ Some i) ↔ At m ds n d q k (r - chunk_len m e) → (t : ℕ) × (slice_get (all_items ds) t ≡ Some i)
        → ((r < chunk_len m e) ⊎ (chunk_len m e ≤ r)) → (get_or (minor_cycle m (e ∷ ds) k) r None ≡ Some i) ↔ At m (e ∷ ds) (suc n) d q k r
    by later held (inl under) =
        let front = minor_len_cons m e (take n ds) in (
          (λ g. absurd (Distinct-apart e.items (all_items ds) (k % num_chunks m e * chunk_len m e + r) held.0 i apart (sym (minor_first m e ds k r under) ∙ g) held.1)),
          (λ a. let b = a.1 in absurd (omega arith)),
        )
    by later held (inr over) =
        let front = minor_len_cons m e (take n ds) in (
          (λ g. let a = later.0 (sym (minor_rest m e ds k r over) ∙ g) in let b = a.1 in (a.0, omega arith)),
          (λ a. let b = a.1 in minor_rest m e ds k r over ∙ later.1 (a.0, omega arith)),
        )

-- A disk's part ends within the minor cycle.
part_within : (m : ℕ) (disks : List Disk) (n : ℕ) (d : Disk) → slice_get disks n ≡ Some d → minor_len m (take n disks) + chunk_len m d ≤ minor_len m disks
part_within m [] n d at = cc at
part_within m (e ∷ ds) zero d at =
    let same = ap (chunk_len m) (same_Some e d at) in let none = minor_len_nil m in let all = minor_len_cons m e ds in omega arith
part_within m (e ∷ ds) (suc n) d at =
    let more = part_within m ds n d at in let front = minor_len_cons m e (take n ds) in let all = minor_len_cons m e ds in omega arith

pub length_slots : (m : ℕ) (disks : List Disk) → length (slots_of m disks) ≡ m * minor_len m disks
unfolding slots_of
length_slots m disks = length_even (minor_cycle m disks) (minor_len m disks) 0 m (length_minor m disks)

slot_is : (m : ℕ) (disks : List Disk) (s : ℕ) → s < m * minor_len m disks
    → get_or (slots_of m disks) s None ≡ get_or (minor_cycle m disks (s / minor_len m disks)) (s % minor_len m disks) None
unfolding slots_of
slot_is m disks s below =
    let l = minor_len m disks in
    let some : 0 < l = above_zero m l s below in
    let row : s / l < m = div_below s l m some below in
    ap (λ n. get_or (slots_of m disks) n None) (sym (div-add-mod' s l))
    ∙ get_or_even (minor_cycle m disks) l 0 m (s / l) (s % l) None (length_minor m disks) row (mod_below s l some)
    ∙ ap (λ k. get_or (minor_cycle m disks k) (s % l) None) (zero-add (s / l))

-- The slots of item q of disk n are those of one remainder.
module _ (m q i : ℕ) (disks : List Disk) (n : ℕ) (d : Disk) (apart : Distinct (all_items disks)) (at : slice_get disks n ≡ Some d) (item : slice_get d.items q ≡ Some i)
    (some : 0 < num_chunks m d) where
  place_below : minor_len m (take n disks) + q % chunk_len m d < minor_len m disks
  place_below = let a = part_within m disks n d at in let b = mod_below q (chunk_len m d) (chunk_some m d q i item some) in omega arith

  pub comes_at : ComesAt (slots_of m disks) i (disk_gap m disks d) (place_slot m disks n d q)
  unfolding disk_gap place_slot
  comes_at s under =
      let l = minor_len m disks in let place = place_below in
      let long = length_slots m disks in
      let full : 0 < l = omega arith in
      let split = mod-mul s {m = num_chunks m d} {c = l} some full in
      let slot = slot_is m disks s (omega arith) in
      let both = minor_at m q i disks n d (s / l) (s % l) apart at item some in (
        (λ h. let a = both.0 (sym slot ∙ h) in split ∙ (rw (a.0, a.1) refl)),
        (λ e. slot ∙ both.1 (same_from_place (s / l % num_chunks m d) (s % l) (q / chunk_len m d) (minor_len m (take n disks) + q % chunk_len m d) l (mod_below s l full) place (sym split ∙ e))),
      )

  pub first_below : place_slot m disks n d q < disk_gap m disks d
  unfolding disk_gap place_slot
  first_below =
      let hold = chunks_hold m d some in let under = slice_get_within d.items q i item in
      let row : q / chunk_len m d < num_chunks m d = div_below q (chunk_len m d) (num_chunks m d) (chunk_some m d q i item some) (omega arith) in
      let place = place_below in
      let t = mul-add-lt (q / chunk_len m d) (minor_len m disks) (minor_len m (take n disks) + q % chunk_len m d) (num_chunks m d) row place in
      let turned : minor_len m disks * num_chunks m d ≡ num_chunks m d * minor_len m disks = omega arith in omega arith
