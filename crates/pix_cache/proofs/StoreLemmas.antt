-- The columns of copy slots in a flat list: where each begins and ends, and one of them overwritten.
use Rattle.std.proofs.Common.{◌≡◌, ℕ, ◌+◌, ◌*◌, ◌-◌, ◌<◌, ◌≤◌, ◌++◌, List, length, get_or, take, drop, sym, ◌∙◌, ap, ◌⊎◌, inl, inr, arith, length-append, length-drop, length-set}
use Rattle.std.proofs.Math.ListN.{set}
use Rattle.std.proofs.lemmas.Bool.{cases_eq, cases_lt}
use Rattle.std.proofs.lemmas.List.{drop-take, get_or-set_other, get_or-set_same, length-take-le, same_lists}
use Rattle.std.proofs.lemmas.List.FromFn.{get_or-map-range_with_len, length-map-range_with_len}
use Rattle.std.proofs.lemmas.Slice.{take-put_mid_below, between-put_mid, drop-put_mid}
use borrow.Rule.Slice.PartMut.{put_mid}
use Rattle.pix_cache.specs.declared.store.CopySlot.{CopySlot}
use Rattle.pix_cache.specs.Stores.{StoredCopy, stored_copy}
use Rattle.pix_cache.specs.Private.StoreFields.{column_of, no_copy_slot, stored_in, stored_of}

-- The column of a copy slot ends before that of a later one begins.
pub column_before : (j m n : ℕ) → j < m → j * n + n ≤ m * n
column_before j m n l = grind arith

-- A column put in place of a copy slot's is that copy slot's column.
column_here : (m n k : ℕ) (entries column : List ℕ) → k ≡ n → m * n + n ≤ length entries → length column ≡ n → column_of n (put_mid (m * n) k entries column) m ≡ column
column_here m n k entries column kn ends sized =
    ap (λ l. take l (drop (m * n) (put_mid (m * n) k entries column))) (let e : n ≡ m * n + n - m * n = omega arith in e)
    ∙ between-put_mid (m * n) k entries column (m * n + n) (omega arith) (omega arith)

-- The columns of all other copy slots stay.
column_there : (m n k j : ℕ) (entries column : List ℕ) → k ≡ n → m * n + n ≤ length entries → length column ≡ n → (j < m) ⊎ (m < j) →
    column_of n (put_mid (m * n) k entries column) j ≡ column_of n entries j
column_there m n k j entries column kn ends sized (inl below) =
    sym (drop-take (j * n) n (put_mid (m * n) k entries column))
    ∙ ap (drop (j * n)) (take-put_mid_below (m * n) k entries column (j * n + n) (column_before j m n below) (omega arith))
    ∙ drop-take (j * n) n entries
column_there m n k j entries column kn ends sized (inr above) =
    ap (take n) (drop-put_mid (m * n) k entries column (j * n) (let e = column_before m j n above in omega arith) (omega arith) (omega arith))

-- Overwriting a part keeps the length of a list.
pub length_put : (a k : ℕ) (xs ys : List ℕ) → a + k ≤ length xs → length ys ≡ k → length (put_mid a k xs ys) ≡ length xs
length_put a k xs ys l e =
    let front = length-take-le a xs (let b : a ≤ length xs = omega arith in b) in
    omega (arith, length-append (take a xs) (ys ++ drop k (drop a xs)), length-append ys (drop k (drop a xs)), length-drop a xs, length-drop k (drop a xs))

-- There is a room for each slot.
pub stores_len : (n : ℕ) (copy_slots : List CopySlot) (entries : List ℕ) → length (stored_of n copy_slots entries) ≡ length copy_slots
stores_len n copy_slots entries = length-map-range_with_len (stored_in n copy_slots entries) 0 (length copy_slots)

-- What a copy slot holds is what is in its slot and its column.
pub store_at : (n : ℕ) (copy_slots : List CopySlot) (entries : List ℕ) (k : ℕ) (d : StoredCopy) → k < length copy_slots → get_or (stored_of n copy_slots entries) k d ≡ stored_in n copy_slots entries k
store_at n copy_slots entries k d l = get_or-map-range_with_len (stored_in n copy_slots entries) 0 (length copy_slots) k k d l (omega arith)

-- Overwriting a slot and a column changes what that copy slot holds, and nothing else.
pub store_put : (n : ℕ) (copy_slots : List CopySlot) (entries column : List ℕ) (m k : ℕ) (s : CopySlot) → k ≡ n → m < length copy_slots → length entries ≡ length copy_slots * n → length column ≡ n →
    stored_of n (set copy_slots m s) (put_mid (m * n) k entries column) ≡ set (stored_of n copy_slots entries) m (stored_copy s.cycle s.value column)
store_put n copy_slots entries column m k s kn lm square sized =
    same_lists _ _
    (stores_len n (set copy_slots m s) new ∙ length-set copy_slots m s ∙ sym (length-set (stored_of n copy_slots entries) m it ∙ stores_len n copy_slots entries))
    (λ j d l. (let short : j < length copy_slots = omega (arith, stores_len n (set copy_slots m s) new, length-set copy_slots m s) in
    store_at n (set copy_slots m s) new j d (omega (arith, length-set copy_slots m s)) ∙ by j d short (cases_eq j m)))
  where
    new : List ℕ
    new = put_mid (m * n) k entries column

    it : StoredCopy
    it = stored_copy s.cycle s.value column

    ends : m * n + n ≤ length entries
    ends = let e = column_before m (length copy_slots) n lm in omega arith

    apart : (j : ℕ) → (j ≡ m → ⊥) → (j < m) ⊎ (m < j)
    apart j other = side (cases_lt j m)
      where
        side : (j < m) ⊎ (m ≤ j) → (j < m) ⊎ (m < j)
        side (inl l) = inl l
        side (inr g) = inr (omega (arith, other))

    by : (j : ℕ) (d : StoredCopy) → j < length copy_slots → (j ≡ m) ⊎ (j ≡ m → ⊥) → stored_in n (set copy_slots m s) new j ≡ get_or (set (stored_of n copy_slots entries) m it) j d
    by j d l (inl same) =
        ap (stored_in n (set copy_slots m s) new) same
        ∙ ap (λ (t : CopySlot). stored_copy t.cycle t.value (column_of n new m)) (get_or-set_same copy_slots m s no_copy_slot lm)
        ∙ ap (stored_copy s.cycle s.value) (column_here m n k entries column kn ends sized)
        ∙ sym (ap (λ i. get_or (set (stored_of n copy_slots entries) m it) i d) same ∙ get_or-set_same (stored_of n copy_slots entries) m it d (omega (arith, stores_len n copy_slots entries)))
    by j d l (inr other) =
        ap (λ (t : CopySlot). stored_copy t.cycle t.value (column_of n new j)) (get_or-set_other copy_slots m j s no_copy_slot other)
        ∙ ap (stored_copy (get_or copy_slots j no_copy_slot).cycle (get_or copy_slots j no_copy_slot).value) (column_there m n k j entries column kn ends sized (apart j other))
        ∙ sym (get_or-set_other (stored_of n copy_slots entries) m j it d other ∙ store_at n copy_slots entries j d l)
