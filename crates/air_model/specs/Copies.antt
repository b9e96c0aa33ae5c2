-- The copies that a receiver keeps: of the earlier ones and a new one, those with the greatest PIX numbers, as many as there is
-- room for. A copy's place in the order is the number of others that go before it, so nothing is sorted. The laws are the
-- contracts of `copies`.
use Rattle.std.specs.Prelude.{◌<◌, ℕ, Bool, not, ◌&&◌, ◌||◌, ◌==◌, nat_lt, List, ◌∷◌, ◌++◌, slice_index, filter, count_by, AllPairs}
use Rattle.air_model.specs.Reads.{Read}

-- The PIX number of a copy's item.
abbrev pub pix_of : List ℕ → Read → ℕ
pix_of pix r = slice_index pix r.item

-- Whether the copy b goes before a: it has a greater PIX number, or the same one and a smaller item number.
abbrev pub goes_before : List ℕ → Read → Read → Bool
goes_before pix b a = nat_lt (pix_of pix a) (pix_of pix b) || ((pix_of pix a == pix_of pix b) && nat_lt b.item a.item)

-- The copies that stay: those with fewer others before them than there is room for.
unfoldable pub keep : ℕ → List ℕ → List Read → List Read
keep room pix copies = filter (λ a. nat_lt (count_by (λ b. goes_before pix b a) copies) room) copies

-- The copies of all other items.
unfoldable pub without_item : ℕ → List Read → List Read
without_item item copies = filter (λ r. not (r.item == item)) copies

-- The copies with a new one in place of that of the same item, by rising item number.
unfoldable pub with_copy : Read → List Read → List Read
with_copy x copies = filter (λ r. nat_lt r.item x.item) copies ++ x ∷ filter (λ r. nat_lt x.item r.item) copies

-- Copies are by rising item number, so no two are of one item.
abbrev pub HaveOwnItems : List Read → Type 0
HaveOwnItems copies = AllPairs (λ a b. a.item < b.item) copies
