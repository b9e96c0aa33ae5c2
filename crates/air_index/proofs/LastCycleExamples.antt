-- The tape of an index of the last cycle that has four bytes, and that of an index of the cycle after it, which is no indexed tape.
use Rattle.std.proofs.Common.{◌≡◌, ◌-◌, ◌^◌, ℕ, Some, None, List, [], ◌∷◌, refl, arith}
use Rattle.std.proofs.lemmas.List.Elements.{All-cons, All-nil}
use Rattle.air_model.specs.Tapes.{ends_inside, read_from, record_bytes, tape_of}
use Rattle.air_index.specs.Indexes.{index_at, index_bytes, index_entries, is_index}
use Rattle.air_index.specs.Records.{IsIndexedTape, indexed_at, is_data, payload_at}
use Rattle.air_index.specs.declared.records.Indexed.{Indexed}
use Rattle.air_index.specs.declared.records.Indexed.TheVariants as is

-- The index of minor cycle 0 of a cycle: item 0 is one record on, and item 1 two.
abbrev index_of : ℕ → List ℕ
index_of c = index_bytes c 0 (1 ∷ 2 ∷ [])

last : indexed_at (index_of (2 ^ 32 - 1)) ≡ Some (is.Index (record { cycle = 2 ^ 32 - 1; minor = 0; entries = 1 ∷ 2 ∷ [] }))
unfolding index_bytes indexed_at is_index index_at index_entries
last = refl

-- The lowest four bytes of the next cycle are 0, and cycles count from 1.
after_last : indexed_at (index_of (2 ^ 32)) ≡ None
unfolding index_bytes indexed_at is_index index_at index_entries is_data payload_at
after_last = refl

tape_of_last : IsIndexedTape (tape_of (index_of (2 ^ 32 - 1) ∷ []))
unfolding index_bytes tape_of record_bytes read_from ends_inside
tape_of_last = record {
  whole = refl;
  records = All-cons (λ r. (x : Indexed) × (indexed_at r ≡ Some x)) (index_of (2 ^ 32 - 1)) [] (_, last) (All-nil (λ r. (x : Indexed) × (indexed_at r ≡ Some x)));
}

no_tape_after_last : IsIndexedTape (tape_of (index_of (2 ^ 32) ∷ [])) → ⊥
unfolding index_bytes tape_of record_bytes read_from ends_inside
no_tape_after_last h = let read = h.records 0 [] (omega arith) in none read.0 read.1
  where
    none : (x : Indexed) → indexed_at (index_of (2 ^ 32)) ≡ Some x → ⊥
    none x same = let no = after_last in cc
