-- What stands at the places of an index record's bytes, said of their index.
use Rattle.std.proofs.Common.{◌≡◌, ◌≤◌, ◌<◌, ◌+◌, ◌*◌, nat_le, ℕ, true, List, length, get_or, refl, sym, ◌∙◌, ap, subst, arith}
use Rattle.std.proofs.lemmas.Bool.{leb-true}
use Rattle.air_model.specs.Buckets.{number_at}
use Rattle.air_model.proofs.EntryLemmas.{each_test}
use Rattle.air_index.specs.Indexes.{Index, index_at, index_entries, is_index}
use Rattle.air_index.proofs.IndexLemmas.{entry_is, length_entries, whole_from_test}

pub cycle_is : (bytes : List ℕ) → number_at 5 4 bytes ≡ (index_at bytes).cycle
unfolding index_at
cycle_is bytes = refl

pub minor_is : (bytes : List ℕ) → number_at 9 2 bytes ≡ (index_at bytes).minor
unfolding index_at
minor_is bytes = refl

pub entries_are : (bytes : List ℕ) → index_entries (number_at 11 2 bytes) bytes ≡ (index_at bytes).entries
unfolding index_at
entries_are bytes = refl

pub count_is : (bytes : List ℕ) → number_at 11 2 bytes ≡ length (index_at bytes).entries
count_is bytes = sym (length_entries (number_at 11 2 bytes) bytes) ∙ ap length (entries_are bytes)

pub view_long : (bytes : List ℕ) → is_index bytes ≡ true → 13 ≤ length bytes
view_long bytes t = (whole_from_test bytes t).long

-- What a reader of an entry knows of the index that the view has.
module _ (bytes : List ℕ) (t : is_index bytes ≡ true) (now : Index) (is : index_at bytes ≡ now) (i : ℕ) (under : i < length now.entries) where
  within : i < number_at 11 2 bytes
  within = let many = count_is bytes ∙ ap (λ (x : Index). length x.entries) is in omega arith

  pub entry_room : 13 + 4 * i + 4 ≤ length bytes
  entry_room = let exact = (whole_from_test bytes t).exact in let below = within in omega arith

  pub view_entry : number_at (13 + 4 * i) 4 bytes ≡ get_or now.entries i 0
  view_entry = sym (entry_is (number_at 11 2 bytes) i bytes within) ∙ ap (λ l. get_or l i 0) (entries_are bytes ∙ ap (λ (x : Index). x.entries) is)

  pub view_ahead : 1 ≤ number_at (13 + 4 * i) 4 bytes
  view_ahead =
      let n = number_at 11 2 bytes in
      let tested = each_test (nat_le 1) (index_entries n bytes) (whole_from_test bytes t).ahead i 0 (let many = length_entries n bytes in let below = within in omega arith) in
      subst (λ x. 1 ≤ x) (entry_is n i bytes within) (leb-true 1 (get_or (index_entries n bytes) i 0) tested)
