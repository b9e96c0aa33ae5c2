-- What a history airs in a cycle was written before it: each entry of a vector is below the vector's cycle, also as ages give it.
use Rattle.std.proofs.Common.{◌≡◌, ◌≢◌, ℕ, ◌<◌, ◌≤◌, List, get_or, All, Option, Some, None, refl, sym, ◌∙◌, subst}
use Rattle.std.specs.Option.{option_map_or}
use Rattle.air_history.specs.declared.histories.Event.{Event}
use Rattle.air_history.specs.Histories.{cycle_at, front, writer}
use Rattle.air_history.specs.Columns.{Scheme, vector_entry, vector}
use Rattle.air_history.specs.Clashes.{HeardRead}
use Rattle.air_history.specs.ClashLaws.{HasCappedEntries, aired_entry}
use Rattle.air_history.specs.HeldReads.{HeldReads, IsNew}
use Rattle.air_history.proofs.HistoryLemmas.{front_cycle, front_cycle_same}
use Rattle.air_history.proofs.StaleLemmas.{writer_is}
use Rattle.air_history.proofs.AgeLemmas.{capped_below}
use Rattle.air_history.proofs.ClashLemmas.{vector_at}

cycle_before : (H : List Event) (c i : ℕ) → 1 ≤ c → (o : Option ℕ) → writer (front H c) i ≡ o → option_map_or (cycle_at (front H c)) o 0 < c
cycle_before H c i pos None e = pos
cycle_before H c i pos (Some w) e =
    let within = (writer_is H c i (Some w) e).0 in
    subst (λ k. k < c) (sym (front_cycle_same H c w within)) (front_cycle H c w within)

entry_before : (H : List Event) (c i : ℕ) → 1 ≤ c → vector_entry (front H c) i < c
unfolding vector_entry
entry_before H c i pos = cycle_before H c i pos (writer (front H c) i) refl

-- The same under a scheme that airs the write vector.
pub vector_is_new : (scheme : Scheme) (held : HeldReads) (H : List Event) (x : HeardRead) → ((i : ℕ) → aired_entry scheme held.n H x i ≡ get_or (vector held.n (front H x.cycle)) i 0) →
    HasCappedEntries scheme held.n H x → All (λ r. r.item ≢ x.item) held.reads → IsNew held x
vector_is_new scheme held H x airs heard free = record {
  within = heard.within;
  free = free;
  sized = heard.sized;
  below = capped_below scheme held.n H x x.cycle heard
      (λ i l. subst (λ entry. entry < x.cycle) (sym (airs i ∙ vector_at held.n H x.cycle i l)) (entry_before H x.cycle i heard.cycle));
}
