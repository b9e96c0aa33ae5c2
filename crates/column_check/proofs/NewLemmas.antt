-- What a history airs in a cycle was written before it: each entry of a column is below the column's cycle, also as ages give it.
use Rattle.std.proofs.Common.{◌≡◌, ℕ, ◌≢◌, ◌<◌, ◌≤◌, Bool, true, false, nat_lt, List, All, refl, sym, subst}
use Rattle.air_history.specs.declared.histories.Event.{Event}
use Rattle.air_history.specs.Histories.{front}
use Rattle.air_history.specs.Columns.{column_entry, group_scheme}
use Rattle.air_history.proofs.AgeLemmas.{capped_below, full_is_capped}
use Rattle.air_history.proofs.ClashLemmas.{aired_column, aired_group}
use Rattle.air_history.proofs.GroupLemmas.{column_before, group_before}
use Rattle.air_history.specs.ClashLaws.{HasAiredEntries, HasCappedEntries, aired_entry}
use Rattle.air_history.specs.Clashes.{HeardRead}
use Rattle.air_history.specs.HeldReads.{HeldReads, IsNew}

pub entry_before : (H : List Event) (c j i : ℕ) → 1 ≤ c → column_entry (front H c) j i < c
entry_before H c j i pos = column_before H c j i pos

-- So is each entry that is aired by groups, or without them.
aired_before : (g n : ℕ) (H : List Event) (x : HeardRead) (i : ℕ) → 1 ≤ x.cycle → i < n → aired_entry (group_scheme g) n H x i < x.cycle
aired_before g n H x i pos l = by (nat_lt 0 g) refl
  where
    by : (b : Bool) → nat_lt 0 g ≡ b → aired_entry (group_scheme g) n H x i < x.cycle
    by true some = subst (λ entry. entry < x.cycle) (sym (aired_group g n H x i some l)) (group_before g n H x.cycle x.item i pos)
    by false none = subst (λ entry. entry < x.cycle) (sym (aired_column g n H x i none l)) (column_before H x.cycle x.item i pos)

pub capped_is_new : (g : ℕ) (held : HeldReads) (H : List Event) (x : HeardRead) →
    HasCappedEntries (group_scheme g) held.n H x → All (λ r. r.item ≢ x.item) held.reads → IsNew held x
capped_is_new g held H x heard free = record {
  within = heard.within;
  free = free;
  sized = heard.sized;
  below = capped_below (group_scheme g) held.n H x x.cycle heard (λ i l. aired_before g held.n H x i heard.cycle l);
}

pub aired_is_new : (g : ℕ) (held : HeldReads) (H : List Event) (x : HeardRead) →
    HasAiredEntries (group_scheme g) held.n H x → All (λ r. r.item ≢ x.item) held.reads → IsNew held x
aired_is_new g held H x heard free = capped_is_new g held H x (full_is_capped (group_scheme g) held.n H x heard) free
