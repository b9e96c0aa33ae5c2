-- Small histories: where each relation and each definition of a law holds, and where most of them don't.
use Rattle.std.proofs.Common.{◌≡◌, ℕ, zero, suc, ◌<◌, ◌≤◌, Bool, true, false, ◌==◌, ◌||◌, Some, IfSome, List, [], ◌∷◌, get_or, Contains, refl, subst, inl, inr, arith}
use Rattle.std.proofs.lemmas.Bool.{false≢true, eqb-true, or_cases}
use Rattle.std.proofs.lemmas.List.Elements.{All-nil, All-cons, All-from_recursion}
use Rattle.std.proofs.lemmas.List.Kept.{AllPairs-cons}
use Rattle.air_base.specs.declared.verdicts.Policy.TheVariants.{FMatrix, Datacycle, RMatrix}
use Rattle.air_history.specs.declared.histories.Event.{Event}
use Rattle.air_history.specs.declared.histories.Event.TheVariants.{Start}
use Rattle.air_history.specs.UpdateRules.{has_repeat, update_fault, KeepsRules, UpdateFits}
use Rattle.air_history.specs.UpdateLists.{UpdateLists}
use Rattle.air_history.specs.Places.{last_place, greatest, greatest_of}
use Rattle.air_history.specs.Histories.{is_start, reads, writes, cycle_at, front, writer_before, writer, EventFits, ItemsFit}
use Rattle.air_history.specs.Descents.{descends_in, descends}
use Rattle.air_history.specs.DescentLaws.{ReadsFrom, IsClosed}
use Rattle.air_history.specs.Columns.{Scheme, column_entry, vector_entry, entry_at, scheme_of}
use Rattle.air_history.specs.Tables.{BasesRead, WriteFits}
use Rattle.air_history.specs.Reads.{ReadAt, IsRead, origin, stale}
use Rattle.air_history.specs.Consistency.{descends_from, runs_alone, last_alone, consistent, IsConsistent}
use Rattle.air_history.specs.ConsistencyLaws.{SharesCycle}
use Rattle.air_history.specs.Clashes.{least, is_late, clash_by_history, IsCurrent, Takes}
use Rattle.air_history.specs.ClashLaws.{HasAiredEntries, IsAllowed, passes, Accepts, current_cycle, SharesItsCycle, IsSound}
use Rattle.air_history.proofs.HistoryExamples.{add_to, commit, chain_history}
use Rattle.air_history.proofs.ClashExamples.{at, apart, one_written}

-- Item 0 of cycle 1, then item 1 of cycle 2.
abbrev pub first_then_next : List ReadAt
first_then_next = at 0 1 ∷ at 1 2 ∷ []

-- An update that reads item 0 and writes its value plus 1 to item 2.
abbrev two_from_zero : UpdateLists
two_from_zero = record { reads = 0 ∷ []; writes = add_to 2 0 1 ∷ [] }

-- Places 1 and 2.
abbrev one_or_two : ℕ → Bool
one_or_two p = (p == 1) || (p == 2)

-- Place 2 alone.
abbrev two_alone : ℕ → Bool
two_alone p = p == 2

-- ---- updates

pub record Updates : Type 0 where
  -- the update breaks no rule
  kept : KeepsRules two_from_zero
  -- without the read its base isn't read
  broken : KeepsRules (record { reads = []; writes = add_to 2 0 1 ∷ [] }) → ⊥
  -- items 0 and 2 are below 3
  update_fits : UpdateFits 3 two_from_zero
  -- the written item 2 isn't below 2, nor is item 3 that another one reads below 3
  written_too_high : UpdateFits 2 two_from_zero → ⊥
  read_too_high : UpdateFits 3 (record { reads = 3 ∷ []; writes = add_to 2 0 1 ∷ [] }) → ⊥
  -- so are those of a commit of the update
  items_fit : ItemsFit 3 (commit 1 (0 ∷ []) (add_to 2 0 1))
  -- a start writes nothing
  start_fits : ItemsFit 0 Start
  -- item 2 isn't below 2
  not_fits : ItemsFit 2 (commit 1 (0 ∷ []) (add_to 2 0 1)) → ⊥
  -- the commit is of updater 0, and so fits if there is one updater
  event_fits : EventFits 1 3 (commit 1 (0 ∷ []) (add_to 2 0 1))
  -- it doesn't fit if there is no updater, nor over two items
  no_updater : EventFits 0 3 (commit 1 (0 ∷ []) (add_to 2 0 1)) → ⊥
  no_item : EventFits 1 2 (commit 1 (0 ∷ []) (add_to 2 0 1)) → ⊥
  -- the write's item 2 and its base 0 are below 3
  write_fits : WriteFits 3 (add_to 2 0 1)
  -- base 3 isn't below 3
  base_too_large : WriteFits 3 (add_to 2 3 1) → ⊥
  -- the base is item 0, which is among the reads
  base_read : BasesRead (commit 1 (0 ∷ []) (add_to 2 0 1))
  -- and here it isn't
  base_not_read : BasesRead (commit 1 (1 ∷ []) (add_to 2 0 1)) → ⊥

two_fits : UpdateFits 3 two_from_zero
two_fits = record {
  reads = All-cons (λ r. r < 3) 0 [] (omega arith) (All-nil (λ r. r < 3));
  writes = All-cons (λ w. w.item < 3) (add_to 2 0 1) [] (omega arith) (All-nil (λ w. w.item < 3));
}

pub updates : Updates
unfolding update_fault has_repeat EventFits ItemsFit BasesRead
updates = record {
  kept = refl;
  broken = λ e. cc;
  update_fits = two_fits;
  written_too_high = λ f. let low : 2 < 2 = f.writes 0 (add_to 2 0 1) (omega arith) in omega arith;
  read_too_high = λ f. let low : 3 < 3 = f.reads 0 0 (omega arith) in omega arith;
  items_fit = two_fits;
  start_fits = tt;
  not_fits = λ f. let low : 2 < 2 = f.writes 0 (add_to 2 0 1) (omega arith) in omega arith;
  event_fits = (omega arith, two_fits);
  no_updater = λ f. let low : 0 < 0 = f.0 in omega arith;
  no_item = λ f. let fits = f.1 in let low : 2 < 2 = fits.writes 0 (add_to 2 0 1) (omega arith) in omega arith;
  write_fits = (omega arith, omega arith);
  base_too_large = λ f. let low : 3 < 3 = f.1 in omega arith;
  base_read = All-from_recursion (λ w. IfSome w.base (Contains (0 ∷ []))) (add_to 2 0 1 ∷ []) ((0, omega arith, refl), tt);
  base_not_read = λ b.
      let others : List ℕ = 1 ∷ [] in
      let among = b 0 (add_to 2 0 1) (omega arith) in
      let first : among.0 ≡ 0 = omega (arith, among.1) in
      let same : suc zero ≡ zero = subst (λ k. get_or others k 0 ≡ 0) first among.2 in
      omega arith;
}

-- ---- descents

-- The commit at place 3 reads item 2, which the commit at place 2 wrote.
pub reads_from : ReadsFrom chain_history 3 2
unfolding reads writer_before last_place writes
reads_from = record { nth = 0; within = omega arith; wrote = refl }

-- The commit at place 1 reads nothing.
pub reads_nothing : ReadsFrom chain_history 1 0 → ⊥
unfolding reads
reads_nothing f = omega (arith, f.within)

-- The set of places 1 and 2 is closed: place 2 reads from place 1, which reads nothing.
pub closed : IsClosed chain_history one_or_two
unfolding reads writer_before last_place writes
closed zero w s f = absurd (false≢true s)
closed (suc zero) w s f = absurd (omega (arith, f.within))
closed (suc (suc zero)) w s f =
    let first : f.nth ≡ 0 = omega (arith, f.within) in
    let wrote : Some 1 ≡ Some w = subst (λ k. writer_before chain_history 2 (get_or (0 ∷ []) k 0) ≡ Some w) first f.wrote in
    let one : 1 ≡ w = cc in
    subst (λ w. one_or_two w ≡ true) one refl
closed (suc (suc (suc p))) w s f = elim (or_cases (suc (suc (suc p)) == 1) (suc (suc (suc p)) == 2) s) as (λ _. one_or_two w ≡ true) [
  | inl one ↦ (let same : suc (suc (suc p)) ≡ 1 = eqb-true _ _ one in absurd (omega arith))
  | inr two ↦ (let same : suc (suc (suc p)) ≡ 2 = eqb-true _ _ two in absurd (omega arith))
]

-- The set of place 2 alone isn't closed.
pub not_closed : IsClosed chain_history two_alone → ⊥
unfolding reads writer_before last_place writes
not_closed h = false≢true (h 2 1 refl (record { nth = 0; within = omega arith; wrote = refl }))

-- ---- reads

pub record Reads : Type 0 where
  -- cycle 1 can be read in
  read : IsRead (at 0 1)
  -- cycle 0 can't
  not_read : IsRead (at 0 0) → ⊥
  -- in cycle 1 both items have the origin that they were read with
  shares_one : SharesCycle one_written first_then_next 1
  -- in cycle 2 item 0 has another
  not_two : SharesCycle one_written first_then_next 2 → ⊥
  -- no single cycle has both, but they are consistent
  consistent_apart : IsConsistent apart first_then_next
  -- item 1 of cycle 2 descends from a write of item 0 that the first read hasn't seen
  not_consistent : IsConsistent chain_history first_then_next → ⊥
  -- the column of item 1 in cycle 2 has item 0 at cycle 1
  entry : entry_at chain_history 2 1 0 ≡ 1
  -- the greatest of cycles 1 and 2
  greatest_cycle : greatest_of (λ r. r.cycle) first_then_next ≡ 2

pub reads_shown : Reads
unfolding consistent column_entry greatest greatest_of cycle_at is_start last_alone runs_alone descends_from origin stale writer writer_before last_place writes descends descends_in reads front
reads_shown = record {
  read = omega arith;
  not_read = λ h. omega arith;
  shares_one = All-from_recursion (λ r. stale one_written r 1 ≡ false) first_then_next (refl, (refl, tt));
  not_two = λ h. let e : true ≡ false = h 0 (at 0 1) (omega arith) in cc;
  consistent_apart = refl;
  not_consistent = λ h. let e : false ≡ true = h in cc;
  entry = refl;
  greatest_cycle = refl;
}

-- ---- clashes

pub record Held : Type 0 where
  -- item 1 is never written, and item 0 was read after its write: neither is stale at the newest cycle
  current : IsCurrent one_written (at 1 1 ∷ at 0 2 ∷ [])
  -- item 0 was read before its write, so it is stale at the newest cycle
  not_current : IsCurrent one_written first_then_next → ⊥
  -- the held read isn't stale at the new cycle
  takes_fresh : Takes apart (at 0 2 ∷ []) (at 1 2)
  -- the held read is stale there, but item 1 has the origin that it had at the first held cycle
  takes_unchanged : Takes one_written (at 0 1 ∷ []) (at 1 2)
  -- the held read is stale there, and item 1 has another origin than at the first held cycle
  not_taken : Takes apart (at 0 1 ∷ []) (at 1 2) → ⊥
  -- the new read's cycle is below the last one's
  too_late : Takes one_written (at 0 2 ∷ []) (at 1 1) → ⊥

pub held : Held
unfolding is_late stale origin writer writer_before last_place writes front
held = record {
  current = All-from_recursion (λ r. stale one_written r 2 ≡ false) (at 1 1 ∷ at 0 2 ∷ []) (refl, (refl, tt));
  not_current = λ h. let e : true ≡ false = h 0 (at 0 1) (omega arith) in cc;
  takes_fresh = record { in_time = refl; fresh = inl (All-from_recursion (λ r. stale apart r 2 ≡ false) (at 0 2 ∷ []) (refl, tt)) };
  takes_unchanged = record { in_time = refl; fresh = inr refl };
  not_taken = λ t. elim t.fresh [
    | inl all ↦ (let e : true ≡ false = all 0 (at 0 1) (omega arith) in cc)
    | inr same ↦ (let e : false ≡ true = same in cc)
  ];
  too_late = λ t. let e : true ≡ false = t.in_time in cc;
}

-- ---- what is heard, and what a policy accepts

pub record Accepted : Type 0 where
  -- under F-Matrix the column of item 1 is heard with it
  heard_column : HasAiredEntries (scheme_of FMatrix) 2 apart (record { item = 1; cycle = 2; entries = 0 ∷ 1 ∷ [] })
  -- under R-Matrix the write vector is heard with it
  heard_vector : HasAiredEntries (scheme_of RMatrix) 2 apart (record { item = 1; cycle = 2; entries = 1 ∷ 1 ∷ [] })
  -- under F-Matrix cycles may fall
  any_order : IsAllowed FMatrix (at 0 2 ∷ at 1 1 ∷ [])
  -- under R-Matrix they may rise
  in_order : IsAllowed RMatrix first_then_next
  -- they may not fall
  not_in_order : IsAllowed RMatrix (at 0 2 ∷ at 1 1 ∷ []) → ⊥
  -- item 1 of cycle 2 passes after item 0 of cycle 1
  passes_next : passes (scheme_of RMatrix) 2 one_written (at 0 1 ∷ []) (at 1 2) ≡ true
  -- after item 0 of cycle 2, item 1 of cycle 1 is late and doesn't pass
  late_fails : passes (scheme_of RMatrix) 2 one_written (at 0 2 ∷ []) (at 1 1) ≡ false
  -- R-Matrix accepts both reads
  accepts_r : Accepts (scheme_of RMatrix) 2 one_written first_then_next
  -- F-Matrix accepts reads that share no cycle
  accepts_f : Accepts (scheme_of FMatrix) 2 apart first_then_next
  -- under Datacycle the second of them clashes with the first
  not_accepted : Accepts (scheme_of Datacycle) 2 apart first_then_next → ⊥
  -- the reads share the current cycle, which is 1
  shares_current : SharesItsCycle RMatrix one_written first_then_next
  -- these share the newest cycle, which is 2
  shares_newest : SharesItsCycle Datacycle one_written (at 1 1 ∷ at 0 2 ∷ [])
  -- these don't
  not_shared : SharesItsCycle Datacycle one_written first_then_next → ⊥
  -- under R-Matrix the accepted reads are consistent and share the current cycle
  sound_r : IsSound RMatrix one_written first_then_next
  -- under F-Matrix they are consistent
  sound_f : IsSound FMatrix apart first_then_next

-- If each of the two reads passes, they are accepted.
both_pass : (scheme : Scheme) (n : ℕ) (H : List Event) → passes scheme n H [] (at 0 1) ≡ true → passes scheme n H (at 0 1 ∷ []) (at 1 2) ≡ true → Accepts scheme n H first_then_next
both_pass scheme n H one two zero d l = one
both_pass scheme n H one two (suc zero) d l = two
both_pass scheme n H one two (suc (suc k)) d l = absurd (omega arith)

pub accepted : Accepted
unfolding passes current_cycle clash_by_history is_late least stale consistent last_alone runs_alone descends_from origin column_entry vector_entry greatest writer writer_before last_place writes descends descends_in reads front cycle_at is_start
accepted =
    let shared : SharesCycle one_written first_then_next 1 = All-from_recursion (λ r. stale one_written r 1 ≡ false) first_then_next (refl, (refl, tt)) in
    record {
      heard_column = record { cycle = omega arith; within = omega arith; entries = refl };
      heard_vector = record { cycle = omega arith; within = omega arith; entries = refl };
      any_order = tt;
      in_order = AllPairs-cons (λ r s. r.cycle ≤ s.cycle) (at 0 1) (at 1 2 ∷ []) (All-from_recursion (λ s. 1 ≤ s.cycle) (at 1 2 ∷ []) (omega arith, tt)) (λ i j d lt within. absurd (omega arith));
      not_in_order = λ h. let le = h 0 1 (at 0 0) (omega arith) (omega arith) in omega arith;
      passes_next = refl;
      late_fails = refl;
      accepts_r = both_pass (scheme_of RMatrix) 2 one_written refl refl;
      accepts_f = both_pass (scheme_of FMatrix) 2 apart refl refl;
      not_accepted = λ h. let e : false ≡ true = h 1 (at 0 0) (omega arith) in cc;
      shares_current = shared;
      shares_newest = All-from_recursion (λ r. stale one_written r 2 ≡ false) (at 1 1 ∷ at 0 2 ∷ []) (refl, (refl, tt));
      not_shared = λ h. let e : true ≡ false = h 0 (at 0 1) (omega arith) in cc;
      sound_r = record {
        consistent = refl;
        shared = shared;
      };
      sound_f = record {
        consistent = refl;
        shared = tt;
      };
    }
