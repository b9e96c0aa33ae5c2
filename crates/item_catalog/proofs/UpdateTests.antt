-- No kind of fault applies to the updates of a deck that is well made and within the limits.
use Rattle.std.proofs.Common.{◌≡◌, ◌<◌, ◌≤◌, ◌+◌, ◌∷◌, [], ℕ, List, Option, Some, None, Bool, true, false, cond, not, refl, ap, ◌∙◌, length, map, get_or, nat_le, nat_lt, arith}
use Rattle.std.specs.Prelude.{◌==◌, ◌||◌, ◌&&◌, All, sum_by}
use Rattle.std.specs.List.{list_all, list_any}
use Rattle.std.proofs.lemmas.Bool.{and_parts}
use Rattle.std.proofs.lemmas.Bool.Decides.{nat_tests}
use Rattle.std.proofs.lemmas.List.Elements.{All-head, All-tail}
use Rattle.std.proofs.lemmas.List.Folds.{list_any_none}
use Rattle.std.proofs.lemmas.List.Sums.{sum_by-cons}
use Rattle.air_base.specs.declared.limits.TheConstants.{MOST_ITEMS, MOST_READS, MOST_UPDATERS, MOST_UPDATES, MOST_WRITES}
use Rattle.air_history.specs.declared.updates.Write.{Write}
use Rattle.air_history.specs.declared.updates.UpdateFault.TheVariants.{Limit, Repeated, BaseNotRead}
use Rattle.air_history.specs.UpdateLists.{UpdateLists}
use Rattle.air_history.specs.UpdateRules.{base_holds, base_is_read, has_repeat, update_fault, within_limits, written_item}
use Rattle.air_model.specs.Decks.{IsUpdate}
use Rattle.item_catalog.specs.ListTests.{is_unread, option_any, reaches, write_reaches}
use Rattle.item_catalog.specs.RecordKinds.{first_of}
use Rattle.item_catalog.specs.Private.Drafts.{DraftValue, with_declaration}
use Rattle.item_catalog.specs.Faults.{update_tests}
use Rattle.item_catalog.specs.Ranges.{outside}
use Rattle.item_catalog.specs.declared.faults.FaultKind.TheVariants as fault
use Rattle.item_catalog.proofs.KeptLemmas.{every}
use Rattle.item_catalog.specs.DeckTexts.{update_declarations, update_declaration}
use Rattle.item_catalog.proofs.DeclarationTexts.{BaseFits, Fits, WriteFits}
use Rattle.item_catalog.proofs.DraftSteps.{Passes, passes_both, with_all}
use Rattle.item_catalog.proofs.TestLemmas.{all_reached, neither, none_four, not_less, not_outside, not_reached}

-- What holds of an update by its rules.
record RulesKept (u : UpdateLists) : Type 0 where
  few_reads : length u.reads ≤ MOST_READS
  some_write : 1 ≤ length u.writes
  few_writes : length u.writes ≤ MOST_WRITES
  apart : (has_repeat u.reads || has_repeat (map written_item u.writes)) ≡ false
  bases : list_all (base_is_read u.reads) u.writes ≡ true

rules_kept : (u : UpdateLists) → update_fault u.reads u.writes ≡ None → RulesKept u
unfolding update_fault
rules_kept u none =
    let t = by (within_limits u.reads u.writes) (has_repeat u.reads || has_repeat (map written_item u.writes)) (list_all (base_is_read u.reads) u.writes) none in
    let reads = and_parts (nat_le (length u.reads) MOST_READS) (nat_le 1 (length u.writes) && nat_le (length u.writes) MOST_WRITES) t.0 in
    let writes = and_parts (nat_le 1 (length u.writes)) (nat_le (length u.writes) MOST_WRITES) reads.1 in
    record {
      few_reads = grind (arith, nat_tests, reads.0);
      some_write = grind (arith, nat_tests, writes.0);
      few_writes = grind (arith, nat_tests, writes.1);
      apart = t.1;
      bases = t.2;
    }
  where
    by : (a b c : Bool) → cond (not a) (Some Limit) (cond b (Some Repeated) (cond (not c) (Some BaseNotRead) None)) ≡ None → (a ≡ true) × (b ≡ false) × (c ≡ true)
    by false b c h = cc h
    by true true c h = cc h
    by true false false h = cc h
    by true false true h = (refl, refl, refl)

found_below : (n b : ℕ) (reads : List ℕ) → All (λ r. r < n) reads → list_any (λ r. r == b) reads ≡ true → b < n
found_below n b [] all found = cc found
found_below n b (r ∷ reads) all found = by (r == b) refl found (found_below n b reads (All-tail (λ r. r < n) r reads all))
  where
    by : (t : Bool) → (r == b) ≡ t → (t || list_any (λ r. r == b) reads) ≡ true → (list_any (λ r. r == b) reads ≡ true → b < n) → b < n
    by true e found more = let same : r ≡ b = grind (arith, nat_tests) in let here = All-head (λ r. r < n) r reads all in omega arith
    by false e found more = more found

record BaseKept (n : ℕ) (reads : List ℕ) (minus : Bool) (base : Option ℕ) : Type 0 where
  within : option_any (nat_le n) base ≡ false
  read : option_any (λ b. not (list_any (λ r. r == b) reads)) base ≡ false
  fits : BaseFits minus base

base_kept : (n : ℕ) (reads : List ℕ) (minus : Bool) (base : Option ℕ) → n ≤ MOST_ITEMS → All (λ r. r < n) reads → base_holds reads minus base ≡ true → BaseKept n reads minus base
base_kept n reads minus None few all holds = record { within = refl; read = refl; fits = by minus holds }
  where
    by : (b : Bool) → not b ≡ true → b ≡ false
    by true h = cc h
    by false h = refl
base_kept n reads minus (Some b) few all holds =
    let below = found_below n b reads all holds in
    record { within = not_reached n b below; read = ap not holds; fits = omega arith }

module _ (n : ℕ) (u : UpdateLists) (few : n ≤ MOST_ITEMS) (is : IsUpdate n u) where
  kept : RulesKept u
  kept = rules_kept u is.rules

  bases_kept : All (λ (w : Write). BaseKept n u.reads w.minus w.base) u.writes
  bases_kept k d below =
      let w : Write = get_or u.writes k d in
      base_kept n u.reads w.minus w.base few is.fits.reads (every (base_is_read u.reads) u.writes kept.bases k d below)

  update_fits : (by : ℕ) → by < MOST_UPDATERS → Fits (update_declaration by u)
  update_fits by low = (omega arith, (λ k d below. let r = is.fits.reads k d below in omega arith), fit)
    where
      fit : All WriteFits u.writes
      fit k d below = record { item = let i = is.fits.writes k d below in omega arith; base = (bases_kept k d below).fits; amount = is.amounts k d below }

  update_none : (by given : ℕ) → by < MOST_UPDATERS → given < MOST_UPDATES → first_of (update_tests n given by u.reads u.writes) ≡ None
  update_none by given low few_before =
      let reads = length u.reads in let writes = length u.writes in
      none_four fault.Undeclared fault.Twice fault.Limit fault.Unread
      (reaches n u.reads || list_any (write_reaches n) u.writes) (has_repeat u.reads || has_repeat (map written_item u.writes))
      (nat_le MOST_UPDATERS by || nat_lt MOST_READS reads || outside 1 MOST_WRITES writes || nat_le MOST_UPDATES given) (list_any (is_unread u.reads) u.writes)
      (neither (reaches n u.reads) (list_any (write_reaches n) u.writes) (all_reached n u.reads is.fits.reads) (list_any_none (write_reaches n) u.writes declared))
      kept.apart
      (neither (nat_le MOST_UPDATERS by || nat_lt MOST_READS reads || outside 1 MOST_WRITES writes) (nat_le MOST_UPDATES given)
      (neither (nat_le MOST_UPDATERS by || nat_lt MOST_READS reads) (outside 1 MOST_WRITES writes)
      (neither (nat_le MOST_UPDATERS by) (nat_lt MOST_READS reads) (not_reached MOST_UPDATERS by low) (not_less MOST_READS reads kept.few_reads))
      (not_outside 1 MOST_WRITES writes kept.some_write kept.few_writes))
      (not_reached MOST_UPDATES given few_before))
      (list_any_none (is_unread u.reads) u.writes (λ k d below. (bases_kept k d below).read))
    where
      declared : All (λ w. write_reaches n w ≡ false) u.writes
      declared k d below =
          let w : Write = get_or u.writes k d in
          neither (nat_le n w.item) (option_any (nat_le n) w.base) (not_reached n w.item (is.fits.writes k d below)) (bases_kept k d below).within

own_pass : (n by : ℕ) → n ≤ MOST_ITEMS → by < MOST_UPDATERS → (own : List UpdateLists) (d : DraftValue) → length d.items ≡ n → d.update_count + length own ≤ MOST_UPDATES → All (IsUpdate n) own
    → Passes d (map (update_declaration by) own)
own_pass n by few low [] d at room all = tt
own_pass n by few low (u ∷ own) d at room all =
    let is = All-head (IsUpdate n) u own all in (
      update_fits n u few is by low,
      ap (λ m. first_of (update_tests m d.update_count by u.reads u.writes)) at ∙ update_none n u few is by d.update_count low (omega arith),
      own_pass n by few low own (with_declaration d (update_declaration by u)) at (omega arith) (All-tail (IsUpdate n) u own all),
    )

-- Updates leave the items unchanged, and are counted.
own_counts : (by : ℕ) (own : List UpdateLists) (d : DraftValue)
    → (length (with_all d (map (update_declaration by) own)).items ≡ length d.items) × ((with_all d (map (update_declaration by) own)).update_count ≡ d.update_count + length own)
own_counts by [] d = (refl, omega arith)
own_counts by (u ∷ own) d = let more = own_counts by own (with_declaration d (update_declaration by u)) in (more.0, more.1 ∙ omega arith)

pub updates_pass : (n : ℕ) → n ≤ MOST_ITEMS → (lists : List (List UpdateLists)) (d : DraftValue) (from : ℕ) → length d.items ≡ n → from + length lists ≤ MOST_UPDATERS
    → d.update_count + sum_by length lists ≤ MOST_UPDATES → All (All (IsUpdate n)) lists → Passes d (update_declarations from lists)
updates_pass n few [] d from at low room all = tt
updates_pass n few (own ∷ lists) d from at low room all =
    let counts = own_counts from own d in
    let sum = sum_by-cons (λ (l : List UpdateLists). length l) own lists in
    passes_both d (map (update_declaration from) own) (update_declarations (from + 1) lists)
    (own_pass n from few (omega arith) own d at (omega arith) (All-head (All (IsUpdate n)) own lists all))
    (updates_pass n few lists (with_all d (map (update_declaration from) own)) (from + 1) (counts.0 ∙ at) (omega arith) (omega (arith, counts.1)) (All-tail (All (IsUpdate n)) own lists all))
