-- Replans while they are read: those to which no kind applies, and the lists of which the first parts are kept.
use Rattle.std.proofs.Common.{◌≡◌, ◌<◌, ◌≤◌, ◌+◌, ◌++◌, ◌∷◌, [], ℕ, zero, suc, List, Option, Some, None, Ok, Bool, true, false, not, cond, refl, sym, ap, ◌∙◌, add-one, get_or, length, min, nat_le, nat_lt, take, arith}
use Rattle.std.specs.Prelude.{◌==◌, ◌||◌}
use Rattle.std.specs.List.{list_any}
use Rattle.std.proofs.lemmas.Bool.Decides.{nat_tests}
use Rattle.std.proofs.lemmas.List.{length-take, take_all}
use Rattle.std.proofs.lemmas.List.Folds.{list_any-append}
use Rattle.air_base.specs.Numbers.{number_of}
use Rattle.air_base.specs.NumberLists.{list_of}
use Rattle.air_base.specs.declared.limits.TheConstants.{MOST_CYCLES, MOST_DISKS, MOST_FREQ, MOST_REPLANS, MOST_SIZE}
use Rattle.item_catalog.specs.Declarations.{replan_by}
use Rattle.item_catalog.specs.Declarations as e
use Rattle.item_catalog.specs.Faults.{replan_tests}
use Rattle.item_catalog.specs.Fields.{freq_of}
use Rattle.item_catalog.specs.ListTests.{option_any}
use Rattle.item_catalog.specs.Parts.{disks_said}
use Rattle.item_catalog.specs.Private.ListKinds.{seen_replan_kind}
use Rattle.item_catalog.specs.Private.ReplanLists.{PartsRead, keep_part, kept_parts}
use Rattle.item_catalog.specs.Ranges.{outside}
use Rattle.item_catalog.specs.RecordKinds.{first_of}
use Rattle.item_catalog.specs.declared.faults.FaultKind.TheVariants as fault
use Rattle.item_catalog.proofs.DeclarationLemmas.{none_of_two, or_none}
use Rattle.item_catalog.proofs.RepeatLemmas.{or_false}

-- What holds of a replan to which no kind applies.
pub record ReplanTested (replans last cycle : ℕ) (ss : List ℕ) (fs : List (Option ℕ)) : Type 0 where
  pub few : replans < MOST_REPLANS
  pub from_two : 2 ≤ cycle
  pub within_a_run : cycle ≤ MOST_CYCLES
  pub later : last < cycle
  pub some_disk : 1 ≤ length ss
  pub few_disks : length ss ≤ MOST_DISKS
  pub sizes : list_any (outside 1 MOST_SIZE) ss ≡ false
  pub freqs : list_any (option_any (outside 1 MOST_FREQ)) fs ≡ false
  pub lengths : length ss ≡ length fs

pub replan_tested : (replans last cycle : ℕ) (sizes : List ℕ) (freqs : List (Option ℕ)) → first_of (replan_tests replans last cycle sizes freqs) ≡ None → ReplanTested replans last cycle sizes freqs
replan_tested replans last cycle sizes freqs none =
    let many = nat_le MOST_REPLANS replans in let outer = nat_lt cycle 2 || nat_lt MOST_CYCLES cycle in let early = nat_le cycle last in
    let disks = nat_lt (length sizes) 1 || nat_lt MOST_DISKS (length sizes) in
    let wrong_size = list_any (outside 1 MOST_SIZE) sizes in let wrong_freq = list_any (option_any (outside 1 MOST_FREQ)) freqs in
    let t = none_of_two fault.Limit fault.Lengths (many || outer || early || disks || wrong_size || wrong_freq) (not (length sizes == length freqs)) none in
    let a = or_none (many || outer || early || disks || wrong_size) wrong_freq t.0 in
    let b = or_none (many || outer || early || disks) wrong_size a.0 in
    let c = or_none (many || outer || early) disks b.0 in
    let d = or_none (many || outer) early c.0 in
    let f = or_none many outer d.0 in
    let range = or_none (nat_lt cycle 2) (nat_lt MOST_CYCLES cycle) f.1 in
    let count = or_none (nat_lt (length sizes) 1) (nat_lt MOST_DISKS (length sizes)) c.1 in
    record {
      few = grind (arith, nat_tests, f.0);
      from_two = grind (arith, nat_tests, range.0);
      within_a_run = grind (arith, nat_tests, range.1);
      later = grind (arith, nat_tests, d.1);
      some_disk = grind (arith, nat_tests, count.0);
      few_disks = grind (arith, nat_tests, count.1);
      sizes = b.1;
      freqs = a.1;
      lengths = grind (arith, nat_tests, t.1);
    }

-- As many disks as sizes.
pub said_len : (sizes : List ℕ) (freqs : List (Option ℕ)) → length sizes ≡ length freqs → length (disks_said sizes freqs) ≡ length sizes
said_len [] freqs same = refl
said_len (size ∷ sizes) [] same = absurd (omega arith)
said_len (size ∷ sizes) (freq ∷ freqs) same = let more = said_len sizes freqs (omega arith) in omega arith

-- One more disk.
said_front : (k : ℕ) (sizes : List ℕ) (freqs : List (Option ℕ)) (s : ℕ) (f : Option ℕ) → k < length sizes → k < length freqs
    → disks_said (take (suc k) sizes) (take (suc k) freqs) ≡ disks_said (take k sizes) (take k freqs) ++ record { size = get_or sizes k s; freq = get_or freqs k f } ∷ []
said_front k [] freqs s f below within = absurd (omega arith)
said_front k (size ∷ sizes) [] s f below within = absurd (omega arith)
said_front zero (size ∷ sizes) (freq ∷ freqs) s f below within = refl
said_front (suc k) (size ∷ sizes) (freq ∷ freqs) s f below within = ap (λ l. record { size = size; freq = freq } ∷ l) (said_front k sizes freqs s f (omega arith) (omega arith))

pub said_more : (k : ℕ) (sizes : List ℕ) (freqs : List (Option ℕ)) (s : ℕ) (f : Option ℕ) → k < length sizes → k < length freqs
    → disks_said (take (k + 1) sizes) (take (k + 1) freqs) ≡ disks_said (take k sizes) (take k freqs) ++ record { size = get_or sizes k s; freq = get_or freqs k f } ∷ []
said_more k sizes freqs s f below within = rw add-one (said_front k sizes freqs s f below within)

-- ---- the front of a list

take_push : {A : Type 0} (n : ℕ) (xs : List A) (x : A) → cond (nat_lt (length (take n xs)) n) (take n xs ++ x ∷ []) (take n xs) ≡ take n (xs ++ x ∷ [])
take_push zero [] x = refl
take_push zero (y ∷ xs) x = refl
take_push (suc n) [] x = let room : nat_lt 0 (suc n) ≡ true = grind (arith, nat_tests) in rw room (ap (λ l. x ∷ l) (sym (take_none n)))
  where
    take_none : {A : Type 0} (n : ℕ) → take {A = A} n [] ≡ []
    take_none zero = refl
    take_none (suc n) = refl
take_push (suc n) (y ∷ xs) x = by (nat_lt (length (take n xs)) n) refl (take_push n xs x)
  where
    by : (b : Bool) → nat_lt (length (take n xs)) n ≡ b → cond b (take n xs ++ x ∷ []) (take n xs) ≡ take n (xs ++ x ∷ [])
        → cond (nat_lt (suc (length (take n xs))) (suc n)) (y ∷ (take n xs ++ x ∷ [])) (y ∷ take n xs) ≡ y ∷ take n (xs ++ x ∷ [])
    by true e h = let one : nat_lt (suc (length (take n xs))) (suc n) ≡ true = grind (arith, nat_tests) in rw one (ap (λ l. y ∷ l) h)
    by false e h = let one : nat_lt (suc (length (take n xs))) (suc n) ≡ false = grind (arith, nat_tests) in rw one (ap (λ l. y ∷ l) h)

pub kept_more : {A : Type 0} (xs : List A) (x : A) → keep_part (kept_parts xs) x ≡ kept_parts (xs ++ x ∷ [])
kept_more xs x = by (nat_le (length (kept_parts xs)) MOST_DISKS) (nat_lt (length (kept_parts xs)) (MOST_DISKS + 1)) refl refl (take_push (MOST_DISKS + 1) xs x)
  where
    by : (a b : Bool) → nat_le (length (kept_parts xs)) MOST_DISKS ≡ a → nat_lt (length (kept_parts xs)) (MOST_DISKS + 1) ≡ b
        → cond b (kept_parts xs ++ x ∷ []) (kept_parts xs) ≡ kept_parts (xs ++ x ∷ []) → cond a (kept_parts xs ++ x ∷ []) (kept_parts xs) ≡ kept_parts (xs ++ x ∷ [])
    by true true e f h = h
    by false false e f h = h
    by true false e f h = absurd (let low : length (kept_parts xs) ≤ MOST_DISKS = grind (arith, nat_tests, e) in let high : MOST_DISKS + 1 ≤ length (kept_parts xs) = grind (arith, nat_tests, f) in omega arith)
    by false true e f h = absurd (let low : MOST_DISKS < length (kept_parts xs) = grind (arith, nat_tests, e) in let high : length (kept_parts xs) < MOST_DISKS + 1 = grind (arith, nat_tests, f) in omega arith)

-- One more part that is read.
any_push : {A : Type 0} (p : A → Bool) (xs : List A) (x : A) → list_any p (xs ++ x ∷ []) ≡ (list_any p xs || p x)
any_push p xs x = list_any-append p xs (x ∷ []) ∙ ap (λ b. list_any p xs || b) (or_false (p x))

module _ {A : Type 0} (is_wrong : A → Bool) (done : List A) (x : A) (wrong next : Bool) (told : wrong ≡ list_any is_wrong done) (here : next ≡ (wrong || is_wrong x)) where
  pub step_wrong : next ≡ list_any is_wrong (done ++ x ∷ [])
  step_wrong = here ∙ rw told (sym (any_push is_wrong done x))

  pub step_kept : (old new : List A) → (wrong ≡ false → old ≡ kept_parts done) → (next ≡ false → new ≡ keep_part old x) → next ≡ false → new ≡ kept_parts (done ++ x ∷ [])
  step_kept old new same kept none = by wrong refl
    where
      by : (b : Bool) → wrong ≡ b → new ≡ kept_parts (done ++ x ∷ [])
      by true e = cc (here, e, none)
      by false e = kept none ∙ rw (same e) (kept_more done x)

-- ---- what was read

pub parts_are : {A : Type 0} (is_wrong : A → Bool) (wrong : Bool) (list : Option (List A)) (kept : List A) → PartsRead is_wrong (Some wrong) list kept
    → (parts : List A) × (list ≡ Some parts) × (wrong ≡ list_any is_wrong parts) × (list_any is_wrong parts ≡ false → kept ≡ kept_parts parts)
parts_are is_wrong wrong None kept h = cc h
parts_are is_wrong wrong (Some parts) kept h = (parts, refl, let first = h.0 in cc first, h.1)

pub replan_spelled : (fields : Option (List ℕ × List ℕ × List ℕ)) (c s f : List ℕ) (cycle : ℕ) (sizes : List ℕ) (freqs : List (Option ℕ)) → ◌≡◌ {A = Option (List ℕ × List ℕ × List ℕ)} (Some (c, s, f)) fields
    → number_of c ≡ Some cycle → list_of number_of s ≡ Some sizes → list_of freq_of f ≡ Some freqs → replan_by fields ≡ Ok (e.DeclaredReplan cycle sizes freqs)
replan_spelled fields c s f cycle sizes freqs same one two three = rw (← same, one, two, three) refl

-- ---- the kind from what was kept

same_tests : (p q : Bool) → (p ≡ true → q ≡ true) → (q ≡ true → p ≡ true) → p ≡ q
same_tests true true f g = refl
same_tests true false f g = sym (f refl)
same_tests false true f g = g refl
same_tests false false f g = refl

kept_len : {A : Type 0} (xs : List A) → length (kept_parts xs) ≡ min (MOST_DISKS + 1) (length xs)
kept_len xs = length-take (MOST_DISKS + 1) xs

-- Whether a list is right for disks can be told from what is kept of it.
count_same : (k n : ℕ) → k ≡ min (MOST_DISKS + 1) n → outside 1 MOST_DISKS k ≡ outside 1 MOST_DISKS n
count_same k n e =
    let low : nat_lt k 1 ≡ nat_lt n 1 = same_tests (nat_lt k 1) (nat_lt n 1)
    (λ h. let a : k < 1 = grind (arith, nat_tests, h) in let b : n < 1 = omega arith in grind (arith, nat_tests, b))
    (λ h. let a : n < 1 = grind (arith, nat_tests, h) in let b : k < 1 = omega arith in grind (arith, nat_tests, b)) in
    let high : nat_lt MOST_DISKS k ≡ nat_lt MOST_DISKS n = same_tests (nat_lt MOST_DISKS k) (nat_lt MOST_DISKS n)
    (λ h. let a : MOST_DISKS < k = grind (arith, nat_tests, h) in let b : MOST_DISKS < n = omega arith in grind (arith, nat_tests, b))
    (λ h. let a : MOST_DISKS < n = grind (arith, nat_tests, h) in let b : MOST_DISKS < k = omega arith in grind (arith, nat_tests, b)) in
    rw (low, high) refl

lengths_same : (k l n m : ℕ) → k ≡ min (MOST_DISKS + 1) n → l ≡ min (MOST_DISKS + 1) m → n ≤ MOST_DISKS → (k == l) ≡ (n == m)
lengths_same k l n m e f few = same_tests (k == l) (n == m)
    (λ h. let a : k ≡ l = grind (arith, nat_tests, h) in let b : n ≡ m = omega arith in grind (arith, nat_tests, b))
    (λ h. let a : n ≡ m = grind (arith, nat_tests, h) in let b : k ≡ l = omega arith in grind (arith, nat_tests, b))

limit_same : (x c d ws wf : Bool) → (ws ≡ false → c ≡ d) → ((x || c) || (ws || wf)) ≡ (((x || d) || ws) || wf)
limit_same x c d true wf h = by (x || c) (x || d)
  where
    by : (a b : Bool) → (a || true) ≡ ((b || true) || wf)
    by true true = refl
    by true false = refl
    by false true = refl
    by false false = refl
limit_same x c d false wf h = rw (h refl) (by (x || d))
  where
    by : (a : Bool) → (a || wf) ≡ ((a || false) || wf)
    by true = refl
    by false = refl

two_same : (p q a b : Bool) → p ≡ q → (q ≡ false → a ≡ b) → first_of ((fault.Limit, p) ∷ (fault.Lengths, a) ∷ []) ≡ first_of ((fault.Limit, q) ∷ (fault.Lengths, b) ∷ [])
two_same p true a b e f = rw e refl
two_same p false a b e f = rw (e, f refl) refl

-- The kind that is found from what was kept is the least of the replan.
module _ (replans last cycle : ℕ) (ss : List ℕ) (fs : List (Option ℕ)) (sizes : List ℕ) (freqs : List (Option ℕ))
    (sizes_kept : list_any (outside 1 MOST_SIZE) ss ≡ false → sizes ≡ kept_parts ss) (freqs_kept : list_any (option_any (outside 1 MOST_FREQ)) fs ≡ false → freqs ≡ kept_parts fs) where
  pub replan_seen : seen_replan_kind (list_any (outside 1 MOST_SIZE) ss || list_any (option_any (outside 1 MOST_FREQ)) fs) replans last cycle (length sizes) (length freqs) ≡ first_of (replan_tests replans last cycle ss fs)
  replan_seen =
      let ws = list_any (outside 1 MOST_SIZE) ss in let wf = list_any (option_any (outside 1 MOST_FREQ)) fs in
      let x = nat_le MOST_REPLANS replans || outside 2 MOST_CYCLES cycle || nat_le cycle last in
      let c = outside 1 MOST_DISKS (length sizes) in let d = outside 1 MOST_DISKS (length ss) in
      two_same ((x || c) || (ws || wf)) (((x || d) || ws) || wf) (not (length sizes == length freqs)) (not (length ss == length fs))
      (limit_same x c d ws wf (λ none. count_same (length sizes) (length ss) (ap length (sizes_kept none) ∙ kept_len ss)))
      (λ none. let a = or_none ((x || d) || ws) wf none in let b = or_none (x || d) ws a.0 in let e = or_none x d b.0 in let f = or_none (nat_lt (length ss) 1) (nat_lt MOST_DISKS (length ss)) e.1 in
      ap not (lengths_same (length sizes) (length freqs) (length ss) (length fs) (ap length (sizes_kept b.1) ∙ kept_len ss) (ap length (freqs_kept a.1) ∙ kept_len fs) (grind (arith, nat_tests, f.1))))

  -- If no kind applies, all was kept.
  pub all_kept : first_of (replan_tests replans last cycle ss fs) ≡ None → (sizes ≡ ss) × (freqs ≡ fs)
  all_kept none =
      let t = replan_tested replans last cycle ss fs none in let few = t.few_disks in let same = t.lengths in
      (sizes_kept t.sizes ∙ take_all (MOST_DISKS + 1) ss (omega arith), freqs_kept t.freqs ∙ take_all (MOST_DISKS + 1) fs (omega arith))

pub seen_same : {a b : Bool} {n m l k s t f g : ℕ} (cycle : ℕ) → a ≡ b → n ≡ m → l ≡ k → s ≡ t → f ≡ g → seen_replan_kind a n l cycle s f ≡ seen_replan_kind b m k cycle t g
seen_same cycle e1 e2 e3 e4 e5 = rw (e1, e2, e3, e4, e5) refl
