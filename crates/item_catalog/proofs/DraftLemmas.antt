-- The parts of declarations with one more are the parts of the declarations with that one added.
use Rattle.std.proofs.Common.{◌≡◌, ◌≢◌, ◌<◌, ◌+◌, ◌++◌, ◌∷◌, [], ℕ, zero, suc, List, Option, Some, None, Bool, true, false, cond, ◌∙◌, sym, refl, ap, arith, map, get_or, length, nat_lt, max, inl, inr, ◌⊎◌}
use Rattle.std.specs.Prelude.{◌==◌, count_by}
use Rattle.std.specs.List.{filter_map, range_with_len}
use Rattle.std.proofs.lemmas.List.{append-nil, same_lists, length-set, get_or-set_same, get_or-set_other, map-append}
use Rattle.std.proofs.lemmas.List.Elements.{filter_map-append}
use Rattle.std.proofs.lemmas.List.Concat.{flat_map-append}
use Rattle.std.proofs.lemmas.List.FromFn.{length-map-range_with_len, get_or-map-range_with_len}
use Rattle.std.proofs.lemmas.List.Sums.{fold-append, sum_by-append}
use Rattle.std.proofs.lemmas.Bool.{cases_eq}
use Rattle.air_base.specs.declared.limits.TheConstants.{MOST_READERS, MOST_UPDATERS}
use Rattle.air_history.specs.UpdateLists.{UpdateLists}
use Rattle.air_model.specs.Decks.{scripted_commits}
use Rattle.air_model.specs.declared.deck.ReaderPlan.{ReaderPlan}
use Rattle.item_catalog.specs.Decks.{for_each}
use Rattle.item_catalog.specs.Private.Drafts.{DraftValue, draft_of, draft_tests, push_at, with_declaration}
use Rattle.item_catalog.specs.Declarations.{Declaration}
use Rattle.item_catalog.specs.Declarations as e
use Rattle.item_catalog.specs.declared.faults.FaultKind.TheVariants as fault
use Rattle.item_catalog.specs.Faults.{script_passes, tests_of}
use Rattle.item_catalog.specs.Parts.{ReplanSaid, greatest_number, is_query, is_update, its_disk, its_events, its_item, its_query, its_reader, its_replan, its_setting, its_update, its_updaters, last_replan_cycle, queries_in, replans_in, script_in, updaters_in, updates_in}
use Rattle.item_catalog.specs.declared.parts.ItemPart.{ItemPart}
use Rattle.item_catalog.specs.declared.parts.DiskPart.{DiskPart}
use Rattle.item_catalog.specs.declared.deck.draft.settings.Setting.{Setting}
use Rattle.item_catalog.proofs.ScriptLemmas.{some_same}

-- A part that a declaration doesn't have, and one that it has.
pub none_more : {A : Type 0} (f : Declaration → Option A) (es : List Declaration) (x : Declaration) → f x ≡ None → filter_map f (es ++ x ∷ []) ≡ filter_map f es
none_more f es x h = filter_map-append f es (x ∷ []) ∙ rw h (append-nil (filter_map f es))

pub one_more : {A : Type 0} (f : Declaration → Option A) (es : List Declaration) (x : Declaration) (a : A) → f x ≡ Some a → filter_map f (es ++ x ∷ []) ≡ filter_map f es ++ a ∷ []
one_more f es x a h = filter_map-append f es (x ∷ []) ∙ rw h refl

pub count_more : (test : Declaration → Bool) (es : List Declaration) (x : Declaration) → count_by test (es ++ x ∷ []) ≡ count_by test es + cond (test x) 1 0
count_more test es x = sum_by-append (λ x. cond (test x) 1 0) es (x ∷ []) ∙ omega arith

-- Lists made by equal functions, or by functions that differ only at one number.
pub same_from : {A : Type 0} (f g : ℕ → A) (a n : ℕ) → ((k : ℕ) → g k ≡ f k) → map g (range_with_len a n) ≡ map f (range_with_len a n)
same_from f g a zero h = refl
same_from f g a (suc n) h = rw (h a, same_from f g (a + 1) n h) refl

module _ {A : Type 0} (n who : ℕ) (f g : ℕ → List A) (x : A) (other : (k : ℕ) → k ≢ who → g k ≡ f k) (one : g who ≡ f who ++ x ∷ []) where
  pub pushed : for_each n g ≡ push_at (for_each n f) who x
  pushed =
      same_lists (for_each n g) (push_at (for_each n f) who x)
      (length-map-range_with_len g 0 n ∙ sym (length-set (for_each n f) who (get_or (for_each n f) who [] ++ x ∷ []) ∙ length-map-range_with_len f 0 n))
      (λ k d h. at k d (rw (length-map-range_with_len g 0 n) at h) (cases_eq k who))
    where
      at : (k : ℕ) (d : List A) → k < n → (k ≡ who) ⊎ (k ≡ who → ⊥) → get_or (for_each n g) k d ≡ get_or (push_at (for_each n f) who x) k d
      at k d below (inl e) =
          get_or-map-range_with_len g 0 n k k d below (omega arith) ∙ rw e (one
          ∙ ap (λ l. l ++ x ∷ []) (sym (get_or-map-range_with_len f 0 n who who [] (omega arith) (omega arith)))
          ∙ sym (get_or-set_same (for_each n f) who (get_or (for_each n f) who [] ++ x ∷ []) d (omega (arith, length-map-range_with_len f 0 n))))
      at k d below (inr differs) =
          get_or-map-range_with_len g 0 n k k d below (omega arith) ∙ other k differs ∙ sym (get_or-map-range_with_len f 0 n k k d below (omega arith))
          ∙ sym (get_or-set_other (for_each n f) who k (get_or (for_each n f) who [] ++ x ∷ []) d differs)

greatest_more : (ns : List ℕ) (n : ℕ) → greatest_number (ns ++ n ∷ []) ≡ max (greatest_number ns) n
greatest_more [] n = omega arith
greatest_more (m ∷ ns) n = rw (greatest_more ns n) (omega arith)

pub updaters_more : (es : List Declaration) (x : Declaration) → updaters_in (es ++ x ∷ []) ≡ max (updaters_in es) (its_updaters x)
updaters_more es x = ap greatest_number (map-append its_updaters es (x ∷ [])) ∙ greatest_more (map its_updaters es) (its_updaters x)

-- Drafts with equal parts are equal.
same_parts : {i1 i2 : List ItemPart} {d1 d2 : List DiskPart} {p1 p2 : List ReplanSaid} {l1 l2 : ℕ} {u1 u2 : List (List UpdateLists)} {n1 n2 c1 c2 : ℕ} {r1 r2 : List ReaderPlan} {q1 q2 : List (List (List ℕ))} {a1 a2 : ℕ} {s1 s2 : List (Option ℕ)} {t1 t2 : List Setting}
    → i1 ≡ i2 → d1 ≡ d2 → p1 ≡ p2 → l1 ≡ l2 → u1 ≡ u2 → n1 ≡ n2 → c1 ≡ c2 → r1 ≡ r2 → q1 ≡ q2 → a1 ≡ a2 → s1 ≡ s2 → t1 ≡ t2
    → ◌≡◌ {A = DraftValue} (record { items = i1; disks = d1; replans = p1; last_replan_cycle = l1; updates = u1; updaters = n1; update_count = c1; readers = r1; queries = q1; query_count = a1; script = s1; set = t1 })
    (record { items = i2; disks = d2; replans = p2; last_replan_cycle = l2; updates = u2; updaters = n2; update_count = c2; readers = r2; queries = q2; query_count = a2; script = s2; set = t2 })
same_parts h1 h2 h3 h4 h5 h6 h7 h8 h9 h10 h11 h12 = cc

updates_kept : (es : List Declaration) (x : Declaration) → ((by : ℕ) → its_update by x ≡ None) → for_each MOST_UPDATERS (updates_in (es ++ x ∷ [])) ≡ for_each MOST_UPDATERS (updates_in es)
updates_kept es x h = same_from (updates_in es) (updates_in (es ++ x ∷ [])) 0 MOST_UPDATERS (λ by. none_more (its_update by) es x (h by))

queries_kept : (es : List Declaration) (x : Declaration) → ((r : ℕ) → its_query r x ≡ None) → for_each MOST_READERS (queries_in (es ++ x ∷ [])) ≡ for_each MOST_READERS (queries_in es)
queries_kept es x h = same_from (queries_in es) (queries_in (es ++ x ∷ [])) 0 MOST_READERS (λ r. none_more (its_query r) es x (h r))

pub updaters_kept : (es : List Declaration) (x : Declaration) → its_updaters x ≡ 0 → updaters_in (es ++ x ∷ []) ≡ updaters_in es
updaters_kept es x h = updaters_more es x ∙ rw h (omega arith)

pub count_kept : (test : Declaration → Bool) (es : List Declaration) (x : Declaration) → test x ≡ false → count_by test (es ++ x ∷ []) ≡ count_by test es
count_kept test es x h = count_more test es x ∙ rw h (omega arith)

pub script_kept : (es : List Declaration) (x : Declaration) → its_events x ≡ [] → script_in (es ++ x ∷ []) ≡ script_in es
script_kept es x h = flat_map-append its_events es (x ∷ []) ∙ rw h (append-nil (script_in es))

last_kept : (es : List Declaration) (x : Declaration) → its_replan x ≡ None → last_replan_cycle (replans_in (es ++ x ∷ [])) ≡ last_replan_cycle (replans_in es)
last_kept es x h = ap last_replan_cycle (none_more its_replan es x h)

pub last_more : (replans : List ReplanSaid) (r : ReplanSaid) → last_replan_cycle (replans ++ r ∷ []) ≡ r.cycle
last_more replans r = fold-append (λ (cycle : ℕ) (r : ReplanSaid). r.cycle) 0 replans (r ∷ [])

pub eq_self : (n : ℕ) → (n == n) ≡ true
eq_self n = grind arith

pub eq_other : (k n : ℕ) → k ≢ n → (n == k) ≡ false
eq_other k n h = grind arith

pub draft_more : (es : List Declaration) (x : Declaration) → draft_of (es ++ x ∷ []) ≡ with_declaration (draft_of es) x
draft_more es (e.DeclaredItem id value rate) = let x : Declaration = e.DeclaredItem id value rate in
    same_parts (one_more its_item es x _ refl) (none_more its_disk es x refl) (none_more its_replan es x refl) (last_kept es x refl) (updates_kept es x (λ by. refl)) (updaters_kept es x refl) (count_kept is_update es x refl)
    (none_more its_reader es x refl) (queries_kept es x (λ r. refl)) (count_kept is_query es x refl) (script_kept es x refl) (none_more its_setting es x refl)
draft_more es (e.DeclaredDisk size freq) = let x : Declaration = e.DeclaredDisk size freq in
    same_parts (none_more its_item es x refl) (one_more its_disk es x _ refl) (none_more its_replan es x refl) (last_kept es x refl) (updates_kept es x (λ by. refl)) (updaters_kept es x refl) (count_kept is_update es x refl)
    (none_more its_reader es x refl) (queries_kept es x (λ r. refl)) (count_kept is_query es x refl) (script_kept es x refl) (none_more its_setting es x refl)
draft_more es (e.DeclaredReplan cycle sizes freqs) = let x : Declaration = e.DeclaredReplan cycle sizes freqs in
    let one = one_more its_replan es x _ refl in
    same_parts (none_more its_item es x refl) (none_more its_disk es x refl) one (ap last_replan_cycle one ∙ last_more (replans_in es) _)
    (updates_kept es x (λ by. refl)) (updaters_kept es x refl) (count_kept is_update es x refl)
    (none_more its_reader es x refl) (queries_kept es x (λ r. refl)) (count_kept is_query es x refl) (script_kept es x refl) (none_more its_setting es x refl)
draft_more es (e.DeclaredUpdate by reads writes) = let x : Declaration = e.DeclaredUpdate by reads writes in
    same_parts (none_more its_item es x refl) (none_more its_disk es x refl) (none_more its_replan es x refl) (last_kept es x refl)
    (pushed MOST_UPDATERS by (updates_in es) (updates_in (es ++ x ∷ [])) (record { reads = reads; writes = writes })
    (λ k differs. none_more (its_update k) es x (rw (eq_other k by differs) refl)) (one_more (its_update by) es x _ (rw (eq_self by) refl)))
    (updaters_more es x) (count_more is_update es x)
    (none_more its_reader es x refl) (queries_kept es x (λ r. refl)) (count_kept is_query es x refl) (script_kept es x refl) (none_more its_setting es x refl)
draft_more es (e.DeclaredReader room age tries) = let x : Declaration = e.DeclaredReader room age tries in
    same_parts (none_more its_item es x refl) (none_more its_disk es x refl) (none_more its_replan es x refl) (last_kept es x refl) (updates_kept es x (λ by. refl)) (updaters_kept es x refl) (count_kept is_update es x refl)
    (one_more its_reader es x _ refl) (queries_kept es x (λ r. refl)) (count_kept is_query es x refl) (script_kept es x refl) (none_more its_setting es x refl)
draft_more es (e.DeclaredQuery reader items) = let x : Declaration = e.DeclaredQuery reader items in
    same_parts (none_more its_item es x refl) (none_more its_disk es x refl) (none_more its_replan es x refl) (last_kept es x refl) (updates_kept es x (λ by. refl)) (updaters_kept es x refl) (count_kept is_update es x refl)
    (none_more its_reader es x refl)
    (pushed MOST_READERS reader (queries_in es) (queries_in (es ++ x ∷ [])) items
    (λ k differs. none_more (its_query k) es x (rw (eq_other k reader differs) refl)) (one_more (its_query reader) es x _ (rw (eq_self reader) refl)))
    (count_more is_query es x) (script_kept es x refl) (none_more its_setting es x refl)
draft_more es (e.DeclaredScript events) = let x : Declaration = e.DeclaredScript events in
    same_parts (none_more its_item es x refl) (none_more its_disk es x refl) (none_more its_replan es x refl) (last_kept es x refl) (updates_kept es x (λ by. refl)) (updaters_kept es x refl) (count_kept is_update es x refl)
    (none_more its_reader es x refl) (queries_kept es x (λ r. refl)) (count_kept is_query es x refl)
    (flat_map-append its_events es (x ∷ []) ∙ ap (λ l. script_in es ++ l) (append-nil events)) (none_more its_setting es x refl)
draft_more es (e.DeclaredSetting setting) = let x : Declaration = e.DeclaredSetting setting in
    same_parts (none_more its_item es x refl) (none_more its_disk es x refl) (none_more its_replan es x refl) (last_kept es x refl) (updates_kept es x (λ by. refl)) (updaters_kept es x refl) (count_kept is_update es x refl)
    (none_more its_reader es x refl) (queries_kept es x (λ r. refl)) (count_kept is_query es x refl) (script_kept es x refl) (one_more its_setting es x _ refl)

-- The tests of a declaration give the same for the parts as for the declarations.
pub tests_same : (es : List Declaration) (x : Declaration) → draft_tests (draft_of es) x ≡ tests_of es x
tests_same es (e.DeclaredItem id value rate) = refl
tests_same es (e.DeclaredDisk size freq) = refl
tests_same es (e.DeclaredReplan cycle sizes freqs) = refl
tests_same es (e.DeclaredUpdate by reads writes) = refl
tests_same es (e.DeclaredReader room age tries) = refl
tests_same es (e.DeclaredQuery reader items) = refl
tests_same es (e.DeclaredScript events) =
    ap (λ b. (fault.Limit, script_passes (script_in es) events) ∷ (fault.Overdrawn, b) ∷ [])
    (some_same MOST_UPDATERS (λ by. nat_lt (length (get_or (for_each MOST_UPDATERS (updates_in es)) by [])) (scripted_commits by (script_in es ++ events))) (λ by. nat_lt (length (updates_in es by)) (scripted_commits by (script_in es ++ events)))
    (λ k below. ap (λ us. nat_lt (length us) (scripted_commits k (script_in es ++ events))) (get_or-map-range_with_len (updates_in es) 0 MOST_UPDATERS k k [] below (omega arith))))
tests_same es (e.DeclaredSetting setting) = refl
