-- Drafts by their parts, and the sections of a deck's declarations that are added to them: parts one by one, updates, and
-- queries.
use Rattle.std.proofs.Common.{◌≡◌, ◌<◌, ◌≤◌, ◌+◌, ◌++◌, ◌∷◌, [], ℕ, zero, suc, List, Option, refl, sym, ap, ◌∙◌, append_assoc, length, map, max, replicate, get_or, arith, length-append}
use Rattle.std.specs.Prelude.{sum_by}
use Rattle.std.proofs.lemmas.List.{append-nil}
use Rattle.std.proofs.lemmas.List.Sums.{sum_by-cons}
use Rattle.air_base.specs.declared.limits.TheConstants.{MOST_READERS}
use Rattle.air_history.specs.UpdateLists.{UpdateLists}
use Rattle.air_model.specs.declared.deck.ReaderPlan.{ReaderPlan}
use Rattle.item_catalog.specs.Declarations.{Declaration}
use Rattle.item_catalog.specs.Declarations as e
use Rattle.item_catalog.specs.Parts.{ReplanSaid, last_replan_cycle}
use Rattle.item_catalog.specs.Private.Drafts.{DraftValue, push_at, with_declaration}
use Rattle.item_catalog.specs.declared.parts.ItemPart.{ItemPart}
use Rattle.item_catalog.specs.declared.parts.DiskPart.{DiskPart}
use Rattle.item_catalog.specs.declared.deck.draft.settings.Setting.{Setting}
use Rattle.item_catalog.specs.DeckTexts.{query_declarations, update_declarations, update_declaration}
use Rattle.item_catalog.proofs.DraftSteps.{with_all, with_both}

abbrev pub draft_by : List ItemPart → List DiskPart → List ReplanSaid → List (List UpdateLists) → ℕ → ℕ → List ReaderPlan → List (List (List ℕ)) → ℕ → List (Option ℕ) → List Setting → DraftValue
draft_by items disks replans updates updaters count readers queries asked script set = record {
  items = items;
  disks = disks;
  replans = replans;
  last_replan_cycle = last_replan_cycle replans;
  updates = updates;
  updaters = updaters;
  update_count = count;
  readers = readers;
  queries = queries;
  query_count = asked;
  script = script;
  set = set;
}

-- ---- one section more

module _ {L P : Type 0} (mk : L → Declaration) (part : L → P) (at : List P → DraftValue) (put : (done : List P) (x : L) → with_declaration (at done) (mk x) ≡ at (done ++ part x ∷ [])) where
  pub added : (xs : List L) (done : List P) → with_all (at done) (map mk xs) ≡ at (done ++ map part xs)
  added [] done = ap at (sym (append-nil done))
  added (x ∷ xs) done = ap (λ d. with_all d (map mk xs)) (put done x) ∙ added xs (done ++ part x ∷ []) ∙ ap at (append_assoc done (part x ∷ []) (map part xs))

-- The list at a place with one more element at its end.
push_here : {A : Type 0} (front : List (List A)) (old : List A) (rest : List (List A)) (x : A) → push_at (front ++ old ∷ rest) (length front) x ≡ front ++ (old ++ x ∷ []) ∷ rest
push_here [] old rest x = refl
push_here (l ∷ front) old rest x = ap (λ ls. l ∷ ls) (push_here front old rest x)

-- n empty lists followed by m empty lists.
pub no_lists : {A : Type 0} (n m : ℕ) → ◌≡◌ {A = List (List A)} (replicate (n + m) []) (replicate n [] ++ replicate m [])
no_lists {A} zero m = let same : 0 + m ≡ m = omega arith in ap (λ k. replicate {A = List A} k []) same
no_lists {A} (suc n) m = let same : suc n + m ≡ suc (n + m) = omega arith in ap (λ k. replicate {A = List A} k []) same ∙ ap (λ (ls : List (List A)). [] ∷ ls) (no_lists n m)

-- ---- updates

-- One more than the number of the last updater that has an update, if the first updater of the list has this number; otherwise
-- 0.
abbrev pub updaters_named : ℕ → List UpdateLists → ℕ
updaters_named by [] = 0
updaters_named by (u ∷ own) = by + 1

abbrev pub all_named : ℕ → List (List UpdateLists) → ℕ
all_named from [] = 0
all_named from (own ∷ others) = max (updaters_named from own) (all_named (from + 1) others)

named_again : (last by : ℕ) (own : List UpdateLists) → max (max last (by + 1)) (updaters_named by own) ≡ max last (by + 1)
named_again last by [] = omega arith
named_again last by (u ∷ own) = omega arith

module _ (items : List ItemPart) (disks : List DiskPart) (replans : List ReplanSaid) where
  abbrev pub at_updates : List (List UpdateLists) → ℕ → ℕ → DraftValue
  at_updates updates updaters count = draft_by items disks replans updates updaters count [] (replicate MOST_READERS []) 0 [] []

  updates_same : {us vs : List (List UpdateLists)} {a b c d : ℕ} → us ≡ vs → a ≡ b → c ≡ d → at_updates us a c ≡ at_updates vs b d
  updates_same f g h = cc

  own_added : (front rest : List (List UpdateLists)) (old : List UpdateLists) (last count : ℕ) (own : List UpdateLists)
      → with_all (at_updates (front ++ old ∷ rest) last count) (map (update_declaration (length front)) own)
      ≡ at_updates (front ++ (old ++ own) ∷ rest) (max last (updaters_named (length front) own)) (count + length own)
  own_added front rest old last count [] = updates_same (ap (λ l. front ++ l ∷ rest) (sym (append-nil old))) (omega arith) (omega arith)
  own_added front rest old last count (u ∷ own) =
      ap (λ ls. with_all (at_updates ls (max last (length front + 1)) (count + 1)) (map (update_declaration (length front)) own)) (push_here front old rest u)
      ∙ own_added front rest (old ++ u ∷ []) (max last (length front + 1)) (count + 1) own
      ∙ updates_same (ap (λ l. front ++ l ∷ rest) (append_assoc old (u ∷ []) own)) (named_again last (length front) own) (omega arith)

  pub updates_added : (lists front pad : List (List UpdateLists)) (from last count : ℕ) → from ≡ length front
      → with_all (at_updates (front ++ (replicate (length lists) [] ++ pad)) last count) (update_declarations from lists)
      ≡ at_updates (front ++ (lists ++ pad)) (max last (all_named from lists)) (count + sum_by length lists)
  updates_added [] front pad from last count e = updates_same refl (omega arith) (omega arith)
  updates_added (own ∷ lists) front pad from last count e =
      let rest = replicate (length lists) [] ++ pad in
      let more = update_declarations (from + 1) lists in
      let next = front ++ own ∷ [] in
      let one = max last (updaters_named (length front) own) in
      let here : length front ≡ from = sym e in
      with_both (at_updates (front ++ [] ∷ rest) last count) (map (update_declaration from) own) more
      ∙ ap (λ k. with_all (with_all (at_updates (front ++ [] ∷ rest) last count) (map (update_declaration k) own)) more) e
      ∙ ap (λ d. with_all d more) (own_added front rest [] last count own ∙ updates_same (sym (append_assoc front (own ∷ []) rest)) refl refl)
      ∙ updates_added lists next pad (from + 1) one (count + length own) (omega (arith, length-append front (own ∷ [])))
      ∙ updates_same (append_assoc front (own ∷ []) (lists ++ pad)) (last_same (ap (λ k. updaters_named k own) here)) (omega (arith, sum_by-cons (λ (l : List UpdateLists). length l) own lists))
    where
      last_same : updaters_named (length front) own ≡ updaters_named from own → max (max last (updaters_named (length front) own)) (all_named (from + 1) lists) ≡ max last (max (updaters_named from own) (all_named (from + 1) lists))
      last_same f = omega (arith, f)

-- If the last updater has an update, the updaters that are named are all.
some_named : (from : ℕ) (lists : List (List UpdateLists)) → all_named from lists ≤ from + length lists
some_named from [] = omega arith
some_named from ([] ∷ others) = omega (arith, some_named (from + 1) others)
some_named from ((u ∷ own) ∷ others) = omega (arith, some_named (from + 1) others)

pub last_named : (from : ℕ) (lists : List (List UpdateLists)) (last : ℕ) → length lists ≡ last + 1 → 0 < length (get_or lists last []) → all_named from lists ≡ from + length lists
last_named from [] last e some = absurd (omega arith)
last_named from (own ∷ []) last e some = by last own (let z : last ≡ 0 = omega arith in z) some
  where
    by : (last : ℕ) (own : List UpdateLists) → last ≡ 0 → 0 < length (get_or (own ∷ []) last []) → max (updaters_named from own) 0 ≡ from + 1
    by zero [] z some = absurd (omega arith)
    by zero (u ∷ own) z some = omega arith
    by (suc last) own z some = absurd (omega arith)
last_named from (own ∷ next ∷ others) zero e some = absurd (omega arith)
last_named from (own ∷ next ∷ others) (suc last) e some =
    let rest = last_named (from + 1) (next ∷ others) last (omega arith) some in
    at (updaters_named from own) (all_named (from + 1) (next ∷ others)) (first own) rest
  where
    first : (own : List UpdateLists) → updaters_named from own ≤ from + 1
    first [] = omega arith
    first (u ∷ own) = omega arith

    at : (a b : ℕ) → a ≤ from + 1 → b ≡ from + 1 + length (next ∷ others) → max a b ≡ from + length (own ∷ next ∷ others)
    at a b few same = omega arith

-- ---- queries

module _ (items : List ItemPart) (disks : List DiskPart) (replans : List ReplanSaid) (updates : List (List UpdateLists)) (updaters count : ℕ) (readers : List ReaderPlan) where
  abbrev pub at_queries : List (List (List ℕ)) → ℕ → DraftValue
  at_queries queries asked = draft_by items disks replans updates updaters count readers queries asked [] []

  queries_same : {qs ps : List (List (List ℕ))} {a b : ℕ} → qs ≡ ps → a ≡ b → at_queries qs a ≡ at_queries ps b
  queries_same f g = cc

  asked_added : (front rest : List (List (List ℕ))) (old : List (List ℕ)) (asked : ℕ) (own : List (List ℕ))
      → with_all (at_queries (front ++ old ∷ rest) asked) (map (e.DeclaredQuery (length front)) own) ≡ at_queries (front ++ (old ++ own) ∷ rest) (asked + length own)
  asked_added front rest old asked [] = queries_same (ap (λ l. front ++ l ∷ rest) (sym (append-nil old))) (omega arith)
  asked_added front rest old asked (q ∷ own) =
      ap (λ ls. with_all (at_queries ls (asked + 1)) (map (e.DeclaredQuery (length front)) own)) (push_here front old rest q)
      ∙ asked_added front rest (old ++ q ∷ []) (asked + 1) own ∙ queries_same (ap (λ l. front ++ l ∷ rest) (append_assoc old (q ∷ []) own)) (omega arith)

  pub queries_added : (lists front pad : List (List (List ℕ))) (from asked : ℕ) → from ≡ length front
      → with_all (at_queries (front ++ (replicate (length lists) [] ++ pad)) asked) (query_declarations from lists) ≡ at_queries (front ++ (lists ++ pad)) (asked + sum_by length lists)
  queries_added [] front pad from asked at = queries_same refl (omega arith)
  queries_added (own ∷ lists) front pad from asked at =
      let rest = replicate (length lists) [] ++ pad in
      let more = query_declarations (from + 1) lists in
      with_both (at_queries (front ++ [] ∷ rest) asked) (map (e.DeclaredQuery from) own) more
      ∙ ap (λ k. with_all (with_all (at_queries (front ++ [] ∷ rest) asked) (map (e.DeclaredQuery k) own)) more) at
      ∙ ap (λ d. with_all d more) (asked_added front rest [] asked own ∙ queries_same (sym (append_assoc front (own ∷ []) rest)) refl)
      ∙ queries_added lists (front ++ own ∷ []) pad (from + 1) (asked + length own) (omega (arith, length-append front (own ∷ [])))
      ∙ queries_same (append_assoc front (own ∷ []) (lists ++ pad)) (omega (arith, sum_by-cons (λ (l : List (List ℕ)). length l) own lists))
