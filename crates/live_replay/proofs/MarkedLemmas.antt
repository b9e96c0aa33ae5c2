-- Marks that are set by a backward pass, from the origins of some reads to all commits that run alone for them.
use Rattle.std.proofs.Common.{◌≡◌, ℕ, ◌+◌, ◌-◌, ◌<◌, ◌≤◌, Bool, true, false, ◌||◌, Option, Some, None, IfSome, List, length, get_or, set, map, All, refl, sym, ◌∙◌, ap, subst, inl, inr, arith}
use Rattle.std.proofs.lemmas.Bool.{both_ways, cases_eq, cases_lt, eq-eqb, false_from_ne_true}
use Rattle.std.proofs.lemmas.List.{get_or-set_other, get_or-set_same, get_or_past}
use Rattle.std.proofs.lemmas.List.Folds.{list_any_at}
use Rattle.air_history.specs.declared.histories.Event.{Event}
use Rattle.air_history.specs.Histories.{event_at}
use Rattle.air_history.specs.Places.{same_place}
use Rattle.air_history.specs.Reads.{ReadAt, origin}
use Rattle.air_history.specs.Consistency.{runs_alone}
use Rattle.air_history.proofs.MarkLemmas.{Forgets, Seeks, writes_some}
use Rattle.live_replay.specs.Private.Alone.{is_met}
use Rattle.live_replay.specs.Private.Groups.{MarksAlone, MarksOrigins}
use Rattle.live_replay.proofs.AloneLemmas.{alone_below, origins_within}
use Rattle.live_replay.proofs.BackwardLemmas.{IsWalked, met_alone, unmet, walked_more, walked_none, walked_skip}

-- No origin is after the marks.
pub origins_low : (origins : List (Option ℕ)) (first : ℕ) (marks : List Bool) → MarksOrigins origins first marks → All (λ o. IfSome o (λ w. w < first + length marks)) origins
origins_low origins first marks at k d l = by (get_or origins k d) refl
  where
    by : (o : Option ℕ) → get_or origins k d ≡ o → IfSome o (λ w. w < first + length marks)
    by None e = tt
    by (Some w) e = elim (cases_lt w (first + length marks)) as (λ _. w < first + length marks) [
      | inl low ↦ low
      | inr high ↦ (let same : first + (w - first) ≡ w = omega arith in
          absurd (both_ways (get_or marks (w - first) false) (get_or_past marks (w - first) false (omega arith))
          (at (w - first) ∙ list_any_at (λ o. same_place o (Some (first + (w - first)))) origins k d l
          (ap (λ o. same_place o (Some (first + (w - first)))) e ∙ eq-eqb w (first + (w - first)) (sym same)))))
    ]

-- The pass has come down to the mark `at`: the marks from there on are those of the commits that run alone, and those before it are kept.
pub record IsMarkedTo (H : List Event) (R : List ReadAt) (first at : ℕ) (old marks sought : List Bool) : Type 0 where
  pub walked : IsWalked H R (first + at) sought
  pub done : (k : ℕ) → at ≤ k → get_or marks k false ≡ runs_alone H R (first + k)
  pub kept : (k : ℕ) → k < at → get_or marks k false ≡ get_or old k false

module _ (H : List Event) (R : List ReadAt) (first : ℕ) (old : List Bool) (origins : MarksOrigins (map (origin H) R) first old) where
  -- Nothing is after the marks.
  pub marked_none : (clear : List Bool) → ((i : ℕ) → get_or clear i false ≡ false) → IsMarkedTo H R first (length old) old old clear
  marked_none clear none = record {
    walked = walked_none H R (first + length old) clear none low;
    done = λ k past. get_or_past old k false past ∙ sym (false_from_ne_true (runs_alone H R (first + k)) (λ a. let below = alone_below H R (first + length old) (first + k) low a in absurd (omega arith)));
    kept = λ k l. refl;
  }
    where
      low : All (λ o. IfSome o (λ w. w < first + length old)) (map (origin H) R)
      low = origins_low (map (origin H) R) first old origins

  module _ (at : ℕ) (marks sought : List Bool) (m : IsMarkedTo H R first (at + 1) old marks sought) where
    -- Whether the place is met.
    met_is : (b : Bool) → b ≡ (get_or marks at false || writes_some (event_at H (first + at)) sought) → is_met H (map (origin H) R) (first + at) sought ≡ b
    met_is b e = sym (e ∙ ap (λ m. m || writes_some (event_at H (first + at)) sought) (m.kept at (omega arith) ∙ origins at))

    walked : IsWalked H R ((first + at) + 1) sought
    walked = subst (λ p. IsWalked H R p sought) (let e : first + (at + 1) ≡ (first + at) + 1 = omega arith in e) m.walked

    -- A place that isn't met has no mark, and doesn't run alone.
    pub marked_skip : (get_or marks at false || writes_some (event_at H (first + at)) sought) ≡ false → IsMarkedTo H R first at old marks sought
    marked_skip miss = record {
      walked = walked_skip H R (first + at) sought (met_is false (sym miss)) walked;
      done = λ k low. elim (cases_eq k at) as (λ _. get_or marks k false ≡ runs_alone H R (first + k)) [
        | inl same ↦ subst (λ j. get_or marks j false ≡ runs_alone H R (first + j)) (sym same)
            (first_no (get_or marks at false) (writes_some (event_at H (first + at)) sought) miss
            ∙ sym (false_from_ne_true (runs_alone H R (first + at)) (λ a. unmet H R (first + at) sought (met_is false (sym miss)) walked a)))
        | inr other ↦ m.done k (omega arith)
      ];
      kept = λ k l. m.kept k (omega arith);
    }
      where
        first_no : (a b : Bool) → (a || b) ≡ false → a ≡ false
        first_no true b e = e
        first_no false b e = refl

    -- One that is met runs alone, and is marked.
    pub marked_more : (mid new : List Bool) → at < length marks → (get_or marks at false || writes_some (event_at H (first + at)) sought) ≡ true →
        Forgets (event_at H (first + at)) sought mid → Seeks (event_at H (first + at)) mid new → IsMarkedTo H R first at old (set marks at true) new
    marked_more mid new within hit forgets seeks = record {
      walked = walked_more H R (first + at) sought mid new alone forgets seeks walked;
      done = λ k low. elim (cases_eq k at) as (λ _. get_or (set marks at true) k false ≡ runs_alone H R (first + k)) [
        | inl same ↦ subst (λ j. get_or (set marks at true) j false ≡ runs_alone H R (first + j)) (sym same) (get_or-set_same marks at true false within ∙ sym alone)
        | inr other ↦ get_or-set_other marks at k true false other ∙ m.done k (omega arith)
      ];
      kept = λ k l. get_or-set_other marks at k true false (λ e. absurd (omega arith)) ∙ m.kept k (omega arith);
    }
      where
        alone : runs_alone H R (first + at) ≡ true
        alone = met_alone H R (first + at) sought (met_is true (sym hit)) walked

-- All marks are set.
pub marked_all : (H : List Event) (R : List ReadAt) (first : ℕ) (old marks sought : List Bool) → IsMarkedTo H R first 0 old marks sought → MarksAlone H R first marks
marked_all H R first old marks sought m = λ k. m.done k (omega arith)

-- Nothing runs alone after the last event.
pub alone_past : (H : List Event) (R : List ReadAt) (p : ℕ) → length H ≤ p → runs_alone H R p ≡ false
alone_past H R p past = false_from_ne_true (runs_alone H R p) (λ a. let below = alone_below H R (length H) p (origins_within H R) a in absurd (omega arith))

-- Origins that are before a place are before a later one.
pub before_later : (origins : List (Option ℕ)) (n m : ℕ) → n ≤ m → All (λ o. IfSome o (λ w. w < n)) origins → All (λ o. IfSome o (λ w. w < m)) origins
before_later origins n m le all = λ k d l. by (get_or origins k d) (all k d l)
  where
    by : (o : Option ℕ) → IfSome o (λ w. w < n) → IfSome o (λ w. w < m)
    by None h = tt
    by (Some w) h = let low : w < n = h in omega arith
