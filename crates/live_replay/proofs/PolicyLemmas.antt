-- Reads gone through from the last one back: the least that is named; and how late their cycles are.
use Rattle.std.proofs.Common.{◌≡◌, ℕ, suc, ◌+◌, ◌-◌, ◌<◌, ◌≤◌, Bool, true, false, cond, Option, None, List, [], ◌∷◌, length, get_or, drop, All, refl, sym, ◌∙◌, ap, arith}
use Rattle.std.specs.List.{filter}
use Rattle.std.proofs.lemmas.List.{drop_all, drop_more, get_or-map, length-map}
use Rattle.std.proofs.lemmas.List.Elements.{All-head, All-tail}
use Rattle.air_base.specs.declared.verdicts.Clash.{Clash}
use Rattle.air_base.specs.declared.verdicts.ReadOf.{ReadOf}
use Rattle.air_history.specs.Reads.{ReadAt, first_cycle, last_cycle, newest_cycle}
use Rattle.air_history.specs.Clashes.{least, lesser, named_clash}
use Rattle.live_replay.specs.Findings.{place_of_line, places_read, read_in_cycle}

-- The reads from a place on.
places_from : (reads : List ReadOf) (k : ℕ) (d : ReadOf) → k < length reads → drop k (places_read reads) ≡ place_of_line (get_or reads k d) ∷ drop (k + 1) (places_read reads)
places_from reads k d l =
    drop_more (places_read reads) k (read_in_cycle 0 0) (omega (arith, length-map reads place_of_line)) ∙ ap (λ r. r ∷ drop (k + 1) (places_read reads)) (get_or-map place_of_line reads k d (read_in_cycle 0 0) l)

none_from : (reads : List ReadOf) (k : ℕ) → length reads ≤ k → drop k (places_read reads) ≡ []
none_from reads k all = drop_all k (places_read reads) (omega (arith, length-map reads place_of_line))

pub last_is : (reads : List ReadOf) (d : ReadOf) → 0 < length reads → (get_or reads (length reads - 1) d).cycle ≡ last_cycle (places_read reads)
last_is [] d l = absurd (omega arith)
last_is (r ∷ []) d l = refl
last_is (r ∷ s ∷ reads) d l =
    let e : suc (suc (length reads)) - 1 ≡ suc (suc (length reads) - 1) = omega arith in
    ap (λ k. (get_or (r ∷ s ∷ reads) k d).cycle) e ∙ last_is (s ∷ reads) d (omega arith)

-- The newest cycle is one of the first n where each is, and so is the first.
pub newest_within : (n : ℕ) (reads : List ReadOf) → All (λ r. r.cycle ≤ n) reads → newest_cycle (places_read reads) ≤ n
newest_within n [] h = omega arith
newest_within n (r ∷ reads) h = omega (arith, All-head (λ r. r.cycle ≤ n) r reads h, newest_within n reads (All-tail (λ r. r.cycle ≤ n) r reads h))

pub first_within : (n : ℕ) (reads : List ReadOf) → All (λ r. r.cycle ≤ n) reads → first_cycle (places_read reads) ≤ n
first_within n [] h = omega arith
first_within n (r ∷ reads) h = All-head (λ r. r.cycle ≤ n) r reads h

module _ (test : ReadAt → Bool) (reads : List ReadOf) where
  pub named_none : (k : ℕ) → length reads ≤ k → named_clash test (drop k (places_read reads)) ≡ None
  unfolding least
  named_none k all = ap (named_clash test) (none_from reads k all)

  pub named_more : (k : ℕ) (d : ReadOf) (so_far : Option Clash) → k < length reads → test (place_of_line (get_or reads k d)) ≡ true → so_far ≡ named_clash test (drop (k + 1) (places_read reads)) →
      lesser (place_of_line (get_or reads k d)) so_far ≡ named_clash test (drop k (places_read reads))
  unfolding least
  named_more k d so_far l hit e =
      ap (lesser (place_of_line (get_or reads k d))) e
      ∙ sym (ap (named_clash test) (places_from reads k d l) ∙ ap (λ b. least (cond b (place_of_line (get_or reads k d) ∷ filter test (drop (k + 1) (places_read reads))) (filter test (drop (k + 1) (places_read reads))))) hit)

  pub named_not : (k : ℕ) (d : ReadOf) (so_far : Option Clash) → k < length reads → test (place_of_line (get_or reads k d)) ≡ false → so_far ≡ named_clash test (drop (k + 1) (places_read reads)) →
      so_far ≡ named_clash test (drop k (places_read reads))
  unfolding least
  named_not k d so_far l miss e =
      e
      ∙ sym (ap (named_clash test) (places_from reads k d l) ∙ ap (λ b. least (cond b (place_of_line (get_or reads k d) ∷ filter test (drop (k + 1) (places_read reads))) (filter test (drop (k + 1) (places_read reads))))) miss)
