-- The elements before the first one that fails a test, and the elements from that one on.
use Rattle.std.proofs.Common.{◌≡◌, ◌<◌, ◌≤◌, ◌+◌, ◌++◌, ◌∷◌, [], ℕ, List, Bool, true, false, cond, length, get_or, take, drop, refl, sym, ap, ◌∙◌}
use Rattle.std.specs.Prelude.{◌&&◌}
use Rattle.std.specs.List.{list_all}
use Rattle.std.proofs.lemmas.List.{append-nil, take-append-drop, take_more, take_all, drop_all, drop_more}
use Rattle.std.proofs.lemmas.List.Folds.{list_all-append}
use Rattle.air_base.specs.LeadingParts.{leading_part, behind}

module _ (test : ℕ → Bool) where
  -- Elements that pass come before the first that fails.
  pub leading_past : (a b : List ℕ) → list_all test a ≡ true → leading_part test (a ++ b) ≡ a ++ leading_part test b
  leading_past [] b all = refl
  leading_past (x ∷ a) b all = by (test x) refl all (leading_past a b)
    where
      by : (t : Bool) → test x ≡ t → (t && list_all test a) ≡ true → (list_all test a ≡ true → leading_part test (a ++ b) ≡ a ++ leading_part test b)
          → cond (test x) (x ∷ leading_part test (a ++ b)) [] ≡ x ∷ (a ++ leading_part test b)
      by true e all more = rw (e, more all) refl
      by false e all more = cc all

  pub behind_past : (a b : List ℕ) → list_all test a ≡ true → behind test (a ++ b) ≡ behind test b
  behind_past [] b all = refl
  behind_past (x ∷ a) b all = by (test x) refl all (behind_past a b)
    where
      by : (t : Bool) → test x ≡ t → (t && list_all test a) ≡ true → (list_all test a ≡ true → behind test (a ++ b) ≡ behind test b)
          → cond (test x) (behind test (a ++ b)) (x ∷ (a ++ b)) ≡ behind test b
      by true e all more = rw (e, more all) refl
      by false e all more = cc all

  -- The leading part passes, and what follows it begins with one that fails.
  pub leading_all : (xs : List ℕ) → list_all test (leading_part test xs) ≡ true
  leading_all [] = refl
  leading_all (x ∷ xs) = by (test x) refl (leading_all xs)
    where
      by : (t : Bool) → test x ≡ t → list_all test (leading_part test xs) ≡ true → list_all test (cond (test x) (x ∷ leading_part test xs) []) ≡ true
      by true e more = rw (e, e, more) refl
      by false e more = rw e refl

  pub leading_behind : (xs : List ℕ) → xs ≡ leading_part test xs ++ behind test xs
  leading_behind [] = refl
  leading_behind (x ∷ xs) = by (test x) (leading_behind xs)
    where
      by : (t : Bool) → xs ≡ leading_part test xs ++ behind test xs → x ∷ xs ≡ cond t (x ∷ leading_part test xs) [] ++ cond t (behind test xs) (x ∷ xs)
      by true e = ap (λ l. x ∷ l) e
      by false e = refl

  -- A scan has reached place i, and all elements before it passed.
  module _ (xs : List ℕ) (i : ℕ) (passed : list_all test (take i xs) ≡ true) where
    pub scan_more : (d : ℕ) → i < length xs → test (get_or xs i d) ≡ true → list_all test (take (i + 1) xs) ≡ true
    scan_more d below pass = ap (list_all test) (take_more xs i d below) ∙ list_all-append test (take i xs) (get_or xs i d ∷ []) ∙ rw (passed, pass) refl

    stop : (d : ℕ) → i < length xs → test (get_or xs i d) ≡ false → (leading_part test (drop i xs) ≡ []) × (behind test (drop i xs) ≡ drop i xs)
    stop d below fail = rw (drop_more xs i d below, fail) (refl, refl)

    pub scan_leading : (d : ℕ) → i < length xs → test (get_or xs i d) ≡ false → take i xs ≡ leading_part test xs
    scan_leading d below fail =
        sym (ap (leading_part test) (sym (take-append-drop i xs)) ∙ leading_past (take i xs) (drop i xs) passed ∙ rw ((stop d below fail).0) (append-nil (take i xs)))

    pub scan_behind : (d : ℕ) → i < length xs → test (get_or xs i d) ≡ false → drop i xs ≡ behind test xs
    scan_behind d below fail =
        sym (ap (behind test) (sym (take-append-drop i xs)) ∙ behind_past (take i xs) (drop i xs) passed ∙ (stop d below fail).1)

    pub end_leading : (n : ℕ) → length xs ≤ i → length xs ≤ n → take n xs ≡ leading_part test xs
    end_leading n end long =
        let all : list_all test xs ≡ true = ap (list_all test) (sym (take_all i xs end)) ∙ passed in
        take_all n xs long ∙ sym (ap (leading_part test) (sym (append-nil xs)) ∙ leading_past xs [] all ∙ append-nil xs)

    pub end_behind : (n : ℕ) → length xs ≤ i → length xs ≤ n → drop n xs ≡ behind test xs
    end_behind n end long =
        let all : list_all test xs ≡ true = ap (list_all test) (sym (take_all i xs end)) ∙ passed in
        drop_all n xs long ∙ sym (ap (behind test) (sym (append-nil xs)) ∙ behind_past xs [] all)
