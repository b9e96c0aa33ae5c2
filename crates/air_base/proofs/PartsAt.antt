-- The parts of a text between bytes of a given number: the first, the others, and the text of two.
use Rattle.std.proofs.Common.{◌≡◌, ◌++◌, ◌∷◌, [], ℕ, List, Option, Some, None, Bool, true, false, cond, not, refl, sym, ap, ◌∙◌, arith}
use Rattle.std.specs.Prelude.{◌==◌}
use Rattle.std.specs.List.{list_all, onto_first}
use Rattle.std.proofs.lemmas.List.{append-nil}
use Rattle.std.proofs.lemmas.Bool.Decides.{nat_tests}
use Rattle.air_base.specs.LeadingParts.{leading_part, behind}
use Rattle.air_base.specs.Parts.{parts_at, two_of}
use Rattle.air_base.proofs.LeadingPartLemmas.{leading_past, behind_past, leading_behind}

-- The byte isn't this one.
abbrev pub is_not : ℕ → ℕ → Bool
is_not s c = not (c == s)

-- The parts after the first one.
abbrev pub parts_behind : ℕ → List ℕ → List (List ℕ)
parts_behind s [] = []
parts_behind s (y ∷ ys) = parts_at s ys

-- The first part is what comes before the first such byte.
pub part_first : (s : ℕ) (xs : List ℕ) → parts_at s xs ≡ leading_part (is_not s) xs ∷ parts_behind s (behind (is_not s) xs)
part_first s [] = refl
part_first s (x ∷ xs) = by (x == s) (part_first s xs)
  where
    by : (b : Bool) → parts_at s xs ≡ leading_part (is_not s) xs ∷ parts_behind s (behind (is_not s) xs)
        → cond b ([] ∷ parts_at s xs) (onto_first x (parts_at s xs)) ≡ cond (not b) (x ∷ leading_part (is_not s) xs) [] ∷ parts_behind s (cond (not b) (behind (is_not s) xs) (x ∷ xs))
    by true e = refl
    by false e = rw e refl

behind_is : (s : ℕ) (xs : List ℕ) (y : ℕ) (ys : List ℕ) → behind (is_not s) xs ≡ y ∷ ys → y ≡ s
behind_is s [] y ys h = cc h
behind_is s (x ∷ xs) y ys h = by (x == s) refl h (behind_is s xs y ys)
  where
    by : (b : Bool) → (x == s) ≡ b → cond (not b) (behind (is_not s) xs) (x ∷ xs) ≡ y ∷ ys → (behind (is_not s) xs ≡ y ∷ ys → y ≡ s) → y ≡ s
    by true e h more = let same : x ≡ y = cc h in grind (arith, nat_tests)
    by false e h more = more h

-- A text without the byte is one part; otherwise its first part is what comes before the byte.
pub one_part : (s : ℕ) (xs : List ℕ) → list_all (is_not s) xs ≡ true → parts_at s xs ≡ xs ∷ []
one_part s xs all =
    let f : leading_part (is_not s) xs ≡ xs = ap (leading_part (is_not s)) (sym (append-nil xs)) ∙ leading_past (is_not s) xs [] all ∙ append-nil xs in
    let b : behind (is_not s) xs ≡ [] = ap (behind (is_not s)) (sym (append-nil xs)) ∙ behind_past (is_not s) xs [] all in
    part_first s xs ∙ rw (f, b) refl

pub part_then : (s : ℕ) (a q : List ℕ) → list_all (is_not s) a ≡ true → parts_at s (a ++ s ∷ q) ≡ a ∷ parts_at s q
part_then s a q all =
    let e : (s == s) ≡ true = grind arith in
    let f : leading_part (is_not s) (a ++ s ∷ q) ≡ a = leading_past (is_not s) a (s ∷ q) all ∙ rw e (append-nil a) in
    let b : behind (is_not s) (a ++ s ∷ q) ≡ s ∷ q = behind_past (is_not s) a (s ∷ q) all ∙ rw e refl in
    part_first s (a ++ s ∷ q) ∙ rw (f, b) refl

-- If a text has two parts, it is these with the byte between them.
abbrev pub Two : ℕ → List ℕ → Option (List ℕ × List ℕ) → Type 0
Two s xs None = Unit {0}
Two s xs (Some sides) = xs ≡ sides.0 ++ s ∷ sides.1

pub two_parts : (s : ℕ) (xs : List ℕ) → Two s xs (two_of (parts_at s xs))
two_parts s xs = rw (part_first s xs) (by (behind (is_not s) xs) refl)
  where
    last : (ys : List ℕ) → xs ≡ leading_part (is_not s) xs ++ s ∷ ys → (b : List ℕ) → behind (is_not s) ys ≡ b → Two s xs (two_of (leading_part (is_not s) xs ∷ leading_part (is_not s) ys ∷ parts_behind s b))
    last ys e [] h = e ∙ ap (λ l. leading_part (is_not s) xs ++ s ∷ l) (leading_behind (is_not s) ys ∙ rw h (append-nil (leading_part (is_not s) ys)))
    last ys e (z ∷ zs) h = rw (part_first s zs) tt

    by : (b : List ℕ) → behind (is_not s) xs ≡ b → Two s xs (two_of (leading_part (is_not s) xs ∷ parts_behind s b))
    by [] h = tt
    by (y ∷ ys) h = rw (part_first s ys) (last ys (leading_behind (is_not s) xs ∙ rw (h, behind_is s xs y ys h) refl) (behind (is_not s) ys) refl)
