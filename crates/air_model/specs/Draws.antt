-- The words that a seed and a stream give: an ether draws them for its reader, and a drill draws its deck from them. A word is
-- a 32-bit output of the generator; no proof opens its arithmetic.
use Rattle.std.specs.Prelude.{ℕ, zero, suc, ◌%◌, List, [], ◌∷◌, ◌++◌}
use Rattle.rand_pcg.specs.Lcg.{Lcg, increment_of, started}
use Rattle.rand_pcg.specs.Pcg.{multiplier_64, pcg32}

-- The generator that `Lcg64Xsh32::new` makes.
abbrev pub generator : ℕ → ℕ → Lcg
generator seed stream = started 64 multiplier_64 seed (increment_of 64 stream)

-- The next n words of a generator with this step.
unfoldable pub words_by : {S : Type 0} → (S → ℕ × S) → ℕ → S → List ℕ
words_by step zero g = []
words_by step (suc n) g = (step g).0 ∷ words_by step n (step g).1

-- The first n words of this seed and this stream.
abbrev pub words_of : ℕ → ℕ → ℕ → List ℕ
words_of seed stream n = words_by pcg32 n (generator seed stream)

-- ---- draws

-- A draw takes words from a generator: it gives a value and the generator that is left.
abbrev pub Draw : Type 0 → Type 0
Draw A = Lcg → A × Lcg

-- Passes what was drawn on to the next draw, with the generator that is left.
abbrev pub go_on : {A B : Type 0} → A × Lcg → (A → Draw B) → B × Lcg
go_on (x, left) next = next x left

-- One draw, and then another that may depend on the first one's value.
infixl 10 ◌>>=◌
abbrev pub ◌>>=◌ : {A B : Type 0} → Draw A → (A → Draw B) → Draw B
(one >>= next) g = go_on (one g) next

-- A value for which no word is taken.
abbrev pub gives : {A : Type 0} → A → Draw A
gives x g = (x, g)

-- The next word, modulo m.
unfoldable pub draw : ℕ → Draw ℕ
draw m g = ((pcg32 g).0 % m, (pcg32 g).1)

-- A draw for each number below n, in order.
unfoldable pub draw_each : {A : Type 0} → ℕ → (ℕ → Draw A) → Draw (List A)
draw_each zero one = gives []
draw_each (suc n) one = do
  before ← draw_each n one
  last ← one n
  gives (before ++ last ∷ [])
