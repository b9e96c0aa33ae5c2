-- The words that are drawn: word i is the one of the generator after i words, for any number of words that follow.
use Rattle.std.proofs.Common.{◌≡◌, ℕ, zero, suc, ◌+◌, ◌*◌, ◌/◌, ◌%◌, ◌<◌, ◌≤◌, Bool, true, false, get_or, refl, sym, ◌∙◌, ap, arith, if◌then◌else◌, nat_lt}
use Rattle.std.proofs.Math.Nat.{mod-lt}
use Rattle.rand_pcg.specs.Lcg.{Lcg}
use Rattle.rand_pcg.specs.Pcg.{pcg32}
use Rattle.air_model.specs.Draws.{generator, words_by, words_of}
use Rattle.air_model.specs.Ethers.{Odds, due_number, times_heard, word_of}
use Rattle.air_ether.specs.PushWords.{due_in, left_by, times_in}

pub left_more : {S : Type 0} (step : S → ℕ × S) (a b : ℕ) (g : S) → left_by step (a + b) g ≡ left_by step b (left_by step a g)
left_more step zero b g = ap (λ n. left_by step n g) (let e : 0 + b ≡ b = omega arith in e)
left_more step (suc a) b g = ap (λ n. left_by step n g) (let e : suc a + b ≡ suc (a + b) = omega arith in e) ∙ left_more step a b (step g).1

pub word_at : {S : Type 0} (step : S → ℕ × S) (m i : ℕ) (g : S) → i < m → get_or (words_by step m g) i 0 ≡ (step (left_by step i g)).0
unfolding words_by
word_at step zero i g l = absurd (omega arith)
word_at step (suc m) zero g l = refl
word_at step (suc m) (suc i) g l = word_at step m i (step g).1 (omega arith)

-- Two lists of words that are long enough say the same of a push.
pub due_told : (odds : Odds) (seed number n place : ℕ) → place < n → due_number odds (words_of seed number (3 * n)) place ≡ due_in seed number odds place
unfolding due_number due_in
due_told odds seed number n place l =
    let g = generator seed number in
    ap (λ w. if nat_lt (w % 100) odds.late then place + 1 + w / 100 % 8 else place)
    (word_at pcg32 (3 * n) (3 * place + 2) g (omega arith) ∙ sym (word_at pcg32 (3 * (place + 1)) (3 * place + 2) g (omega arith)))

pub times_told : (odds : Odds) (seed number n place : ℕ) → place < n → times_heard odds (words_of seed number (3 * n)) place ≡ times_in seed number odds place
unfolding times_heard times_in
times_told odds seed number n place l =
    let g = generator seed number in
    ap (λ w. if nat_lt (w % 100) odds.loss then 0 else if nat_lt (word_of (words_of seed number (3 * n)) place 1 % 100) odds.again then 2 else 1)
    (word_at pcg32 (3 * n) (3 * place + 0) g (omega arith) ∙ sym (word_at pcg32 (3 * (place + 1)) (3 * place + 0) g (omega arith)))
    ∙ ap (λ w. if nat_lt (word_of (words_of seed number (3 * (place + 1))) place 0 % 100) odds.loss then 0 else if nat_lt (w % 100) odds.again then 2 else 1)
    (word_at pcg32 (3 * n) (3 * place + 1) g (omega arith) ∙ sym (word_at pcg32 (3 * (place + 1)) (3 * place + 1) g (omega arith)))

pub due_low : (odds : Odds) (seed number place : ℕ) → place ≤ due_in seed number odds place
unfolding due_number due_in
due_low odds seed number place = by (nat_lt (word_of (words_of seed number (3 * (place + 1))) place 2 % 100) odds.late)
  where
    by : (b : Bool) → place ≤ (if b then place + 1 + word_of (words_of seed number (3 * (place + 1))) place 2 / 100 % 8 else place)
    by true = omega arith
    by false = omega arith

pub due_high : (odds : Odds) (seed number place : ℕ) → due_in seed number odds place < place + 9
unfolding due_number due_in
due_high odds seed number place = by (nat_lt (word_of (words_of seed number (3 * (place + 1))) place 2 % 100) odds.late)
  where
    by : (b : Bool) → (if b then place + 1 + word_of (words_of seed number (3 * (place + 1))) place 2 / 100 % 8 else place) < place + 9
    by true = let small : word_of (words_of seed number (3 * (place + 1))) place 2 / 100 % 8 < 8 = mod-lt (word_of (words_of seed number (3 * (place + 1))) place 2 / 100) (omega arith) in omega arith
    by false = omega arith

-- The three words of a push, by the generator before them.
pub due_drawn : (odds : Odds) (seed number n third : ℕ) → third ≡ (pcg32 (left_by pcg32 (3 * n + 2) (generator seed number))).0 →
    (if nat_lt (third % 100) odds.late then n + 1 + third / 100 % 8 else n) ≡ due_in seed number odds n
unfolding due_number due_in
due_drawn odds seed number n third e =
    ap (λ w. if nat_lt (w % 100) odds.late then n + 1 + w / 100 % 8 else n)
    (e ∙ sym (word_at pcg32 (3 * (n + 1)) (3 * n + 2) (generator seed number) (omega arith)))

pub times_drawn : (odds : Odds) (seed number n first second : ℕ) → first ≡ (pcg32 (left_by pcg32 (3 * n + 0) (generator seed number))).0 → second ≡ (pcg32 (left_by pcg32 (3 * n + 1) (generator seed number))).0 →
    (if nat_lt (first % 100) odds.loss then 0 else if nat_lt (second % 100) odds.again then 2 else 1) ≡ times_in seed number odds n
unfolding times_heard times_in
times_drawn odds seed number n first second e f =
    ap (λ w. if nat_lt (w % 100) odds.loss then 0 else if nat_lt (second % 100) odds.again then 2 else 1)
    (e ∙ sym (word_at pcg32 (3 * (n + 1)) (3 * n + 0) (generator seed number) (omega arith)))
    ∙ ap (λ w. if nat_lt (word_of (words_of seed number (3 * (n + 1))) n 0 % 100) odds.loss then 0 else if nat_lt (w % 100) odds.again then 2 else 1)
    (f ∙ sym (word_at pcg32 (3 * (n + 1)) (3 * n + 1) (generator seed number) (omega arith)))

-- The generator k words after a place.
pub left_from : (g : Lcg) (seed number n k : ℕ) → g ≡ left_by pcg32 (3 * n) (generator seed number) → left_by pcg32 k g ≡ left_by pcg32 (3 * n + k) (generator seed number)
left_from g seed number n k e = ap (left_by pcg32 k) e ∙ sym (left_more pcg32 (3 * n) k (generator seed number))
