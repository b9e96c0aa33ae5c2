-- The words of a generator, one after another, and what the three words of a push say of it.
use Rattle.std.specs.Prelude.{ℕ, zero, suc, ◌+◌, ◌*◌, ◌/◌, ◌%◌, nat_lt, if◌then◌else◌}
use Rattle.rand_pcg.specs.Lcg.{Lcg}
use Rattle.rand_pcg.specs.Pcg.{pcg32}
use Rattle.air_model.specs.Draws.{words_of}
use Rattle.air_model.specs.Ethers.{Odds, due_number, times_heard}

-- The generator of this step after n words.
abbrev pub left_by : {S : Type 0} → (S → ℕ × S) → ℕ → S → S
left_by step zero g = g
left_by step (suc n) g = left_by step n (step g).1

-- The word that a generator gives after n others.
abbrev pub word_after : Lcg → ℕ → ℕ
word_after g n = (pcg32 (left_by pcg32 n g)).0

-- How often a push is heard with these two words, at these odds of loss and of being heard again.
abbrev pub times_by : ℕ → ℕ → ℕ → ℕ → ℕ
times_by loss again first second =
    if nat_lt (first % 100) loss then 0
    else if nat_lt (second % 100) again then 2
    else 1

-- The due number of the push at a place with this word, for these odds of a delay.
abbrev pub due_by : ℕ → ℕ → ℕ → ℕ
due_by late place third = if nat_lt (third % 100) late then place + 1 + third / 100 % 8 else place

-- The due number of the push at a place, by the words drawn up to it and for it.
unfoldable pub due_in : ℕ → ℕ → Odds → ℕ → ℕ
due_in seed number odds place = due_number odds (words_of seed number (3 * (place + 1))) place

-- How often the push at a place is heard, by the words drawn up to it and for it.
unfoldable pub times_in : ℕ → ℕ → Odds → ℕ → ℕ
times_in seed number odds place = times_heard odds (words_of seed number (3 * (place + 1))) place
