-- Four pushed buckets heard through ethers of each kind, and the first words of a generator.
use Rattle.std.specs.Prelude.{◌≡◌, ℕ, List, [], ◌∷◌, refl}
use Rattle.air_model.specs.Draws.{words_by, words_of}
use Rattle.air_model.specs.Ethers.{due_at, due_number, heard_by, heard_list, heard_places, places_due, times_heard}

-- Four buckets of one byte.
abbrev four_buckets : List (List ℕ)
four_buckets = (10 ∷ []) ∷ (11 ∷ []) ∷ (12 ∷ []) ∷ (13 ∷ []) ∷ []

-- Three words for each; with 51 late of a hundred, the last word of push 1 makes it due at 4, and that of push 2 at 3.
abbrev words : List ℕ
words = 0 ∷ 30 ∷ 99 ∷ 0 ∷ 99 ∷ 250 ∷ 99 ∷ 99 ∷ 50 ∷ 50 ∷ 99 ∷ 99 ∷ []

all_lost : heard_list (record { loss = 100; again = 0; late = 0 }) words four_buckets ≡ []
unfolding heard_list heard_places places_due due_at due_number times_heard
all_lost = refl

all_twice : heard_list (record { loss = 0; again = 100; late = 0 }) words four_buckets
    ≡ (10 ∷ []) ∷ (10 ∷ []) ∷ (11 ∷ []) ∷ (11 ∷ []) ∷ (12 ∷ []) ∷ (12 ∷ []) ∷ (13 ∷ []) ∷ (13 ∷ []) ∷ []
unfolding heard_list heard_places places_due due_at due_number times_heard
all_twice = refl

-- Push 1 is heard after the pushes 2 and 3; both of these are due at 3, and push 2 is first.
one_late : heard_list (record { loss = 0; again = 0; late = 51 }) words four_buckets ≡ (10 ∷ []) ∷ (12 ∷ []) ∷ (13 ∷ []) ∷ (11 ∷ []) ∷ []
unfolding heard_list heard_places places_due due_at due_number times_heard
one_late = refl

-- The pushes 0, 1 and 3 have a first word below 51 of a hundred; a push that is lost isn't heard again or late.
some_lost : heard_list (record { loss = 51; again = 100; late = 51 }) words four_buckets ≡ (12 ∷ []) ∷ (12 ∷ []) ∷ []
unfolding heard_list heard_places places_due due_at due_number times_heard
some_lost = refl

-- The third word: below 50 of a hundred the push isn't late; with 51 of a hundred, 850 delays push 0 by one and 750 delays push
-- 1 by eight.
abbrev late_words : List ℕ
late_words = 99 ∷ 99 ∷ 850 ∷ 99 ∷ 99 ∷ 750 ∷ []

-- The due numbers of the first two pushes.
abbrev due_of_both : ℕ → ℕ × ℕ
due_of_both late = (due_number (record { loss = 0; again = 0; late = late }) late_words 0, due_number (record { loss = 0; again = 0; late = late }) late_words 1)

due_late : (due_of_both 51 ≡ (1, 9)) × (due_of_both 50 ≡ (0, 1))
unfolding due_number
due_late = (refl, refl)

-- By push 8 only the first one is due.
due_so_far : places_due (record { loss = 0; again = 0; late = 51 }) late_words 2 9 ≡ 0 ∷ []
unfolding places_due due_at due_number times_heard
due_so_far = refl

-- If 50 of a hundred are lost, a push with a first word of 50 is heard, and one with 49 is lost; if 50 are heard again, a
-- second word of 49 is heard twice.
heard_at_the_odds : (times_heard (record { loss = 50; again = 0; late = 0 }) (50 ∷ 0 ∷ 0 ∷ []) 0 ≡ 1) × (times_heard (record { loss = 50; again = 0; late = 0 }) (49 ∷ 0 ∷ 0 ∷ []) 0 ≡ 0)
    × (times_heard (record { loss = 0; again = 50; late = 0 }) (0 ∷ 49 ∷ 0 ∷ []) 0 ≡ 2) × (times_heard (record { loss = 0; again = 50; late = 0 }) (0 ∷ 50 ∷ 0 ∷ []) 0 ≡ 1)
unfolding times_heard
heard_at_the_odds = (refl, refl, refl, refl)

-- Heard by the words that seed 3 gives to reader 3.
by_seed : heard_by 3 3 (record { loss = 30; again = 30; late = 60 }) four_buckets ≡ (11 ∷ []) ∷ (12 ∷ []) ∷ (10 ∷ []) ∷ (10 ∷ []) ∷ []
unfolding heard_by words_by heard_list heard_places places_due due_at due_number times_heard
by_seed = refl

-- The first three words of the reference generator.
three_words : words_of 42 54 3 ≡ 0xa15c02b7 ∷ 0x7b47f409 ∷ 0xba1d3330 ∷ []
unfolding words_by
three_words = refl
