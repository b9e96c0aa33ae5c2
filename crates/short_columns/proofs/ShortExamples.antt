-- Short columns, computed: what is listed, its bytes, and what other bytes are not.
-- In cycle 300 there are six items. Item 1 was written in cycle 299, which is 1 cycle ago, and item 4 in cycle 46, which is 254
-- cycles ago.
use Rattle.std.specs.Prelude.{◌≡◌, ℕ, true, false, List, [], ◌∷◌, map, nat_lt, refl}
use Rattle.air_history.specs.Ages.{capped}
use Rattle.short_columns.specs.Listings.{all_capped, listed_entry, is_short, listed, rise, unlisted}
use Rattle.short_columns.specs.ShortColumns.{is_listing, is_young_age, two_at, pair_spelling, pair_told, pairs_at, raw_pair, raw_pairs, short_entries, short_spelling}

abbrev entries : List ℕ
entries = 0 ∷ 299 ∷ 0 ∷ 0 ∷ 46 ∷ 0 ∷ []

abbrev pairs : List (ℕ × ℕ)
pairs = (1, 299) ∷ (4, 46) ∷ []

-- Its bytes, after one byte of something else.
abbrev bytes : List ℕ
bytes = 7 ∷ 0 ∷ 2 ∷ 0 ∷ 1 ∷ 1 ∷ 0 ∷ 4 ∷ 254 ∷ []

-- The bytes of one pair, after one byte of something else.
abbrev one_pair : ℕ → ℕ → List ℕ
one_pair item age = 7 ∷ 0 ∷ 1 ∷ 0 ∷ item ∷ age ∷ []

-- The bytes of two pairs whose ages are 1, after one byte of something else.
abbrev two_pairs : ℕ → ℕ → List ℕ
two_pairs first second = 7 ∷ 0 ∷ 2 ∷ 0 ∷ first ∷ 1 ∷ 0 ∷ second ∷ 1 ∷ []

pub record Listings : Type 0 where
  two_listed : listed entries ≡ pairs
  none_listed : listed (0 ∷ 0 ∷ []) ≡ []
  -- each item has its own entry, and one that isn't listed has 0, also after the last one
  entries_in : map (λ item. listed_entry item pairs) (0 ∷ 1 ∷ 3 ∷ 4 ∷ 5 ∷ []) ≡ 0 ∷ 299 ∷ 0 ∷ 46 ∷ 0 ∷ []
  -- the first pair of an item counts
  first_counts : listed_entry 1 ((1, 7) ∷ (1, 8) ∷ []) ≡ 7
  each_item : unlisted 6 pairs ≡ entries
  two_items : unlisted 2 pairs ≡ 0 ∷ 299 ∷ []
  rising : rise (nat_lt 0) 0 6 pairs ≡ true
  from_its_first : rise (nat_lt 0) 1 5 pairs ≡ true
  -- an item is below the first place, or isn't below n; items fall, or one comes twice; a number doesn't pass the test
  too_low : rise (nat_lt 0) 2 6 pairs ≡ false
  too_high : rise (nat_lt 0) 0 4 pairs ≡ false
  falling : rise (nat_lt 0) 0 6 ((4, 46) ∷ (1, 299) ∷ []) ≡ false
  twice : rise (nat_lt 0) 0 6 ((1, 299) ∷ (1, 299) ∷ []) ≡ false
  untested : rise (nat_lt 0) 0 6 ((1, 299) ∷ (4, 0) ∷ []) ≡ false
  -- an entry of 255 cycles ago is too old for an age
  young_alone : all_capped 300 (45 ∷ 46 ∷ 0 ∷ 299 ∷ []) ≡ 0 ∷ 46 ∷ 0 ∷ 299 ∷ []
  -- two pairs have 8 bytes with their number, so nine items are short with them, and eight aren't
  short : is_short 9 2 ≡ true
  as_long : is_short 8 2 ≡ false
  none_of_three : is_short 3 0 ≡ true
  none_of_two : is_short 2 0 ≡ false
  -- both sides of the change of form at 256 and at 1,024 items
  edges : is_short 256 84 ∷ is_short 256 85 ∷ is_short 1024 340 ∷ is_short 1024 341 ∷ [] ≡ true ∷ false ∷ true ∷ false ∷ []

listings : Listings
unfolding listed listed_entry unlisted rise capped
listings = record {
  two_listed = refl;
  none_listed = refl;
  entries_in = refl;
  first_counts = refl;
  each_item = refl;
  two_items = refl;
  rising = refl;
  from_its_first = refl;
  too_low = refl;
  too_high = refl;
  falling = refl;
  twice = refl;
  untested = refl;
  young_alone = refl;
  short = refl;
  as_long = refl;
  none_of_three = refl;
  none_of_two = refl;
  edges = refl;
}

pub record Bytes : Type 0 where
  -- item 258 has two bytes, the high byte first, and the age of its entry follows
  one_spelled : pair_spelling 300 (258, 299) ≡ 1 ∷ 2 ∷ 1 ∷ []
  two_spelled : short_spelling 300 pairs ≡ 0 ∷ 2 ∷ 0 ∷ 1 ∷ 1 ∷ 0 ∷ 4 ∷ 254 ∷ []
  none_spelled : short_spelling 300 [] ≡ 0 ∷ 0 ∷ []
  -- the number of pairs, an item and its age are read at their places
  count_read : two_at 1 bytes ≡ 2
  second_read : raw_pair 1 bytes 1 ≡ (4, 254)
  both_read : raw_pairs 1 bytes ≡ (1, 1) ∷ (4, 254) ∷ []
  -- an age tells the entry of that many cycles ago
  one_told : pair_told 300 (4, 254) ≡ (4, 46)
  both_told : pairs_at 300 1 bytes ≡ pairs
  all_told : short_entries 300 6 1 bytes ≡ entries
  -- an age is at least 1, and below the cap and the cycle
  young : map (is_young_age 300) (1 ∷ 254 ∷ []) ≡ true ∷ true ∷ []
  not_young : map (is_young_age 300) (0 ∷ 255 ∷ []) ≡ false ∷ false ∷ []
  in_cycle_three : map (is_young_age 3) (2 ∷ 3 ∷ []) ≡ true ∷ false ∷ []
  -- these bytes are a listing for six items, and for five
  listing : map (λ n. is_listing 300 n 1 bytes) (6 ∷ 5 ∷ []) ≡ true ∷ true ∷ []
  -- item 4 isn't below 4, and 254 cycles ago there was no cycle 100
  no_listing : is_listing 300 4 1 bytes ∷ is_listing 100 6 1 bytes ∷ [] ≡ false ∷ false ∷ []
  -- items have to rise
  of_two : map (is_listing 300 6 1) (two_pairs 1 4 ∷ two_pairs 4 1 ∷ two_pairs 4 4 ∷ []) ≡ true ∷ false ∷ false ∷ []
  -- an age is neither 0 nor the cap
  of_one : map (is_listing 300 6 1) (one_pair 5 254 ∷ one_pair 5 0 ∷ one_pair 5 255 ∷ one_pair 6 254 ∷ []) ≡ true ∷ false ∷ false ∷ false ∷ []
  -- more pairs than items can't all be below n
  of_many : is_listing 300 1 1 (two_pairs 0 1) ≡ false

of_bytes : Bytes
unfolding listed listed_entry unlisted rise short_spelling raw_pairs pairs_at is_young_age is_listing
of_bytes = record {
  one_spelled = refl;
  two_spelled = refl;
  none_spelled = refl;
  count_read = refl;
  second_read = refl;
  both_read = refl;
  one_told = refl;
  both_told = refl;
  all_told = refl;
  young = refl;
  not_young = refl;
  in_cycle_three = refl;
  listing = refl;
  no_listing = refl;
  of_two = refl;
  of_one = refl;
  of_many = refl;
}
