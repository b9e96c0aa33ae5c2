-- The ether between the air and a receiver: which pushed buckets it loses, gives twice, or delays. Each push draws three words,
-- whether it is heard or not. The heard list is given by places in the pushed list, so nothing in it depends on what the
-- buckets say. The laws are the contracts of `ether`.
use Rattle.std.specs.Prelude.{ℕ, ◌+◌, ◌*◌, ◌/◌, ◌%◌, ◌==◌, nat_lt, if◌then◌else◌, List, [], length, map, replicate, slice_index, slice_index_or, flat_map}
use Rattle.std.specs.List.{range_with_len}
use Rattle.air_model.specs.Draws.{words_of}

-- How many of a hundred buckets are lost, heard again, and delayed.
pub record Odds : Type 0 where
  pub loss : ℕ
  pub again : ℕ
  pub late : ℕ

-- Word k of the three that are drawn for the push at a place.
abbrev pub word_of : List ℕ → ℕ → ℕ → ℕ
word_of words place k = slice_index words (3 * place + k)

-- How often a push is heard: 0 times if it is lost, otherwise twice or once.
unfoldable pub times_heard : Odds → List ℕ → ℕ → ℕ
times_heard odds words place =
    if nat_lt (word_of words place 0 % 100) odds.loss then 0
    else if nat_lt (word_of words place 1 % 100) odds.again then 2
    else 1

-- The due number of a push: it is heard once the push at this place was made. A delayed push is due one to eight places later.
unfoldable pub due_number : Odds → List ℕ → ℕ → ℕ
due_number odds words place =
    if nat_lt (word_of words place 2 % 100) odds.late then place + 1 + word_of words place 2 / 100 % 8
    else place

-- Of n pushes those that are due at a number, in order. What is heard twice is in the list twice, one after the other.
unfoldable pub due_at : Odds → List ℕ → ℕ → ℕ → List ℕ
due_at odds words n number =
    flat_map (λ place. if due_number odds words place == number then replicate (times_heard odds words place) place else []) (range_with_len 0 n)

-- Of n pushes the places of those that are due at the numbers below a bound, number by number.
unfoldable pub places_due : Odds → List ℕ → ℕ → ℕ → List ℕ
places_due odds words n bound = flat_map (due_at odds words n) (range_with_len 0 bound)

-- The places of what is heard of n pushes, by due number; none is due above n + 7.
unfoldable pub heard_places : Odds → List ℕ → ℕ → List ℕ
heard_places odds words n = places_due odds words n (n + 8)

-- The heard list of a pushed list.
unfoldable pub heard_list : Odds → List ℕ → List (List ℕ) → List (List ℕ)
heard_list odds words pushed = map (λ place. slice_index_or pushed place []) (heard_places odds words (length pushed))

-- What the receiver of this number hears, by the words of its own stream.
unfoldable pub heard_by : ℕ → ℕ → Odds → List (List ℕ) → List (List ℕ)
heard_by seed number odds pushed = heard_list odds (words_of seed number (3 * length pushed)) pushed
