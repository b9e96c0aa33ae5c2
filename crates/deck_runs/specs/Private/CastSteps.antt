-- For private steps alone. What a cast counts on its way.
use Rattle.std.specs.Prelude.{ℕ, length, sum_by}
use Rattle.std.specs.List.{range_with_len}
use Rattle.air_model.specs.Aired.{air_of, slots_at}
use Rattle.air_model.specs.Decks.{Deck}

-- The number of buckets of the deck's first `cycles` cycles: in each the slots of the program in force.
abbrev pub buckets_up_to : Deck → ℕ → ℕ
buckets_up_to deck cycles = sum_by (λ c. length (slots_at (air_of deck) c)) (range_with_len 1 cycles)

-- The number of buckets of all cycles of a deck.
abbrev pub bucket_count : Deck → ℕ
bucket_count deck = buckets_up_to deck deck.settings.cycles
