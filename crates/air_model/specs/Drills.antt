-- The deck of a drill: made from a seed and a size, with nothing read. What is random in it is drawn word by word from one
-- generator, in the order of the definitions below. How many words an update or a query takes depends on those drawn before.
use Rattle.std.specs.Prelude.{ℕ, ◌+◌, ◌-◌, ◌*◌, ◌/◌, ◌%◌, ◌==◌, false, if◌then◌else◌, List, [], ◌∷◌, ◌++◌, Option, Some, None, map, replicate}
use Rattle.std.specs.List.{enumerate_from, filter, flat_map, range_with_len}
use Rattle.air_base.specs.declared.limits.TheConstants.{DEFAULT_CYCLES, DEFAULT_HEARS}
use Rattle.air_base.specs.declared.verdicts.Policy.TheVariants.{FMatrix}
use Rattle.air_history.specs.declared.updates.Write.{Write}
use Rattle.air_history.specs.UpdateLists.{UpdateLists}
use Rattle.air_model.specs.declared.deck.ReaderPlan.{ReaderPlan}
use Rattle.air_model.specs.declared.deck.Settings.{Settings}
use Rattle.air_model.specs.Disks.{DiskSpec}
use Rattle.air_model.specs.Decks.{Deck, Item}
use Rattle.air_model.specs.Draws.{Draw, ◌>>=◌, draw, draw_each, generator, gives}

-- An item: a value below 1000, and then a rate from 1 to 100.
abbrev pub draw_item : Draw Item
draw_item = do
  value ← draw 1000
  rate ← draw 100
  gives (record { value = value; rate = 1 + rate })

-- Of n items, `count` of them from `first` on, each `gap` after the one before; after the last item comes item 0.
abbrev pub around : ℕ → ℕ → ℕ → ℕ → List ℕ
around n first gap count = map (λ t. (first + gap * t) % n) (range_with_len 0 count)

-- The base of write number t of an update that reads k items from a on: one of these in turn; None if it reads none.
abbrev pub base_in_turn : ℕ → ℕ → ℕ → ℕ → Option ℕ
base_in_turn n k a t = if k == 0 then None else Some ((a + t % k) % n)

-- Write number t of an update that writes from item b on: an amount below 100, constant or added to its base.
abbrev pub draw_write : ℕ → ℕ → ℕ → ℕ → ℕ → Draw Write
draw_write n k a b t = do
  amount ← draw 100
  gives (record { item = (b + t) % n; base = base_in_turn n k a t; minus = false; amount = amount })

-- An update, which reads up to two items and writes one or two.
unfoldable pub draw_update : ℕ → Draw UpdateLists
draw_update n = do
  k ← draw 3
  a ← draw n
  more ← draw 2
  b ← draw n
  writes ← draw_each (1 + more) (draw_write n k a b)
  gives (record { reads = around n a 1 k; writes = writes })

-- A query of one to four items, each seven after the one before.
unfoldable pub draw_query : ℕ → Draw (List ℕ)
draw_query n = do
  more ← draw 4
  q ← draw n
  gives (around n q 7 (1 + more))

-- The updates of one of four updaters, to which they go in turn.
abbrev pub dealt_to : {A : Type 0} → List A → ℕ → List A
dealt_to updates by = map (λ u. u.1) (filter (λ u. u.0 % 4 == by) (enumerate_from 0 updates))

-- The script's part for one update: its updater commits, and before each fifth update, also before the first, a cycle starts.
abbrev pub turn_of : ℕ → List (Option ℕ)
turn_of u = if u % 5 == 0 then None ∷ Some (u % 4) ∷ [] else Some (u % 4) ∷ []

-- The script of this many updates, which ends with two cycles.
abbrev pub drill_script : ℕ → List (Option ℕ)
drill_script updates = flat_map turn_of (range_with_len 0 updates) ++ None ∷ None ∷ []

-- The disks: an eighth of the items are aired four times a cycle, a quarter twice, and the rest once.
abbrev pub drill_disks : ℕ → List DiskSpec
drill_disks n = record { size = n / 8; freq = 4 } ∷ record { size = n / 4; freq = 2 } ∷ record { size = n - n / 8 - n / 4; freq = 1 } ∷ []

-- Eight readers, each with room for four copies, for eight cycles, and three tries.
abbrev pub drill_readers : List ReaderPlan
drill_readers = replicate 8 (record { room = 4; age = 8; tries = 3 })

-- The settings: some buckets are lost, some heard again and some delayed, by the drill's own seed.
abbrev pub drill_settings : ℕ → Settings
drill_settings seed = record { policy = FMatrix; version = 1; group = 0; cycles = DEFAULT_CYCLES; seed = seed; loss = 5; again = 3; late = 10; monitors = 0; hears = DEFAULT_HEARS }

-- The number of items of a drill of this size.
abbrev pub drill_items : ℕ → ℕ
drill_items size = 16 + 2 * size

-- The deck of the items, updates and queries that were drawn, the updates in the order in which the script commits them.
abbrev pub drill_of : ℕ → ℕ → List Item → List UpdateLists → List (List (List ℕ)) → Deck
drill_of seed size items updates queries = record {
  items = items;
  disks = drill_disks (drill_items size);
  replans = [];
  updates = map (dealt_to updates) (range_with_len 0 4);
  readers = drill_readers;
  queries = queries;
  script = drill_script (10 * size);
  settings = drill_settings seed;
}

-- Draws the deck: first the items, then ten updates for each step of the size, then for each reader as many queries as the
-- size.
abbrev pub draw_deck : ℕ → ℕ → Draw Deck
draw_deck seed size = do
  items ← draw_each (drill_items size) (λ i. draw_item)
  updates ← draw_each (10 * size) (λ u. draw_update (drill_items size))
  queries ← draw_each 8 (λ r. draw_each size (λ q. draw_query (drill_items size)))
  gives (drill_of seed size items updates queries)

-- The deck of a drill, by the generator of its seed on stream 1.
unfoldable pub drill_deck : ℕ → ℕ → Deck
drill_deck seed size = (draw_deck seed size (generator seed 1)).0
