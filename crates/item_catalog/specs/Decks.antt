-- The deck that declarations spell, in any order among the tags.
use Rattle.std.specs.Prelude.{◌+◌, ◌*◌, ℕ, List, [], ◌∷◌, map, length, unwrap_or}
use Rattle.std.specs.List.{range_with_len}
use Rattle.air_model.specs.Decks.{Deck, Item, Replan}
use Rattle.air_model.specs.Disks.{DiskSpec}
use Rattle.item_catalog.specs.Declarations.{Declaration}
use Rattle.item_catalog.specs.Parts.{ReplanSaid, items_in, disk_parts_in, replans_in, updates_in, updaters_in, readers_in, queries_in, script_in, set_in}
use Rattle.item_catalog.specs.Settings.{settings_in, number_in}
use Rattle.item_catalog.specs.declared.parts.ItemPart.{ItemPart}
use Rattle.item_catalog.specs.declared.parts.DiskPart.{DiskPart}
use Rattle.item_catalog.specs.declared.deck.draft.settings.Name.TheVariants.{Delta}

-- What a function gives for each number below n, in order.
abbrev pub for_each : {A : Type 0} → ℕ → (ℕ → A) → List A
for_each n f = map f (range_with_len 0 n)

-- An item of the catalog.
abbrev pub plain_item : ItemPart → Item
plain_item item = record { value = item.value; rate = item.rate }

-- Disks with their frequencies. `-` stands for one more than delta times the number of disks after this one, so each such disk
-- is aired delta more often than the next.
abbrev pub with_freqs : ℕ → List DiskPart → List DiskSpec
with_freqs delta [] = []
with_freqs delta (disk ∷ disks) =
    record { size = disk.size; freq = unwrap_or disk.freq (length disks * delta + 1) } ∷ with_freqs delta disks

-- A replan, whose disks have their frequencies from delta and their own number.
abbrev pub plain_replan : ℕ → ReplanSaid → Replan
plain_replan delta replan = record { cycle = replan.cycle; disks = with_freqs delta replan.disks }

-- The deck: each updater and each reader has a list of its own, and delta is taken from all the declarations.
abbrev pub deck_of : List Declaration → Deck
deck_of declarations = record {
  items = map plain_item (items_in declarations);
  disks = with_freqs (number_in Delta (set_in declarations)) (disk_parts_in declarations);
  replans = map (plain_replan (number_in Delta (set_in declarations))) (replans_in declarations);
  updates = for_each (updaters_in declarations) (updates_in declarations);
  readers = readers_in declarations;
  queries = for_each (length (readers_in declarations)) (queries_in declarations);
  script = script_in declarations;
  settings = settings_in (set_in declarations);
}
