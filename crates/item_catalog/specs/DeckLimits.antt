-- The limits of a deck in the grammar, in addition to what makes it well made (`IsDeck`).
use Rattle.std.specs.Prelude.{ℕ, ◌^◌, ◌<◌, ◌≤◌, length, All, sum_by}
use Rattle.air_base.specs.declared.limits.TheConstants.{MOST_AGE, MOST_ASKED, MOST_CYCLES, MOST_DISKS, MOST_EVENTS, MOST_FREQ, MOST_HEARS, MOST_MONITORS, MOST_QUERIES, MOST_RATE, MOST_READERS, MOST_ROOM, MOST_GROUP, MOST_SHARE, MOST_SIZE, MOST_STARTS, MOST_TRIES, MOST_UPDATERS, MOST_UPDATES}
use Rattle.air_model.specs.declared.deck.ReaderPlan.{ReaderPlan}
use Rattle.air_model.specs.declared.deck.Settings.{Settings}
use Rattle.air_model.specs.Disks.{DiskSpec}
use Rattle.air_model.specs.Decks.{Deck, Replan}
use Rattle.std.specs.Prelude.{Option, Some, None, Bool, true, false, count_by}

-- A disk is within the most items of a disk, and a cycle airs each of them no more often than the limit says.
pub record DiskWithin (d : DiskSpec) : Type 0 where
  pub size : d.size ≤ MOST_SIZE
  pub freq : d.freq ≤ MOST_FREQ

-- A replan is within the most disks, and each disk is within its limits.
pub record ReplanWithin (r : Replan) : Type 0 where
  pub disks : length r.disks ≤ MOST_DISKS
  pub disk : All DiskWithin r.disks

-- A reader is within the most copies that it keeps, the most cycles after which they are too old, and the most tries.
pub record ReaderWithin (r : ReaderPlan) : Type 0 where
  pub room : r.room ≤ MOST_ROOM
  pub age : r.age ≤ MOST_AGE
  pub tries : r.tries ≤ MOST_TRIES

-- Each setting is in its range.
pub record SettingsWithin (s : Settings) : Type 0 where
  pub group : s.group ≤ MOST_GROUP
  pub cycles : s.cycles ≤ MOST_CYCLES
  pub seed : s.seed < 2 ^ 64
  pub loss : s.loss ≤ MOST_SHARE
  pub again : s.again ≤ MOST_SHARE
  pub late : s.late ≤ MOST_SHARE
  pub monitors : s.monitors ≤ MOST_MONITORS
  pub some_hears : 1 ≤ s.hears
  pub hears : s.hears ≤ MOST_HEARS

-- Whether the script lists a start here.
abbrev pub is_scripted_start : Option ℕ → Bool
is_scripted_start None = true
is_scripted_start (Some by) = false

-- The number of cycles that the script starts.
abbrev pub script_starts : Deck → ℕ
script_starts deck = count_by is_scripted_start deck.script

-- A deck is within the limits of the grammar.
pub record WithinLimits (deck : Deck) : Type 0 where
  pub rates : All (λ i. i.rate ≤ MOST_RATE) deck.items
  pub disks : length deck.disks ≤ MOST_DISKS
  pub disk : All DiskWithin deck.disks
  pub replans : All ReplanWithin deck.replans
  pub updaters : length deck.updates ≤ MOST_UPDATERS
  pub updates : sum_by length deck.updates ≤ MOST_UPDATES
  pub readers : length deck.readers ≤ MOST_READERS
  pub reader : All ReaderWithin deck.readers
  pub queries : sum_by length deck.queries ≤ MOST_QUERIES
  pub query : All (All (λ items. length items ≤ MOST_ASKED)) deck.queries
  pub script : length deck.script ≤ MOST_EVENTS
  pub starts : script_starts deck ≤ MOST_STARTS
  pub settings : SettingsWithin deck.settings
