-- The plain deck: what its records say, in any order; the histories that keep to it; its script's history. The laws of `deck`
-- say what legal histories are by updater, and that the script's history is legal.
use Rattle.std.specs.Prelude.{◌≡◌, ◌⊎◌, ℕ, zero, suc, ◌+◌, ◌^◌, ◌<◌, ◌≤◌, Bool, false, ◌==◌, nat_le, List, [], length, map, take, get_or, count_by, sum_by, slice_get, All, AllPairs, Option, Some, None}
use Rattle.std.specs.List.{range_with_len}
use Rattle.std.specs.Option.{option_map_or}
use Rattle.air_base.specs.declared.limits.TheConstants.{MOST_CYCLES, MOST_GROUP, MOST_REPLANS}
use Rattle.air_base.specs.declared.verdicts.Policy.TheVariants.{FMatrix}
use Rattle.air_history.specs.declared.histories.Event.{Event}
use Rattle.air_history.specs.declared.histories.Event.TheVariants.{Commit, Start}
use Rattle.air_history.specs.UpdateLists.{UpdateLists}
use Rattle.air_history.specs.UpdateRules.{KeepsRules, UpdateFits, has_repeat}
use Rattle.air_history.specs.Histories.{starts}
use Rattle.air_model.specs.declared.deck.ReaderPlan.{ReaderPlan}
use Rattle.air_model.specs.declared.deck.Settings.{Settings}
use Rattle.air_model.specs.Buckets.{most_count}
use Rattle.air_model.specs.Disks.{Disk, DiskSpec, cut, order}

-- An item of the catalog: its first value and its rate.
pub record Item : Type 0 where
  pub value : ℕ
  pub rate : ℕ

-- A replan: the cycle from which on it is in force, and its disks.
pub record Replan : Type 0 where
  pub cycle : ℕ
  pub disks : List DiskSpec

-- A deck: items, disks and replans, the updates of each updater, the readers and the queries of each, the script, which lists
-- starts and numbers of updaters, and the settings.
pub record Deck : Type 0 where
  pub items : List Item
  pub disks : List DiskSpec
  pub replans : List Replan
  pub updates : List (List UpdateLists)
  pub readers : List ReaderPlan
  pub queries : List (List (List ℕ))
  pub script : List (Option ℕ)
  pub settings : Settings

-- The catalog's values, item by item.
abbrev pub values_in : Deck → List ℕ
values_in deck = map (λ i. i.value) deck.items

-- The rates, item by item.
abbrev pub rates_in : Deck → List ℕ
rates_in deck = map (λ i. i.rate) deck.items

-- ---- editions

-- The edition of a cycle is the number of replans whose cycle is at most this one; edition 0 has the deck's own disks.
abbrev pub edition : Deck → ℕ → ℕ
edition deck c = count_by (λ r. nat_le r.cycle c) deck.replans

-- The number of editions, which is one more than the number of replans.
abbrev pub count_editions : Deck → ℕ
count_editions deck = length deck.replans + 1

-- Stands for a replan that a deck doesn't have: it has no disk.
abbrev pub no_replan : Replan
no_replan = record { cycle = 0; disks = [] }

-- The disks of an edition, as the deck gives them.
abbrev pub specs_in : Deck → ℕ → List DiskSpec
specs_in deck zero = deck.disks
specs_in deck (suc k) = (get_or deck.replans k no_replan).disks

-- The disks of an edition with their items, which are cut from the order of the items.
abbrev pub disks_in : Deck → ℕ → List Disk
disks_in deck e = cut (order (rates_in deck)) (specs_in deck e)

-- ---- updates

-- The updates of an updater, in the order in which it commits them.
abbrev pub updates_by : Deck → ℕ → List UpdateLists
updates_by deck by = get_or deck.updates by []

-- ---- histories that keep to the deck

-- Whether the event is a commit of the updater.
unfoldable pub is_by : ℕ → Event → Bool
is_by by (Commit who seq update) = who == by
is_by by Start = false

-- The number of commits of an updater.
abbrev pub count_made : ℕ → List Event → ℕ
count_made by H = count_by (is_by by) H

-- A commit is its updater's next after the events before it: its number is the number of the updater's commits among these, and
-- its update is the deck's update of that number.
pub record IsNextCommit (deck : Deck) (before : List Event) (by seq : ℕ) (update : UpdateLists) : Type 0 where
  pub number : seq ≡ count_made by before
  pub given : slice_get (updates_by deck by) seq ≡ Some update

-- A history is legal for the deck if each of its commits is its updater's next.
abbrev pub IsLegal : Deck → List Event → Type 0
IsLegal deck H = (p by seq : ℕ) (update : UpdateLists) → slice_get H p ≡ Some (Commit by seq update) → IsNextCommit deck (take p H) by seq update

-- A history is whole for the deck if it is legal and has all of the deck's updates and cycles.
pub record IsWhole (deck : Deck) (H : List Event) : Type 0 where
  pub legal : IsLegal deck H
  pub all : (by : ℕ) → count_made by H ≡ length (updates_by deck by)
  pub cycles : starts H ≡ deck.settings.cycles

-- ---- the script

-- How many commits of an updater a script lists: each is listed as the updater's number.
abbrev pub scripted_commits : ℕ → List (Option ℕ) → ℕ
scripted_commits by script = count_by (λ event. option_map_or (λ who. who == by) event false) script

-- The deck's update of a number, for a number that it has.
abbrev pub update_at : Deck → ℕ → ℕ → UpdateLists
update_at deck by seq = get_or (updates_by deck by) seq (record { reads = []; writes = [] })

-- The event that a script lists after what it lists before: a start, or the updater's next commit.
unfoldable pub event_of : Deck → List (Option ℕ) → Option ℕ → Event
event_of deck before None = Start
event_of deck before (Some by) = Commit by (scripted_commits by before) (update_at deck by (scripted_commits by before))

-- The script's history: the events that the script lists, in order.
unfoldable pub script_history : Deck → List Event
script_history deck = map (λ k. event_of deck (take k deck.script) (get_or deck.script k None)) (range_with_len 0 (length deck.script))

-- The script commits no more updates of an updater than the deck has.
abbrev pub ScriptFits : Deck → Type 0
ScriptFits deck = (by : ℕ) → scripted_commits by deck.script ≤ length (updates_by deck by)

-- ---- what holds of a deck in the grammar

-- An update keeps the rules of updates, its items are below n, and its amounts are numbers of 64 bits.
pub record IsUpdate (n : ℕ) (u : UpdateLists) : Type 0 where
  pub rules : KeepsRules u
  pub fits : UpdateFits n u
  pub amounts : All (λ w. w.amount < 2 ^ 64) u.writes

-- A query has items, they are distinct, and they are below n.
pub record IsQuery (n : ℕ) (items : List ℕ) : Type 0 where
  pub filled : 0 < length items
  pub distinct : has_repeat items ≡ false
  pub within : All (λ i. i < n) items

-- A deck is well made if all this holds. It has items, at most as many as its version takes, with values of 64 bits. A group has
-- at most 1,024 items, and only under F-Matrix are there groups. The disks of each edition take all items, and each disk is
-- aired. There are few replans, which come into force one after another, from cycle 2 on and within the cycles of the longest
-- run. Updates, readers, queries and script are valid.
pub record IsDeck (deck : Deck) : Type 0 where
  pub some : 0 < length deck.items
  pub version : (deck.settings.version ≡ 1) ⊎ (deck.settings.version ≡ 2)
  pub most : length deck.items ≤ most_count deck.settings.version
  pub group : deck.settings.group ≤ MOST_GROUP
  pub grouped : (deck.settings.policy ≡ FMatrix) ⊎ (deck.settings.group ≡ 0)
  pub values : All (λ i. i.value < 2 ^ 64) deck.items
  pub sizes : (e : ℕ) → e < count_editions deck → sum_by (λ d. d.size) (specs_in deck e) ≡ length deck.items
  pub aired : (e : ℕ) → e < count_editions deck → All (λ d. (0 < d.size) × (0 < d.freq)) (specs_in deck e)
  pub few : length deck.replans ≤ MOST_REPLANS
  pub from_two : All (λ r. 2 ≤ r.cycle) deck.replans
  pub within_a_run : All (λ r. r.cycle ≤ MOST_CYCLES) deck.replans
  pub rising : AllPairs (λ a b. a.cycle < b.cycle) deck.replans
  pub updates : All (All (IsUpdate (length deck.items))) deck.updates
  pub readers : length deck.queries ≡ length deck.readers
  pub tries : All (λ r. 1 ≤ r.tries) deck.readers
  pub queries : All (All (IsQuery (length deck.items))) deck.queries
  pub script : ScriptFits deck
