-- What a search that waits for a record will tell at the end of the records that follow.
use Rattle.std.specs.Prelude.{◌<◌, ◌≤◌, ℕ, ◌^◌, List, drop, ⊤}
use Rattle.air_index.specs.Seeks.{sought_first, sought_index, sought_item}
use Rattle.air_index.specs.declared.sought.Sought.{Sought}
use Rattle.air_index.specs.declared.searches.Search.{Search}
use Rattle.air_index.specs.declared.searches.SearchStage.{SearchStage}
use Rattle.air_index.specs.declared.searches.SearchStage.TheVariants.{First, Index, Item, Nothing}

-- What is told of item i, where the record that is waited for is at place q, and these records begin with it.
unfoldable pub told_from : ℕ → ℕ → SearchStage → List (List ℕ) → Sought
told_from i q First records = sought_first i q records
told_from i q Index records = sought_index i q records
told_from i q (Item opens) records = sought_item i opens q records
told_from i q (Nothing answer) records = answer

-- A seeker has its item, and how far its search is.
pub record SeekerState : Type 0 where
  pub item : ℕ
  pub search : Search

-- What a search for item i tells, where these records follow: it skips some of them first.
abbrev pub told_after : ℕ → Search → List (List ℕ) → Sought
told_after i search records = told_from i search.place search.stage (drop search.skip records)

-- What a seeker tells where these records follow.
abbrev pub seeker_tells : SeekerState → List (List ℕ) → Sought
seeker_tells s records = told_after s.item s.search records

-- A place, and the number of opened records, are as small as the numbers of four bytes allow that were added so far.
unfoldable pub IsReached : ℕ → SearchStage → Type 0
IsReached q First = q < 2 ^ 32
IsReached q Index = q < 2 ^ 33
IsReached q (Item opens) = opens ≤ 2
IsReached q (Nothing answer) = ⊤

-- The place of a search is within reach.
abbrev pub IsInReach : Search → Type 0
IsInReach search = IsReached search.place search.stage
