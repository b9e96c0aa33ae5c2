-- The rule of the two sides, and what a step of a monitor or of the publisher tells. A view is the side that was seen last.
use Rattle.std.specs.Prelude.{◌≡◌, ℕ, ◌≤◌, ◌<◌, ◌-◌, ◌^◌, List, [], ◌∷◌, ◌++◌, length, Option, Some, None, All}
use mathlib.Core.Option.{some}
use mathlib.Core.List.{IsPrefix}
use lib.ListN.{get_elem?}
use Rattle.air_history.specs.Boards.{Frame, board_of, frame_of}
use Rattle.air_history.specs.Tables.{BasesRead}
use Rattle.cycle_snapshot.specs.declared.board_sides.BoardSide.{BoardSide}
use Rattle.cycle_snapshot.specs.declared.board_sides.News.{News}
use Rattle.air_history.specs.Histories.{events_in}
use Rattle.cycle_snapshot.specs.Batches.{IsBatch}
use Rattle.cycle_snapshot.specs.Beginnings.{Beginning}

-- The board is that of the published batches, of which there are no more than the most.
pub record IsPublished (x : BoardSide) : Type 0 where
  pub board : x.board ≡ board_of x.values (events_in x.list.batches)
  pub few : length x.list.batches ≤ x.most
  pub most : x.most < 2 ^ 32 - 1
  pub batches : All (IsBatch (length x.values)) x.list.batches

-- The side y follows the side x, or is equal to it: it is of the same publisher, with the same values, and its list continues
-- x's.
pub record Follows (x y : BoardSide) : Type 0 where
  pub values : y.values ≡ x.values
  pub most : y.most ≡ x.most
  pub publisher : y.list.publisher ≡ x.list.publisher
  pub batches : IsPrefix x.list.batches y.list.batches

-- The side follows what a seat saw last, if the seat saw any.
abbrev pub Agrees : Option BoardSide → BoardSide → Type 0
Agrees None y = Unit {0}
Agrees (Some x) y = Follows x y

-- The rule: the shown side is valid, and follows what each seat saw.
abbrev pub Keeps : BoardSide → List (Option BoardSide) → Type 0
Keeps x views = IsPublished x × ((seat : ℕ) (v : Option BoardSide) → get_elem? views seat ≡ some v → Agrees v x)

-- The side y was seen, and follows what had been seen.
abbrev pub Sees : Option BoardSide → BoardSide → BoardSide → Option BoardSide → Type 0
Sees v x y w = (w ≡ Some y) × Agrees v y × IsPublished y

-- The frame of the side y was copied. The side's list continues the list before, and was given.
pub record HasCopied (y : BoardSide) (before : Beginning) (frame : Frame) (given : Beginning) : Type 0 where
  pub shown : IsPublished y
  pub told : IsPrefix before.batches y.list.batches
  pub kept : frame ≡ frame_of y.values (events_in y.list.batches)
  pub list : given ≡ y.list

-- The news is a batch for the side, with the list that ends with it, and there is room for it.
pub record IsNextNews (x : BoardSide) (news : News) : Type 0 where
  pub list : news.list ≡ record x.list { batches = x.list.batches ++ news.batch ∷ [] }
  pub items : news.items ≡ length x.values
  pub batch : IsBatch (length x.values) news.batch
  pub bases : All BasesRead news.batch
  pub room : length x.list.batches < x.most
