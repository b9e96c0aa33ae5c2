-- What contracts see of the fields of a publisher, and what holds of them between calls.
use Rattle.std.specs.Prelude.{◌≡◌, [], drop, Some}
use Rattle.left_right.specs.Sides.{view}
use Rattle.cycle_snapshot.specs.declared.board_sides.BoardSide.{BoardSide}
use Rattle.cycle_snapshot.specs.declared.publishers.Publisher.TheInside.{Inside}
use Rattle.cycle_snapshot.specs.BookRule.{batch_counter}
use Rattle.cycle_snapshot.specs.SideRule.{IsPublished}
use Rattle.cycle_snapshot.specs.SnapshotStates.{PublisherState}

-- The publisher that shows the side.
abbrev pub publisher_of : BoardSide → PublisherState
publisher_of x = record { id = x.list.publisher; values = x.values; most = x.most; batches = x.list.batches }

-- The publisher that the fields hold.
abbrev pub publisher_in : Inside → PublisherState
publisher_in p = publisher_of p.writer.desk.shown.value

-- The publisher's view is the side that it shows, its list is that side's, nothing is pending, and it has the word that counts
-- its list.
pub record IsPublisher (p : Inside) : Type 0 where
  pub sees : view p.writer.desk.place ≡ Some p.writer.desk.shown.value
  pub list : p.writer.desk.shown.value.list ≡ p.list
  pub none : drop p.writer.behind p.writer.log.items ≡ []
  pub head : p.head ≡ batch_counter p.list.publisher
  pub shown : IsPublished p.writer.desk.shown.value
