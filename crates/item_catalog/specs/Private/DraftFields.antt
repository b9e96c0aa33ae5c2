-- For private steps only. What contracts see of a deck while it is read, and what always holds of its fields.
use Rattle.std.specs.Prelude.{◌≡◌, ◌≤◌, length, All}
use Rattle.air_base.specs.declared.limits.TheConstants.{MOST_DISKS, MOST_ITEMS, MOST_QUERIES, MOST_READERS, MOST_REPLANS, MOST_UPDATERS, MOST_UPDATES}
use Rattle.item_catalog.specs.Private.Drafts.{DraftValue}
use Rattle.item_catalog.specs.declared.deck.draft.Draft.TheInside.{Inside}

-- What the fields of a draft have.
abbrev pub draft_seen : Inside → DraftValue
draft_seen d = record {
  items = d.items.items;
  disks = d.disks.items;
  replans = d.replans.items;
  last_replan_cycle = d.last_replan_cycle;
  updates = d.updates.items;
  updaters = d.updaters;
  update_count = d.update_count;
  readers = d.readers.items;
  queries = d.queries.items;
  query_count = d.query_count;
  script = d.script;
  set = d.set.items;
}

-- What always holds of the fields of a draft: the limits, and that there is a list for each updater and each reader that there
-- can be.
pub record DraftKept (d : Inside) : Type 0 where
  pub items : length d.items.items ≤ MOST_ITEMS
  pub disks : length d.disks.items ≤ MOST_DISKS
  pub replans : length d.replans.items ≤ MOST_REPLANS
  pub replan : All (λ r. length r.disks ≤ MOST_DISKS) d.replans.items
  pub updates : length d.updates.items ≡ MOST_UPDATERS
  pub updaters : d.updaters ≤ MOST_UPDATERS
  pub update_count : d.update_count ≤ MOST_UPDATES
  pub readers : length d.readers.items ≤ MOST_READERS
  pub queries : length d.queries.items ≡ MOST_READERS
  pub query_count : d.query_count ≤ MOST_QUERIES
