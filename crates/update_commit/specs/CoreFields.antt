-- What contracts see of the fields of a core, and what always holds of them.
use Rattle.std.specs.Prelude.{◌≡◌, ℕ, ◌<◌, ◌≤◌, ◌-◌, length, get_or, drop, All, vec_capacity}
use Rattle.air_history.specs.Histories.{starts, since_start, EventFits}
use Rattle.air_history.specs.Tables.{table, values_of}
use Rattle.air_model.specs.Decks.{count_made}
use Rattle.update_commit.specs.declared.cores.Core.TheInside.{Inside}
use Rattle.update_commit.specs.CoreStates.{CoreState}

-- The core that the fields hold.
abbrev pub core_in : Inside → CoreState
core_in c = record {
  events = c.events.items;
  values = c.first_values.items;
  updaters = length c.made.items;
  spare = vec_capacity c.events - length c.events.items;
}

-- Values, counts and cycle are those after the events; the mark is where the events after the last start begin; each event
-- fits.
pub record IsCore (c : Inside) : Type 0 where
  pub sized : length c.values.items ≡ length c.first_values.items
  pub values : (i : ℕ) → get_or c.values.items i 0 ≡ table (values_of c.first_values.items) c.events.items i
  pub made : (by : ℕ) → by < length c.made.items → get_or c.made.items by 0 ≡ count_made by c.events.items
  pub cycle : c.cycle ≡ starts c.events.items
  pub marked : c.fresh_from ≤ length c.events.items
  pub fresh : drop c.fresh_from c.events.items ≡ since_start c.events.items
  pub fits : All (EventFits (length c.made.items) (length c.first_values.items)) c.events.items
