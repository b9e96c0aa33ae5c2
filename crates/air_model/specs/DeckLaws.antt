-- The definitions of two kinds of laws: what legal and whole histories are, updater by updater (`legal_law` and `whole_law` of
-- `deck`), and that their rows determine them (`one_rows_law`).
use Rattle.std.specs.Prelude.{ℕ, suc, ◌^◌, ◌≤◌, List, [], ◌∷◌, length}
use Rattle.std.specs.List.{filter}
use Rattle.air_history.specs.declared.histories.Event.{Event}
use Rattle.air_history.specs.declared.histories.Event.TheVariants.{Commit}
use Rattle.air_history.specs.UpdateLists.{UpdateLists}
use Rattle.air_model.specs.Decks.{Deck, is_by, updates_by}

-- The commits of an updater, in order.
unfoldable pub made_by : ℕ → List Event → List Event
made_by by H = filter (is_by by) H

-- The commits that an updater makes of these updates in order, numbered from `seq` on.
unfoldable pub commits_from : ℕ → ℕ → List UpdateLists → List Event
commits_from by seq [] = []
commits_from by seq (u ∷ us) = Commit by seq u ∷ commits_from by (suc seq) us

-- The numbers of updaters and of their updates are below 2^64, as `number_text` writes them.
pub record HasNumbers (deck : Deck) : Type 0 where
  pub updaters : length deck.updates ≤ 2 ^ 64
  pub updates : (by : ℕ) → length (updates_by deck by) ≤ 2 ^ 64
