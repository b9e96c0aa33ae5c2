-- Small lists, computed: whether a list continues another without commits of an updater, or without starts.
use Rattle.std.specs.Prelude.{ℕ, [], ◌∷◌, None, false, refl}
use Rattle.air_history.specs.declared.histories.Event.{Event}
use Rattle.air_history.specs.declared.histories.Event.TheVariants.{Commit, Start}
use Rattle.air_history.specs.Histories.{is_start}
use Rattle.air_model.specs.Decks.{is_by}
use Rattle.air_model.specs.Closings.{GoesOnWithout}

-- The updater's commit of a number.
abbrev commit : ℕ → ℕ → Event
commit by seq = Commit by seq (record { reads = []; writes = record { item = 0; base = None; minus = false; amount = 1 } ∷ [] })

pub record GoesOn : Type 0 where
  -- updater 0 saw its own commit; one of updater 1 and a start follow
  without_own : GoesOnWithout (is_by 0) (commit 0 0 ∷ []) (commit 0 0 ∷ commit 1 0 ∷ Start ∷ [])
  -- the conductor saw its start; commits follow
  without_starts : GoesOnWithout is_start (Start ∷ []) (Start ∷ commit 0 0 ∷ commit 1 0 ∷ [])
  -- nothing may follow
  nothing_more : GoesOnWithout is_start (Start ∷ []) (Start ∷ [])

pub goes_on : GoesOn
unfolding is_by is_start
goes_on = record {
  without_own = (commit 1 0 ∷ Start ∷ [], refl, refl);
  without_starts = (commit 0 0 ∷ commit 1 0 ∷ [], refl, refl);
  nothing_more = ([], refl, refl);
}
