-- Small updates, and commits of them by updater 0.
use Rattle.std.specs.Prelude.{ℕ, List, [], ◌∷◌, Some, None, false}
use Rattle.air_history.specs.declared.updates.Write.{Write}
use Rattle.air_history.specs.declared.histories.Event.{Event}
use Rattle.air_history.specs.declared.histories.Event.TheVariants.{Commit}
use Rattle.air_history.specs.UpdateLists.{UpdateLists}

-- A write of a constant.
abbrev pub set_to : ℕ → ℕ → Write
set_to i v = record { item = i; base = None; minus = false; amount = v }

-- A write of a base plus an amount.
abbrev pub add_to : ℕ → ℕ → ℕ → Write
add_to i b v = record { item = i; base = Some b; minus = false; amount = v }

-- An update with one write.
abbrev pub update_of : List ℕ → Write → UpdateLists
update_of reads write = record { reads = reads; writes = write ∷ [] }

-- A commit of an update with one write.
abbrev pub commit : ℕ → List ℕ → Write → Event
commit seq reads write = Commit 0 seq (update_of reads write)
