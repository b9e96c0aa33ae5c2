-- Descent is the closure of reads-from: a commit descends from itself, and from all commits from which the writers of what it
-- reads descend.
use Rattle.std.specs.Prelude.{ℕ, zero, suc, Bool, ◌==◌, ◌||◌, List}
use Rattle.std.specs.List.{list_any}
use Rattle.air_history.specs.declared.histories.Event.{Event}
use Rattle.air_history.specs.Places.{place_and}
use Rattle.air_history.specs.Histories.{reads, event_at, writer_before}

-- Whether place q is in the descent of place p, where n is at least p. Either q is p, or q is in the descent of the last writer
-- before p of an item that the commit at p reads.
unfoldable pub descends_in : ℕ → List Event → ℕ → ℕ → Bool
descends_in zero G p q = q == p
descends_in (suc n) G p q = (q == p) || list_any (λ item. place_and (writer_before G p item) (λ w. descends_in n G w q)) (reads (event_at G p))

-- Whether place q is in the descent of place p.
unfoldable pub descends : List Event → ℕ → ℕ → Bool
descends G p q = descends_in p G p q
