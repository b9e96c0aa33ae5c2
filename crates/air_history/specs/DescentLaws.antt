-- The definitions of the law that a descent is the least closed set, `descent_law`.
use Rattle.std.specs.Prelude.{◌≡◌, ℕ, ◌<◌, Bool, List, length, get_or, Some, IsTrue}
use Rattle.air_history.specs.declared.histories.Event.{Event}
use Rattle.air_history.specs.Histories.{reads, event_at, writer_before}

-- The commit at place p reads an item whose last writer before p is at place w.
pub record ReadsFrom (G : List Event) (p w : ℕ) : Type 0 where
  pub nth : ℕ
  pub within : nth < length (reads (event_at G p))
  pub wrote : writer_before G p (get_or (reads (event_at G p)) nth 0) ≡ Some w

-- With each of its places the set holds each place from which that place reads.
abbrev pub IsClosed : List Event → (ℕ → Bool) → Type 0
IsClosed G S = (p w : ℕ) → IsTrue (S p) → ReadsFrom G p w → IsTrue (S w)
