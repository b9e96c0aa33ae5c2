-- What an ether keeps of its last `KEPT` pushes: each is at its place modulo `KEPT`.
use Rattle.std.specs.Prelude.{◌≡◌, ℕ, ◌+◌, ◌%◌, ◌<◌, ◌≤◌, ◌==◌, if◌then◌else◌, List, [], take, get_or}
use Rattle.air_ether.specs.declared.waiting.TheConstants.{KEPT}
use Rattle.air_ether.specs.declared.waiting.QueuedPush.{QueuedPush}

-- What is kept of a push: its due number, how often it is heard, and its bytes.
pub record Push : Type 0 where
  pub due : ℕ
  pub times : ℕ
  pub bytes : List ℕ

-- What is kept if nothing was pushed.
abbrev pub nothing : Push
nothing = record { due = 0; times = 0; bytes = [] }

-- What is kept of a queued push.
abbrev pub push_of : QueuedPush → Push
push_of w = record { due = w.due; times = w.times; bytes = take w.len w.room.items }

-- How often a push is heard at a due number.
abbrev pub times_due : Push → ℕ → ℕ
times_due push number = if push.due == number then push.times else 0

-- What is kept of the push at a place.
abbrev pub push_in : List Push → ℕ → Push
push_in queue place = get_or queue (place % KEPT) nothing

-- The queue has the due number of each of the last `KEPT` pushes, and how often it is heard.
pub record Waits (due times : ℕ → ℕ) (pushes : ℕ) (queue : List Push) : Type 0 where
  pub low : (p : ℕ) → p ≤ due p
  pub high : (p : ℕ) → due p < p + KEPT
  pub due_kept : (p : ℕ) → p < pushes → pushes ≤ p + KEPT → (push_in queue p).due ≡ due p
  pub times_kept : (p : ℕ) → p < pushes → pushes ≤ p + KEPT → (push_in queue p).times ≡ times p
