-- A mast, as a call finds or leaves it. The trait `Mast` has this as its one ghost function, and every clause on a mast uses
-- it. None stands for what a form doesn't tell.
use Rattle.std.specs.Prelude.{◌≡◌, ℕ, List, [], ◌++◌, length, Option, Some, None, unwrap_or, ⊤}

-- The buckets that were sent and, if the end was sent, how many buckets had been sent at the first end.
pub record SentBuckets : Type 0 where
  pub buckets : List (List ℕ)
  pub ended : Option ℕ

-- What a mast tells of what it sent, how often its calls failed, and the port that it was aimed at, if it was aimed.
pub record MastState : Type 0 where
  pub told : Option SentBuckets
  pub faults : ℕ
  pub port : Option ℕ

-- Nothing was sent.
abbrev pub nothing_sent : SentBuckets
nothing_sent = record { buckets = []; ended = None }

-- A new mast that tells everything: it sent nothing, no call failed, and it wasn't aimed.
abbrev pub fresh_mast : MastState
fresh_mast = record { told = Some nothing_sent; faults = 0; port = None }

-- The state after these buckets were sent too.
abbrev pub with_buckets : List (List ℕ) → SentBuckets → SentBuckets
with_buckets more s = record s { buckets = s.buckets ++ more }

-- The state after the end was sent too.
abbrev pub with_end : SentBuckets → SentBuckets
with_end s = record s { ended = Some (unwrap_or s.ended (length s.buckets)) }

-- What was told is told again, changed by this function.
abbrev pub Changes : (SentBuckets → SentBuckets) → Option SentBuckets → Option SentBuckets → Type 0
Changes change None now = ⊤
Changes change (Some s) now = now ≡ Some (change s)
