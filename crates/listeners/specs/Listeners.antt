-- What contracts see of a listener, and what becomes of it as it hears: so a deck's readers hear one tape together.
use Rattle.std.specs.Prelude.{◌≡◌, ℕ, false, List, [], ◌∷◌, Option, Result, Ok, Err, length, map}
use Rattle.std.specs.List.{range_with_len}
use Rattle.air_model.specs.declared.bucket.BucketFault.{BucketFault}
use Rattle.air_model.specs.Aired.{Air, air_of, fits}
use Rattle.air_model.specs.Buckets.{Bucket}
use Rattle.air_model.specs.Decks.{Deck}
use Rattle.air_model.specs.Judges.{Judge, by_entries}
use Rattle.air_model.specs.Sessions.{Reader, State, count_foreign, count_refused, end, hear, reader_of, settle, start}

-- A listener has the number of its reader, what all receivers know, its plan and queries, and its state with every line up
-- to now, those that it has handed out among them.
pub record Listener : Type 0 where
  pub number : ℕ
  pub air : Air
  pub reader : Reader
  pub state : State

-- The deck's reader of a number, before it hears anything.
abbrev pub listener_of : Deck → ℕ → Listener
listener_of deck r = record { number = r; air = air_of deck; reader = reader_of deck r; state = start }

-- A listener judges by the entries that it hears.
abbrev pub judge_of : Listener → Judge
judge_of l = by_entries l.air.scheme

-- One more member is heard: the listener settles, and hears it.
unfoldable pub hears_one : Option Bucket → Listener → Listener
hears_one member l = record l { state = hear (judge_of l) l.air l.reader member (settle (judge_of l) l.air l.reader l.state) }

-- What was read of heard bytes changes no attempt if it is a fault, or a bucket that doesn't fit: except for the count of that name
-- the listener is as it was when it had settled.
abbrev pub ChangesNoAttempt : Result Bucket BucketFault → Listener → Listener → Type 0
ChangesNoAttempt (Err fault) before now = now ≡ record before { state = count_refused (settle (judge_of before) before.air before.reader before.state) }
ChangesNoAttempt (Ok b) before now =
    fits before.air b ≡ false → now ≡ record before { state = count_foreign (settle (judge_of before) before.air before.reader before.state) }

-- These members are heard, one after another.
unfoldable pub hears : List (Option Bucket) → Listener → Listener
hears [] l = l
hears (member ∷ members) l = hears members (hears_one member l)

-- The state of its session, where that ends here: the listener settles, and what is left stays unfinished.
unfoldable pub end_state : Listener → State
end_state l = end (judge_of l) l.air l.reader (settle (judge_of l) l.air l.reader l.state)

-- Each listener has the number of its place.
abbrev pub AreNumbered : List Listener → Type 0
AreNumbered ls = map (λ l. l.number) ls ≡ range_with_len 0 (length ls)
