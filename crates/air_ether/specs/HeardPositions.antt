-- The cursor's position in the heard list. The list goes due number by due number, at each through the places in order, and has
-- each place as often as it is heard.
use Rattle.std.specs.Prelude.{◌≡◌, ℕ, ◌+◌, ◌-◌, ◌*◌, ◌<◌, ◌≤◌, ◌==◌, if◌then◌else◌, List, [], length, replicate, flat_map}
use Rattle.std.specs.List.{range_with_len}
use Rattle.air_ether.specs.declared.cursor.Cursor.{Cursor}
use Rattle.air_ether.specs.KeptPushes.{Push, push_in, times_due}

-- How often the push at the cursor is heard there.
abbrev pub times_heard_at : List Push → Cursor → ℕ
times_heard_at queue c = times_due (push_in queue c.place) c.number

-- The cursor is between the pushes that are kept and the limit; at the limit it is at the start of its number.
pub record InWindow (pushes limit : ℕ) (queue : List Push) (c : Cursor) : Type 0 where
  pub number : c.number ≤ limit
  pub new : pushes ≤ c.number + 1
  pub from : c.number ≤ c.place + 8
  pub to : c.place ≤ c.number + 1
  pub place : c.place ≤ pushes
  pub given : c.place < pushes → c.given ≤ times_heard_at queue c
  pub none : pushes ≤ c.place → c.given ≡ 0
  pub at_start : c.number ≡ limit → c.place ≡ c.number - 8
  pub first : c.number ≡ limit → c.given ≡ 0

-- What is heard of the push at a place with this due number.
abbrev pub of_push : (ℕ → ℕ) → (ℕ → ℕ) → ℕ → ℕ → List ℕ
of_push due times number place = if due place == number then replicate (times place) place else []

-- What is heard of the first n pushes with this due number.
unfoldable pub heard_at : (ℕ → ℕ) → (ℕ → ℕ) → ℕ → ℕ → List ℕ
heard_at due times number n = flat_map (of_push due times number) (range_with_len 0 n)

-- What is heard of n pushes before a due number.
unfoldable pub before : (ℕ → ℕ) → (ℕ → ℕ) → ℕ → ℕ → List ℕ
before due times n number = flat_map (λ d. heard_at due times d n) (range_with_len 0 number)

-- How many members of the heard list of n pushes are before the cursor.
abbrev pub position : (ℕ → ℕ) → (ℕ → ℕ) → ℕ → Cursor → ℕ
position due times n c = length (before due times n c.number) + length (heard_at due times c.number c.place) + c.given

-- A bound on what is heard from the cursor on with due numbers below the limit. It falls with each bucket that is given.
abbrev pub left_at : ℕ → Cursor → ℕ
left_at limit c = ((limit - c.number) * 10 + (c.number + 1 - c.place)) * 3 + (2 - c.given)
