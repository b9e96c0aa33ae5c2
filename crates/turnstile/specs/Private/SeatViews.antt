-- For private steps only. Views: what the rule knows of each seat, and how the steps change them.
use Rattle.std.specs.Prelude.{ℕ, zero, suc, ◌+◌, ◌==◌, cond, List, [], ◌∷◌, ◌++◌, length, take, drop, Option, Some, None}
use Rattle.turnstile.specs.declared.views.Sight.{Sight}
use Rattle.turnstile.specs.declared.views.View.{View}
use Rattle.turnstile.specs.PassEntries.{longer}

-- How often the list has the number.
abbrev pub times : ℕ → List ℕ → ℕ
times n [] = 0
times n (m ∷ ms) = cond (n == m) 1 0 + times n ms

-- n numbers, from k on.
abbrev pub numbers_from : ℕ → ℕ → List ℕ
numbers_from k zero = []
numbers_from k (suc n) = k ∷ numbers_from (suc k) n

-- 1 if there is a ticket, otherwise 0.
abbrev pub ticket_count : Option ℕ → ℕ
ticket_count None = 0
ticket_count (Some t) = 1

-- The entries that a pass has seen, with the numbers that it stands for.
abbrev pub sight : {E : Type 0} → List (ℕ × E) → List ℕ → Sight E
sight es ns = record { entries = es; numbers = ns }

module _ {E B : Type 0} where
  -- 1 if the pass has a ticket, otherwise 0.
  abbrev pub waits : View E B → ℕ
  waits v = ticket_count v.ticket

  -- How many numbers the pass stands for.
  abbrev pub share : View E B → ℕ
  share v = length v.sight.numbers

  -- A pass outside.
  abbrev pub idle : ℕ → Option B → Sight E → View E B
  idle n b s = record { ticket = None; passes = n; base = b; sight = s; noted = None; old = [] }

  -- The first pass, which stands for every number.
  abbrev pub first : List (ℕ × E) → B → ℕ → View E B
  first es b n = idle n (Some b) (sight es (numbers_from 0 n))

  -- The value was given back, and its list was seen.
  abbrev pub give_back : View E B → List (ℕ × E) → View E B
  give_back v es = record v { ticket = None; noted = None; sight = sight es v.sight.numbers }

  -- The view with these numbers in place of its own.
  abbrev pub with_numbers : View E B → List ℕ → View E B
  with_numbers v ns = record v { sight = sight v.sight.entries ns }

  -- The view without its first number.
  abbrev pub without_one : View E B → View E B
  without_one v = with_numbers v (drop 1 v.sight.numbers)

  -- The view with only its first number.
  abbrev pub with_one : View E B → View E B
  with_one v = with_numbers v (take 1 v.sight.numbers)

  -- The view with the numbers of both and the longer of both lists. It keeps both lists, each with its numbers, until the next
  -- load.
  abbrev pub union_of : View E B → View E B → View E B
  union_of v w = record v { sight = sight (longer v.sight.entries w.sight.entries) (v.sight.numbers ++ w.sight.numbers); old = v.sight ∷ w.sight ∷ [] }

  -- What is left of a pass that another took in.
  abbrev pub spent_view : View E B
  spent_view = idle 0 None (sight [] [])
