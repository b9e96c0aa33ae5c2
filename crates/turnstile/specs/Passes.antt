-- A pass as clauses see it: its turnstile, the numbers that it stands for, and what it has seen. Clauses of crates above use
-- only these definitions and those of `PassEntries`.
use Rattle.std.specs.Prelude.{ℕ, List, [], ◌∷◌, ◌++◌, Option, Some, None}
use Rattle.atomic_table.specs.Seated.{TableId}
use Rattle.turnstile.specs.PassEntries.{longer}

-- What identifies a turnstile.
abbrev pub TurnstileId : Type 0
TurnstileId = TableId

-- Each entry is an E with the number of its pass; the base is a B.
pub record TurnstilePass (E B : Type 0) : Type 0 where
  -- The turnstile of the pass.
  pub turnstile : TurnstileId
  -- How many passes that turnstile was made with.
  pub passes : ℕ
  -- The base of the turnstile's value; each pass that a call gives has one.
  pub base : Option B
  -- The numbers that the pass stands for.
  pub numbers : List ℕ
  -- The list that the pass has seen.
  pub seen : List (ℕ × E)
  -- During a turn, the list of the value as it was given; None outside.
  pub turn : Option (List (ℕ × E))

module _ {E B : Type 0} where
  -- A new pass of the number k.
  abbrev pub newcomer : TurnstileId → ℕ → B → List (ℕ × E) → ℕ → TurnstilePass E B
  newcomer g n b es k = record { turnstile = g; passes = n; base = Some b; numbers = k ∷ []; seen = es; turn = None }

  -- The pass after it was given a value with this list.
  abbrev pub after_enter : TurnstilePass E B → List (ℕ × E) → TurnstilePass E B
  after_enter p es = record p { turn = Some es }

  -- The pass after it put back a value with this list.
  abbrev pub after_leave : TurnstilePass E B → List (ℕ × E) → TurnstilePass E B
  after_leave p es = record p { seen = es; turn = None }

  -- The pass that stands for the numbers of both, and has seen the longer list.
  abbrev pub after_join : TurnstilePass E B → TurnstilePass E B → TurnstilePass E B
  after_join p q = record p { numbers = p.numbers ++ q.numbers; seen = longer p.seen q.seen }
