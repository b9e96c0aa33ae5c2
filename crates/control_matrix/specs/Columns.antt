-- Columns one after another in one flat list, and how a commit changes them.
use Rattle.std.specs.Prelude.{ℕ, ◌*◌, cond, List, [], get_or, map, take, drop}
use Rattle.std.specs.List.{range_with_len}
use Rattle.air_history.specs.declared.histories.Event.{Event}
use Rattle.air_history.specs.Places.{greatest_of}
use Rattle.air_history.specs.Histories.{writes, reads}

-- The column of item j in a flat list: n entries after those of the j items before it.
abbrev pub column_in : ℕ → List ℕ → ℕ → List ℕ
column_in n entries j = take n (drop (j * n) entries)

-- The columns of all n items in a flat list.
abbrev pub columns_in : ℕ → List ℕ → List (List ℕ)
columns_in n entries = map (column_in n entries) (range_with_len 0 n)

-- Entry i of the column of item j; 0 if there is none.
abbrev pub entry_in_columns : List (List ℕ) → ℕ → ℕ → ℕ
entry_in_columns columns j i = get_or (get_or columns j []) i 0

-- Entry i of the column that an event in a cycle writes: the cycle if the event writes item i, otherwise the greatest entry of
-- i in a column that it reads.
abbrev pub written_entry : ℕ → List (List ℕ) → Event → ℕ → ℕ
written_entry cycle columns e i = cond (writes e i) cycle (greatest_of (λ r. entry_in_columns columns r i) (reads e))

-- The column of item j after the event: the one that the event writes if it writes j, otherwise the old one.
abbrev pub next_column : ℕ → ℕ → List (List ℕ) → Event → ℕ → List ℕ
next_column n cycle columns e j = cond (writes e j) (map (written_entry cycle columns e) (range_with_len 0 n)) (get_or columns j [])

-- The columns of all n items after the event.
abbrev pub next_columns : ℕ → ℕ → List (List ℕ) → Event → List (List ℕ)
next_columns n cycle columns e = map (next_column n cycle columns e) (range_with_len 0 n)
