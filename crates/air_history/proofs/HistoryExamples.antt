-- Small histories, computed: what the definitions say of them.
use Rattle.std.specs.Prelude.{◌≡◌, ℕ, ◌^◌, ◌-◌, List, [], ◌∷◌, ◌++◌, map, Some, None, true, false, refl}
use Rattle.std.specs.List.{range_with_len}
use Rattle.air_history.specs.declared.updates.Write.{Write}
use Rattle.air_history.specs.declared.updates.UpdateFault.TheVariants.{Limit, Repeated, BaseNotRead}
use Rattle.air_history.specs.declared.histories.Event.{Event}
use Rattle.air_history.specs.declared.histories.Event.TheVariants.{Commit, Start}
use Rattle.air_history.specs.UpdateRules.{has_repeat, update_fault}
use Rattle.air_history.specs.Places.{last_place, greatest}
use Rattle.air_history.specs.Histories.{is_start, reads, writes, writes_of, starts, cycle_at, front, since_start, writer_before, writer}
use Rattle.air_history.specs.Descents.{descends_in, descends}
use Rattle.air_history.specs.Columns.{column_entry, vector_entry, column, vector}
use Rattle.air_history.specs.Tables.{value_on_base, write_of, value_after, table, table_list}
use Rattle.air_history.specs.Boards.{reply_of, board_of, frame_of}

-- A write of a constant, a write of a base plus an amount, and one of a base minus an amount.
abbrev pub set_to : ℕ → ℕ → Write
set_to i v = record { item = i; base = None; minus = false; amount = v }

abbrev pub add_to : ℕ → ℕ → ℕ → Write
add_to i b v = record { item = i; base = Some b; minus = false; amount = v }

abbrev pub take_from : ℕ → ℕ → ℕ → Write
take_from i b v = record { item = i; base = Some b; minus = true; amount = v }

-- A commit of updater 0.
abbrev pub commit : ℕ → List ℕ → Write → Event
commit seq reads write = Commit 0 seq (record { reads = reads; writes = write ∷ [] })

-- Item 0 becomes 11, item 2 becomes item 0 plus 1, and item 1 becomes item 2 plus 1; all in cycle 1.
abbrev pub chain_history : List Event
chain_history = Start ∷ commit 0 [] (set_to 0 11) ∷ commit 1 (0 ∷ []) (add_to 2 0 1) ∷ commit 2 (2 ∷ []) (add_to 1 2 1) ∷ Start ∷ []

-- Then item 1 is written without a read, in cycle 2.
abbrev pub then_blind : List Event
then_blind = chain_history ++ commit 3 [] (set_to 1 5) ∷ Start ∷ []

-- The same chain before the first cycle.
abbrev pub before_all : List Event
before_all = commit 0 [] (set_to 0 11) ∷ commit 1 (0 ∷ []) (add_to 2 0 1) ∷ commit 2 (2 ∷ []) (add_to 1 2 1) ∷ Start ∷ Start ∷ []

-- Item 0 is raised by 1 in cycle 1, and again in cycle 2.
abbrev counter : List Event
counter = Start ∷ commit 0 (0 ∷ []) (add_to 0 0 1) ∷ Start ∷ commit 1 (0 ∷ []) (add_to 0 0 1) ∷ Start ∷ []

-- The items 0 and 1 exchange their values, after each was written.
abbrev exchange_history : List Event
exchange_history = Start ∷ commit 0 [] (set_to 0 7) ∷ commit 1 [] (set_to 1 8)
    ∷ Commit 0 2 (record { reads = 0 ∷ 1 ∷ []; writes = add_to 0 1 0 ∷ add_to 1 0 0 ∷ [] }) ∷ []

-- n writes, each of its own item.
abbrev writes_to : ℕ → List Write
writes_to n = map (λ i. set_to i 1) (range_with_len 0 n)

-- The catalog's values.
abbrev pub tens : List ℕ
tens = 10 ∷ 20 ∷ 30 ∷ []

pub record Rules : Type 0 where
  no_write : update_fault [] [] ≡ Some Limit
  read_twice : update_fault (3 ∷ 4 ∷ 3 ∷ []) (set_to 0 1 ∷ []) ≡ Some Repeated
  written_twice : update_fault [] (set_to 0 1 ∷ set_to 0 2 ∷ []) ≡ Some Repeated
  base_not_read : update_fault (1 ∷ []) (add_to 0 2 1 ∷ []) ≡ Some BaseNotRead
  minus_alone : update_fault [] (record { item = 0; base = None; minus = true; amount = 1 } ∷ []) ≡ Some BaseNotRead
  read_and_written : update_fault (0 ∷ []) (add_to 0 0 1 ∷ []) ≡ None
  -- sixteen reads and sixteen writes are allowed, and no more
  most : update_fault (range_with_len 0 16) (writes_to 16) ≡ None
  too_many_writes : update_fault [] (writes_to 17) ≡ Some Limit
  -- the limits come before repeats, and repeats before bases
  limit_before_repeat : update_fault (0 ∷ range_with_len 0 16) (set_to 0 1 ∷ []) ≡ Some Limit
  repeat_before_base : update_fault (0 ∷ 0 ∷ []) (add_to 1 2 1 ∷ []) ≡ Some Repeated

pub rules : Rules
unfolding update_fault has_repeat
rules = record {
  no_write = refl;
  read_twice = refl;
  written_twice = refl;
  base_not_read = refl;
  minus_alone = refl;
  read_and_written = refl;
  most = refl;
  too_many_writes = refl;
  limit_before_repeat = refl;
  repeat_before_base = refl;
}

pub record Places : Type 0 where
  first_cycle : cycle_at chain_history 0 ≡ 0
  second_cycle : cycle_at chain_history 4 ≡ 1
  no_front : front chain_history 0 ≡ []
  -- a commit before the first start is in the front of cycle 1, but not in that of cycle 0
  nothing_before_all : front (commit 0 [] (set_to 0 11) ∷ Start ∷ Start ∷ []) 0 ≡ []
  before_the_first : front (commit 0 [] (set_to 0 11) ∷ Start ∷ Start ∷ []) 1 ≡ commit 0 [] (set_to 0 11) ∷ []
  front_of_one : front chain_history 1 ≡ []
  front_of_two : front chain_history 2 ≡ Start ∷ commit 0 [] (set_to 0 11) ∷ commit 1 (0 ∷ []) (add_to 2 0 1) ∷ commit 2 (2 ∷ []) (add_to 1 2 1) ∷ []
  -- what comes after the last start, or all if there is no start
  since_the_last : since_start (chain_history ++ commit 0 [] (set_to 0 5) ∷ []) ≡ commit 0 [] (set_to 0 5) ∷ []
  since_none : since_start (commit 0 [] (set_to 0 11) ∷ commit 0 [] (set_to 1 12) ∷ []) ≡ commit 0 [] (set_to 0 11) ∷ commit 0 [] (set_to 1 12) ∷ []
  nothing_since : since_start chain_history ≡ []
  writer_of_one : writer chain_history 1 ≡ Some 3
  no_writer : writer (front chain_history 1) 1 ≡ None

pub places : Places
unfolding cycle_at is_start front since_start writer writer_before last_place writes
places = record { since_the_last = refl; since_none = refl; nothing_since = refl; first_cycle = refl; second_cycle = refl; no_front = refl; nothing_before_all = refl; before_the_first = refl; front_of_one = refl; front_of_two = refl; writer_of_one = refl; no_writer = refl }

pub record Descents : Type 0 where
  -- the writer of item 1 descends from that of item 0 through that of item 2
  through_two : descends chain_history 3 1 ≡ true
  -- it doesn't descend from the start between them
  not_a_start : descends chain_history 3 0 ≡ false
  -- the blind write descends only from itself
  cut : descends then_blind 5 3 ≡ false
  itself : descends then_blind 5 5 ≡ true
  -- an update that reads and writes an item continues the descent
  counts_on : descends counter 3 1 ≡ true
  -- a commit that reads two items descends from both writers
  from_both : (descends exchange_history 3 1 ≡ true) × (descends exchange_history 3 2 ≡ true)

pub descents : Descents
unfolding descends descends_in reads writer_before last_place writes
descents = record { through_two = refl; not_a_start = refl; cut = refl; itself = refl; counts_on = refl; from_both = (refl, refl) }

pub record Entries : Type 0 where
  column_of_0 : column 3 chain_history 0 ≡ 1 ∷ 0 ∷ 0 ∷ []
  column_of_1 : column 3 chain_history 1 ≡ 1 ∷ 1 ∷ 1 ∷ []
  column_of_2 : column 3 chain_history 2 ≡ 1 ∷ 0 ∷ 1 ∷ []
  all_in_one : vector 3 chain_history ≡ 1 ∷ 1 ∷ 1 ∷ []
  after_blind : column 3 then_blind 1 ≡ 0 ∷ 2 ∷ 0 ∷ []
  vector_after : vector 3 then_blind ≡ 1 ∷ 2 ∷ 1 ∷ []
  before_cycles : column 3 before_all 1 ≡ 0 ∷ 0 ∷ 0 ∷ []
  -- the later of two commits in one descent counts
  latest : column 1 counter 0 ≡ 2 ∷ []

pub entries : Entries
unfolding column_entry vector_entry greatest writer writer_before last_place writes descends descends_in reads cycle_at is_start
entries = record { column_of_0 = refl; column_of_1 = refl; column_of_2 = refl; all_in_one = refl; after_blind = refl; vector_after = refl; before_cycles = refl; latest = refl }

pub record Values : Type 0 where
  in_cycle_one : table_list tens (front chain_history 1) ≡ tens
  in_cycle_two : table_list tens (front chain_history 2) ≡ 11 ∷ 13 ∷ 12 ∷ []
  wraps_up : table_list ((2 ^ 64 - 1) ∷ []) (commit 0 (0 ∷ []) (add_to 0 0 1) ∷ []) ≡ 0 ∷ []
  wraps_down : table_list (0 ∷ []) (commit 0 (0 ∷ []) (take_from 0 0 1) ∷ []) ≡ (2 ^ 64 - 1) ∷ []
  -- two items exchange their values, since all written values are computed from the values before
  swapped : table_list (7 ∷ 8 ∷ []) (Commit 0 0 (record { reads = 0 ∷ 1 ∷ []; writes = add_to 0 1 0 ∷ add_to 1 0 0 ∷ [] }) ∷ []) ≡ 8 ∷ 7 ∷ []

pub values : Values
unfolding table value_after write_of value_on_base front
values = record { in_cycle_one = refl; in_cycle_two = refl; wraps_up = refl; wraps_down = refl; swapped = refl }

pub record Boards : Type 0 where
  -- a reply's read values are those before the commit, its written values those after it
  reply_raised : reply_of (10 ∷ []) counter 3 ≡ record { number = 3; cycle = 2; read = 11 ∷ []; written = 12 ∷ [] }
  -- they are not those at the end of the history: item 0 is raised again later
  reply_before_the_end : reply_of (10 ∷ []) counter 1 ≡ record { number = 1; cycle = 1; read = 10 ∷ []; written = 11 ∷ [] }
  reply_exchanged : reply_of (0 ∷ 0 ∷ []) exchange_history 3 ≡ record { number = 3; cycle = 1; read = 7 ∷ 8 ∷ []; written = 8 ∷ 7 ∷ [] }
  -- the total of a frame wraps
  frame_wraps : frame_of ((2 ^ 64 - 1) ∷ 3 ∷ []) [] ≡ record { cycle = 0; values = (2 ^ 64 - 1) ∷ 3 ∷ []; columns = (0 ∷ 0 ∷ []) ∷ (0 ∷ 0 ∷ []) ∷ []; total = 2 }
  reply : reply_of tens chain_history 2 ≡ record { number = 2; cycle = 1; read = 11 ∷ []; written = 12 ∷ [] }
  board : board_of tens chain_history ≡ record { cycle = 2; values = 11 ∷ 13 ∷ 12 ∷ []; columns = (1 ∷ 0 ∷ 0 ∷ []) ∷ (1 ∷ 1 ∷ 1 ∷ []) ∷ (1 ∷ 0 ∷ 1 ∷ []) ∷ []; vector = 1 ∷ 1 ∷ 1 ∷ [] }
  frame : frame_of tens chain_history ≡ record { cycle = 2; values = 11 ∷ 13 ∷ 12 ∷ []; columns = (1 ∷ 0 ∷ 0 ∷ []) ∷ (1 ∷ 1 ∷ 1 ∷ []) ∷ (1 ∷ 0 ∷ 1 ∷ []) ∷ []; total = 36 }

pub boards : Boards
unfolding table value_after write_of value_on_base starts column_entry vector_entry greatest writer writer_before last_place writes writes_of descends descends_in reads cycle_at is_start
boards = record { reply_raised = refl; reply_before_the_end = refl; reply_exchanged = refl; frame_wraps = refl; reply = refl; board = refl; frame = refl }
