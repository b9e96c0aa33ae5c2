-- The single steps of which decks, programs, ethers, drills and airs are made, computed on small numbers.
use Rattle.std.proofs.Common.{◌≡◌, ◌<◌, ◌≤◌, ◌+◌, ◌*◌, ℕ, List, [], ◌∷◌, Some, None, true, false, codes, map, refl, arith}
use Rattle.rand_pcg.specs.Lcg.{Lcg}
use Rattle.air_base.specs.Numbers.{number_text}
use Rattle.air_base.specs.declared.verdicts.Policy.{Policy}
use Rattle.air_base.specs.declared.verdicts.Policy.TheVariants.{FMatrix, Datacycle}
use Rattle.air_history.specs.declared.histories.Event.{Event}
use Rattle.air_history.specs.declared.histories.Event.TheVariants.{Commit, Start}
use Rattle.air_history.specs.Places.{last_place, greatest}
use Rattle.air_history.specs.Histories.{cycle_at, front, is_start, reads, writer, writer_before, writes}
use Rattle.air_history.specs.Descents.{descends, descends_in}
use Rattle.air_history.specs.Columns.{column_entry, scheme_of, vector_entry}
use Rattle.air_history.specs.UpdateLists.{UpdateLists}
use Rattle.air_history.specs.UpdateRules.{has_repeat, update_fault}
use Rattle.air_history.specs.Tables.{table, value_after, value_on_base, write_of}
use Rattle.air_model.specs.Aired.{Air, body_fits, body_of}
use Rattle.air_model.specs.Airings.{chunks_of, disk_number, gap_of, next_wake, pix_number}
use Rattle.air_model.specs.Buckets.{Column, Idle, Vector}
use Rattle.air_model.specs.Decks.{Deck, IsDeck, IsUpdate, IsWhole, ScriptFits, event_of, is_by}
use Rattle.air_model.specs.Disks.{Disk, order_with}
use Rattle.air_model.specs.Draws.{draw, draw_each, generator, words_by}
use Rattle.air_model.specs.Drills.{draw_query, draw_update}
use Rattle.air_model.specs.Ethers.{due_at, due_number, times_heard}
use Rattle.air_model.specs.PlanTexts.{plan_rows}
use Rattle.air_model.specs.Programs.{chunk, chunk_len, least_common_multiple, minor_cycle, minor_len, num_chunks, num_minors, program}
use Rattle.air_model.proofs.SessionExamples.{add_to, pair, set_to, swapped_deck, update}

-- ---- disks and programs

-- A disk of these items.
abbrev disk : List ℕ → ℕ → Disk
disk items freq = record { items = items; freq = freq }

-- Item 0 twice a cycle, and items 1 and 2 once.
abbrev two_disks : List Disk
two_disks = disk (0 ∷ []) 2 ∷ disk (1 ∷ 2 ∷ []) 1 ∷ []

-- Three items in two chunks, of which the second has one place to spare.
abbrev three_on_one : Disk
three_on_one = disk (1 ∷ 2 ∷ 3 ∷ []) 1

pub record Programs : Type 0 where
  -- item 4 is hotter than items 1 and 0; item 3 has the rate of item 1, and goes after it
  hottest_first : order_with (1 ∷ 5 ∷ 1 ∷ 5 ∷ 9 ∷ []) (1 ∷ 0 ∷ []) 4 ≡ 4 ∷ 1 ∷ 0 ∷ []
  same_rate_after : order_with (1 ∷ 5 ∷ 1 ∷ 5 ∷ 9 ∷ []) (1 ∷ 0 ∷ []) 3 ≡ 1 ∷ 3 ∷ 0 ∷ []
  coldest_last : order_with (1 ∷ 5 ∷ 1 ∷ 5 ∷ 9 ∷ []) (1 ∷ 0 ∷ []) 2 ≡ 1 ∷ 0 ∷ 2 ∷ []
  -- in two minor cycles a disk of three items has chunks of two places, in one minor cycle a chunk of three
  of_two_places : chunk_len 2 three_on_one ≡ 2
  of_three_places : chunk_len 1 three_on_one ≡ 3
  first_chunk : chunk 2 three_on_one 0 ≡ Some 1 ∷ Some 2 ∷ []
  second_chunk : chunk 2 three_on_one 1 ≡ Some 3 ∷ None ∷ []
  -- the second minor cycle has item 0 again, and then item 2
  first_minor : minor_cycle 2 two_disks 0 ≡ Some 0 ∷ Some 1 ∷ []
  second_minor : minor_cycle 2 two_disks 1 ≡ Some 0 ∷ Some 2 ∷ []
  -- the disk of item 2 has two chunks and that of item 0 has one; item 3 is on no disk
  pix : pix_number two_disks 2 5 ∷ pix_number two_disks 0 5 ∷ pix_number two_disks 3 5 ∷ [] ≡ 10 ∷ 5 ∷ 0 ∷ []
  rows : plan_rows (disk (0 ∷ 1 ∷ []) 1 ∷ []) (5 ∷ 3 ∷ []) ≡
      (codes "program" ∷ codes "2" ∷ codes "1" ∷ codes "2" ∷ []) ∷ (codes "disk" ∷ codes "0" ∷ codes "1" ∷ codes "1" ∷ codes "2" ∷ []) ∷ (codes "minor" ∷ codes "0" ∷ codes "0 1" ∷ [])
      ∷ (codes "item" ∷ codes "0" ∷ codes "0" ∷ codes "1" ∷ codes "2" ∷ codes "0" ∷ codes "5" ∷ []) ∷ (codes "item" ∷ codes "1" ∷ codes "0" ∷ codes "1" ∷ codes "2" ∷ codes "1" ∷ codes "3" ∷ []) ∷ []

programs : Programs
unfolding order_with chunk_len chunk minor_cycle num_chunks num_minors least_common_multiple minor_len program pix_number chunks_of disk_number gap_of next_wake plan_rows number_text
programs = record {
  hottest_first = refl;
  same_rate_after = refl;
  coldest_last = refl;
  of_two_places = refl;
  of_three_places = refl;
  first_chunk = refl;
  second_chunk = refl;
  first_minor = refl;
  second_minor = refl;
  pix = refl;
  rows = refl;
}

-- ---- decks

-- A deck of one updater with two updates, and no cycle.
abbrev no_cycle : Deck
no_cycle = let deck = swapped_deck [] in record deck { settings = record deck.settings { cycles = 0 } }

-- Its updates, which it commits in this order.
abbrev zero_set : UpdateLists
zero_set = update [] (set_to 0 11 ∷ [])

abbrev one_set : UpdateLists
one_set = update [] (set_to 1 21 ∷ [])

pub record NoDecks : Type 0 where
  -- item 0 isn't read, and is the base of a write; all items are below 3, and the amount has 64 bits
  base_unread : IsUpdate 3 (update [] (add_to 2 0 1 ∷ [])) → ⊥
  -- all updates are committed, but the second one first
  out_of_turn : IsWhole no_cycle (Commit 0 1 one_set ∷ Commit 0 0 zero_set ∷ []) → ⊥
  -- its only disk is never aired
  never_aired : IsDeck (record pair { disks = record { size = 2; freq = 0 } ∷ [] }) → ⊥

no_decks : NoDecks
unfolding update_fault has_repeat is_by
no_decks = record {
  base_unread = λ u. let rules = u.rules in cc rules;
  out_of_turn = λ h. let number : 1 ≡ 0 = (h.legal 0 0 1 one_set refl).number in omega (arith, number);
  never_aired = λ d. let aired : 0 < 0 = (d.aired 0 (omega arith) 0 (record { size = 0; freq = 0 }) (omega arith)).1 in omega arith;
}

-- ---- draws and ethers

abbrev g : Lcg
g = generator 1 1

-- The third words of two pushes; with 51 late of a hundred the first push is due at 1, and the second at 9.
abbrev late_words : List ℕ
late_words = 99 ∷ 99 ∷ 850 ∷ 99 ∷ 99 ∷ 750 ∷ []

pub record Draws : Type 0 where
  -- three words of a generator that counts on by one and gives twice what it has
  counted : words_by {S = ℕ} (λ n. (n * 2, n + 1)) 3 5 ≡ 10 ∷ 12 ∷ 14 ∷ []
  no_word : words_by {S = ℕ} (λ n. (n * 2, n + 1)) 0 5 ≡ []
  -- the first word ends with 849, and the second, from the generator that is left, with 64
  first_word : (draw 1000 g).0 ≡ 849
  second_word : (draw 100 (draw 1000 g).1).0 ≡ 64
  -- by an independent program: a query of two items, and an update that reads item 2 and writes items 5 and 6
  a_query : (draw_query 18 g).0 ≡ 2 ∷ 9 ∷ []
  an_update : (draw_update 18 g).0 ≡ update (2 ∷ []) (record { item = 5; base = Some 2; minus = false; amount = 38 } ∷ record { item = 6; base = Some 2; minus = false; amount = 97 } ∷ [])
  -- what is due at the numbers 0, 1 and 9; if all is heard again, it is due twice
  due : map (due_at (record { loss = 0; again = 0; late = 51 }) late_words 2) (0 ∷ 1 ∷ 9 ∷ []) ≡ [] ∷ (0 ∷ []) ∷ (1 ∷ []) ∷ []
  due_twice : due_at (record { loss = 0; again = 100; late = 51 }) late_words 2 1 ≡ 0 ∷ 0 ∷ []

draws : Draws
unfolding words_by draw draw_each draw_query draw_update due_at due_number times_heard
draws = record {
  counted = refl;
  no_word = refl;
  first_word = refl;
  second_word = refl;
  a_query = refl;
  an_update = refl;
  due = refl;
  due_twice = refl;
}

-- ---- what is aired

-- What receivers know of the air of two items under a policy.
abbrev air : Policy → Air
air policy = record { scheme = scheme_of policy; version = 1; items = 2; replans = []; slots = []; pix = [] }

-- Item 0 becomes 11 in cycle 1.
abbrev one_write : List Event
one_write = Start ∷ Commit 0 0 (update [] (set_to 0 11 ∷ [])) ∷ Start ∷ []

abbrev values : List ℕ
values = 10 ∷ 20 ∷ []

pub record Airs : Type 0 where
  -- the script lists the updater's second commit after one of it, and a start
  second_commit : event_of (swapped_deck []) (Some 0 ∷ None ∷ []) (Some 0) ≡ Commit 0 1 (update [] (set_to 1 21 ∷ []))
  a_start : event_of (swapped_deck []) (Some 0 ∷ []) None ≡ Start
  -- the first cycle has the catalog's value, and the second the written one
  first_cycle : body_of values (air FMatrix) one_write 1 (Some 0) ≡ Column 0 10 (0 ∷ 0 ∷ [])
  second_cycle : body_of values (air FMatrix) one_write 2 (Some 0) ≡ Column 0 11 (1 ∷ 0 ∷ [])
  other_item : body_of values (air FMatrix) one_write 2 (Some 1) ≡ Column 1 20 (0 ∷ 0 ∷ [])
  with_vector : body_of values (air Datacycle) one_write 2 (Some 1) ≡ Vector 1 20 (1 ∷ 0 ∷ [])
  idle_slot : body_of values (air FMatrix) one_write 2 None ≡ Idle 2
  -- a body fits a slot of its own item under its own policy, with as many entries as there are items
  fitting : body_fits (air FMatrix) (Some 1) (Column 1 20 (0 ∷ 0 ∷ [])) ∷ body_fits (air Datacycle) (Some 1) (Vector 1 20 (0 ∷ 0 ∷ [])) ∷ body_fits (air FMatrix) None (Idle 2) ∷ []
      ≡ true ∷ true ∷ true ∷ []
  unfitting : body_fits (air FMatrix) (Some 0) (Column 1 20 (0 ∷ 0 ∷ [])) ∷ body_fits (air FMatrix) (Some 1) (Vector 1 20 (0 ∷ 0 ∷ [])) ∷ body_fits (air Datacycle) (Some 1) (Column 1 20 (0 ∷ 0 ∷ []))
      ∷ body_fits (air FMatrix) (Some 1) (Column 1 20 (0 ∷ [])) ∷ body_fits (air FMatrix) None (Idle 3) ∷ body_fits (air FMatrix) (Some 0) (Idle 2) ∷ []
      ≡ false ∷ false ∷ false ∷ false ∷ false ∷ false ∷ []
  -- a script that commits an update of an updater without updates doesn't fit its deck
  overdrawn : ScriptFits (record pair { script = Some 0 ∷ [] }) → ⊥

airs : Airs
unfolding event_of body_of body_fits column_entry vector_entry greatest last_place writer writer_before writes reads descends descends_in front cycle_at is_start table value_after value_on_base write_of
airs = record {
  second_commit = refl;
  a_start = refl;
  first_cycle = refl;
  second_cycle = refl;
  other_item = refl;
  with_vector = refl;
  idle_slot = refl;
  fitting = refl;
  unfitting = refl;
  overdrawn = λ h. let low : 1 ≤ 0 = h 0 in omega arith;
}
