-- The small definitions of decks, programs, ethers, drills and sessions, computed at their ends.
use Rattle.std.specs.Prelude.{◌≡◌, ℕ, ◌+◌, [], ◌∷◌, Some, None, true, false, get_or, length, refl}
use Rattle.rand_pcg.specs.Lcg.{Lcg}
use Rattle.air_base.specs.declared.verdicts.Policy.{Policy}
use Rattle.air_base.specs.declared.verdicts.Policy.TheVariants.{FMatrix, Datacycle, RMatrix}
use Rattle.air_base.specs.declared.verdicts.VerdictKind.TheVariants.{Accept, Abort, Aged, Unfinished}
use Rattle.air_history.specs.Ages.{span, spans_too_far}
use Rattle.air_history.specs.Clashes.{is_late}
use Rattle.air_history.specs.Columns.{scheme_of}
use Rattle.air_history.specs.Reads.{ReadAt}
use Rattle.air_model.specs.Aired.{Air, aired_as, airs_columns}
use Rattle.air_model.specs.Airings.{carries}
use Rattle.air_model.specs.Buckets.{Column, Idle, Vector, number_at}
use Rattle.air_model.specs.Decks.{scripted_commits, update_at, values_in}
use Rattle.air_model.specs.Draws.{Draw, ◌>>=◌, draw, draw_each, generator, gives, go_on}
use Rattle.air_model.specs.Drills.{around, base_in_turn, draw_deck, draw_query, draw_update, draw_write, drill_disks, drill_of, drill_readers, drill_settings, turn_of}
use Rattle.air_model.specs.Ethers.{word_of}
use Rattle.air_model.specs.Judges.{heard_of}
use Rattle.air_model.specs.Outputs.{odds_in}
use Rattle.air_model.specs.Reads.{Read}
use Rattle.air_model.specs.SessionLaws.{IsAbort, IsAged, IsExact, are_far, decided_on, reads_at}
use Rattle.air_model.specs.Sessions.{SessionLine, comes_aged, comes_late, is_wanted, no_counts, read_in, start}
use Rattle.air_model.specs.Tapes.{TapeRead, with_record}
use Rattle.air_model.specs.Decks.{event_of, script_history}
use Rattle.air_model.proofs.LineExamples.{exact_line}
use Rattle.air_model.proofs.SessionExamples.{line, pair, read, set_to, swapped_deck, update}

-- What receivers know of the air under a policy.
abbrev air : Policy → Air
air policy = record { scheme = scheme_of policy; version = 1; items = 2; replans = []; slots = []; pix = [] }

-- A read of an item in a cycle, as it was heard.
abbrev taken : ℕ → ℕ → Read
taken item cycle = record { item = item; cycle = cycle; value = 10; entries = 0 ∷ 1 ∷ [] }

abbrev at : ℕ → ℕ → ReadAt
at item cycle = record { item = item; cycle = cycle }

-- A generator, and draws that take nothing from it.
abbrev g : Lcg
g = generator 1 1

abbrev seven : Draw ℕ
seven = gives 7

abbrev eight : Draw ℕ
eight = do
  x ← seven
  gives (x + 1)

-- A tape of one record that is cut after it.
abbrev cut_behind : TapeRead
cut_behind = record { records = (7 ∷ []) ∷ []; cut = Some 5 }

-- The line that accepts the query of the small deck.
abbrev accept_line : SessionLine
accept_line = line 0 1 Accept (read 0 1 10 ∷ read 1 1 20 ∷ [])

pub record Parts : Type 0 where
  -- decks
  parts_of_first : scripted_commits 0 (Some 0 ∷ None ∷ Some 1 ∷ Some 0 ∷ []) ≡ 2
  second_update : update_at (swapped_deck []) 0 1 ≡ update [] (set_to 1 21 ∷ [])
  no_update : update_at (swapped_deck []) 0 2 ≡ update [] []
  -- what is aired
  columns : airs_columns FMatrix ≡ true
  vectors : airs_columns Datacycle ≡ false
  vectors_too : airs_columns RMatrix ≡ false
  as_column : aired_as FMatrix 1 20 (0 ∷ []) ≡ Column 1 20 (0 ∷ [])
  as_vector : aired_as RMatrix 1 20 (0 ∷ []) ≡ Vector 1 20 (0 ∷ [])
  carried : carries 3 (Some 3) ≡ true
  another : carries 3 (Some 4) ≡ false
  idle : carries 3 None ≡ false
  high_byte_first : number_at 1 2 (9 ∷ 1 ∷ 2 ∷ 3 ∷ []) ≡ 258
  one_record_more : with_record (6 ∷ []) cut_behind ≡ record { records = (6 ∷ []) ∷ (7 ∷ []) ∷ []; cut = Some 5 }
  -- draws and ethers
  drawn : eight g ≡ (8, g)
  handed_on : go_on {A = ℕ} {B = ℕ} (7, g) (λ x. gives x) ≡ (7, g)
  last_word : word_of (10 ∷ 11 ∷ 12 ∷ 13 ∷ 14 ∷ 15 ∷ []) 1 2 ≡ 15
  odds : odds_in (record pair { settings = record pair.settings { loss = 1; again = 2; late = 3 } }) ≡ record { loss = 1; again = 2; late = 3 }
  -- drills
  around_the_end : around 18 16 7 3 ≡ 16 ∷ 5 ∷ 12 ∷ []
  second_base : base_in_turn 18 2 17 1 ≡ Some 0
  first_base_again : base_in_turn 18 2 17 2 ≡ Some 17
  no_base : base_in_turn 18 0 5 1 ≡ None
  -- The first word of this generator is 49 modulo 100.
  a_write : (draw_write 18 2 17 16 3 g).0 ≡ record { item = 1; base = Some 0; minus = false; amount = 49 }
  first_value : get_or (values_in (draw_deck 1 1 g).0) 0 0 ≡ 849
  disks_of_18 : drill_disks 18 ≡ record { size = 2; freq = 4 } ∷ record { size = 4; freq = 2 } ∷ record { size = 12; freq = 1 } ∷ []
  eight_readers : length drill_readers ≡ 8
  last_reader : get_or drill_readers 7 (record { room = 0; age = 0; tries = 0 }) ≡ record { room = 4; age = 8; tries = 3 }
  settings : drill_settings 7 ≡ record { policy = FMatrix; version = 1; group = 0; cycles = 10; seed = 7; loss = 5; again = 3; late = 10; monitors = 0; hears = 1000000 }
  fifth_turn : turn_of 5 ≡ None ∷ Some 1 ∷ []
  sixth_turn : turn_of 6 ≡ Some 2 ∷ []
  four_updaters : length (drill_of 3 1 [] [] []).updates ≡ 4
  ten_commits : length (drill_of 3 1 [] [] []).script ≡ 14
  -- sessions
  late_read : comes_late (air RMatrix) (record start { held = taken 0 2 ∷ [] }) (taken 1 1) ≡ true
  read_in_time : comes_late (air RMatrix) (record start { held = taken 0 2 ∷ [] }) (taken 1 2) ≡ false
  late_for_none : comes_late (air FMatrix) (record start { held = taken 0 2 ∷ [] }) (taken 1 1) ≡ false
  -- a read and the held one are too far apart in either order, and only if there are ages
  far_read : comes_aged (record (air FMatrix) { version = 2 }) (record start { held = taken 0 1 ∷ [] }) (taken 1 256) ≡ true
  far_behind : comes_aged (record (air FMatrix) { version = 2 }) (record start { held = taken 0 300 ∷ [] }) (taken 1 45) ≡ true
  near_read : comes_aged (record (air FMatrix) { version = 2 }) (record start { held = taken 0 1 ∷ [] }) (taken 1 255) ≡ false
  far_for_none : comes_aged (air FMatrix) (record start { held = taken 0 1 ∷ [] }) (taken 1 256) ≡ false
  first_read : comes_aged (record (air FMatrix) { version = 2 }) start (taken 1 256) ≡ false
  nothing_wanted : is_wanted None 0 ≡ false
  this_wanted : is_wanted (Some 1) 1 ≡ true
  other_wanted : is_wanted (Some 1) 2 ≡ false
  none_counted : no_counts ≡ record { opened = 0; dozed = 0; late = 0; refused = 0; foreign = 0; copied = 0 }
  idle_slot : read_in 3 (Idle 2) ≡ None
  of_column : read_in 3 (Column 1 10 (0 ∷ 1 ∷ [])) ≡ Some (taken 1 3)
  of_vector : read_in 3 (Vector 1 10 (0 ∷ 1 ∷ [])) ≡ Some (taken 1 3)
  heard : heard_of (taken 1 3) ≡ record { item = 1; cycle = 3; entries = 0 ∷ 1 ∷ [] }
  line_reads : reads_at accept_line ≡ at 0 1 ∷ at 1 1 ∷ []
  decided_with_refused : decided_on (Abort 1 2 0) (at 0 1 ∷ []) ≡ at 0 1 ∷ at 1 2 ∷ []
  decided_with_far : decided_on (Aged 1 256) (at 0 1 ∷ []) ≡ at 0 1 ∷ at 1 256 ∷ []
  decided_without : decided_on Unfinished (at 0 1 ∷ []) ≡ at 0 1 ∷ []
  aborted : IsAbort (Abort 1 2 0)
  accepted : IsAbort Accept → ⊥
  unfinished : IsAbort Unfinished → ⊥
  ended_aged : IsAged (Aged 1 256)
  abort_not_aged : IsAged (Abort 1 256 0) → ⊥
  aged_not_abort : IsAbort (Aged 1 256) → ⊥
  -- 255 cycles are too far for version 2 and for later versions, 254 aren't; in version 1 no reads are too far apart
  apart : are_far 2 (at 0 1 ∷ at 1 256 ∷ []) ≡ true
  apart_later : are_far 3 (at 0 1 ∷ at 1 256 ∷ []) ≡ true
  together : are_far 2 (at 0 1 ∷ at 1 255 ∷ []) ≡ false
  in_full : are_far 1 (at 0 1 ∷ at 1 256 ∷ []) ≡ false
  -- Both items of the query were read in one cycle; one item is not enough to accept.
  exact : IsExact 1 (script_history pair) (0 ∷ 1 ∷ []) Accept (at 0 1 ∷ at 1 1 ∷ [])
  one_alone : IsExact 1 (script_history pair) (0 ∷ 1 ∷ []) Accept (at 0 1 ∷ []) → ⊥

parts : Parts
unfolding draw draw_each draw_update draw_query is_late spans_too_far span script_history event_of
parts = record {
  parts_of_first = refl;
  second_update = refl;
  no_update = refl;
  columns = refl;
  vectors = refl;
  vectors_too = refl;
  as_column = refl;
  as_vector = refl;
  carried = refl;
  another = refl;
  idle = refl;
  high_byte_first = refl;
  one_record_more = refl;
  drawn = refl;
  handed_on = refl;
  last_word = refl;
  odds = refl;
  around_the_end = refl;
  second_base = refl;
  first_base_again = refl;
  no_base = refl;
  a_write = refl;
  first_value = refl;
  disks_of_18 = refl;
  eight_readers = refl;
  last_reader = refl;
  settings = refl;
  fifth_turn = refl;
  sixth_turn = refl;
  four_updaters = refl;
  ten_commits = refl;
  late_read = refl;
  read_in_time = refl;
  late_for_none = refl;
  far_read = refl;
  far_behind = refl;
  near_read = refl;
  far_for_none = refl;
  first_read = refl;
  nothing_wanted = refl;
  this_wanted = refl;
  other_wanted = refl;
  none_counted = refl;
  idle_slot = refl;
  of_column = refl;
  of_vector = refl;
  heard = refl;
  line_reads = refl;
  decided_with_refused = refl;
  decided_with_far = refl;
  decided_without = refl;
  aborted = tt;
  accepted = λ h. h;
  unfinished = λ h. h;
  ended_aged = tt;
  abort_not_aged = λ h. h;
  aged_not_abort = λ h. h;
  apart = refl;
  apart_later = refl;
  together = refl;
  in_full = refl;
  exact = exact_line;
  one_alone = λ h. let e : 0 ∷ [] ≡ 0 ∷ 1 ∷ [] = (h.accepted.0 refl).1 in cc;
}
