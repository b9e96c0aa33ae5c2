-- The order, the program and the text of a plan, computed on small decks.
use Rattle.std.specs.Prelude.{◌≡◌, ◌*◌, ◌++◌, ℕ, [], ◌∷◌, Some, codes, map, replicate, refl}
use Rattle.csv.specs.Writing.{escaped, fields_text, is_blank}
use Rattle.air_model.specs.Disks.{DiskSpec, cut, order, order_with}
use Rattle.air_model.specs.Programs.{chunk, chunk_len, least_common_multiple, minor_cycle, minor_len, num_chunks, num_minors, program}
use Rattle.air_model.specs.Airings.{chunks_of, disk_number, gap_of, next_wake, pix_number}
use Rattle.air_model.specs.PlanTexts.{plan_rows, plan_text}
use Rattle.air_model.specs.Rows.{rows_text}
use Rattle.air_base.specs.Numbers.{number_text}

-- Of items with rates 1, 5, 1, 5, 9 the last is the hottest.
pub greater_rate_then_smaller_number : order (1 ∷ 5 ∷ 1 ∷ 5 ∷ 9 ∷ []) ≡ 4 ∷ 1 ∷ 3 ∷ 0 ∷ 2 ∷ []
unfolding order order_with
greater_rate_then_smaller_number = refl

-- A disk of this many items, each aired this often.
abbrev spec : ℕ → ℕ → DiskSpec
spec size freq = record { size = size; freq = freq }

-- The plan of eleven items of one rate on disks of sizes 1, 2, 8 with frequencies 4, 2, 1.
pub plan_of_eleven_items : plan_text (replicate 11 1) (spec 1 4 ∷ spec 2 2 ∷ spec 8 1 ∷ []) []
    ≡ codes "program,16,4,4\ndisk,0,4,1,1\ndisk,1,2,2,1\ndisk,2,1,4,2\n" ++ codes "minor,0,0 1 3 4\nminor,1,0 2 5 6\nminor,2,0 1 7 8\nminor,3,0 2 9 10\n"
    ++ codes "item,0,0,4,4,0,1\nitem,1,1,2,8,1,2\nitem,2,1,2,8,5,2\nitem,3,2,1,16,2,4\nitem,4,2,1,16,3,4\nitem,5,2,1,16,6,4\n"
    ++ codes "item,6,2,1,16,7,4\nitem,7,2,1,16,10,4\nitem,8,2,1,16,11,4\nitem,9,2,1,16,14,4\nitem,10,2,1,16,15,4\n"
unfolding order order_with cut least_common_multiple num_minors num_chunks chunk_len chunk minor_cycle minor_len program next_wake disk_number chunks_of gap_of pix_number plan_rows plan_text rows_text number_text escaped fields_text is_blank
plan_of_eleven_items = refl

-- On that program the waits from slots 1 and 4 for item 0, and from slot 13, over the cycle's end, for item 1.
pub waits_of_eleven_items : let slots = program (cut (order (replicate 11 1)) (spec 1 4 ∷ spec 2 2 ∷ spec 8 1 ∷ [])) in
    next_wake slots 1 0 ∷ next_wake slots 4 0 ∷ next_wake slots 13 1 ∷ [] ≡ 3 ∷ 0 ∷ 4 ∷ []
unfolding order order_with cut least_common_multiple num_minors num_chunks chunk_len chunk minor_cycle program next_wake
waits_of_eleven_items = refl

-- The plan of six items on disks of sizes 1 and 5 with frequencies 3 and 2 has idle slots.
pub plan_with_idle_slots : plan_text (replicate 6 1) (spec 1 3 ∷ spec 5 2 ∷ []) []
    ≡ codes "program,18,6,3\ndisk,0,3,2,1\ndisk,1,2,3,2\nminor,0,0 1 2\nminor,1,- 3 4\nminor,2,0 5 -\nminor,3,- 1 2\nminor,4,0 3 4\nminor,5,- 5 -\n"
    ++ codes "item,0,0,3,6,0,2\nitem,1,1,2,9,1,3\nitem,2,1,2,9,2,3\nitem,3,1,2,9,4,3\nitem,4,1,2,9,5,3\nitem,5,1,2,9,7,3\n"
unfolding order order_with cut least_common_multiple num_minors num_chunks chunk_len chunk minor_cycle minor_len program next_wake disk_number chunks_of gap_of pix_number plan_rows plan_text rows_text number_text escaped fields_text is_blank
plan_with_idle_slots = refl

-- The plan of five items of different rates on disks of sizes 1 and 4 with frequencies 2 and 1.
pub plan_of_different_rates : plan_text (1 ∷ 5 ∷ 1 ∷ 5 ∷ 9 ∷ []) (spec 1 2 ∷ spec 4 1 ∷ []) []
    ≡ codes "program,6,2,3\ndisk,0,2,1,1\ndisk,1,1,2,2\nminor,0,4 1 3\nminor,1,4 0 2\n"
    ++ codes "item,0,1,1,6,4,2\nitem,1,1,1,6,1,10\nitem,2,1,1,6,5,2\nitem,3,1,1,6,2,10\nitem,4,0,2,3,0,9\n"
unfolding order order_with cut least_common_multiple num_minors num_chunks chunk_len chunk minor_cycle minor_len program next_wake disk_number chunks_of gap_of pix_number plan_rows plan_text rows_text number_text escaped fields_text is_blank
plan_of_different_rates = refl

-- The minor cycles of eleven items on disks of sizes 2, 3, 6 with frequencies 3, 2, 1, one after the other.
pub program_of_sizes_two_three_six : program (cut (order (replicate 11 1)) (spec 2 3 ∷ spec 3 2 ∷ spec 6 1 ∷ []))
    ≡ map Some (0 ∷ 2 ∷ 5 ∷ 1 ∷ 3 ∷ 6 ∷ 0 ∷ 4 ∷ 7 ∷ 1 ∷ 2 ∷ 8 ∷ 0 ∷ 3 ∷ 9 ∷ 1 ∷ 4 ∷ 10 ∷ [])
unfolding order order_with cut least_common_multiple num_minors num_chunks chunk_len chunk minor_cycle program
program_of_sizes_two_three_six = refl

-- The number of slots of three disks of one item each with frequencies 64, 63, 61, counted and not listed.
pub slots_of_large_frequencies : let disks = cut (order (0 ∷ 0 ∷ 0 ∷ [])) (spec 1 64 ∷ spec 1 63 ∷ spec 1 61 ∷ []) in
    num_minors disks ∷ minor_len (num_minors disks) disks ∷ num_minors disks * minor_len (num_minors disks) disks ∷ [] ≡ 245952 ∷ 3 ∷ 737856 ∷ []
unfolding order order_with cut least_common_multiple num_minors num_chunks chunk_len minor_len
slots_of_large_frequencies = refl

-- Item 2 is on the second of two disks, which has two chunks; item 3 is on none.
pub chunks_of_items : let disks = cut (0 ∷ 1 ∷ 2 ∷ []) (spec 1 2 ∷ spec 2 1 ∷ []) in chunks_of disks 0 ∷ chunks_of disks 2 ∷ chunks_of disks 3 ∷ [] ≡ 1 ∷ 2 ∷ 0 ∷ []
unfolding cut least_common_multiple num_minors num_chunks disk_number chunks_of
chunks_of_items = refl

-- The least common multiple of 2 and 6 is the third multiple of 2; with 0 it is 0.
pub common_multiples : least_common_multiple 2 6 ∷ least_common_multiple 6 4 ∷ least_common_multiple 3 0 ∷ [] ≡ 6 ∷ 12 ∷ 0 ∷ []
unfolding least_common_multiple
common_multiples = refl
