-- What words ask for, computed at the ends of their ranges, and what words that are no command mean.
use Rattle.std.specs.Prelude.{◌≡◌, [], ◌∷◌, Some, None, true, false, codes, refl}
use Rattle.air_base.specs.Numbers.{number_of}
use Rattle.air_devices.specs.Counts.{one_count}
use Rattle.air_devices.specs.Contents.{nothing_told}
use Rattle.air_devices.specs.Shelves.{ShelfState}
use Rattle.air_report.specs.declared.status.Status.TheVariants as status
use Rattle.air_cli.specs.Commands.{quiet_meaning}
use Rattle.air_cli.specs.ReportsAndTapes.{ReportAndTape, given_status}
use Rattle.air_cli.specs.Meanings.{no_command}
use Rattle.air_cli.specs.Run.{run_meaning}
use Rattle.air_cli.specs.Words.{NeedsWait, AsksAudit, AsksBeam, AsksCast, AsksDrill, AsksListen, AsksPlan, AsksRun, AsksScript, AsksSeek, AsksSplit, AsksTune, asked_drill, asked_item, asked_of, asked_of_numbers, asked_of_one, asked_of_three, asked_of_two, asked_place, asked_seek, port_of}

-- A shelf that tells nothing, and what words that are no command would give.
abbrev nothing : ShelfState
nothing = record { told = nothing_told; faults = one_count 0 }

abbrev empty : ReportAndTape
empty = record { text = []; tape = []; differs = false }

pub record Words : Type 0 where
  plan : asked_of_one (codes "plan") (codes "d") ≡ Some (AsksPlan (codes "d"))
  script : asked_of_one (codes "script") (codes "d") ≡ Some (AsksScript (codes "d") None)
  split : asked_of_one (codes "split") (codes "d") ≡ Some (AsksSplit (codes "d"))
  capital : asked_of_one (codes "Plan") (codes "d") ≡ None
  script_of_two : asked_of_two (codes "script") (codes "d") (codes "t") ≡ Some (AsksScript (codes "d") (Some (codes "t")))
  tune : asked_of_two (codes "tune") (codes "d") (codes "t") ≡ Some (AsksTune (codes "d") (codes "t"))
  beam : asked_of_two (codes "beam") (codes "d") (codes "t") ≡ Some (AsksBeam (codes "d") (codes "t"))
  no_beam : asked_of_two (codes "Beam") (codes "d") (codes "t") ≡ None
  audit : asked_of_two (codes "audit") (codes "d") (codes "r") ≡ Some (AsksAudit (codes "d") (codes "r"))
  no_name : asked_of_two (codes "Run") (codes "d") (codes "t") ≡ None
  -- A drill has a size from 1 to 100, and a seed of 64 bits.
  drill : asked_of_two (codes "drill") (codes "18446744073709551615") (codes "1") ≡ Some (AsksDrill 18446744073709551615 1)
  greatest_drill : asked_drill (Some 0) (Some 100) ≡ Some (AsksDrill 0 100)
  too_great_drill : asked_drill (Some 0) (Some 101) ≡ None
  no_drill : asked_drill (Some 0) (Some 0) ≡ None
  no_seed : asked_drill None (Some 1) ≡ None
  no_words : asked_of [] ≡ None
  one_word : asked_of (codes "plan" ∷ []) ≡ None
  two_words : asked_of (codes "plan" ∷ codes "d" ∷ []) ≡ Some (AsksPlan (codes "d"))
  three_words : asked_of (codes "tune" ∷ codes "d" ∷ codes "t" ∷ []) ≡ Some (AsksTune (codes "d") (codes "t"))
  empty_name : asked_of (codes "plan" ∷ [] ∷ []) ≡ None
  empty_tape : asked_of (codes "tune" ∷ codes "d" ∷ [] ∷ []) ≡ None
  four_words : asked_of (codes "tune" ∷ codes "d" ∷ codes "t" ∷ codes "u" ∷ []) ≡ None
  -- An item is sought from a place on, by numbers that are spelled as numbers are.
  seek : asked_of (codes "seek" ∷ codes "t" ∷ codes "65534" ∷ codes "4294967295" ∷ []) ≡ Some (AsksSeek (codes "t") 65534 4294967295)
  seek_nothing : asked_of (codes "seek" ∷ [] ∷ codes "0" ∷ codes "0" ∷ []) ≡ None
  seek_of_three : asked_of (codes "seek" ∷ codes "t" ∷ codes "0" ∷ []) ≡ None
  seek_of_five : asked_of (codes "seek" ∷ codes "t" ∷ codes "0" ∷ codes "0" ∷ codes "0" ∷ []) ≡ None
  no_spelling : asked_of_three (codes "seek") (codes "t") (codes "00") (codes "0") ≡ None
  no_seek : asked_of_three (codes "Seek") (codes "t") (codes "0") (codes "0") ≡ None
  sought : asked_seek (codes "t") (Some 1) (Some 2) ≡ Some (AsksSeek (codes "t") 1 2)
  no_item_sought : asked_seek (codes "t") None (Some 2) ≡ None
  no_place_sought : asked_seek (codes "t") (Some 1) None ≡ None
  last_item : asked_item (Some 65534) ≡ Some 65534
  no_item : asked_item (Some 65535) ≡ None
  unspelled_item : asked_item None ≡ None
  last_place : asked_place (Some 4294967295) ≡ Some 4294967295
  no_place : asked_place (Some 4294967296) ≡ None
  unspelled_place : asked_place None ≡ None
  first_port : port_of (Some 1) ≡ Some 1
  last_port : port_of (Some 65535) ≡ Some 65535
  no_port : port_of (Some 65536) ≡ None
  port_0 : port_of (Some 0) ≡ None
  no_number : port_of None ≡ None
  cast : asked_of_two (codes "cast") (codes "d") (codes "7") ≡ Some (AsksCast (codes "d") 7)
  listen : asked_of_two (codes "listen") (codes "d") (codes "7") ≡ Some (AsksListen (codes "d") 7)
  cast_of_no_port : asked_of_numbers (codes "cast") (codes "d") (codes "0") ≡ None
  run : asked_of_two (codes "run") (codes "d") (codes "t") ≡ Some (AsksRun (codes "d") (codes "t"))
  empty_deck : asked_of (codes "cast" ∷ [] ∷ codes "7" ∷ []) ≡ None
  -- Three commands wait.
  run_waits : NeedsWait (Some (AsksRun (codes "d") (codes "t")))
  cast_waits : NeedsWait (Some (AsksCast (codes "d") 7))
  listen_waits : NeedsWait (Some (AsksListen (codes "d") 7))
  script_ends : NeedsWait (Some (AsksScript (codes "d") (Some (codes "t")))) → ⊥
  nothing_ends : NeedsWait None → ⊥
  -- Words that are no command have their status and no other, name no output, and give nothing.
  not_done : no_command.Refuses nothing nothing status.Ok → ⊥
  refused : (quiet_meaning None).Refuses nothing nothing status.Words
  no_waiting : (quiet_meaning (Some (AsksRun (codes "d") (codes "t")))).Refuses nothing nothing status.Words
  gives_none : no_command.Gives nothing empty → ⊥
  no_output : no_command.output ≡ None
  run_output : (run_meaning (codes "d") (codes "t")).output ≡ Some (codes "t")
  plan_output : (quiet_meaning (Some (AsksPlan (codes "d")))).output ≡ None
  done : given_status false ≡ status.Ok
  differs : given_status true ≡ status.Differs

words : Words
unfolding number_of
words = record {
  plan = refl;
  script = refl;
  split = refl;
  capital = refl;
  script_of_two = refl;
  tune = refl;
  beam = refl;
  no_beam = refl;
  audit = refl;
  no_name = refl;
  drill = refl;
  greatest_drill = refl;
  too_great_drill = refl;
  no_drill = refl;
  no_seed = refl;
  no_words = refl;
  one_word = refl;
  two_words = refl;
  three_words = refl;
  empty_name = refl;
  empty_tape = refl;
  four_words = refl;
  seek = refl;
  seek_nothing = refl;
  seek_of_three = refl;
  seek_of_five = refl;
  no_spelling = refl;
  no_seek = refl;
  sought = refl;
  no_item_sought = refl;
  no_place_sought = refl;
  last_item = refl;
  no_item = refl;
  unspelled_item = refl;
  last_place = refl;
  no_place = refl;
  unspelled_place = refl;
  first_port = refl;
  last_port = refl;
  no_port = refl;
  port_0 = refl;
  no_number = refl;
  cast = refl;
  listen = refl;
  cast_of_no_port = refl;
  run = refl;
  empty_deck = refl;
  run_waits = tt;
  cast_waits = tt;
  listen_waits = tt;
  script_ends = λ h. h;
  nothing_ends = λ h. h;
  not_done = λ h. let is : status.Ok ≡ status.Words = h in cc;
  refused = refl;
  no_waiting = refl;
  gives_none = λ h. h;
  no_output = refl;
  run_output = refl;
  plan_output = refl;
  done = refl;
  differs = refl;
}
