-- The numbers and the lines of statuses, computed.
use Rattle.std.specs.Prelude.{◌≡◌, true, false, [], ◌∷◌, codes, map, refl}
use Rattle.csv.specs.Writing.{escaped, fields_text, is_blank}
use Rattle.air_base.specs.Numbers.{number_text}
use Rattle.air_model.specs.Rows.{rows_text}
use Rattle.air_report.specs.Statuses.{fault_line, status_line, status_number, status_numbers, tells_fault}
use Rattle.air_report.specs.declared.status.Status.TheVariants as status

pub record Statuses : Type 0 where
  -- The row before the kind.
  numbers_of_deck : status_numbers (status.Deck 3 7) ≡ 2 ∷ 3 ∷ 7 ∷ []
  numbers_of_report : status_numbers (status.Report 3 7) ≡ 8 ∷ 3 ∷ 7 ∷ []
  number_of_deck : status_number (status.Deck 3 7) ≡ 2
  number_of_write : status_number status.WriteFault ≡ 4
  a_fault : tells_fault status.ReadFault ≡ true
  no_fault : tells_fault status.NoMemory ≡ false
  a_line : fault_line (3 ∷ []) ≡ codes "fault,3\n"
  -- One line for each status that has one.
  lines : map status_line (status.Words ∷ status.Deck 7 8 ∷ status.ReadFault ∷ status.TapeCut 36 ∷ status.TooLarge 67108864 ∷ status.Report 2 5
      ∷ status.AirFault 1 ∷ status.TooMuch 50100000 ∷ status.TooLong 1085865984 ∷ status.PlanTooLong 737856 ∷ [])
      ≡ codes "fault,1\n" ∷ codes "fault,2,7,8\n" ∷ codes "fault,3\n" ∷ codes "fault,6,36\n" ∷ codes "fault,7,67108864\n" ∷ codes "fault,8,2,5\n"
      ∷ codes "fault,10,1\n" ∷ codes "fault,11,50100000\n" ∷ codes "fault,12,1085865984\n" ∷ codes "fault,13,737856\n" ∷ []
  without_line : map status_line (status.Ok ∷ status.WriteFault ∷ status.NoMemory ∷ status.Differs ∷ []) ≡ [] ∷ [] ∷ [] ∷ [] ∷ []

statuses : Statuses
unfolding rows_text number_text escaped fields_text is_blank
statuses = record {
  numbers_of_deck = refl;
  numbers_of_report = refl;
  number_of_deck = refl;
  number_of_write = refl;
  a_fault = refl;
  no_fault = refl;
  a_line = refl;
  lines = refl;
  without_line = refl;
}
