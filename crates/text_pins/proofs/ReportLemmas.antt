-- The texts of small reports, computed.
use Rattle.std.proofs.Common.{◌≡◌, ◌++◌, refl}
use Rattle.std.specs.Prelude.{codes}
use Rattle.csv.specs.Writing.{fields_text, is_blank}
use Rattle.air_base.specs.Numbers.{number_text}
use Rattle.air_model.specs.Reports.{report_text}
use Rattle.air_model.specs.Rows.{rows_text}
use Rattle.text_pins.specs.SmallReports.{of_a_glance_and_a_look, of_a_start, of_an_abort, of_an_aged_attempt, of_counts, of_two_events, with_newline}

pub text_of_two_events : report_text of_two_events ≡ with_newline (codes "start") ++ with_newline (codes "commit,1,0")
unfolding report_text rows_text number_text fields_text is_blank
text_of_two_events = refl

pub text_of_an_abort : report_text of_an_abort ≡ with_newline (codes "abort,0,1,2,3@4=9 7@4=8,5@6,7")
unfolding report_text rows_text number_text fields_text is_blank
text_of_an_abort = refl

pub text_of_an_aged_attempt : report_text of_an_aged_attempt ≡ with_newline (codes "aged,0,1,2,3@4=9 7@4=8,5@6")
unfolding report_text rows_text number_text fields_text is_blank
text_of_an_aged_attempt = refl

pub text_of_counts : report_text of_counts ≡ with_newline (codes "counts,0,1,2,3,4,5,6")
unfolding report_text rows_text number_text fields_text is_blank
text_of_counts = refl

pub text_of_a_glance_and_a_look : report_text of_a_glance_and_a_look ≡ with_newline (codes "glance,0,1,30") ++ with_newline (codes "look,0,2,31")
unfolding report_text rows_text number_text fields_text is_blank
text_of_a_glance_and_a_look = refl

pub text_of_a_start : report_text of_a_start ≡ with_newline (codes "start")
unfolding report_text rows_text number_text fields_text is_blank
text_of_a_start = refl
