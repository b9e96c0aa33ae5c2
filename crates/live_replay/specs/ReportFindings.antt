-- The words of the laws of whole reports: what is found of the line in a row, and the sessions that a history judges.
use Rattle.std.specs.Prelude.{ℕ, List, length, map, Option, Some, None, Result, Ok, Err}
use Rattle.std.specs.List.{range_with_len}
use Rattle.air_history.specs.declared.histories.Event.{Event}
use Rattle.air_model.specs.Aired.{scheme_in}
use Rattle.air_model.specs.Buckets.{Bucket}
use Rattle.air_model.specs.Decks.{Deck, values_in}
use Rattle.air_model.specs.Judges.{by_history}
use Rattle.air_model.specs.ReceiverLaws.{session_of}
use Rattle.air_model.specs.Sessions.{State}
use Rattle.air_report.specs.declared.reading.kinds.ReportFaultKind.{ReportFaultKind}
use Rattle.air_report.specs.declared.reading.lines.ReportLine.{ReportLine}
use Rattle.air_report.specs.declared.reading.lines.ReportLine.TheVariants.{Counts, Event as AnEvent, Glance, Look, Verdict}
use Rattle.live_replay.specs.declared.findings.Finding.{Finding}
use Rattle.live_replay.specs.Findings.{look_cause, verdict_cause}

-- What is found of a line in a row: of an event and of counts nothing.
abbrev pub finding_of : Deck → List Event → ℕ → ReportLine → Option Finding
finding_of deck H row (AnEvent line) = None
finding_of deck H row (Verdict line) = Some (record { row = row; differs = verdict_cause deck H line })
finding_of deck H row (Counts line) = None
finding_of deck H row (Glance line) = Some (record { row = row; differs = look_cause deck H line })
finding_of deck H row (Look line) = Some (record { row = row; differs = look_cause deck H line })

-- What is found of what a record spells.
abbrev pub spelled_finding : Deck → List Event → ℕ → Result ReportLine ReportFaultKind → Option Finding
spelled_finding deck H row (Ok line) = finding_of deck H row line
spelled_finding deck H row (Err kind) = None

-- The sessions of all readers, each judged by a history over what it heard.
abbrev pub sessions_judged : Deck → List Event → (ℕ → List (Option Bucket)) → List State
sessions_judged deck H heard = map (λ r. session_of (by_history (scheme_in deck) (length deck.items) (values_in deck) H) deck r (heard r)) (range_with_len 0 (length deck.readers))
