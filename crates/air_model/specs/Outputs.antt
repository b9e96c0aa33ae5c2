-- What each command prints and writes, as functions of the plain deck and of what else it reads or runs. So an output is a
-- function of its inputs. Only `run` and `cast` also depend on a history and on what monitors saw.
use Rattle.std.specs.Prelude.{ℕ, List, [], length, map}
use Rattle.std.specs.List.{range_with_len}
use Rattle.air_history.specs.declared.histories.Event.{Event}
use Rattle.air_model.specs.Buckets.{bucket_in, spelling}
use Rattle.air_model.specs.Ethers.{Odds, heard_by}
use Rattle.air_model.specs.PlanTexts.{plan_text}
use Rattle.air_model.specs.Decks.{Deck, rates_in, script_history, values_in}
use Rattle.air_model.specs.Aired.{scheme_in, air_of, buckets_of, history_tape}
use Rattle.air_model.specs.Judges.{Judge, by_entries, by_history}
use Rattle.air_model.specs.Sessions.{State}
use Rattle.air_model.specs.ReceiverLaws.{session_of}
use Rattle.air_model.specs.declared.reports.LookLine.{LookLine}
use Rattle.air_model.specs.Reports.{report_text, session_report}

-- ---- what readers hear

-- The sessions of all readers, each over what it hears.
abbrev pub sessions_over : Judge → Deck → (ℕ → List (List ℕ)) → List State
sessions_over judge deck heard = map (λ r. session_of judge deck r (map bucket_in (heard r))) (range_with_len 0 (length deck.readers))

-- The odds of a deck's ethers.
abbrev pub odds_in : Deck → Odds
odds_in deck = record { loss = deck.settings.loss; again = deck.settings.again; late = deck.settings.late }

-- What a reader hears of a history: the bytes of its buckets, through the reader's own ether.
abbrev pub ether_of : Deck → List Event → ℕ → List (List ℕ)
ether_of deck H r = heard_by deck.settings.seed r (odds_in deck) (map spelling (buckets_of (values_in deck) (air_of deck) H))

-- The sessions of all readers over a history, judged by it.
unfoldable pub true_sessions : Deck → List Event → List State
true_sessions deck H = sessions_over (by_history (scheme_in deck) (length deck.items) (values_in deck) H) deck (ether_of deck H)

-- ---- commands

-- What `plan` prints.
abbrev pub plan_output : Deck → List ℕ
plan_output deck = plan_text (rates_in deck) deck.disks deck.replans

-- What `script` prints.
abbrev pub script_output : Deck → List ℕ
script_output deck = report_text (session_report (script_history deck) (true_sessions deck (script_history deck)))

-- The tape that `script` writes.
abbrev pub script_tape : Deck → List ℕ
script_tape deck = history_tape (values_in deck) (air_of deck) (script_history deck)

-- What `tune` prints for the records of a tape, and `listen` for what it heard. Each reader hears all of it, and judges by the
-- entries.
abbrev pub tune_output : Deck → List (List ℕ) → List ℕ
tune_output deck records = report_text (session_report [] (sessions_over (by_entries (scheme_in deck)) deck (λ r. records)))

-- What `run` prints, if its threads made this history and its monitors saw these glances and looks.
abbrev pub run_output : Deck → List Event → List LookLine → List LookLine → List ℕ
run_output deck H glances looks = report_text (record (session_report H (true_sessions deck H)) { glances = glances; looks = looks })

-- The tape that `run` writes.
abbrev pub run_tape : Deck → List Event → List ℕ
run_tape deck H = history_tape (values_in deck) (air_of deck) H

-- What `cast` prints.
abbrev pub cast_output : List Event → List LookLine → List LookLine → List ℕ
cast_output H glances looks = report_text (record { history = H; verdicts = []; counts = []; glances = glances; looks = looks })
