-- Reports of the small deck, as they are read: three commits of updater 0 in cycle 1, then the start of cycle 2, and lines after it.
use Rattle.std.specs.Prelude.{ℕ, List, [], ◌∷◌, Option, replicate}
use Rattle.air_base.specs.declared.verdicts.Policy.TheVariants.{RMatrix}
use Rattle.air_base.specs.declared.verdicts.ReadOf.{ReadOf}
use Rattle.air_base.specs.declared.verdicts.VerdictKind.{VerdictKind}
use Rattle.air_base.specs.declared.verdicts.VerdictKind.TheVariants.{Accept, Abort, Aged}
use Rattle.air_history.specs.declared.histories.Event.{Event}
use Rattle.air_history.specs.declared.histories.Event.TheVariants.{Commit, Start}
use Rattle.air_model.specs.Decks.{Deck}
use Rattle.air_model.specs.declared.reports.LookLine.{LookLine}
use Rattle.air_model.specs.declared.reports.VerdictLine.{VerdictLine}
use Rattle.air_report.specs.declared.reading.ReadReport.{ReadReport}
use Rattle.live_replay.specs.declared.findings.Cause.{Cause}
use Rattle.live_replay.specs.declared.findings.Finding.{Finding}
use Rattle.report_pins.specs.SmallDeck.{adding_update, setting_update, small_deck}

-- In cycle 1 item 0 becomes 11, item 1 becomes 13 and item 2 becomes 32; item 3 stays 40.
abbrev pub history : List Event
history = Start ∷ Commit 0 0 (setting_update 0 11) ∷ Commit 0 1 (adding_update 1 0 2) ∷ Commit 0 2 (setting_update 2 32) ∷ Start ∷ []

abbrev reported_read : ℕ → ℕ → ℕ → ReadOf
reported_read item cycle value = record { item = item; cycle = cycle; value = value }

-- The line of the first attempt of a query.
abbrev ended : VerdictKind → ℕ → List ReadOf → VerdictLine
ended kind query reads = record { reader = 0; verdict = record { query = query; attempt = 1; kind = kind }; reads = reads }

-- A report of that history with these verdicts and looks, in these rows.
abbrev report_in_rows : List VerdictLine → List LookLine → List ℕ → List ℕ → ReadReport
report_in_rows verdicts looks verdict_rows look_rows = record {
  report = record { history = history; verdicts = verdicts; counts = []; glances = []; looks = looks };
  verdict_rows = verdict_rows;
  glance_rows = [];
  look_rows = look_rows;
}

-- Under F-Matrix: an accept of reads from two commits, an abort that is right, an abort of a read that passes, an accept that is wrong by
-- its last value and by its verdict, and a look at cycle 2.
abbrev pub read_report : ReadReport
read_report = report_in_rows
    (ended Accept 3 (reported_read 0 2 11 ∷ reported_read 2 2 32 ∷ []) ∷ ended (Abort 1 2 0) 2 (reported_read 0 1 10 ∷ []) ∷ ended (Abort 1 1 0) 2 (reported_read 0 1 10 ∷ [])
    ∷ ended Accept 2 (reported_read 0 1 10 ∷ reported_read 1 2 14 ∷ []) ∷ [])
    (record { monitor = 0; cycle = 2; total = 96 } ∷ [])
    (6 ∷ 7 ∷ 8 ∷ 9 ∷ [])
    (10 ∷ [])

-- The deck under R-Matrix.
abbrev pub r_matrix_deck : Deck
r_matrix_deck = record small_deck { settings = record small_deck.settings { policy = RMatrix } }

-- Under R-Matrix: an accept whose second read comes late, of an item that nothing writes, and an abort whose read clashes with both before it.
abbrev pub late_report : ReadReport
late_report = report_in_rows
    (ended Accept 0 (reported_read 0 2 11 ∷ reported_read 3 1 40 ∷ []) ∷ ended (Abort 2 2 0) 1 (reported_read 0 1 10 ∷ reported_read 1 1 20 ∷ []) ∷ [])
    []
    (6 ∷ 7 ∷ [])
    []

-- The deck with groups of two items.
abbrev pub group_deck : Deck
group_deck = record small_deck { settings = record small_deck.settings { group = 2 } }

-- By groups: an abort whose read clashes with a newer one, in whose group its own item was written since, and an accept of both reads.
abbrev pub group_report : ReadReport
group_report = report_in_rows
    (ended (Abort 1 1 0) 2 (reported_read 0 2 11 ∷ []) ∷ ended Accept 2 (reported_read 0 2 11 ∷ reported_read 1 1 20 ∷ []) ∷ [])
    []
    (6 ∷ 7 ∷ [])
    []

-- Over 256 starts and no commit: an aged attempt whose next read is 255 cycles from its first, and one whose next read is 254 from it.
abbrev pub far_report : ReadReport
far_report = record {
  report = record {
    history = replicate 256 Start;
    verdicts = ended (Aged 1 256) 2 (reported_read 0 1 10 ∷ []) ∷ ended (Aged 1 256) 2 (reported_read 0 2 10 ∷ []) ∷ [];
    counts = [];
    glances = [];
    looks = [];
  };
  verdict_rows = 257 ∷ 258 ∷ [];
  glance_rows = [];
  look_rows = [];
}

-- The finding of the line in a row.
abbrev pub found : ℕ → Option Cause → Finding
found row differs = record { row = row; differs = differs }
