-- Small reports: each has lines in one section or two.
use Rattle.std.specs.Prelude.{ℕ, List, [], ◌∷◌, ◌++◌, false, None}
use Rattle.air_base.specs.declared.verdicts.ReadOf.{ReadOf}
use Rattle.air_base.specs.declared.verdicts.VerdictKind.TheVariants.{Abort, Aged}
use Rattle.air_history.specs.declared.histories.Event.TheVariants.{Commit, Start}
use Rattle.air_model.specs.Reports.{Report}

-- A line of a text.
abbrev pub with_newline : List ℕ → List ℕ
with_newline text = text ++ 10 ∷ []

-- The report with no lines.
abbrev pub empty_report : Report
empty_report = record { history = []; verdicts = []; counts = []; glances = []; looks = [] }

-- A start, and the first commit of updater 1.
abbrev pub of_two_events : Report
of_two_events = record empty_report {
  history = Start ∷ Commit 1 0 (record { reads = []; writes = record { item = 0; base = None; minus = false; amount = 5 } ∷ [] }) ∷ [];
}

-- A start.
abbrev pub of_a_start : Report
of_a_start = record empty_report { history = Start ∷ [] }

abbrev written_read : ℕ → ℕ → ℕ → ReadOf
written_read item cycle value = record { item = item; cycle = cycle; value = value }

-- The second attempt of query 1 is aborted after two reads. All its numbers differ.
abbrev pub of_an_abort : Report
of_an_abort = record empty_report {
  verdicts = record { reader = 0; verdict = record { query = 1; attempt = 2; kind = Abort 5 6 7 }; reads = written_read 3 4 9 ∷ written_read 7 4 8 ∷ [] } ∷ [];
}

-- The second attempt of query 1 ends aged after two reads. All its numbers differ.
abbrev pub of_an_aged_attempt : Report
of_an_aged_attempt = record empty_report {
  verdicts = record { reader = 0; verdict = record { query = 1; attempt = 2; kind = Aged 5 6 }; reads = written_read 3 4 9 ∷ written_read 7 4 8 ∷ [] } ∷ [];
}

-- The counts of a reader, which all differ.
abbrev pub of_counts : Report
of_counts = record empty_report {
  counts = record { reader = 0; counts = record { opened = 1; dozed = 2; late = 3; refused = 4; foreign = 5; copied = 6 } } ∷ [];
}

-- What a monitor saw in the run, and at its end.
abbrev pub of_a_glance_and_a_look : Report
of_a_glance_and_a_look = record empty_report {
  glances = record { monitor = 0; cycle = 1; total = 30 } ∷ [];
  looks = record { monitor = 0; cycle = 2; total = 31 } ∷ [];
}
