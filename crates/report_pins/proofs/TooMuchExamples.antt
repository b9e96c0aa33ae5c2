-- A report that is too much to replay: one commit, and 50,000,001 looks.
use Rattle.std.proofs.Common.{◌≡◌, ◌<◌, ◌≤◌, ℕ, zero, suc, List, [], ◌∷◌, length, replicate, refl, subst, arith}
use Rattle.std.specs.List.{range_with_len}
use Rattle.std.proofs.lemmas.List.{length-replicate}
use Rattle.std.proofs.lemmas.List.Elements.{All-from_recursion, All-nil, All-replicate}
use Rattle.air_history.specs.Histories.{is_start, starts}
use Rattle.air_history.specs.UpdateLists.{UpdateLists}
use Rattle.air_history.specs.declared.histories.Event.{Event}
use Rattle.air_history.specs.declared.histories.Event.TheVariants.{Commit, Start}
use Rattle.air_model.specs.Decks.{IsLegal, IsNextCommit}
use Rattle.air_model.specs.Reports.{Report, report_rows, report_text}
use Rattle.air_model.specs.declared.reports.LookLine.{LookLine}
use Rattle.item_catalog.proofs.WrittenRows.{written_rows}
use Rattle.air_report.specs.ReadReports.{IsReportOf}
use Rattle.air_report.specs.ReportRules.{CountsWide, EventWide, IsReport, IsTried, LookWide, VerdictWide}
use Rattle.air_report.specs.declared.reading.ReadReport.{ReadReport}
use Rattle.air_report.proofs.StandingLines.{plain_report}
use Rattle.live_replay.specs.AuditAnswers.{IsTooMuch}
use Rattle.live_replay.specs.Audits.{replayed_in}
use Rattle.live_replay.specs.declared.limits.TheConstants.{MOST_REPLAYED}
use Rattle.report_pins.specs.SmallDeck.{setting_update, small_deck}

-- The first update of updater 0 is committed, and cycle 1 starts.
abbrev history : List Event
history = Commit 0 0 (setting_update 0 11) ∷ Start ∷ []

abbrev look : LookLine
look = record { monitor = 0; cycle = 1; total = 0 }

-- The looks are alike.
abbrev looked : ℕ → Report
looked n = record { history = history; verdicts = []; counts = []; glances = []; looks = replicate n look }

abbrev read : ℕ → ReadReport
read n = record { report = looked n; verdict_rows = []; glance_rows = []; look_rows = range_with_len 3 (length (replicate n look)) }

legal : IsLegal small_deck history
legal zero by seq update there =
    let b : 0 ≡ by = cc in
    let s : 0 ≡ seq = cc in
    let u : setting_update 0 11 ≡ update = cc in
    next by seq update b s u
  where
    next : (by seq : ℕ) (update : UpdateLists) → 0 ≡ by → 0 ≡ seq → setting_update 0 11 ≡ update → IsNextCommit small_deck [] by seq update
    next by seq update b s u = subst (λ b. IsNextCommit small_deck [] b seq update) b (subst (λ s. IsNextCommit small_deck [] 0 s update) s (subst (λ u. IsNextCommit small_deck [] 0 0 u) u (record { number = refl; given = refl })))
legal (suc zero) by seq update there = cc
legal (suc (suc p)) by seq update there = cc

its_report : (n : ℕ) → IsReport small_deck (looked n)
unfolding starts is_start
its_report n = record {
  widths = record {
    events = All-from_recursion EventWide history ((omega arith, omega arith), (tt, tt));
    verdicts = All-nil VerdictWide;
    counts = All-nil CountsWide;
    glances = All-nil LookWide;
    looks = All-replicate LookWide n look (record { monitor = omega arith; cycle = omega arith; total = omega arith });
  };
  legal = legal;
  known = record {
    verdicts = All-nil (IsTried small_deck);
    counts = λ k d below. absurd (omega (arith, below));
    glances = λ k d below. absurd (omega (arith, below));
    looks = All-replicate (λ l. l.monitor < 1) n look (omega arith);
  };
  begun = record {
    verdicts = λ k d below. absurd (omega (arith, below));
    glances = λ k d below. absurd (omega (arith, below));
    looks = All-replicate (λ l. l.cycle ≤ 1) n look (omega arith);
  };
}

its_reading : (n : ℕ) → IsReportOf small_deck (report_text (looked n)) (read n)
unfolding report_text
its_reading n = record {
  spelled = record { rows = written_rows (report_rows (looked n)) (plain_report (looked n)); report = its_report n };
  verdict_rows = refl;
  glance_rows = refl;
  look_rows = refl;
}

-- Each look is replayed once.
replayed : (n : ℕ) → n ≡ replayed_in (looked n)
unfolding replayed_in is_start
replayed n = let all : length (replicate n look) ≡ n = length-replicate n look in omega (arith, all)

too_many : (n : ℕ) → MOST_REPLAYED < n → IsTooMuch small_deck (report_text (looked n)) n
too_many n above = record { read = read n; is = its_reading n; counted = replayed n; above = above }

-- So many replays are too many, and that number is told.
too_much : IsTooMuch small_deck (report_text (looked 50000001)) 50000001
too_much = too_many 50000001 (omega arith)
