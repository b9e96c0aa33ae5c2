-- The headline follows from the answers, by cases of what the words ask for.
use Rattle.std.proofs.Common.{◌≡◌, ℕ, ◌++◌, List, [], Option, Some, None, IfSome, map, take, refl, ap, sym, ◌∙◌, subst}
use Rattle.std.specs.Io.KnownBytes.{Appends}
use Rattle.air_devices.specs.Ears.{EarState}
use Rattle.air_devices.specs.Masts.{Changes, MastState, SentBuckets}
use Rattle.air_devices.specs.Shelves.{ShelfState}
use Rattle.air_devices.specs.WhatIsTold.{Becomes, WhereTold}
use Rattle.air_model.specs.Aired.{scheme_in}
use Rattle.air_model.specs.Decks.{script_history}
use Rattle.air_model.specs.Judges.{by_entries}
use Rattle.air_model.specs.Outputs.{cast_output, ether_of, run_tape, script_tape, sessions_over, true_sessions, tune_output}
use Rattle.air_model.specs.Reports.{Report, report_text, session_report}
use Rattle.air_model.specs.Tapes.{TapeRead, tape_read}
use Rattle.air_report.specs.ReadReports.{IsReportOf}
use Rattle.air_report.specs.declared.status.Status.{Status}
use Rattle.deck_runs.specs.Casts.{all_sent}
use Rattle.air_sender.specs.AiredBytes.{aired_bytes}
use Rattle.live_replay.specs.FindingTexts.{findings_text, some_differ}
use Rattle.live_replay.proofs.EachFound.{finds_each}
use Rattle.air_cli.specs.Answers.{IsSuccess, QuietAnswers}
use Rattle.air_cli.specs.Audit.{AuditGives, audit_meaning}
use Rattle.air_cli.specs.Cast.{CastGives, cast_meaning}
use Rattle.air_cli.specs.Commands.{quiet_meaning}
use Rattle.air_cli.specs.Deliveries.{IsGiven}
use Rattle.air_cli.specs.Headline.{AuditStands, CastStands, Headline, ListenStands, NowHolds, NowPrints, QuietHeadline, RunStands, ScriptStands, TuneStands}
use Rattle.air_cli.specs.Hearings.{AreFirstHeard, heard_bytes}
use Rattle.air_cli.specs.Listen.{ListenGives, listen_meaning}
use Rattle.air_cli.specs.OnAir.{words_meaning}
use Rattle.air_cli.specs.Outputs.{OutputHolds}
use Rattle.air_cli.specs.ReportsAndTapes.{ReportAndTape, given_status}
use Rattle.air_cli.specs.Run.{RunGives, run_meaning}
use Rattle.air_cli.specs.Script.{ScriptGives, script_meaning}
use Rattle.air_cli.specs.Tune.{TuneGives, tune_meaning}
use Rattle.air_cli.specs.Words.{Request, AsksAudit, AsksCast, AsksListen, AsksRun, AsksScript, AsksTune}
use Rattle.air_cli.proofs.AgreeLemmas.{ends_given}
use Rattle.air_cli.proofs.CauseLemmas.{where_read}
use Rattle.air_cli.proofs.RightLemmas.{judged_report, tuned_report}
use Rattle.air_cli.proofs.TopLemmas.{done}

-- ---- what is told

pub holds : (name bytes : List ℕ) (before now : ShelfState) → Becomes (before.told.output name) (now.told.output name) bytes → NowHolds name bytes before now
holds name bytes before now h = by (before.told.output name) h
  where
    by : (old : Option (List ℕ)) → Becomes old (now.told.output name) bytes → WhereTold old (λ _. now.told.output name ≡ Some bytes)
    by None h = tt
    by (Some xs) h = h

holds_named : (output : Option (List ℕ)) (bytes : List ℕ) (before now : ShelfState) → OutputHolds output bytes before now → IfSome output (λ name. NowHolds name bytes before now)
holds_named None bytes before now h = tt
holds_named (Some name) bytes before now h = holds name bytes before now h

prints : (text : List ℕ) (before now : ShelfState) → Appends before.told.printed now.told.printed text → NowPrints text before now
prints text before now h = by before.told.printed now.told.printed h
  where
    by : (said here : Option (List ℕ)) → Appends said here text → WhereTold said (λ xs. here ≡ Some (xs ++ text))
    by None here h = tt
    by (Some xs) None h = absurd h
    by (Some xs) (Some ys) h = ap Some h

sent_so : (sent : SentBuckets) (old now : Option SentBuckets) → Changes (λ _. sent) old now → WhereTold old (λ _. now ≡ Some sent)
sent_so sent None now h = tt
sent_so sent (Some s) now h = h

first_heard : (most : ℕ) (told : Option (List (List ℕ))) (heard : List (List ℕ)) → AreFirstHeard most told heard → WhereTold told (λ waiting. heard ≡ map heard_bytes (take most waiting))
first_heard most None heard h = tt
first_heard most (Some waiting) heard h = h

-- ---- commands

pub run_stands : (deck tape : List ℕ) (before now : ShelfState) (given : ReportAndTape) → RunGives deck before given → IsGiven (Some tape) given before now → RunStands deck tape before now
unfolding RunGives true_sessions
run_stands deck tape before now given (same, (d, spells, made, (can, (run, is)))) out =
    let H = run.history in
    let report : Report = record (session_report H (true_sessions d H)) { glances = run.glances; looks = run.looks } in
    let went = subst (λ g. IsGiven (Some tape) g before now) is.given_is out in
    record {
      d = d;
      report = report;
      spelled = spells;
      made = made;
      whole = is.run_is.whole;
      bases = is.true_is.bases;
      aired = is.true_is.items;
      judged = judged_report d H (ether_of d H) report refl refl is.true_is.sessions;
      glances = is.run_is.glances;
      looks = is.run_is.looks;
      written = holds tape (run_tape d H) before now went.written;
      printed = prints (report_text report) before now went.printed;
      one = is.true_is.told;
    }

pub script_stands : (deck : List ℕ) (tape : Option (List ℕ)) (before now : ShelfState) (given : ReportAndTape) → ScriptGives deck before given → IsGiven tape given before now
    → ScriptStands deck tape before now
unfolding ScriptGives true_sessions
script_stands deck tape before now given (same, (d, spells, made, (short, few, true_is, is))) out =
    let H = script_history d in
    let report : Report = session_report H (true_sessions d H) in
    let went = subst (λ g. IsGiven tape g before now) is out in
    record {
      d = d;
      report = report;
      spelled = spells;
      made = made;
      history = refl;
      legal = true_is.legal;
      bases = true_is.bases;
      judged = judged_report d H (ether_of d H) report refl refl true_is.sessions;
      unseen = (refl, refl);
      written = holds_named tape (script_tape d) before now went.written;
      printed = prints (report_text report) before now went.printed;
    }

pub tune_stands : (deck tape : List ℕ) (before now : ShelfState) (given : ReportAndTape) → TuneGives deck tape before given → IsGiven None given before now → TuneStands deck tape before now
unfolding TuneGives
tune_stands deck tape before now given (same, (d, spells, made, (short, (bytes, known, is)))) out =
    let records = (tape_read bytes).records in
    let went = subst (λ g. IsGiven None g before now) is.given_is out in
    record {
      d = d;
      records = records;
      report = session_report [] (sessions_over (by_entries (scheme_in d)) d (λ r. records));
      spelled = spells;
      made = made;
      on_tape = where_read (before.told.file tape) bytes (λ b. tape_read b ≡ record { records = records; cut = None }) known (ap (λ cut. let read : TapeRead = record { records = records; cut = cut } in read) is.whole);
      heard = tuned_report d records is.true_is;
      printed = prints (tune_output d records) before now went.printed;
    }

pub cast_stands : (deck : List ℕ) (port : ℕ) (mast mast_now : MastState) (before now : ShelfState) (given : ReportAndTape) → CastGives deck port mast mast_now before given → IsGiven None given before now
    → CastStands deck port mast mast_now before now
unfolding CastGives
cast_stands deck port mast mast_now before now given (same, (d, spells, made, (can, (run, is)))) out =
    let went = subst (λ g. IsGiven None g before now) is.given_is out in
    record {
      d = d;
      report = record { history = run.history; verdicts = []; counts = []; glances = run.glances; looks = run.looks };
      spelled = spells;
      made = made;
      whole = is.run_is.whole;
      bases = is.true_is.bases;
      aired = is.true_is.items;
      unjudged = (refl, refl);
      glances = is.run_is.glances;
      looks = is.run_is.looks;
      sent = sent_so (all_sent (aired_bytes d run.history)) mast.told mast_now.told is.sent;
      aimed = is.port;
      printed = prints (cast_output run.history run.glances run.looks) before now went.printed;
      one = λ report legal text. is.told report legal (text ∙ ap (λ (g : ReportAndTape). g.text) (sym is.given_is));
    }

pub listen_stands : (deck : List ℕ) (port : ℕ) (ear ear_now : EarState) (before now : ShelfState) (given : ReportAndTape) → ListenGives deck port ear ear_now before given → IsGiven None given before now
    → ListenStands deck port ear ear_now before now
unfolding ListenGives
listen_stands deck port ear ear_now before now given (same, (d, spells, made, (short, (heard, is)))) out =
    let went = subst (λ g. IsGiven None g before now) is.given_is out in
    record {
      d = d;
      datagrams = heard;
      report = session_report [] (sessions_over (by_entries (scheme_in d)) d (λ r. heard));
      spelled = spells;
      made = made;
      on_port = first_heard d.settings.hears ear.told heard is.heard_is.are;
      tuned = is.port;
      heard = tuned_report d heard is.true_is;
      printed = prints (tune_output d heard) before now went.printed;
    }

pub audit_stands : (deck report : List ℕ) (before now : ShelfState) (s : Status) (given : ReportAndTape) → AuditGives deck report before given → s ≡ given_status given.differs → IsGiven None given before now
    → AuditStands deck report before now s
unfolding AuditGives
audit_stands deck report before now s given (found, given_is, (d, spells, made, (bytes, known, (few, is)))) ends out =
    let read = is.read in
    let went = subst (λ g. IsGiven None g before now) given_is out in
    record {
      d = d;
      read = read;
      spelled = spells;
      made = made;
      is = where_read (before.told.file report) bytes (λ b. IsReportOf d b read) known is.is;
      legal = is.is.spelled.report.legal;
      printed = subst (λ found. NowPrints (findings_text found) before now) is.are (prints (findings_text found) before now went.printed);
      each = finds_each d bytes read is.is;
      agrees = ends_given d bytes read is.is is.true_of s (ends ∙ ap (λ (g : ReportAndTape). given_status g.differs) given_is ∙ ap (λ found. given_status (some_differ found)) is.are);
    }

-- ---- calls

pub quiet_headline : (asked : Option Request) (before now : ShelfState) (s : Status) → QuietAnswers (quiet_meaning asked) before now s → IsSuccess s → QuietHeadline asked before now s
quiet_headline (Some (AsksScript deck tape)) before now s answers good =
    let is = done (script_meaning deck tape) before now s good answers in script_stands deck tape before now is.gives.0 is.gives.1 is.gives.3
quiet_headline (Some (AsksTune deck tape)) before now s answers good =
    let is = done (tune_meaning deck tape) before now s good answers in tune_stands deck tape before now is.gives.0 is.gives.1 is.gives.3
quiet_headline (Some (AsksAudit deck report)) before now s answers good =
    let is = done (audit_meaning deck report) before now s good answers in audit_stands deck report before now s is.gives.0 is.gives.1 is.gives.2 is.gives.3
quiet_headline other before now s answers good = tt

pub words_headline : (asked : Option Request) (mast mast_now : MastState) (ear ear_now : EarState) (before now : ShelfState) (s : Status)
    → QuietAnswers (words_meaning asked mast mast_now ear ear_now) before now s → IsSuccess s → Headline asked mast mast_now ear ear_now before now s
words_headline (Some (AsksRun deck tape)) mast mast_now ear ear_now before now s answers good =
    let is = done (run_meaning deck tape) before now s good answers in run_stands deck tape before now is.gives.0 is.gives.1 is.gives.3
words_headline (Some (AsksCast deck port)) mast mast_now ear ear_now before now s answers good =
    let is = done (cast_meaning deck port mast mast_now) before now s good answers in cast_stands deck port mast mast_now before now is.gives.0 is.gives.1 is.gives.3
words_headline (Some (AsksListen deck port)) mast mast_now ear ear_now before now s answers good =
    let is = done (listen_meaning deck port ear ear_now) before now s good answers in listen_stands deck port ear ear_now before now is.gives.0 is.gives.1 is.gives.3
words_headline other mast mast_now ear ear_now before now s answers good = quiet_headline other before now s answers good
