-- What commands give and why they are refused, at limits and where nothing is told: what each relation allows, and what follows from it.
use Rattle.std.proofs.Common.{◌≡◌, ◌≤◌, ◌<◌, ℕ, false, List, [], ◌∷◌, Option, Some, None, length, map, take, refl, ap, inl, inr, arith}
use Rattle.std.specs.Prelude.{codes}
use Rattle.air_devices.specs.Ears.{EarState}
use Rattle.air_devices.specs.Masts.{MastState, SentBuckets, nothing_sent}
use Rattle.air_devices.specs.Shelves.{ShelfState}
use Rattle.air_history.specs.declared.histories.Event.{Event}
use Rattle.air_model.specs.Aired.{scheme_in}
use Rattle.air_model.specs.Buckets.{bucket_in}
use Rattle.air_model.specs.Decks.{Deck, IsDeck, IsWhole, script_history, values_in}
use Rattle.item_catalog.specs.DeckLimits.{WithinLimits}
use Rattle.air_model.specs.Judges.{by_history}
use Rattle.air_model.specs.Outputs.{script_tape, sessions_over}
use Rattle.air_model.specs.ReceiverLaws.{IsTrueSession}
use Rattle.air_model.specs.Reports.{Report, counts_lines, verdict_lines}
use Rattle.air_model.specs.Tapes.{ends_inside, read_from, tape_read}
use Rattle.air_index.specs.Seeks.{sought}
use Rattle.air_index.specs.declared.sought.Sought.TheVariants.{Lost}
use Rattle.air_sender.specs.AiredBytes.{aired_bytes}
use Rattle.air_report.specs.ReadReports.{IsReportOf}
use Rattle.air_report.specs.declared.status.Status.TheVariants as status
use Rattle.chunk_program.specs.Plans.{AreShort}
use Rattle.deck_runs.specs.Casts.{first_sent}
use Rattle.disk_split.specs.SplitAnswers.{AreAllTooLong, search_size}
use Rattle.disk_split.specs.Splits.{IsBest, IsShortSplit}
use Rattle.live_replay.proofs.AuditExamples.{its_bytes, small}
use Rattle.air_cli.specs.Audit.{AuditCause}
use Rattle.air_cli.specs.Cast.{HasSent, cast_meaning}
use Rattle.air_cli.specs.Drill.{DrillGives}
use Rattle.air_cli.specs.Headline.{AuditStands, IsJudgedReport, ListenStands, ScriptStands}
use Rattle.air_cli.specs.HeardTapes.{UnheardCause}
use Rattle.air_cli.specs.Hearings.{heard_bytes}
use Rattle.air_cli.specs.Listen.{HasHeardPort, listen_meaning}
use Rattle.air_cli.specs.NamedDecks.{DeckCause}
use Rattle.air_cli.specs.NamedFiles.{UnreadCause}
use Rattle.air_cli.specs.OnAir.{LeavesEar, LeavesMast, words_meaning}
use Rattle.air_cli.specs.ReportsAndTapes.{ReportAndTape}
use Rattle.air_cli.specs.Script.{ScriptGives}
use Rattle.air_cli.specs.Seek.{IsSought, seek_given, seek_meaning}
use Rattle.air_cli.specs.Split.{CanBeSplit, SplitCause, SplitGives}
use Rattle.air_cli.specs.Truths.{AreTrue, IsTrueScript}
use Rattle.air_cli.specs.Tune.{TuneCause}
use Rattle.air_cli.specs.Words.{AsksCast, AsksListen}
use Rattle.air_cli.specs.Private.GivenTexts.{script_given, split_given}
use Rattle.air_cli.proofs.ListenExamples.{a, b, fresh_ear, tuned}
use Rattle.air_cli.proofs.ToldExamples.{shelf, short, small_made, spells_deck, untold}

-- A shelf whose every file has these bytes.
abbrev pub of_bytes : List ℕ → ShelfState
of_bytes bytes = record shelf { told = record shelf.told { file = λ name. Some bytes } }

-- ---- files that are too large, and a tape that is cut

pub record Files : Type 0 where
  deck : DeckCause (codes "d") untold untold (status.TooLarge 67108864)
  report : AuditCause (codes "d") (codes "r") untold untold (status.TooLarge 134217728)
  tape : TuneCause (codes "d") (codes "t") untold untold (status.TooLarge 1073741824)
  sought_tape : (seek_meaning (codes "t") 0 0).Refuses untold untold (status.TooLarge 1073741824)
  -- one byte is a cut tape, if a tape may have one byte
  one_byte : UnheardCause (codes "t") 1 (of_bytes (0 ∷ [])) untold (status.TapeCut 0)
  too_many : UnheardCause (codes "t") 0 (of_bytes (0 ∷ [])) untold (status.TapeCut 0) → ⊥

pub files : Files
unfolding DeckCause AuditCause TuneCause UnheardCause UnreadCause ends_inside read_from
files = record {
  deck = (refl, tt);
  report = inr ((small, tt, small_made, tt), (refl, tt));
  tape = inr ((small, tt, small_made, short), (refl, tt));
  sought_tape = (refl, tt);
  one_byte = (0 ∷ [], refl, (omega arith, refl));
  too_many = λ h. let few : length h.0 ≤ 0 = h.2.0 in let same : length h.0 ≡ 1 = ap length h.1 in omega (arith, few, same);
}

-- ---- what `seek`, `split`, `script` and `drill` give

pub record Given : Type 0 where
  -- a tape of 1,073,741,824 bytes may be sought in, and no longer one, nor one that is cut
  longest : (bytes : List ℕ) → length bytes ≡ 1073741824 → (tape_read bytes).cut ≡ None → IsSought 0 0 (seek_given 0 (sought (tape_read bytes).records 0 0)) bytes
  too_long : (given : ReportAndTape) (bytes : List ℕ) → length bytes ≡ 1073741825 → IsSought 0 0 given bytes → ⊥
  cut : (given : ReportAndTape) → IsSought 0 0 given (0 ∷ []) → ⊥
  other_tape : IsSought 0 0 (record (seek_given 0 (Lost 0)) { tape = 1 ∷ [] }) [] → ⊥
  suits : (bytes : List ℕ) → length bytes ≡ 1073741824 → (tape_read bytes).cut ≡ None → (seek_meaning (codes "t") 0 0).Suits untold
  fits : (h : (seek_meaning (codes "t") 0 0).Suits untold) → length h.0 ≤ 1073741824
  -- a search of 600,000 isn't too much, and one more is
  searched : (d : Deck) (sizes : List ℕ) → search_size d ≡ 600000 → IsShortSplit d sizes → CanBeSplit d
  not_searched : (d : Deck) → search_size d ≡ 600001 → CanBeSplit d → ⊥
  too_much : (d : Deck) → IsDeck d × WithinLimits d → search_size d ≡ 600001 → SplitCause (codes "d") untold untold (status.TooMuch 600001)
  not_too_much : SplitCause (codes "d") untold untold (status.TooMuch 600000) → ⊥
  all_long : (d : Deck) → IsDeck d × WithinLimits d → search_size d ≡ 600000 → AreAllTooLong d 5 → SplitCause (codes "d") untold untold (status.PlanTooLong 5)
  searched_first : (h : SplitCause (codes "d") untold untold (status.PlanTooLong 5)) → (d : Deck) × (search_size d ≤ 600000)
  split : (d : Deck) (sizes : List ℕ) → IsDeck d × WithinLimits d → search_size d ≡ 600000 → IsBest d sizes → SplitGives (codes "d") untold (split_given d sizes)
  split_searched : (given : ReportAndTape) → SplitGives (codes "d") untold given → (d : Deck) × (search_size d ≤ 600000)
  -- a script's tape has at most 1,073,741,824 bytes
  script : (d : Deck) → IsDeck d × WithinLimits d → AreShort d → length (script_tape d) ≡ 1073741824 → IsTrueScript d → ScriptGives (codes "d") untold (script_given d)
  script_fits : (given : ReportAndTape) → ScriptGives (codes "d") untold given → (d : Deck) × (length (script_tape d) ≤ 1073741824)
  -- nothing in a drill differs
  drill : (given : ReportAndTape) → DrillGives 2 1 given → given.differs ≡ false

pub given_by : Given
unfolding SplitCause SplitGives ScriptGives DrillGives ends_inside read_from
given_by = record {
  longest = λ bytes all whole. record { fits = omega (arith, all); whole = whole; given_is = refl };
  too_long = λ given bytes more h. let few : length bytes ≤ 1073741824 = h.fits in omega (arith, few, more);
  cut = λ given h. let whole : ◌≡◌ {A = Option ℕ} (Some 0) None = h.whole in cc;
  other_tape = λ h. let tape : ◌≡◌ {A = List ℕ} (1 ∷ []) [] = ap (λ (g : ReportAndTape). g.tape) h.given_is in cc;
  suits = λ bytes all whole. (bytes, tt, (omega (arith, all), whole));
  fits = λ h. h.2.0;
  searched = λ d sizes all is. record { few = omega (arith, all); short = (sizes, is) };
  not_searched = λ d more h. let few : search_size d ≤ 600000 = h.few in omega (arith, few, more);
  too_much = λ d made more. (d, tt, made, (omega (arith, more), omega arith));
  not_too_much = λ h. let above : 600000 < 600000 = h.3.1 in omega (arith, above);
  all_long = λ d made all are. (d, tt, made, (omega (arith, all), are));
  searched_first = λ h. (h.0, h.3.0);
  split = λ d sizes made all best. (refl, (d, tt, made, (omega (arith, all), (sizes, best, refl))));
  split_searched = λ given h. (h.1.0, h.1.3.0);
  script = λ d made is_short all true_is. (refl, (d, tt, made, (is_short, omega (arith, all), true_is, refl)));
  script_fits = λ given h. (h.1.0, h.1.3.1);
  drill = λ given h. ap (λ (g : ReportAndTape). g.differs) h.1;
}

-- ---- masts and ears

-- A mast and an ear on port 7, of which nothing is told.
abbrev silent_mast : MastState
silent_mast = record { told = None; faults = 0; port = Some 7 }

abbrev silent_ear : EarState
silent_ear = record { told = None; faults = 0; port = Some 7 }

-- The end was sent after no bucket.
abbrev end_sent : SentBuckets
end_sent = record nothing_sent { ended = Some 0 }

pub record OnAir : Type 0 where
  -- all of a whole history may have been sent, and as many datagrams heard as the deck says
  all_sent : (H : List Event) → IsWhole small H → HasSent small 7 silent_mast silent_mast
  all_heard : HasHeardPort small 7 silent_ear silent_ear
  -- on the port that is asked for, and what was told is told again
  other_port : HasSent small 8 silent_mast silent_mast → ⊥
  other_ear : HasHeardPort small 8 silent_ear silent_ear → ⊥
  untold_sent : HasSent small 7 (record silent_mast { told = Some nothing_sent }) silent_mast → ⊥
  -- and no call failed if the end was sent
  end_failed : HasSent small 7 (record silent_mast { told = Some nothing_sent }) (record silent_mast { told = Some end_sent; faults = 1 }) → ⊥
  untold_heard : HasHeardPort small 7 (record silent_ear { told = Some [] }) silent_ear → ⊥
  -- so a cast leaves the mast, and `listen` the ear
  sent : (H : List Event) → IsWhole small H → LeavesMast (Some (AsksCast (codes "d") 7)) shelf (record silent_mast { port = None }) silent_mast
  heard : LeavesEar (Some (AsksListen (codes "d") 7)) shelf (fresh_ear (a ∷ b ∷ [])) (tuned (b ∷ []))

pub on_air : OnAir
on_air = record {
  all_sent = λ H whole. record { sent = inr (H, whole, tt, refl); later = omega arith; port = refl };
  all_heard = record { taken = (1000000, omega arith, tt); later = omega arith; port = refl };
  other_port = λ h. let port : ◌≡◌ {A = Option ℕ} (Some 7) (Some 8) = h.port in let same : ◌≡◌ {A = ℕ} 7 8 = cc in omega (arith, same);
  other_ear = λ h. let port : ◌≡◌ {A = Option ℕ} (Some 7) (Some 8) = h.port in let same : ◌≡◌ {A = ℕ} 7 8 = cc in omega (arith, same);
  untold_sent = λ h. elim h.sent as (λ _. ⊥) [ inl first ↦ (let told : None ≡ Some _ = first.1.sent in cc) | inr all ↦ (let told : None ≡ Some _ = all.2 in cc) ];
  end_failed = λ h. elim h.sent as (λ _. ⊥) [
    | inl first ↦ (let told : Some end_sent ≡ Some (first_sent first.0 (aired_bytes small first.1.history)) = first.1.sent in
        let same : end_sent ≡ first_sent first.0 (aired_bytes small first.1.history) = cc in let e : ◌≡◌ {A = Option ℕ} (Some 0) None = ap (λ (s : SentBuckets). s.ended) same in cc)
    | inr all ↦ (let calm : 1 ≡ 0 = all.3 in omega (arith, calm))
  ];
  untold_heard = λ h. let told : None ≡ Some _ = h.taken.2 in cc;
  sent = λ H whole. inr (small, spells_deck, small_made, record { sent = inr (H, whole, tt, refl); later = omega arith; port = refl });
  heard = inr (small, spells_deck, small_made, record { taken = (1, omega arith, refl); later = omega arith; port = refl });
}

pub record Words : Type 1 where
  cast : (mast mast_now : MastState) (ear ear_now : EarState) → words_meaning (Some (AsksCast (codes "d") 7)) mast mast_now ear ear_now ≡ cast_meaning (codes "d") 7 mast mast_now
  listen : (mast mast_now : MastState) (ear ear_now : EarState) → words_meaning (Some (AsksListen (codes "d") 7)) mast mast_now ear ear_now ≡ listen_meaning (codes "d") 7 ear ear_now

words : Words
words = record { cast = λ mast mast_now ear ear_now. refl; listen = λ mast mast_now ear ear_now. refl }

-- ---- what follows from the headline

-- Two readers.
abbrev two_readers : Deck
two_readers = record small { readers = record { room = 0; age = 0; tries = 1 } ∷ record { room = 0; age = 0; tries = 1 } ∷ [] }

pub record Follows : Type 0 where
  -- the session of the last reader is true over all that it heard; without readers nothing is said
  last_reader : (H : List Event) (heard : ℕ → List (List ℕ)) → AreTrue two_readers H heard → IsTrueSession two_readers H 1 (map bucket_in (heard 1))
  no_reader : (H : List Event) (heard : ℕ → List (List ℕ)) → AreTrue (record small { readers = [] }) H heard
  -- a judged report has the verdicts and the counts of sessions by the history of two items
  verdicts : (H : List Event) (heard : ℕ → List (List ℕ)) (report : Report) → IsJudgedReport small H heard report → report.verdicts ≡ verdict_lines (sessions_over (by_history (scheme_in small) 2 (values_in small) H) small heard)
  counts : (H : List Event) (heard : ℕ → List (List ℕ)) (report : Report) → IsJudgedReport small H heard report → report.counts ≡ counts_lines (sessions_over (by_history (scheme_in small) 2 (values_in small) H) small heard)
  -- a script's report has its history, `listen` hears from the first datagram on, on its port, and an audit is of the report that the file had before
  history : (now : ShelfState) (h : ScriptStands (codes "d") None shelf now) → h.report.history ≡ script_history h.d
  first_datagrams : (now : ShelfState) (ear_now : EarState) (h : ListenStands (codes "d") 7 (fresh_ear (a ∷ b ∷ [])) ear_now shelf now) → h.datagrams ≡ map heard_bytes (take h.d.settings.hears (a ∷ b ∷ []))
  its_port : (now : ShelfState) (ear_now : EarState) → ListenStands (codes "d") 7 (fresh_ear []) ear_now shelf now → ear_now.port ≡ Some 7
  its_report : (h : AuditStands (codes "d") (codes "r") shelf untold status.Ok) → IsReportOf h.d its_bytes h.read

follows : Follows
follows = record {
  last_reader = λ H heard are. are 1 (omega arith);
  no_reader = λ H heard r below. absurd (omega (arith, below));
  verdicts = λ H heard report h. h.verdicts;
  counts = λ H heard report h. h.counts;
  history = λ now h. h.history;
  first_datagrams = λ now ear_now h. h.on_port;
  its_port = λ now ear_now h. h.tuned;
  its_report = λ h. h.is;
}
