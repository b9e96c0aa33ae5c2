-- What monitors saw of a run whose cycles were all published.
use Rattle.std.proofs.Common.{◌≡◌, ℕ, ◌<◌, Some, None, Option, List, [], ◌∷◌, ◌++◌, length, get_or, map, All, inl, inr, sym, ap, ◌∙◌, subst, arith, append_assoc, length-append}
use Rattle.std.specs.List.{range_with_len}
use Rattle.std.proofs.lemmas.Bool.{cases_lt}
use Rattle.std.proofs.lemmas.List.{ext_get_or, get_or_append_left, get_or-map, get_or_push, length-map}
use Rattle.std.proofs.lemmas.Option.{slice_get_cases}
use Rattle.std.proofs.lemmas.List.FromFn.{get_or-range_with_len, length-range_with_len}
use Rattle.air_history.specs.declared.histories.Event.{Event}
use Rattle.air_history.specs.Histories.{is_start, starts}
use Rattle.air_model.specs.Closings.{GoesOnWithout}
use Rattle.air_model.specs.Decks.{Deck, values_in}
use Rattle.air_model.specs.declared.reports.LookLine.{LookLine}
use Rattle.cycle_snapshot.specs.SnapshotStates.{MonitorState, PublisherState, new_monitor, new_publisher}
use Rattle.deck_runs.specs.declared.jobs.crews.MonitorRun.{MonitorRun}
use Rattle.deck_runs.specs.declared.jobs.TheConstants.{LOOKS}
use Rattle.deck_runs.specs.Private.Crews.{EachWatched, GivesLine, IsWatched, monitors_of}
use Rattle.deck_runs.specs.Looks.{ShowsBeginning}
use Rattle.deck_runs.specs.PublishedBatches.{IsUpTo, PublishesOn}
use Rattle.deck_runs.proofs.LookLemmas.{shows}
use Rattle.air_model.specs.MonitorSights.{AreGlances, AreLooks, IsSeen}
use Rattle.air_model.proofs.ClosingLemmas.{own_starts}
use Rattle.air_model.proofs.FrameLemmas.{frame}
use Rattle.deck_runs.specs.Private.SightSteps.{AreAllSights, AreSights}

-- A watcher's monitor stays its publisher's.
same_publisher : (looks : ℕ) (m n : MonitorState) (line : Option LookLine) → GivesLine looks m n line → n.publisher ≡ m.publisher
same_publisher looks m n (Some line) g = ap (λ (x : MonitorState). x.publisher) g.0.same
same_publisher looks m n None g = ap (λ (x : MonitorState). x.publisher) g.2.same

pub keep_publisher : (f g : PublisherState) (runs now : List MonitorRun) → All (λ (run : MonitorRun). run.monitor ≡ new_monitor f) runs → PublishesOn f g → EachWatched LOOKS runs now → All (λ (run : MonitorRun). run.monitor.publisher ≡ g.id) now
unfolding IsWatched
keep_publisher f g runs now new on watched k d l =
    let below : k < length runs = let same = watched.0 in omega arith in
    let was = get_or runs k d in
    let is = get_or now k d in
    same_publisher LOOKS was.monitor is.monitor is.glance (watched.1 k d below) ∙ ap (λ (m : MonitorState). m.publisher) (new k d below) ∙ sym (ap (λ (p : PublisherState). p.id) on.same)

-- ---- lines of a whole run

-- A line of a beginning of what the conductor has seen is one of the history.
seen_in : (values : List ℕ) (conductor H : List Event) (line : LookLine) → GoesOnWithout is_start conductor H → ShowsBeginning values conductor line → IsSeen values H line
seen_in values conductor H line (others, is, none) s =
    subst (λ l. IsSeen values l line) (sym (is ∙ ap (λ l. l ++ others) s.begins ∙ append_assoc s.beginning s.later others))
    (frame values s.beginning (s.later ++ others) line s.ends s.cycle s.total)

-- One line of each place, which has that number.
numbers_are : (lines : List LookLine) (n : ℕ) (d : LookLine) → length lines ≡ n → ((k : ℕ) → k < n → (get_or lines k d).monitor ≡ k) → map (λ line. line.monitor) lines ≡ range_with_len 0 n
numbers_are lines n d long each =
    let number : LookLine → ℕ = λ line. line.monitor in
    ext_get_or 0 (map number lines) (range_with_len 0 n) (length-map lines number ∙ long ∙ sym (length-range_with_len 0 n)) (λ k l.
    let below : k < n = let m = length-map lines number in omega arith in
    get_or-map number lines k d 0 (omega arith) ∙ each k below ∙ (let r = get_or-range_with_len 0 n k 0 below in omega arith))

-- The number of a line changes nothing of what it shows.
numbered_shows : (values : List ℕ) (conductor : List Event) (line glance : LookLine) (number : ℕ) → glance ≡ record line { monitor = number } → ShowsBeginning values conductor line → ShowsBeginning values conductor glance
numbered_shows values conductor line glance number is s = record {
  beginning = s.beginning;
  later = s.later;
  begins = s.begins;
  ends = s.ends;
  cycle = ap (λ (l : LookLine). l.cycle) is ∙ s.cycle;
  total = ap (λ (l : LookLine). l.total) is ∙ s.total;
}

module _ (deck : Deck) (f g : PublisherState) (runs now : List MonitorRun) (glances looks : List LookLine) (conductor H : List Event)
    (first : f ≡ new_publisher f.id (values_in deck) deck.settings.cycles)
    (count : length runs ≡ deck.settings.monitors)
    (new : All (λ (run : MonitorRun). run.monitor ≡ new_monitor f) runs)
    (on : PublishesOn f g)
    (watched : EachWatched LOOKS runs now)
    (sights : AreAllSights g now glances looks)
    (up : IsUpTo 0 conductor g.batches)
    (cycles : starts conductor ≡ deck.settings.cycles)
    (goes_on : GoesOnWithout is_start conductor H) where
  -- What the glance and the look at a place show.
  record AreLines (k : ℕ) (glance look : LookLine) : Type 0 where
    glanced : ShowsBeginning (values_in deck) conductor glance
    looked : ShowsBeginning (values_in deck) conductor look
    last : look.cycle ≡ starts conductor
    glance_number : glance.monitor ≡ k
    look_number : look.monitor ≡ k

  lines_of : (k : ℕ) (was is : MonitorRun) (glance look : LookLine) → was.monitor ≡ new_monitor f → IsWatched LOOKS was is → AreSights g k is glance look → AreLines k glance look
  unfolding IsWatched
  lines_of k was is glance look new watched s =
      let values : was.monitor.values ≡ values_in deck = ap (λ (m : MonitorState). m.values) new ∙ ap (λ (p : PublisherState). p.values) first in
      let given : GivesLine LOOKS was.monitor is.monitor (Some s.line) = subst (GivesLine LOOKS was.monitor is.monitor) s.given watched in
      let most : was.monitor.most ≡ deck.settings.cycles = ap (λ (m : MonitorState). m.most) new ∙ ap (λ (p : PublisherState). p.most) first in
      let full : length g.batches ≡ was.monitor.most = let all = up.count in omega arith in
      let shown = shows conductor g.batches s.told LOOKS was.monitor is.monitor s.monitor s.line look up full (omega arith) given.0 given.1 s.learnt s.looked s.look_is in
      record {
        glanced = subst (λ v. ShowsBeginning v conductor glance) values (numbered_shows was.monitor.values conductor s.line glance k s.glance_is shown.0);
        looked = subst (λ v. ShowsBeginning v conductor look) values shown.1;
        last = shown.2;
        glance_number = ap (λ (l : LookLine). l.monitor) s.glance_is;
        look_number = s.number_is;
      }

  lines_at : (k : ℕ) (line : LookLine) → k < deck.settings.monitors → AreLines k (get_or glances k line) (get_or looks k line)
  lines_at k line l = elim (slice_get_cases runs k).1 as (λ _. AreLines k (get_or glances k line) (get_or looks k line)) [
    | inl (run, within, at, here) ↦ lines_of k (get_or runs k run) (get_or now k run) (get_or glances k line) (get_or looks k line) (new k run within) (watched.1 k run within)
        (sights.each k run line (let same = watched.0 in omega arith))
    | inr past ↦ absurd (let long = past.0 in omega arith)
  ]

  no_line : LookLine
  no_line = record { monitor = 0; cycle = 0; total = 0 }

  glance_count : length glances ≡ deck.settings.monitors
  glance_count = sights.glance_count ∙ watched.0 ∙ count

  look_count : length looks ≡ deck.settings.monitors
  look_count = sights.look_count ∙ watched.0 ∙ count

  pub glances_are : AreGlances deck H glances
  glances_are = record {
    numbers = numbers_are glances deck.settings.monitors no_line glance_count (λ k l. (lines_at k no_line l).glance_number);
    each = λ k d l. seen_in (values_in deck) conductor H (get_or glances k d) goes_on (lines_at k d (let n = glance_count in omega arith)).glanced;
  }

  pub looks_are : AreLooks deck H looks
  looks_are = record {
    numbers = numbers_are looks deck.settings.monitors no_line look_count (λ k l. (lines_at k no_line l).look_number);
    each = λ k d l. seen_in (values_in deck) conductor H (get_or looks k d) goes_on (lines_at k d (let n = look_count in omega arith)).looked;
    last = λ k d l. (lines_at k d (let n = look_count in omega arith)).last ∙ sym (own_starts conductor H goes_on);
  }

-- ---- one line more of each

pub sights_more : (f : PublisherState) (runs : List MonitorRun) (glances looks : List LookLine) (run : MonitorRun) (glance look : LookLine) → AreAllSights f runs glances looks → AreSights f (length runs) run glance look
    → AreAllSights f (runs ++ run ∷ []) (glances ++ glance ∷ []) (looks ++ look ∷ [])
sights_more f runs glances looks run glance look all one = record {
  glance_count = let a = length-append glances (glance ∷ []) in let b = length-append runs (run ∷ []) in let same = all.glance_count in omega arith;
  look_count = let a = length-append looks (look ∷ []) in let b = length-append runs (run ∷ []) in let same = all.look_count in omega arith;
  each = λ k d line l. elim (cases_lt k (length runs)) as (λ _. AreSights f k (get_or (runs ++ run ∷ []) k d) (get_or (glances ++ glance ∷ []) k line) (get_or (looks ++ look ∷ []) k line)) [
    | inl less ↦ let g = all.glance_count in let k' = all.look_count in
        rw (get_or_append_left runs (run ∷ []) d k less, get_or_append_left glances (glance ∷ []) line k (omega arith), get_or_append_left looks (look ∷ []) line k (omega arith)) (all.each k d line less)
    | inr over ↦ let last : k ≡ length runs = let b = length-append runs (run ∷ []) in omega arith in
        let g = all.glance_count in let k' = all.look_count in
        rw (get_or_push runs run d k (omega arith), get_or_push glances glance line k (omega arith), get_or_push looks look line k (omega arith)) (subst (λ n. AreSights f n run glance look) (sym last) one)
  ];
}

-- The watchers of new monitors.
pub all_new : (f : PublisherState) (runs : List MonitorRun) (monitors : List MonitorState) → monitors_of runs ≡ monitors → All (λ (m : MonitorState). m ≡ new_monitor f) monitors → All (λ (run : MonitorRun). run.monitor ≡ new_monitor f) runs
all_new f runs monitors same all k d l =
    let monitor : MonitorRun → MonitorState = λ run. run.monitor in
    let m : MonitorState = (get_or runs k d).monitor in
    sym (get_or-map monitor runs k d m l) ∙ ap (λ (xs : List MonitorState). get_or xs k m) same ∙ all k m (let a = length-map runs monitor in let b = ap length same in omega arith)
