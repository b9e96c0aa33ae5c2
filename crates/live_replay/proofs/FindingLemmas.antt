-- When a line agrees: if and only if the replay gives it, which it does for every line of a session that the history judges.
use Rattle.std.proofs.Common.{◌≡◌, ◌↔◌, ℕ, Bool, true, false, not, ◌&&◌, ◌==◌, if◌then◌else◌, Option, Some, None, List, [], ◌∷◌, ◌++◌, length, get_or, map, All, refl, sym, ◌∙◌, subst}
use Rattle.std.specs.Prelude.{IsSomeAnd, IfSome, IsTrue}
use Rattle.std.specs.List.{list_all}
use Rattle.std.specs.Option.{is_some, option_map_or}
use Rattle.std.proofs.lemmas.Bool.{and_parts, and_from, eqb-true, eq-eqb, not-true, not_from_false, false≢true}
use Rattle.std.proofs.lemmas.List.{map_push}
use Rattle.std.proofs.lemmas.Simd.{map-map}
use Rattle.std.proofs.lemmas.List.Elements.{All-map}
use Rattle.std.proofs.lemmas.List.Sums.{AllPass-from_list_all, list_all-from_AllPass}
use Rattle.air_base.specs.declared.verdicts.Clash.{Clash}
use Rattle.air_base.specs.declared.verdicts.VerdictKind.{VerdictKind}
use Rattle.air_base.specs.declared.verdicts.VerdictKind.TheVariants.{Accept, Abort, Aged, Unfinished}
use Rattle.air_history.specs.declared.histories.Event.{Event}
use Rattle.air_history.specs.Tables.{values_of}
use Rattle.air_history.specs.Reads.{ReadAt, read_value}
use Rattle.air_history.specs.Columns.{Scheme}
use Rattle.air_history.specs.Clashes.{clash_of, is_late}
use Rattle.air_history.specs.ClashLaws.{Accepts}
use Rattle.air_history.proofs.AcceptedLemmas.{accepts_none, accepts_push}
use Rattle.air_model.specs.Aired.{air_of, scheme_in}
use Rattle.air_model.specs.Buckets.{Bucket}
use Rattle.air_model.specs.Decks.{Deck, values_in}
use Rattle.air_model.specs.Judges.{Judge, by_history}
use Rattle.air_model.specs.Reads.{Read}
use Rattle.air_model.specs.Reports.{line_by, total_at}
use Rattle.air_model.specs.Sessions.{Reader, SessionLine, line_of, read_in, session}
use Rattle.air_model.specs.SessionLaws.{QueriesFilled, are_far, decided_on}
use Rattle.air_model.specs.declared.reports.LookLine.{LookLine}
use Rattle.air_model.specs.declared.reports.VerdictLine.{VerdictLine}
use Rattle.air_model.specs.Judges as judge
use Rattle.air_model.proofs.HeardLemmas.{nearer, none_far}
use Rattle.air_model.proofs.MomentLemmas.{Gives, Keeps, kept}
use Rattle.live_replay.specs.declared.findings.Cause.TheVariants as cause
use Rattle.live_replay.specs.Findings.{all_pass, has_value, is_clash, is_refused, look_cause, place_of_line, places_read, read_in_cycle, spans_so, verdict_cause}
use Rattle.live_replay.specs.FindingLaws.{EndsSo, GivesLook, GivesVerdict, SpansSo}
use Rattle.live_replay.proofs.PassLemmas.{accepts_pass, pass_accepts}

-- ---- one line

-- No cause applies if and only if the three tests hold.
chosen : (a b c : Bool) → (if not a then Some cause.Value else if not b then Some cause.Verdict else if not c then Some cause.Clash else None) ≡ None → (a ≡ true) × (b ≡ true) × (c ≡ true)
chosen true true true h = (refl, refl, refl)
chosen true true false h = cc
chosen true false c h = cc
chosen false b c h = cc

none_chosen : (a b c : Bool) → a ≡ true → b ≡ true → c ≡ true → (if not a then Some cause.Value else if not b then Some cause.Verdict else if not c then Some cause.Clash else None) ≡ None
none_chosen a b c ea eb ec = rw (ea, eb, ec) refl

named_so : (o : Option Clash) (clash : ℕ) → is_some o ≡ true → option_map_or (λ held. held.item == clash) o false ≡ true → IsSomeAnd o (λ held. held.item ≡ clash)
named_so None clash s h = absurd (false≢true h)
named_so (Some held) clash s h = eqb-true held.item clash h

so_named : (o : Option Clash) (clash : ℕ) → IsSomeAnd o (λ held. held.item ≡ clash) → (is_some o ≡ true) × (option_map_or (λ held. held.item == clash) o false ≡ true)
so_named None clash h = absurd h
so_named (Some held) clash h = (refl, eq-eqb held.item clash h)

ends_from : (scheme : Scheme) (n : ℕ) (H : List Event) (R : List ReadAt) (kind : VerdictKind) → is_refused scheme n H R kind ≡ true → is_clash scheme n H R kind ≡ true → EndsSo scheme n H R kind
unfolding is_refused is_clash
ends_from scheme n H R Accept refused clash = tt
ends_from scheme n H R (Abort item cycle named) refused clash =
    let both = and_parts (not (is_late scheme.policy R (read_in_cycle item cycle))) (is_some (clash_of scheme n H R (read_in_cycle item cycle))) refused in
    (not-true _ both.0, named_so (clash_of scheme n H R (read_in_cycle item cycle)) named both.1 clash)
ends_from scheme n H R (Aged item cycle) refused clash = not-true _ refused
ends_from scheme n H R Unfinished refused clash = tt

refused_from : (scheme : Scheme) (n : ℕ) (H : List Event) (R : List ReadAt) (kind : VerdictKind) → EndsSo scheme n H R kind → (is_refused scheme n H R kind ≡ true) × (is_clash scheme n H R kind ≡ true)
unfolding is_refused is_clash
refused_from scheme n H R Accept end = (refl, refl)
refused_from scheme n H R (Abort item cycle named) end =
    let named = so_named (clash_of scheme n H R (read_in_cycle item cycle)) named end.1 in
    (and_from _ _ (not_from_false _ end.0) named.0, named.1)
refused_from scheme n H R (Aged item cycle) end = (not_from_false _ end, refl)
refused_from scheme n H R Unfinished end = (refl, refl)

-- Reads that don't lie too far apart, if nothing or an abort ended the attempt.
not_far : {A : Type 0} (b : Bool) → b ≡ false → b ≡ true → A
not_far b near far = absurd (false≢true (sym near ∙ far))

near_if : (b : Bool) → (IsTrue b → ⊥) → b ≡ false
near_if true h = absurd (h refl)
near_if false h = refl

spans_from : (version : ℕ) (R : List ReadAt) (kind : VerdictKind) → spans_so version R kind ≡ true → SpansSo version R kind
unfolding spans_so
spans_from version R Accept h = let near = not-true (are_far version R) h in (near, (λ no. absurd no, λ far. not_far (are_far version R) near far))
spans_from version R (Abort item cycle clash) h =
    let all = decided_on (Abort item cycle clash) R in let near = not-true (are_far version all) h in
    (nearer version R (read_in_cycle item cycle) near, (λ no. absurd no, λ far. not_far (are_far version all) near far))
spans_from version R (Aged item cycle) h =
    let both = and_parts (not (are_far version R)) (are_far version (decided_on (Aged item cycle) R)) h in
    (not-true (are_far version R) both.0, (λ _. both.1, λ _. tt))
spans_from version R Unfinished h = let near = not-true (are_far version R) h in (near, (λ no. absurd no, λ far. not_far (are_far version R) near far))

from_spans : (version : ℕ) (R : List ReadAt) (kind : VerdictKind) → SpansSo version R kind → spans_so version R kind ≡ true
unfolding spans_so
from_spans version R Accept s = not_from_false _ s.0
from_spans version R (Abort item cycle clash) s = not_from_false _ (near_if (are_far version (decided_on (Abort item cycle clash) R)) (λ far. absurd (s.1.1 far)))
from_spans version R (Aged item cycle) s = and_from _ _ (not_from_false _ s.0) (s.1.0 tt)
from_spans version R Unfinished s = not_from_false _ s.0

module _ (deck : Deck) (H : List Event) where
  pub agrees : (line : VerdictLine) → (verdict_cause deck H line ≡ None) ↔ GivesVerdict deck H line
  unfolding verdict_cause
  agrees line = (
    λ none.
        let R = places_read line.reads in
        let kind = line.verdict.kind in
        let ended = is_refused (scheme_in deck) (length deck.items) H R kind && spans_so deck.settings.version R kind in
        let tests = chosen (list_all (has_value (values_in deck) H) line.reads) (all_pass (scheme_in deck) (length deck.items) H R && ended) (is_clash (scheme_in deck) (length deck.items) H R kind) none in
        let both = and_parts (all_pass (scheme_in deck) (length deck.items) H R) ended tests.1 in
        let last = and_parts (is_refused (scheme_in deck) (length deck.items) H R kind) (spans_so deck.settings.version R kind) both.1 in
        record {
          values = λ k d l. eqb-true _ _ (AllPass-from_list_all (has_value (values_in deck) H) line.reads tests.0 k d l);
          accepts = pass_accepts (scheme_in deck) (length deck.items) H R both.0;
          end = ends_from (scheme_in deck) (length deck.items) H R kind last.0 tests.2;
          span = spans_from deck.settings.version R kind last.1;
        },
    λ gives.
        let R = places_read line.reads in
        let end = refused_from (scheme_in deck) (length deck.items) H R line.verdict.kind gives.end in
        none_chosen _ _ _
        (list_all-from_AllPass (has_value (values_in deck) H) line.reads (λ k d l. eq-eqb _ _ (gives.values k d l)))
        (and_from _ _ (accepts_pass (scheme_in deck) (length deck.items) H R gives.accepts) (and_from _ _ end.0 (from_spans deck.settings.version R line.verdict.kind gives.span))) end.1,
  )

  pub look_agrees : (line : LookLine) → (look_cause deck H line ≡ None) ↔ GivesLook deck H line
  unfolding look_cause
  look_agrees line = (λ none. eqb-true _ _ (chosen_look (line.total == total_at (values_in deck) H line.cycle) none), λ gives. rw (eq-eqb line.total (total_at (values_in deck) H line.cycle) gives) refl)
    where
      chosen_look : (a : Bool) → (if a then None else Some cause.Total) ≡ None → a ≡ true
      chosen_look true h = refl
      chosen_look false h = cc

  -- ---- the lines of a session

  abbrev judging : Judge
  judging = by_history (scheme_in deck) (length deck.items) (values_in deck) H

  places_in : (q a : ℕ) (kind : VerdictKind) (R : List Read) → places_read (line_of judging q a kind R).reads ≡ map judge.place_of R
  unfolding line_of
  places_in q a kind R = map-map _ _ R

  gives_line : (r q a : ℕ) (kind : VerdictKind) (R : List Read) → Accepts (scheme_in deck) (length deck.items) H (map judge.place_of R) → EndsSo (scheme_in deck) (length deck.items) H (map judge.place_of R) kind →
      SpansSo deck.settings.version (map judge.place_of R) kind → verdict_cause deck H (line_by r (line_of judging q a kind R)) ≡ None
  unfolding line_of by_history
  gives_line r q a kind R accepts end span =
      let same : map judge.place_of R ≡ places_read (line_of judging q a kind R).reads = sym (places_in q a kind R) in
      (agrees (line_by r (line_of judging q a kind R))).1 (record {
        values = All-map (λ s. s.value ≡ read_value (values_of (values_in deck)) H (place_of_line s)) (λ (x : Read). record { item = x.item; cycle = x.cycle; value = read_value (values_of (values_in deck)) H (judge.place_of x) }) R (λ k d l. refl);
        accepts = subst (Accepts (scheme_in deck) (length deck.items) H) same accepts;
        end = subst (λ S. EndsSo (scheme_in deck) (length deck.items) H S kind) same end;
        span = subst (λ S. SpansSo deck.settings.version S kind) same span;
      })

  pub session_agrees : (r : ℕ) (reader : Reader) (heard : List (Option Bucket)) → QueriesFilled reader →
      All (λ l. verdict_cause deck H (line_by r l) ≡ None) (session judging (air_of deck) reader heard).lines
  unfolding by_history
  session_agrees r reader heard filled = kept judging (air_of deck) reader Any K L filled rules heard (λ k d l. gives (get_or heard k d))
    where
      Any : Read → Type 0
      Any x = Unit {0}

      K : ℕ → ℕ → List Read → Type 0
      K q a R = Accepts (scheme_in deck) (length deck.items) H (map judge.place_of R) × (are_far deck.settings.version (map judge.place_of R) ≡ false)

      L : SessionLine → Type 0
      L l = verdict_cause deck H (line_by r l) ≡ None

      gives : (o : Option Bucket) → Gives (air_of deck) Any o
      gives None = tt
      gives (Some b) = λ t. by (read_in b.cycle b.body)
        where
          by : (o : Option Read) → IfSome o Any
          by None = tt
          by (Some x) = tt

      ended : (R : List ReadAt) (x : ReadAt) (c : Clash) → is_late deck.settings.policy R x ≡ false → clash_of (scheme_in deck) (length deck.items) H R x ≡ Some c → EndsSo (scheme_in deck) (length deck.items) H R (Abort x.item x.cycle c.item)
      ended R x c late e = (late, subst (λ o. IsSomeAnd o (λ held. held.item ≡ c.item)) (sym e) refl)

      near : (R : List Read) → are_far deck.settings.version (map judge.place_of R) ≡ false → IsTrue (are_far deck.settings.version (map judge.place_of R)) → ⊥
      near R h far = not_far (are_far deck.settings.version (map judge.place_of R)) h far

      rules : Keeps judging (air_of deck) reader Any K L
      rules = record {
        first = λ q. (accepts_none (scheme_in deck) (length deck.items) H, none_far deck.settings.version);
        again = λ q a R k l. (accepts_none (scheme_in deck) (length deck.items) H, none_far deck.settings.version);
        more = λ q a R x k any judged near none.
            subst (λ S. Accepts (scheme_in deck) (length deck.items) H S × (are_far deck.settings.version S ≡ false)) (sym (map_push judge.place_of R x))
            (accepts_push (scheme_in deck) (length deck.items) H (map judge.place_of R) (judge.place_of x) k.0 judged.in_time none, near);
        accepted = λ q a R k some e. gives_line r q a Accept R k.0 tt (k.1, (λ no. absurd no, near R k.1));
        aborted = λ q a R x c k any judged near e. gives_line r q a (Abort x.item x.cycle c.item) R k.0 (ended (map judge.place_of R) (judge.place_of x) c judged.in_time e)
            (k.1, (λ no. absurd no, λ far. not_far (are_far deck.settings.version (map judge.place_of R ++ judge.place_of x ∷ [])) near far));
        aged = λ q a R x k any judged far. gives_line r q a (Aged x.item x.cycle) R k.0 judged.in_time (k.1, (λ _. far, λ _. tt));
        unfinished = λ q a R k e. gives_line r q a Unfinished R k.0 tt (k.1, (λ no. absurd no, near R k.1));
      }
