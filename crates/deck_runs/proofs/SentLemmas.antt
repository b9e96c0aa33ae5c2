-- What was sent, as buckets of a whole history.
use Rattle.std.proofs.Common.{◌≡◌, ℕ, ◌≤◌, Some, None, Option, List, [], ◌++◌, length, map, take, inl, inr, refl, sym, ap, ◌∙◌, subst, arith, append_assoc, length-append}
use Rattle.std.proofs.lemmas.List.{append-nil, map-append, take-append-le, take_all}
use Rattle.std.specs.Prelude.{IfErr, MatchResult, Result, Ok, Err}
use Rattle.air_history.specs.declared.histories.Event.{Event}
use Rattle.air_history.specs.Histories.{is_start, starts, events_in}
use Rattle.air_model.specs.Aired.{air_of, buckets_of}
use Rattle.air_model.specs.Buckets.{spelling}
use Rattle.air_model.specs.Closings.{GoesOnWithout}
use Rattle.air_model.specs.Decks.{Deck, IsLegal, IsWhole, values_in}
use Rattle.air_devices.specs.Masts.{Changes, MastState, SentBuckets, with_buckets}
use Rattle.air_sender.specs.AirFaults.{FailedAt}
use Rattle.deck_runs.specs.PublishedBatches.{IsPublishedUpTo, IsUpTo}
use Rattle.deck_runs.specs.Sendings.{IsFailure, SendsUntilFault}
use Rattle.deck_runs.specs.declared.jobs.conductors.ConductFault.{ConductFault}
use Rattle.deck_runs.specs.declared.jobs.conductors.ConductFault.TheVariants as fault
use Rattle.air_model.proofs.AiringLemmas.{more_buckets, same_buckets}
use Rattle.air_model.proofs.BeyondLemmas.{whole_beyond}
use Rattle.air_model.proofs.StartLemmas.{starts_none}
use Rattle.air_sender.specs.AiredBytes.{aired_bytes}
use Rattle.deck_runs.specs.RunAnswers.{FailsInRun, IsRunAnswer, SendsFirst, run_fault}
use Rattle.deck_runs.specs.Private.StageSteps.{BeginsWhole, IsSeenAnswer, SendsBeginning}

-- ---- more of a history airs more bytes

more_bytes : (deck : Deck) (H later : List Event) → (more : List (List ℕ)) × (aired_bytes deck (H ++ later) ≡ aired_bytes deck H ++ more)
more_bytes deck H later =
    let (more, is) = more_buckets (values_in deck) (air_of deck) H later in
    (map spelling more, ap (map spelling) is ∙ map-append spelling (buckets_of (values_in deck) (air_of deck) H) more)

first_bytes : (deck : Deck) (H later : List Event) (n : ℕ) → n ≤ length (aired_bytes deck H) → (n ≤ length (aired_bytes deck (H ++ later))) × (take n (aired_bytes deck (H ++ later)) ≡ take n (aired_bytes deck H))
first_bytes deck H later n l =
    let (more, is) = more_bytes deck H later in (
      (let long = ap length is ∙ length-append (aired_bytes deck H) more in omega arith),
      ap (take n) is ∙ take-append-le n (aired_bytes deck H) more l,
    )

-- A history that continues without a start airs the same.
pub same_bytes : (deck : Deck) (seen H : List Event) → GoesOnWithout is_start seen H → aired_bytes deck H ≡ aired_bytes deck seen
unfolding starts
same_bytes deck seen H (others, is, none) = ap (aired_bytes deck) is ∙ ap (map spelling) (same_buckets (values_in deck) (air_of deck) seen others none)

-- ---- what the conductor's answer says

module _ {M : Type 0} (state : M → MastState) (deck : Deck) (before now : M) where
  -- The buckets of what was published, or of nothing, were sent.
  seen_part : (seen : List Event) (batches : List (List Event)) (behind : ℕ) → IsUpTo behind seen batches → Changes (with_buckets (aired_bytes deck (events_in batches))) (state before).told (state now).told
      → (state now).faults ≡ (state before).faults → SendsBeginning state deck seen before now
  seen_part seen batches behind up sent calm = record { beginning = events_in batches; later = up.later; begins = up.begins; sent = sent; calm = calm }

  pub seen_answer : (seen : List Event) (batches : List (List Event)) (e : ConductFault) → IsPublishedUpTo seen batches e → SendsUntilFault state deck seen batches before now e → IsFailure (state before).faults (state now).faults e
      → IsSeenAnswer state deck seen before now e
  seen_answer seen batches (fault.Mast sent) up part cause = part
  seen_answer seen batches fault.NoMemory (inl up) part cause = seen_part seen batches 0 up part cause
  seen_answer seen batches fault.NoMemory (inr up) part cause = seen_part seen batches 1 up part cause

  pub run_answer : (seen : List Event) (batches : List (List Event)) (r : Result (Unit {0}) ConductFault) → IfErr r (IsPublishedUpTo seen batches)
      → MatchResult r (λ _. Changes (with_buckets (aired_bytes deck seen)) (state before).told (state now).told) (SendsUntilFault state deck seen batches before now)
      → MatchResult r (λ _. (state now).faults ≡ (state before).faults) (IsFailure (state before).faults (state now).faults)
      → MatchResult r (λ _. Changes (with_buckets (aired_bytes deck seen)) (state before).told (state now).told × ((state now).faults ≡ (state before).faults)) (IsSeenAnswer state deck seen before now)
  run_answer seen batches (Ok x) up aired cause = (aired, cause)
  run_answer seen batches (Err e) up aired cause = seen_answer seen batches e up aired cause

  -- ---- and of a whole history

  pub fails : (seen : List Event) (sent : ℕ) → BeginsWhole deck seen → FailedAt state sent (aired_bytes deck seen) before now → FailsInRun state deck sent before now
  fails seen sent (later, whole) f =
      let first = first_bytes deck seen later sent (let w = f.within in omega arith) in
      let long = more_bytes deck seen later in
      record {
        history = seen ++ later;
        whole = whole;
        failed = record {
          within = (let w = f.within in let l = ap length long.1 ∙ length-append (aired_bytes deck seen) long.0 in omega arith);
          just_before = f.just_before;
          sent = subst (λ l. Changes (with_buckets l) (state before).told (state f.just_before).told) (sym first.1) f.sent;
          calm = f.calm;
          port = f.port;
          rose = f.rose;
          kept = f.kept;
        };
      }

  pub sends_first : (seen : List Event) → BeginsWhole deck seen → SendsBeginning state deck seen before now → SendsFirst state deck before now
  sends_first seen (later, whole) s =
      let bytes = aired_bytes deck s.beginning in
      let n = length bytes in
      let same : seen ++ later ≡ s.beginning ++ (s.later ++ later) = ap (λ l. l ++ later) s.begins ∙ append_assoc s.beginning s.later later in
      let first = first_bytes deck s.beginning (s.later ++ later) n (omega arith) in
      record {
        history = s.beginning ++ (s.later ++ later);
        whole = subst (IsWhole deck) same whole;
        count = n;
        within = first.0;
        sent = subst (λ l. Changes (with_buckets l) (state before).told (state now).told) (sym (first.1 ∙ take_all n bytes (omega arith))) s.sent;
        calm = s.calm;
      }

  -- The run's answer of the conductor's fault.
  pub fault_answer : (seen : List Event) (e : ConductFault) → BeginsWhole deck seen → IsSeenAnswer state deck seen before now e → IsRunAnswer state deck before now (run_fault e)
  fault_answer seen (fault.Mast sent) begins f = fails seen sent begins f
  fault_answer seen fault.NoMemory begins f = sends_first seen begins f

-- If all was sent and no call failed.
pub all_sent : {M : Type 0} (state : M → MastState) (deck : Deck) (before now : M) (seen : List Event) → Changes (with_buckets (aired_bytes deck seen)) (state before).told (state now).told → (state now).faults ≡ (state before).faults → SendsBeginning state deck seen before now
all_sent state deck before now seen sent calm = record { beginning = seen; later = []; begins = sym (append-nil seen); sent = sent; calm = calm }

-- ---- before all events

legal_none : (deck : Deck) → IsLegal deck []
legal_none deck p by seq update e = cc

unchanged : (told : Option SentBuckets) (l : List (List ℕ)) → l ≡ [] → Changes (with_buckets l) told told
unchanged None l e = tt
unchanged (Some s) l e = ap (λ (b : List (List ℕ)). Some (record s { buckets = b })) (sym (ap (λ m. s.buckets ++ m) e ∙ append-nil s.buckets))

pub sends_nothing : {M : Type 0} (state : M → MastState) (deck : Deck) (m : M) → SendsFirst state deck m m
sends_nothing state deck m =
    let more = whole_beyond deck [] (legal_none deck) (let none = starts_none in omega arith) in
    record {
      history = more.0;
      whole = more.1;
      count = 0;
      within = omega arith;
      sent = unchanged (state m).told (take 0 (aired_bytes deck more.0)) refl;
      calm = refl;
    }
