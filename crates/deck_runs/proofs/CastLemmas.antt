-- What a cast has sent, step by step: it had sent nothing before.
use Rattle.std.proofs.Common.{◌≡◌, ℕ, suc, ◌+◌, Option, Some, None, List, [], ◌∷◌, length, take, sym, ◌∙◌, ap, subst, arith}
use Rattle.std.specs.List.{range_with_len, sum_by}
use Rattle.std.specs.Prelude.{Result, Ok, Err}
use Rattle.std.specs.Result.{IsErrAnd}
use Rattle.std.proofs.lemmas.List.{append-nil, take_all}
use Rattle.std.proofs.lemmas.List.Sums.{sum_by-append, sum_by-cons}
use Rattle.air_history.specs.declared.histories.Event.{Event}
use Rattle.air_model.specs.Aired.{air_of, slots_at}
use Rattle.air_model.specs.Decks.{Deck, IsWhole, edition, values_in}
use Rattle.air_model.specs.Programs.{program}
use Rattle.air_model.proofs.EditionLemmas.{slots_are}
use Rattle.air_devices.specs.Counts.{Rose}
use Rattle.air_devices.specs.Masts.{Changes, MastState, SentBuckets, nothing_sent, with_buckets, with_end}
use Rattle.air_devices.specs.WhatIsTold.{WhereTold}
use Rattle.air_sender.specs.AiredBytes.{aired_bytes}
use Rattle.deck_runs.specs.RunAnswers.{IsRunAnswer}
use Rattle.deck_runs.specs.declared.threads.RunFault.{RunFault}
use Rattle.deck_runs.specs.declared.threads.RunFault.TheVariants as fault
use Rattle.air_sender.proofs.AiredLemmas.{range_more}
use Rattle.chunk_program.specs.Editions.{EditionDisks, edition_disks}
use Rattle.deck_runs.proofs.SendLemmas.{count_bytes}
use Rattle.deck_runs.proofs.SentLemmas.{sends_nothing}
use Rattle.deck_runs.specs.Casts.{FailsFirst, IsCastAnswer, IsCastBeginning, all_sent, first_sent}
use Rattle.deck_runs.specs.Private.CastSteps.{bucket_count, buckets_up_to}

-- It had sent nothing, if that is told.
abbrev pub Unsent : Option SentBuckets → Type 0
Unsent before = WhereTold before (λ s. s ≡ nothing_sent)

-- ---- what was sent after the aim

-- Only the first of these buckets were sent.
first_behind : (n : ℕ) (B : List (List ℕ)) (before mid now : Option SentBuckets) → Unsent before → mid ≡ before → Changes (with_buckets (take n B)) mid now → Changes (λ _. first_sent n B) before now
first_behind n B None mid now unsent same h = tt
first_behind n B (Some s) mid now unsent same h =
    let a : now ≡ Some (with_buckets (take n B) s) = subst (λ o. Changes (with_buckets (take n B)) o now) same h in
    a ∙ ap (λ x. Some (with_buckets (take n B) x)) unsent

-- None of these buckets was sent.
nothing_more : (B : List (List ℕ)) (told : Option SentBuckets) → Changes (with_buckets (take 0 B)) told told
nothing_more B None = tt
nothing_more B (Some s) = ap (λ l. let t : SentBuckets = record s { buckets = l } in Some t) (sym (append-nil s.buckets))

-- All of these buckets were sent, before an end that failed.
all_behind : (n : ℕ) (B : List (List ℕ)) (before mid now last : Option SentBuckets) → n ≡ length B → Unsent before → mid ≡ before → Changes (with_buckets B) mid now → last ≡ now
    → Changes (λ _. first_sent n B) before last
all_behind n B None mid now last e unsent same h kept = tt
all_behind n B (Some s) mid now last e unsent same h kept =
    let a : now ≡ Some (with_buckets B s) = subst (λ o. Changes (with_buckets B) o now) same h in
    kept ∙ a ∙ ap (λ x. Some (with_buckets B x)) unsent ∙ ap (λ l. let t : SentBuckets = record { buckets = l; ended = None } in Some t) (sym (take_all n B (omega arith)))

-- All of these buckets were sent, and then the end.
pub end_behind : (B : List (List ℕ)) (before mid now last : Option SentBuckets) → Unsent before → mid ≡ before → Changes (with_buckets B) mid now → Changes with_end now last
    → Changes (λ _. all_sent B) before last
end_behind B None mid now last unsent same h ended = tt
end_behind B (Some s) mid now last unsent same h ended =
    let a : now ≡ Some (with_buckets B s) = subst (λ o. Changes (with_buckets B) o now) same h in
    let b : last ≡ Some (with_end (with_buckets B s)) = subst (λ o. Changes with_end o last) a ended in
    b ∙ ap (λ x. Some (with_end (with_buckets B x))) unsent

-- ---- how many buckets there are

-- The number of buckets that a whole history of a deck airs.
bytes_count : (deck : Deck) (H : List Event) → IsWhole deck H → length (aired_bytes deck H) ≡ bucket_count deck
bytes_count deck H whole = count_bytes (values_in deck) (air_of deck) H ∙ ap (buckets_up_to deck) whole.cycles

-- One cycle more has the slots of the program that is in force in it.
pub buckets_more : (deck : Deck) (done slots : ℕ) (p : EditionDisks) → p ≡ edition_disks deck (edition deck (1 + done)) → slots ≡ length (program p.disks) → buckets_up_to deck (done + 1) ≡ buckets_up_to deck done + slots
buckets_more deck done slots p is count =
    let f : ℕ → ℕ = λ c. length (slots_at (air_of deck) c) in
    let c = 1 + done in
    let next : done + 1 ≡ suc done = omega arith in
    let own : f c ≡ slots = ap length (slots_are deck c) ∙ ap (λ (q : EditionDisks). length (program q.disks)) (sym is) ∙ sym count in
    let last : sum_by f (c ∷ []) ≡ slots = sum_by-cons f c [] ∙ omega (arith, own) in
    ap (buckets_up_to deck) next ∙ ap (sum_by f) (range_more 1 done) ∙ sum_by-append f (range_with_len 1 done) (c ∷ []) ∙ ap (λ n. buckets_up_to deck done + n) last

-- ---- what a fault says

-- The mast failed before all buckets.
pub none_cast : {M : Type 0} (state : M → MastState) (deck : Deck) (before now : M) → Unsent (state before).told → (state now).told ≡ (state before).told → IsCastBeginning deck 0 (state before).told (state now).told
none_cast state deck before now unsent same =
    let h = sends_nothing state deck now in
    let first = nothing_more (aired_bytes deck h.history) (state now).told in
    record { history = h.history; whole = h.whole; within = omega arith; sent = first_behind 0 (aired_bytes deck h.history) (state before).told (state now).told (state now).told unsent same first }

-- What the threads didn't do isn't cast.
pub run_cast : {M : Type 0} (state : M → MastState) (deck : Deck) (before mid now : M) (e : RunFault) → Unsent (state before).told → (state mid).told ≡ (state before).told → (state mid).faults ≡ (state before).faults
    → IsRunAnswer state deck mid now e → IsCastAnswer deck (state before) (state now) e
run_cast state deck before mid now (fault.Mast sent) unsent same calm h =
    let f = h.failed in
    let B = aired_bytes deck h.history in
    let first : Changes (with_buckets (take sent B)) (state mid).told (state now).told = subst (λ o. Changes (with_buckets (take sent B)) (state mid).told o) (sym f.kept) f.sent in (
      subst (λ n. Rose n (state now).faults) (f.calm ∙ calm) f.rose,
      record {
        history = h.history;
        whole = h.whole;
        within = (let w = f.within in omega arith);
        sent = first_behind sent B (state before).told (state mid).told (state now).told unsent same first;
      },
    )
run_cast state deck before mid now fault.NoMemory unsent same calm h = (
  h.calm ∙ calm,
  (
    h.count,
    record {
      history = h.history;
      whole = h.whole;
      within = h.within;
      sent = first_behind h.count (aired_bytes deck h.history) (state before).told (state mid).told (state now).told unsent same h.sent;
    },
  ),
)

-- The mast failed after all buckets.
pub all_cast : (deck : Deck) (H : List Event) (n : ℕ) (before mid now last : Option SentBuckets) → IsWhole deck H → n ≡ bucket_count deck → Unsent before → mid ≡ before
    → Changes (with_buckets (aired_bytes deck H)) mid now → last ≡ now → IsCastBeginning deck n before last
all_cast deck H n before mid now last whole is unsent same sent kept =
    let count : n ≡ length (aired_bytes deck H) = is ∙ sym (bytes_count deck H whole) in
    record { history = H; whole = whole; within = omega arith; sent = all_behind n (aired_bytes deck H) before mid now last count unsent same sent kept }

-- ---- the first failure

-- The fault that is passed on is the one of the answer.
pub passed_on : {T E : Type 0} (e f : E) (r : Result T E) → IsErrAnd r (λ y. y ≡ e) → r ≡ Err f → e ≡ f
passed_on e f (Ok x) h is = absurd h
passed_on e f (Err y) h is = let same : y ≡ f = cc in sym h ∙ same

-- The threads' first failure is the cast's.
pub run_first : {M : Type 0} (state : M → MastState) (deck : Deck) (before mid now : M) (e : RunFault) (sent : ℕ) → e ≡ fault.Mast sent → (state mid).faults ≡ (state before).faults → IsRunAnswer state deck mid now e
    → FailsFirst state before now
run_first state deck before mid now (fault.Mast n) sent is calm h = let f = h.failed in record { just_before = f.just_before; calm = f.calm ∙ calm; rose = f.rose; kept = f.kept }
run_first state deck before mid now fault.NoMemory sent is calm h = cc
