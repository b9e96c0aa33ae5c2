-- What was sent of what a history airs.
use Rattle.std.proofs.Common.{◌≡◌, ℕ, zero, suc, ◌+◌, ◌<◌, ◌≤◌, Option, Some, None, List, [], ◌∷◌, ◌++◌, length, map, take, refl, slice_get, sym, ◌∙◌, ap, subst, arith, append_assoc, length-append}
use Rattle.std.specs.List.{flat_map, range_with_len, sum_by}
use Rattle.std.proofs.lemmas.List.{append-nil, length-map, map-append}
use Rattle.std.proofs.lemmas.List.FromFn.{length-map-range_with_len}
use Rattle.std.proofs.lemmas.List.Sums.{sum_by-cons}
use Rattle.std.proofs.lemmas.Option.{get_or_from_slice_get}
use Rattle.air_history.specs.declared.histories.Event.{Event}
use Rattle.air_history.specs.declared.histories.Event.TheVariants.{Commit, Start}
use Rattle.air_history.specs.Histories.{is_start, starts, events_in}
use Rattle.air_model.specs.Buckets.{spelling}
use Rattle.air_model.specs.Aired.{Air, bucket_of, buckets_of, cycle_buckets, slots_at}
use Rattle.air_model.specs.Programs.{program}
use Rattle.air_devices.specs.Counts.{Rose}
use Rattle.air_devices.specs.Masts.{Changes, MastState, SentBuckets, with_buckets}
use Rattle.air_sender.specs.AirFaults.{FailedAt, IsAirAnswer, failed_slot}
use Rattle.air_sender.specs.declared.airing.AirFault.{AirFault}
use Rattle.air_sender.specs.declared.airing.AirFault.TheVariants as fault
use Rattle.air_sender.specs.BoardBuckets.{last_bytes, last_cycle_buckets}
use Rattle.air_sender.proofs.GrowLemmas.{grow}
use Rattle.air_sender.proofs.SendLemmas.{sent_none}
use Rattle.cycle_snapshot.specs.Batches.{IsBatch}
use Rattle.cycle_snapshot.proofs.BatchLemmas.{events_more}
use Rattle.air_base.specs.declared.verdicts.Form.{Form}
use Rattle.air_history.specs.Boards.{Board, board_of}
use Rattle.air_sender.specs.BoardBuckets.{IsLastBoard, aired_board, board_bytes}
use Rattle.air_sender.proofs.SendLemmas.{length_cycle}
use Rattle.chunk_program.specs.Editions.{EditionDisks, Plans, no_disks, planned_edition}
use Rattle.station.specs.PassStates.{PassState}
use Rattle.cycle_snapshot.specs.SnapshotStates.{PublisherState}
use Rattle.cycle_snapshot.proofs.BatchLemmas.{starts_append}
use Rattle.deck_runs.proofs.CycleLemmas.{starts_head, starts_one}
use Rattle.deck_runs.specs.Private.CycleSteps.{AddsBatch, SendsCounted, SendsInCycle}
use Rattle.deck_runs.specs.PublishedBatches.{AreInStep, GoesOn, IsPublishedUpTo, IsUpTo}
use Rattle.deck_runs.specs.declared.jobs.conductors.ConductFault.{ConductFault}
use Rattle.deck_runs.specs.declared.jobs.conductors.ConductFault.TheVariants as conduct
use Rattle.deck_runs.specs.Sendings.{FailsAfter, IsAirOf, SendsCycles, SendsUpTo, bytes_aired, planned_program}

-- ---- what a history airs

-- Events that are no starts air nothing.
pub quiet_buckets : (values : List ℕ) (air : Air) (F o : List Event) → starts o ≡ 0 → buckets_of values air (F ++ o) ≡ buckets_of values air F
unfolding is_start
quiet_buckets values air F [] h = ap (buckets_of values air) (append-nil F)
quiet_buckets values air F (Start ∷ o) h = absurd (let a = starts_head Start o in omega arith)
quiet_buckets values air F (Commit by seq u ∷ o) h =
    let e = Commit by seq u in
    ap (buckets_of values air) (sym (append_assoc F (e ∷ []) o)) ∙ quiet_buckets values air (F ++ e ∷ []) o (let a = starts_head e o in omega arith)
    ∙ grow values air F e ∙ append-nil (buckets_of values air F)

start_buckets : (values : List ℕ) (air : Air) (G : List Event) → buckets_of values air (G ++ Start ∷ []) ≡ buckets_of values air G ++ last_cycle_buckets values air (G ++ Start ∷ [])
unfolding is_start
start_buckets values air G = grow values air G Start

-- The list before the start of a batch that comes after the others.
abbrev pub beginning_of : (n : ℕ) (bs : List (List Event)) (batch : List Event) → IsBatch n batch → List Event
beginning_of n bs batch is = events_in bs ++ is.ends.0

pub beginning_starts : (n : ℕ) (bs : List (List Event)) (batch : List Event) (is : IsBatch n batch) → events_in (bs ++ batch ∷ []) ≡ beginning_of n bs batch is ++ Start ∷ []
beginning_starts n bs batch is = events_more bs batch ∙ ap (λ l. events_in bs ++ l) is.ends.1 ∙ sym (append_assoc (events_in bs) is.ends.0 (Start ∷ []))

-- One batch more airs its cycle.
pub batch_bytes : (values : List ℕ) (air : Air) (n : ℕ) (bs : List (List Event)) (batch : List Event) (is : IsBatch n batch) →
    bytes_aired values air (events_in (bs ++ batch ∷ [])) ≡ bytes_aired values air (events_in bs) ++ last_bytes values air (beginning_of n bs batch is)
batch_bytes values air n bs batch is =
    let G = beginning_of n bs batch is in
    ap (bytes_aired values air) (beginning_starts n bs batch is) ∙ ap (map spelling) (start_buckets values air G ∙ ap (λ l. l ++ last_cycle_buckets values air (G ++ Start ∷ [])) (quiet_buckets values air (events_in bs) is.ends.0 is.ends.2))
    ∙ map-append spelling (buckets_of values air (events_in bs)) (last_cycle_buckets values air (G ++ Start ∷ []))

pub length_last : (values : List ℕ) (air : Air) (G : List Event) → length (last_bytes values air G) ≡ length (slots_at air (starts (G ++ Start ∷ [])))
length_last values air G =
    let c = starts (G ++ Start ∷ []) in
    length-map (last_cycle_buckets values air (G ++ Start ∷ [])) spelling ∙ length-map-range_with_len (bucket_of values air (G ++ Start ∷ []) air.version c) 0 (length (slots_at air c))

-- What is published airs all that was seen, if all starts are published.
pub seen_bytes : (values : List ℕ) (air : Air) (seen : List Event) (bs : List (List Event)) → IsUpTo 0 seen bs → bytes_aired values air seen ≡ bytes_aired values air (events_in bs)
seen_bytes values air seen bs up = ap (bytes_aired values air) up.begins ∙ ap (map spelling) (quiet_buckets values air (events_in bs) up.later up.rest)

-- What is published starts as many cycles.
pub seen_starts : (seen : List Event) (bs : List (List Event)) → IsUpTo 0 seen bs → starts seen ≡ starts (events_in bs)
seen_starts seen bs up = let none = up.rest in let both = ap starts up.begins ∙ starts_append (events_in bs) up.later in omega arith

-- ---- how many

flat_count : {X : Type 0} (f : ℕ → List X) (n : ℕ → ℕ) → ((c : ℕ) → length (f c) ≡ n c) → (cs : List ℕ) → length (flat_map f cs) ≡ sum_by n cs
flat_count f n h [] = refl
flat_count f n h (c ∷ cs) =
    length-append (f c) (flat_map f cs) ∙ ap (λ k. k + length (flat_map f cs)) (h c) ∙ ap (λ k. n c + k) (flat_count f n h cs) ∙ sym (sum_by-cons n c cs)

-- A history airs a bucket for each slot of its cycles.
pub count_bytes : (values : List ℕ) (air : Air) (H : List Event) → length (bytes_aired values air H) ≡ sum_by (λ c. length (slots_at air c)) (range_with_len 1 (starts H))
unfolding buckets_of
count_bytes values air H =
    length-map (buckets_of values air H) spelling
    ∙ flat_count (cycle_buckets values air H) (λ c. length (slots_at air c)) (λ c. length-map-range_with_len (bucket_of values air H air.version c) 0 (length (slots_at air c))) (range_with_len 1 (starts H))

-- ---- what a mast tells

pub changes_more : (xs ys : List (List ℕ)) (o p q : Option SentBuckets) → Changes (with_buckets xs) o p → Changes (with_buckets ys) p q → Changes (with_buckets (xs ++ ys)) o q
changes_more xs ys None p q a b = tt
changes_more xs ys (Some s) p q a b =
    let both : q ≡ Some (record { buckets = (s.buckets ++ xs) ++ ys; ended = s.ended }) = subst (λ p. Changes (with_buckets ys) p q) a b in
    both ∙ ap (λ (l : List (List ℕ)). let t : SentBuckets = record { buckets = l; ended = s.ended } in Some t) (append_assoc s.buckets xs ys)

-- ---- cycles that were sent

module _ (values : List ℕ) (air : Air) where
  pub sends_none : (G H : List Event) (o q : Option SentBuckets) → H ≡ G → q ≡ o → SendsCycles values air 0 G H o q
  sends_none G H o q same is = record {
    more = [];
    aired = ap (bytes_aired values air) same ∙ sym (append-nil (bytes_aired values air G));
    started = ap starts same ∙ omega arith;
    sent = subst (λ q. Changes (with_buckets []) o q) (sym is) (sent_none o);
  }

  pub counts_none : (G H : List Event) (o q : Option SentBuckets) → H ≡ G → q ≡ o → SendsCounted values air 0 0 G H o q
  unfolding sends_none
  counts_none G H o q same is = record { sends = sends_none G H o q same is; counted = refl }

  pub sends_further : (m n : ℕ) (G H K : List Event) (o p q : Option SentBuckets) → SendsCycles values air m G H o p → SendsCycles values air n H K p q → SendsCycles values air (m + n) G K o q
  sends_further m n G H K o p q a b = record {
    more = a.more ++ b.more;
    aired = b.aired ∙ ap (λ l. l ++ b.more) a.aired ∙ append_assoc (bytes_aired values air G) a.more b.more;
    started = let first = a.started in let next = b.started in omega arith;
    sent = changes_more a.more b.more o p q a.sent b.sent;
  }

  pub counts_further : (m n i j : ℕ) (G H K : List Event) (o p q : Option SentBuckets) → SendsCounted values air m i G H o p → SendsCounted values air n j H K p q → SendsCounted values air (m + n) (i + j) G K o q
  unfolding sends_further
  counts_further m n i j G H K o p q a b = record {
    sends = sends_further m n G H K o p q a.sends b.sends;
    counted = (let both = length-append a.sends.more b.sends.more in let first = a.counted in let next = b.counted in omega arith);
  }

  -- G and H may be replaced by lists that air the same and start as many cycles.
  pub sends_as : (n : ℕ) (G H K L : List Event) (o q : Option SentBuckets) → bytes_aired values air K ≡ bytes_aired values air G → bytes_aired values air L ≡ bytes_aired values air H → starts K ≡ starts G → starts L ≡ starts H
      → SendsCycles values air n G H o q → SendsCycles values air n K L o q
  sends_as n G H K L o q same too early late s = record { more = s.more; aired = too ∙ s.aired ∙ ap (λ l. l ++ s.more) (sym same); started = late ∙ s.started ∙ ap (λ m. m + n) (sym early); sent = s.sent }

  pub fails_as : {M : Type 0} (state : M → MastState) (n : ℕ) (G H K L : List Event) (o q : M) → bytes_aired values air K ≡ bytes_aired values air G → bytes_aired values air L ≡ bytes_aired values air H
      → FailsAfter state values air n G H o q → FailsAfter state values air n K L o q
  fails_as state n G H K L o q same too s = record { more = s.more; aired = too ∙ s.aired ∙ ap (λ l. l ++ s.more) (sym same); failed = s.failed }

  -- The mast failed after cycles of n buckets.
  pub fails_further : {M : Type 0} (state : M → MastState) (k s n : ℕ) (G H K : List Event) (o p q : M) → SendsCounted values air k n G H (state o).told (state p).told → (state p).faults ≡ (state o).faults → (state p).port ≡ (state o).port
      → FailsAfter state values air s H K p q → FailsAfter state values air (n + s) G K o q
  fails_further state k s n G H K o p q before calm port b =
      let count = before.counted in
      let a = before.sends in
      let f = b.failed in
      let j = f.just_before in
      record {
        more = a.more ++ b.more;
        aired = b.aired ∙ ap (λ l. l ++ b.more) a.aired ∙ append_assoc (bytes_aired values air G) a.more b.more;
        failed = record {
          within = let l = length-append a.more b.more in let w = f.within in omega arith;
          just_before = j;
          sent = subst (λ l. Changes (with_buckets l) (state o).told (state j).told) (beginning a.more b.more n s count) (changes_more a.more (take s b.more) (state o).told (state p).told (state j).told a.sent f.sent);
          calm = f.calm ∙ calm;
          port = f.port ∙ port;
          rose = f.rose;
          kept = f.kept;
        };
      }
    where
      beginning : (xs ys : List (List ℕ)) (m s : ℕ) → length xs ≡ m → xs ++ take s ys ≡ take (m + s) (xs ++ ys)
      beginning [] ys m s e = let same : s ≡ m + s = omega arith in ap (λ n. take n ys) same
      beginning (x ∷ xs) ys zero s e = absurd (omega arith)
      beginning (x ∷ xs) ys (suc m) s e = let same : suc (m + s) ≡ suc m + s = omega arith in ap (λ l. x ∷ l) (beginning xs ys m s (omega arith)) ∙ ap (λ n. take n (x ∷ xs ++ ys)) same

  -- After whole cycles of n buckets, the fault of a cycle ends the job.
  pub ends_by : {M : Type 0} (state : M → MastState) (fault : ConductFault) (k cycles n : ℕ) → k < cycles → (p q : PassState) (f g h : PublisherState) (o m r : M)
      → SendsCounted values air k n (events_in f.batches) (events_in g.batches) (state o).told (state m).told → (state m).faults ≡ (state o).faults → (state m).port ≡ (state o).port → IsUpTo 0 p.seen f.batches → IsPublishedUpTo q.seen h.batches fault
      → SendsInCycle state values air n (events_in g.batches) (events_in h.batches) m r fault → SendsUpTo state values air cycles p q f h o r fault
  ends_by state (conduct.Mast sent) k cycles n less p q f g h o m r before calm port first now (s, is, failed) =
      let all = fails_further state k s n (events_in f.batches) (events_in g.batches) (events_in h.batches) o m r before calm port failed in
      subst (λ n. FailsAfter state values air n p.seen q.seen o r) (sym is)
      (fails_as state _ (events_in f.batches) (events_in h.batches) p.seen q.seen o r (seen_bytes values air p.seen f.batches first) (seen_bytes values air q.seen h.batches now) all)
  ends_by state conduct.NoMemory k cycles n less p q f g h o m r before calm port first now none =
      let same : k + 0 ≡ k = omega arith in (
        k,
        less,
        subst (λ n. SendsCycles values air n (events_in f.batches) (events_in h.batches) (state o).told (state r).told) same
            (sends_further k 0 (events_in f.batches) (events_in g.batches) (events_in h.batches) _ _ _ before.sends none),
      )

-- ---- one cycle

-- The pass p became q, the publisher f became g by one batch, and the board is that of what is published then.
module _ (p q : PassState) (f g : PublisherState) (b : Board) (on : GoesOn p q) (step : AreInStep q g b) (adds : AddsBatch f g) where
  abbrev pub beginning : List Event
  beginning = beginning_of (length f.values) f.batches adds.0 adds.2

  batches : g.batches ≡ f.batches ++ adds.0 ∷ []
  batches = ap (λ x. x.batches) adds.1

  pub ends : events_in g.batches ≡ beginning ++ Start ∷ []
  ends = ap events_in batches ∙ beginning_starts (length f.values) f.batches adds.0 adds.2

  pub last : b ≡ board_of p.values (beginning ++ Start ∷ [])
  last = step.board ∙ ap (λ (x : PassState). board_of x.values (events_in g.batches)) on.same ∙ ap (board_of p.values) ends

  pub started : 1 ≤ b.cycle
  started = let c = ap (λ x. x.cycle) last in let a = starts_append beginning (Start ∷ []) in let one = starts_one in omega arith

  -- the plans have this program in force in the board's cycle, which is aired from this source
  module _ (air : Air) (group : ℕ) (form : Form) (plans : Plans) (own : EditionDisks) (is : IsAirOf group p.values form plans air) (at : slice_get plans.programs (planned_edition plans b.cycle) ≡ Some own)
      (source : Board) (from : source ≡ aired_board air.scheme b) where
    in_force : planned_program plans (starts (beginning ++ Start ∷ [])) ≡ own
    in_force =
        let now : b.cycle ≡ starts (beginning ++ Start ∷ []) = ap (λ x. x.cycle) last in
        ap (planned_program plans) (sym now) ∙ get_or_from_slice_get plans.programs (planned_edition plans b.cycle) own no_disks at

    own_slots : slots_at air (starts (beginning ++ Start ∷ [])) ≡ program own.disks
    own_slots = is.slots_are (starts (beginning ++ Start ∷ [])) ∙ ap (λ (x : EditionDisks). program x.disks) in_force

    pub last_board : IsLastBoard p.values air beginning form own.edition (program own.disks) source
    last_board = record {
      board = from ∙ ap (aired_board air.scheme) last;
      items = is.items;
      policy = is.policy_is;
      version = is.version_is;
      edition = is.edition_is (starts (beginning ++ Start ∷ [])) ∙ ap (λ (x : EditionDisks). x.edition) in_force;
      slots = own_slots;
    }

    bytes : bytes_aired p.values air (events_in g.batches) ≡ bytes_aired p.values air (events_in f.batches) ++ last_bytes p.values air beginning
    bytes = ap (λ bs. bytes_aired p.values air (events_in bs)) batches ∙ batch_bytes p.values air (length f.values) f.batches adds.0 adds.2

    -- all of its buckets were sent
    pub cycle_sent : (n : ℕ) (o q : Option SentBuckets) → n ≡ length (program own.disks) → Changes (with_buckets (last_bytes p.values air beginning)) o q → SendsCounted p.values air 1 n (events_in f.batches) (events_in g.batches) o q
    cycle_sent n o q count sent = record {
      sends = record {
        more = last_bytes p.values air beginning;
        aired = bytes;
        started = (let all = ap starts ends ∙ starts_append beginning (Start ∷ []) in let before = starts_append (events_in f.batches) adds.2.ends.0 in let none = adds.2.ends.2 in let one = starts_one in omega arith);
        sent = sent;
      };
      counted = length_last p.values air beginning ∙ ap length own_slots ∙ sym count;
    }

    -- or those before the one at which the mast failed
    pub cycle_failed : {M : Type 0} (state : M → MastState) (slot : ℕ) (before now : M) → Changes (with_buckets (take slot (last_bytes p.values air beginning))) (state before).told (state now).told
        → FailedAt state slot (board_bytes form own.edition (program own.disks) source) before now → FailsAfter state p.values air slot (events_in f.batches) (events_in g.batches) before now
    cycle_failed state slot before now sent failed = record {
      more = last_bytes p.values air beginning;
      aired = bytes;
      failed = record {
        within = let w = failed.within in let n = length_cycle form own.edition (program own.disks) source in let m = length_last p.values air beginning in let s = ap length own_slots in omega arith;
        just_before = failed.just_before;
        sent = subst (Changes (with_buckets (take slot (last_bytes p.values air beginning))) (state before).told) failed.kept sent;
        calm = failed.calm;
        port = failed.port;
        rose = failed.rose;
        kept = failed.kept;
      };
    }

    pub cycle_failed_by : {M : Type 0} (state : M → MastState) (e : AirFault) (n : ℕ) (before now : M) → n ≡ failed_slot e → Changes (with_buckets (take (failed_slot e) (last_bytes p.values air beginning))) (state before).told (state now).told
        → IsAirAnswer state (board_bytes form own.edition (program own.disks) source) before now e → FailsAfter state p.values air n (events_in f.batches) (events_in g.batches) before now
    cycle_failed_by state (fault.Mast slot) n before now is sent failed =
        subst (λ m. FailsAfter state p.values air m (events_in f.batches) (events_in g.batches) before now) (sym is) (cycle_failed state slot before now sent failed)

pub within_cycle : {M : Type 0} (state : M → MastState) (form : Form) (edition : ℕ) (slots : List (Option ℕ)) (b : Board) (e : AirFault) (n : ℕ) (before now : M) → n ≡ failed_slot e → IsAirAnswer state (board_bytes form edition slots b) before now e → n < length slots
within_cycle state form edition slots b (fault.Mast slot) n before now is failed = let w = failed.within in let l = length_cycle form edition slots b in omega arith

pub rose_by : {M : Type 0} (state : M → MastState) (bs : List (List ℕ)) (e : AirFault) (before now : M) → IsAirAnswer state bs before now e → Rose (state before).faults (state now).faults
rose_by state bs (fault.Mast slot) before now failed = subst (λ n. Rose n (state now).faults) failed.calm failed.rose
