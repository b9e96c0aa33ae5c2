-- The small batches, computed: that the first is one, and the frames of one and of both.
use Rattle.std.proofs.Common.{◌≡◌, ◌<◌, ◌+◌, ℕ, lit<, List, ◌∷◌, [], ◌++◌, Result, Ok, Err, length, All, refl, ap, ◌∙◌, subst, arith}
use Rattle.std.specs.Prelude.{MatchResult, OnOk}
use Rattle.std.proofs.lemmas.List.Elements.{All-nil, All-cons}
use Rattle.air_history.specs.declared.updates.Write.{Write}
use Rattle.air_history.specs.declared.histories.Event.{Event}
use Rattle.air_history.specs.declared.histories.Event.TheVariants.{Commit, Start}
use Rattle.air_history.specs.Histories.{ItemsFit, starts, is_start, reads, writes, writes_of, writer, writer_before, cycle_at, events_in}
use Rattle.air_history.specs.Places.{greatest, last_place}
use Rattle.air_history.specs.Descents.{descends, descends_in}
use Rattle.air_history.specs.Columns.{column_entry}
use Rattle.air_history.specs.Tables.{table, value_after, write_of, value_on_base}
use Rattle.air_history.specs.Boards.{frame_of}
use Rattle.cycle_snapshot.specs.Batches.{IsBatch}
use Rattle.cycle_snapshot.specs.SnapshotStates.{HasLooked, MonitorState}
use Rattle.thread_pins.specs.SmallBatches.{first_values, first_batch, second_batch, adds_to}

pub first_is_batch : IsBatch 2 first_batch
unfolding ItemsFit starts is_start
first_is_batch = record { fits = All-cons (ItemsFit 2) (Commit 0 0 (adds_to 1 1 5)) (Start ∷ []) record { reads = All-cons (λ r. r < 2) 1 [] (lit< tt) (All-nil (λ r. r < 2)); writes = All-cons (λ (w : Write). w.item < 2) _ [] (lit< tt) (All-nil (λ (w : Write). w.item < 2)) } (All-cons (ItemsFit 2) Start [] tt (All-nil (ItemsFit 2))); ends = (Commit 0 0 (adds_to 1 1 5) ∷ [], refl, refl) }

one_frame : (frame_of first_values (events_in (first_batch ∷ []))).total ≡ 24
unfolding table value_after write_of value_on_base
one_frame = refl

two_frames : frame_of first_values (events_in (first_batch ∷ second_batch ∷ [])) ≡ record { cycle = 2; values = 3 ∷ 2 ∷ []; columns = (1 ∷ 1 ∷ []) ∷ (0 ∷ 1 ∷ []) ∷ []; total = 5 }
unfolding table value_after write_of value_on_base starts column_entry greatest writer writer_before last_place writes writes_of descends descends_in reads cycle_at is_start
two_frames = refl

-- Each published batch ends with its one start, if none was published before.
pub ends_each : (n : ℕ) (old rest new : List (List Event)) → length old + 0 ≡ 0 → old ++ rest ≡ new → All (IsBatch n) rest →
    All (λ batch. (commits : List Event) × (batch ≡ commits ++ Start ∷ []) × (starts commits ≡ 0)) new
ends_each n [] rest new none is each = subst (All (λ batch. (commits : List Event) × (batch ≡ commits ++ Start ∷ []) × (starts commits ≡ 0))) is (λ k d h. (each k d h).ends)
ends_each n (b ∷ old) rest new none is each = absurd (omega arith)

-- What a look says of its value holds if it answers one.
pub on_ok : {T E : Type 0} (r : Result T E) (P Q R : Type 0) → MatchResult r (λ _. P) (λ _. Q) → (P → R) → OnOk r R
on_ok (Ok x) P Q R h f = f h
on_ok (Err e) P Q R h f = tt

-- The frames that a monitor keeps of the two lists.
pub keeps_two : (m n : MonitorState) → m.values ≡ first_values → HasLooked m n → n.seen ≡ first_batch ∷ second_batch ∷ [] →
    n.kept ≡ record { cycle = 2; values = 3 ∷ 2 ∷ []; columns = (1 ∷ 1 ∷ []) ∷ (0 ∷ 1 ∷ []) ∷ []; total = 5 }
keeps_two m n v l e = l.kept ∙ ap (λ xs. frame_of xs (events_in n.seen)) v ∙ ap (λ s. frame_of first_values (events_in s)) e ∙ two_frames

pub keeps_total : (m n : MonitorState) → m.values ≡ first_values → HasLooked m n → n.seen ≡ first_batch ∷ [] → n.kept.total ≡ 24
keeps_total m n v l e = ap (λ f. f.total) (l.kept ∙ ap (λ xs. frame_of xs (events_in n.seen)) v ∙ ap (λ s. frame_of first_values (events_in s)) e) ∙ one_frame
