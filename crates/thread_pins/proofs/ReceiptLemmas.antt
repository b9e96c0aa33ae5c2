-- The reply to a commit after the first batch, computed. A receipt gives it if no event of others came between.
use Rattle.std.proofs.Common.{◌≡◌, ℕ, ◌+◌, Bool, ◌∷◌, [], ◌++◌, List, Result, Ok, Err, length, refl, ap, ◌∙◌, arith}
use Rattle.std.specs.Prelude.{MatchResult, IfOk}
use Rattle.std.proofs.lemmas.List.{length-append}
use Rattle.air_history.specs.declared.histories.Event.{Event}
use Rattle.air_history.specs.declared.histories.Event.TheVariants.{Commit}
use Rattle.air_history.specs.Histories.{is_start, reads, writes_of, cycle_at}
use Rattle.air_history.specs.Tables.{table, value_after, write_of, value_on_base}
use Rattle.air_history.specs.Boards.{Reply, reply_of}
use Rattle.air_history.specs.UpdateLists.{UpdateLists}
use Rattle.air_model.specs.Decks.{is_by, count_made}
use Rattle.air_model.specs.Closings.{GoesOnWithout}
use Rattle.update_commit.specs.Receipts.{reply_in}
use Rattle.update_commit.specs.declared.receipts.Receipt.{Receipt}
use Rattle.thread_pins.specs.SmallBatches.{first_values, first_batch, reads_and_sets}

-- The first batch, and a commit of updater 1.
abbrev three_events : List Event
three_events = first_batch ++ Commit 1 0 (reads_and_sets 0 1 5) ∷ []

-- The reply to that commit.
abbrev reply : Reply
reply = record { number = 2; cycle = 1; read = 18_446_744_073_709_551_615 ∷ []; written = 5 ∷ [] }

three_reply : reply_of first_values three_events 2 ≡ reply
unfolding is_start reads writes_of cycle_at table value_after write_of value_on_base
three_reply = refl

none_made : count_made 1 first_batch ≡ 0
unfolding is_by
none_made = refl

-- A list without length is empty.
is_empty : (events : List Event) → length events ≡ 0 → events ≡ []
is_empty [] h = refl
is_empty (x ∷ xs) h = absurd (omega arith)

-- A list of two events that continues the first batch is the first batch.
is_first : (own : Event → Bool) (seen before : List Event) → seen ≡ first_batch → GoesOnWithout own seen before → length before ≡ 2 → before ≡ first_batch
is_first own seen before s g two =
    let long : length before ≡ length seen + length g.0 = ap length g.1 ∙ length-append seen g.0 in
    let short : length seen ≡ 2 = ap length s in
    g.1 ∙ ap (λ l. seen ++ l) (is_empty g.0 (omega arith)) ∙ ap (λ l. l ++ []) s

-- The commit then comes right after the first batch.
is_three : (number : ℕ) (seen before new : List Event) (u : UpdateLists) → number ≡ 1 → seen ≡ first_batch → u ≡ reads_and_sets 0 1 5 →
    before ≡ first_batch → new ≡ before ++ Commit number (count_made number seen) u ∷ [] → new ≡ three_events
is_three number seen before new u n s e b is =
    is ∙ ap (λ l. l ++ Commit number (count_made number seen) u ∷ []) b ∙ ap (λ k. first_batch ++ Commit k (count_made k seen) u ∷ []) n
    ∙ ap (λ l. first_batch ++ Commit 1 (count_made 1 l) u ∷ []) s ∙ ap (λ k. first_batch ++ Commit 1 k u ∷ []) none_made ∙ ap (λ l. first_batch ++ Commit 1 0 l ∷ []) e

pub replies : {E : Type 0} (r : Result Receipt E) (N : Type 0) (values : List ℕ) (number : ℕ) (seen before new : List Event) (u : UpdateLists) →
    values ≡ first_values → number ≡ 1 → seen ≡ first_batch → u ≡ reads_and_sets 0 1 5 → GoesOnWithout (is_by number) seen before →
    MatchResult r (λ receipt. (new ≡ before ++ Commit number (count_made number seen) u ∷ []) × (reply_in receipt ≡ reply_of values new (length before))) (λ _. N) →
    IfOk r (λ receipt. length new ≡ 3 → reply_in receipt ≡ reply)
replies (Ok x) N values number seen before new u v n s e g h = λ three.
    let more : length new ≡ length before + 1 = ap length h.0 ∙ length-append before (Commit number (count_made number seen) u ∷ []) in
    let two : length before ≡ 2 = omega arith in
    let b = is_first (is_by number) seen before s g two in
    h.1 ∙ ap (λ xs. reply_of xs new (length before)) v ∙ ap (reply_of first_values new) two ∙ ap (λ l. reply_of first_values l 2) (is_three number seen before new u n s e b h.0) ∙ three_reply
replies (Err x) N values number seen before new u v n s e g h = tt
