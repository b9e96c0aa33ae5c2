-- What the pieces of a script's indexed tape are, and what a sink took of them.
use Rattle.std.proofs.Common.{◌≡◌, ℕ, zero, suc, ◌+◌, ◌-◌, ◌≤◌, Some, List, [], ◌∷◌, ◌++◌, length, take, drop, cond, refl, sym, ◌∙◌, ap, subst, inl, inr, arith, length-append}
use Rattle.std.specs.Prelude.{Result, Ok, Err, IfErr, IsErrAnd, sum_by}
use Rattle.std.specs.List.{range_with_len}
use Rattle.std.proofs.lemmas.List.{length-map, take-append-drop, take-take, take_all}
use Rattle.std.proofs.lemmas.List.Concat.{length-flat_map}
use Rattle.std.proofs.lemmas.List.Elements.{Contains-get_or}
use Rattle.std.proofs.lemmas.List.FromFn.{length-map-range_with_len}
use Rattle.std.proofs.lemmas.List.Sums.{sum_by-append, sum_by-cons}
use Rattle.air_history.specs.Histories.{is_start, starts}
use Rattle.air_history.specs.declared.histories.Event.{Event}
use Rattle.air_index.specs.IndexedTapes.{AreBuckets, beam_tape_of, indexed_piece, records_from, slots_after}
use Rattle.air_index.proofs.PieceLemmas.{pieces_are}
use Rattle.air_model.specs.Aired.{air_of, bucket_of, buckets_of, cycle_buckets, slots_at}
use Rattle.air_model.specs.AiredLaws.{CanAir}
use Rattle.air_model.specs.Buckets.{Bucket, bucket_in, spelling}
use Rattle.air_model.specs.Decks.{Deck, script_history, values_in}
use Rattle.air_model.specs.Tapes.{tape_of}
use Rattle.air_model.proofs.EditionLemmas.{slots_are}
use Rattle.air_model.proofs.RangeLemmas.{bytes_aired}
use Rattle.air_sender.specs.AiredBytes.{aired_bytes}
use Rattle.air_sender.proofs.AiredLemmas.{range_more}
use Rattle.air_sender.proofs.RunLoops.{script_length}
use Rattle.chunk_program.specs.Editions.{Plans, planned_slots, plans_in}
use Rattle.chunk_program.proofs.EditionSteps.{slots_of_cycle}
use Rattle.scripts.specs.Beamings.{IsBeaming, beamed_so_far, beamed_tape}
use Rattle.scripts.specs.PieceRuns.{IsPieceRun}
use Rattle.scripts.specs.Sinks.{StopsAt}
use Rattle.scripts.specs.declared.piece_runs.PieceRun.{PieceRun}
use Rattle.scripts.specs.declared.script_beaming.ScriptBeaming.{ScriptBeaming}
use Rattle.scripts.proofs.TapePieceLemmas.{middle, script_begins}

-- ---- starts

starts_append : (G rest : List Event) → starts (G ++ rest) ≡ starts G + starts rest
unfolding starts
starts_append G rest = sum_by-append (λ (e : Event). cond (is_start e) 1 0) G rest

-- A longer beginning of a history has no fewer starts.
pub starts_take : (H G now : List Event) (k j : ℕ) → G ≡ take k H → now ≡ take j H → k ≤ j → starts G ≤ starts now
starts_take H G now k j first second within =
    let rest = drop k (take j H) in
    let whole : starts now ≡ starts (take k (take j H)) + starts rest = ap starts (second ∙ sym (take-append-drop k (take j H))) ∙ starts_append (take k (take j H)) rest in
    let front : starts G ≡ starts (take k (take j H)) = ap starts (first ∙ sym (take-take k j H within)) in
    omega (arith, whole, front)

-- ---- how many buckets a history airs

same_sum : (f g : ℕ → ℕ) (a n : ℕ) → ((c : ℕ) → f c ≡ g c) → sum_by f (range_with_len a n) ≡ sum_by g (range_with_len a n)
same_sum f g a zero same = refl
same_sum f g a (suc n) same =
    sum_by-cons f a (range_with_len (a + 1) n) ∙ ap (λ k. k + sum_by f (range_with_len (a + 1) n)) (same a) ∙ ap (λ k. g a + k) (same_sum f g (a + 1) n same) ∙ sym (sum_by-cons g a (range_with_len (a + 1) n))

-- As many as its cycles have slots.
pub aired_count : (deck : Deck) (H : List Event) → length (aired_bytes deck H) ≡ slots_after (plans_in deck) 0 (starts H)
unfolding buckets_of
aired_count deck H =
    let values = values_in deck in
    let air = air_of deck in
    length-map (buckets_of values air H) spelling ∙ length-flat_map (cycle_buckets values air H) (range_with_len 1 (starts H))
    ∙ same_sum (λ c. length (cycle_buckets values air H c)) (λ c. length (planned_slots (plans_in deck) c)) 1 (starts H)
    (λ c. length-map-range_with_len (bucket_of values air H air.version c) 0 (length (slots_at air c)) ∙ ap length (slots_are deck c ∙ sym (slots_of_cycle deck (plans_in deck) c refl)))

-- The sum over numbers in a row, up to one and from there on.
sum_split : (f : ℕ → ℕ) (a b : ℕ) → sum_by f (range_with_len 1 (a + b)) ≡ sum_by f (range_with_len 1 a) + sum_by f (range_with_len (a + 1) b)
sum_split f a zero = let none : a + 0 ≡ a = omega arith in ap (λ n. sum_by f (range_with_len 1 n)) none ∙ omega arith
sum_split f a (suc b) =
    let next : a + suc b ≡ suc (a + b) = omega arith in
    let place : 1 + (a + b) ≡ a + 1 + b = omega arith in
    ap (λ n. sum_by f (range_with_len 1 n)) next ∙ ap (sum_by f) (range_more 1 (a + b)) ∙ sum_by-append f (range_with_len 1 (a + b)) ((1 + (a + b)) ∷ [])
    ∙ ap (λ n. n + sum_by f ((1 + (a + b)) ∷ [])) (sum_split f a b)
    ∙ ap (λ k. sum_by f (range_with_len 1 a) + sum_by f (range_with_len (a + 1) b) + sum_by f (k ∷ [])) place
    ∙ (let last = sum_by-append f (range_with_len (a + 1) b) ((a + 1 + b) ∷ []) in let whole = ap (sum_by f) (range_more (a + 1) b) in omega (arith, last, whole))

-- A piece has as many as the cycles have slots that it airs.
pub piece_counted : (deck : Deck) (before now : List Event) (piece : List (List ℕ)) → aired_bytes deck now ≡ aired_bytes deck before ++ piece → starts before ≤ starts now
    → length piece ≡ slots_after (plans_in deck) (starts before) (starts now - starts before)
piece_counted deck before now piece aired later =
    let plans = plans_in deck in
    let a = starts before in
    let b = starts now - a in
    let slots : ℕ → ℕ = λ c. length (planned_slots plans c) in
    let whole : starts now ≡ a + b = omega arith in
    let first = aired_count deck before in
    let all = aired_count deck now ∙ ap (λ n. sum_by slots (range_with_len 1 n)) whole ∙ sum_split slots a b in
    omega (arith, first, all, ap length aired, length-append (aired_bytes deck before) piece)

-- ---- the buckets of a piece

-- What a script's history airs are buckets.
all_buckets : (deck : Deck) → CanAir deck (script_history deck) → AreBuckets (aired_bytes deck (script_history deck))
all_buckets deck can =
    let H = script_history deck in
    let all = aired_bytes deck H in
    (bytes_aired deck H all can (λ k d below. Contains-get_or all k d below)).1

-- So are those of a piece.
pub piece_buckets : (deck : Deck) (before now : List Event) (piece : List (List ℕ)) (k : ℕ) → CanAir deck (script_history deck) → now ≡ take k (script_history deck)
    → aired_bytes deck now ≡ aired_bytes deck before ++ piece → AreBuckets piece
piece_buckets deck before now piece k can is aired =
    let begun = script_begins deck now k is in
    let whole : aired_bytes deck (script_history deck) ≡ (aired_bytes deck before ++ piece) ++ begun.0 = begun.1 ∙ ap (λ l. l ++ begun.0) aired in
    middle (λ r. (b : Bucket) × (bucket_in r ≡ Some b)) (aired_bytes deck before) piece begun.0 (subst AreBuckets whole (all_buckets deck can))

-- ---- the indexed tape

-- No event is beamed to nothing.
pub nothing_beamed : (deck : Deck) (now : List Event) → now ≡ [] → beamed_tape deck now ≡ []
unfolding starts tape_of records_from
nothing_beamed deck now none = ap (beamed_tape deck) none

-- The indexed tape so far, with the piece behind it.
pub piece_beamed : (deck : Deck) (before now : List Event) (piece : List (List ℕ)) → aired_bytes deck now ≡ aired_bytes deck before ++ piece → starts before ≤ starts now
    → beamed_tape deck now ≡ beamed_tape deck before ++ indexed_piece (plans_in deck) (length deck.items) (starts before) (starts now - starts before) piece
piece_beamed deck before now piece aired later =
    let plans = plans_in deck in
    let n = length deck.items in
    let a = starts before in
    let b = starts now - a in
    let whole : starts now ≡ a + b = omega arith in
    let from : 0 + a ≡ a = omega arith in
    ap (λ cycles. indexed_piece plans n 0 cycles (aired_bytes deck now)) whole ∙ ap (indexed_piece plans n 0 (a + b)) aired
    ∙ pieces_are plans n 0 a b (aired_bytes deck before) piece (aired_count deck before)
    ∙ ap (λ first. beamed_tape deck before ++ indexed_piece plans n first b piece) from

-- ---- the call

-- A later moment of a run has no fewer starts.
pub runs_on : (deck : Deck) (before after : PieceRun) → IsPieceRun deck before → IsPieceRun deck after → length before.events.items ≤ length after.events.items
    → starts before.events.items ≤ starts after.events.items
runs_on deck before after was is on = starts_take (script_history deck) before.events.items after.events.items (length before.events.items) (length after.events.items) was.begun is.begun on

-- The plans and the number of items of a deck, the number of cycles that were aired before a piece, and that of its own.
pub record IsBeamedWith (deck : Deck) (before now : List Event) (p : Plans) (n f c : ℕ) : Type 0 where
  pub plans : p ≡ plans_in deck
  pub items : n ≡ length deck.items
  pub first : f ≡ starts before
  pub cycles : c ≡ starts now - starts before

-- The piece of these is that of the deck.
piece_of : {T : Type 0} (write : Plans → ℕ → ℕ → ℕ → T) (deck : Deck) (before now : List Event) (plans : Plans) (n first cycles : ℕ) → IsBeamedWith deck before now plans n first cycles
    → write plans n first cycles ≡ write (plans_in deck) (length deck.items) (starts before) (starts now - starts before)
piece_of write deck before now plans n first cycles with_them =
    ap (λ p. write p n first cycles) with_them.plans ∙ ap (λ k. write (plans_in deck) k first cycles) with_them.items
    ∙ ap (λ f. write (plans_in deck) (length deck.items) f cycles) with_them.first ∙ ap (write (plans_in deck) (length deck.items) (starts before)) with_them.cycles

-- The records that were read are as many as the slots of the cycles.
pub piece_asked : (deck : Deck) (before now : List Event) (piece read : List (List ℕ)) (plans : Plans) (n first cycles : ℕ) → IsBeamedWith deck before now plans n first cycles
    → aired_bytes deck now ≡ aired_bytes deck before ++ piece → starts before ≤ starts now → read ≡ piece → length read ≡ slots_after plans first cycles
piece_asked deck before now piece read plans n first cycles with_them aired later same =
    ap length same ∙ piece_counted deck before now piece aired later ∙ sym (piece_of (λ p k f c. slots_after p f c) deck before now plans n first cycles with_them)

-- What is written after nothing, of the records that were read, is the piece.
pub piece_written : (deck : Deck) (before now : List Event) (piece read : List (List ℕ)) (plans : Plans) (n first cycles : ℕ) (old out : List ℕ) → IsBeamedWith deck before now plans n first cycles
    → aired_bytes deck now ≡ aired_bytes deck before ++ piece → starts before ≤ starts now → read ≡ piece → old ≡ [] → out ≡ old ++ indexed_piece plans n first cycles read
    → beamed_tape deck now ≡ beamed_tape deck before ++ out
piece_written deck before now piece read plans n first cycles old out with_them aired later same none is =
    let written : out ≡ indexed_piece (plans_in deck) (length deck.items) (starts before) (starts now - starts before) piece =
    is ∙ ap (λ o. o ++ indexed_piece plans n first cycles read) none ∙ ap (indexed_piece plans n first cycles) same
    ∙ piece_of (λ p k f c. indexed_piece p k f c piece) deck before now plans n first cycles with_them in
    piece_beamed deck before now piece aired later ∙ ap (λ t. beamed_tape deck before ++ t) (sym written)

-- ---- what a sink took

-- What was beamed so far begins the tape.
begins : (deck : Deck) (b : ScriptBeaming) → IsBeaming deck b → (rest : List ℕ) × (beam_tape_of deck ≡ beamed_so_far deck b ++ rest)
begins deck b kept =
    let now = b.run.events.items in
    let H = script_history deck in
    let begun = script_begins deck now (length now) kept.run.begun in
    let later : starts now ≤ starts H = starts_take H now H (length now) (length H) kept.run.begun (sym (take_all (length H) H (omega arith))) (omega (arith, script_length deck, kept.run.within)) in
    (indexed_piece (plans_in deck) (length deck.items) (starts now) (starts H - starts now) begun.0, piece_beamed deck now H begun.0 begun.1 later)

-- One piece more was taken.
pub taken_on : (Taken : List ℕ → Type 0) (d : Deck) (before after : ScriptBeaming) (bytes : List ℕ) → bytes ≡ after.beamed.items
    → beamed_so_far d after ≡ beamed_so_far d before ++ after.beamed.items → Taken (beamed_so_far d before ++ bytes) → Taken (beamed_so_far d after)
taken_on Taken d before after bytes same joined was = subst Taken (ap (λ p. beamed_so_far d before ++ p) same ∙ sym joined) was

-- All pieces were.
pub all_taken : (Taken : List ℕ → Type 0) (d : Deck) (b : ScriptBeaming) → b.run.events.items ≡ script_history d → Taken (beamed_so_far d b) → Taken (beam_tape_of d)
all_taken Taken d b done was = subst Taken (ap (beamed_tape d) done) was

-- Memory ran out later than before the first piece.
pub wanting_after : {T F : Type 0} (Wants : F → Type 0) (Taken : List ℕ → Type 0) (Failed : List ℕ → F → Type 0) (d : Deck) (b : ScriptBeaming) (r : Result T F) → IsErrAnd r Wants → IsBeaming d b
    → Taken (beamed_so_far d b) → IfErr r (StopsAt Wants Taken Failed (beam_tape_of d))
wanting_after Wants Taken Failed d b (Ok x) wants kept was = tt
wanting_after Wants Taken Failed d b (Err y) wants kept was =
    let rest = begins d b kept in
    inl (wants, record { so_far = beamed_so_far d b; left = rest.0; joined = rest.1; taken = was })

-- The sink failed at a piece.
pub failed_at : {T F : Type 0} (Wants : F → Type 0) (Taken : List ℕ → Type 0) (Failed : List ℕ → F → Type 0) (d : Deck) (before after : ScriptBeaming) (bytes : List ℕ) (fault : F) (r : Result T F)
    → IsErrAnd r (λ y. y ≡ fault) → bytes ≡ after.beamed.items → beamed_so_far d after ≡ beamed_so_far d before ++ after.beamed.items → IsBeaming d after
    → ((rest : List ℕ) → Failed ((beamed_so_far d before ++ bytes) ++ rest) fault) → IfErr r (StopsAt Wants Taken Failed (beam_tape_of d))
failed_at Wants Taken Failed d before after bytes fault (Ok x) is same joined kept failed = tt
failed_at Wants Taken Failed d before after bytes fault (Err y) is same joined kept failed =
    let rest = begins d after kept in
    let whole = ap (λ p. (beamed_so_far d before ++ p) ++ rest.0) same ∙ ap (λ t. t ++ rest.0) (sym joined) ∙ sym rest.1 in
    inr (subst (Failed (beam_tape_of d)) (sym is) (subst (λ t. Failed t fault) whole (failed rest.0)))
