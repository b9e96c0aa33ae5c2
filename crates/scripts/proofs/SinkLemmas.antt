-- From the pieces of a script that a sink took to what it took of the script's tape.
use Rattle.std.proofs.Common.{◌≡◌, ℕ, List, [], ◌++◌, length, refl, sym, ap, ◌∙◌, subst, inl, inr}
use Rattle.std.specs.Prelude.{Result, Ok, Err, IfErr, IsErrAnd}
use Rattle.air_model.specs.Aired.{air_of, history_tape}
use Rattle.air_model.specs.Decks.{Deck, script_history, values_in}
use Rattle.air_model.specs.Outputs.{script_tape}
use Rattle.scripts.specs.Pieces.{IsAiring, piece_in, tape_so_far}
use Rattle.scripts.specs.Sinks.{StopsAt}
use Rattle.scripts.specs.declared.script_airing.ScriptAiring.{ScriptAiring}
use Rattle.scripts.proofs.TapePieceLemmas.{tape_begins}

-- What was aired so far begins the tape.
begins : (d : Deck) (a : ScriptAiring) → IsAiring d a → (rest : List ℕ) × (script_tape d ≡ tape_so_far d a ++ rest)
begins d a kept = tape_begins d a.run.events.items (length a.run.events.items) kept.run.begun

-- One piece more was taken.
pub taken_on : (Taken : List ℕ → Type 0) (d : Deck) (before after : ScriptAiring) (bytes : List ℕ) → bytes ≡ piece_in after → tape_so_far d after ≡ tape_so_far d before ++ piece_in after
    → Taken (tape_so_far d before ++ bytes) → Taken (tape_so_far d after)
taken_on Taken d before after bytes same joined was = subst Taken (ap (λ p. tape_so_far d before ++ p) same ∙ sym joined) was

-- All pieces were.
pub all_taken : (Taken : List ℕ → Type 0) (d : Deck) (a : ScriptAiring) → a.run.events.items ≡ script_history d → Taken (tape_so_far d a) → Taken (script_tape d)
all_taken Taken d a done was = subst Taken (ap (history_tape (values_in d) (air_of d)) done) was

-- Memory ran out before the first piece.
pub wanting_first : {T F : Type 0} (Wants : F → Type 0) (Taken : List ℕ → Type 0) (Failed : List ℕ → F → Type 0) (tape : List ℕ) (r : Result T F) → IsErrAnd r Wants → Taken []
    → IfErr r (StopsAt Wants Taken Failed tape)
wanting_first Wants Taken Failed tape (Ok x) wants was = tt
wanting_first Wants Taken Failed tape (Err y) wants was = inl (wants, record { so_far = []; left = tape; joined = refl; taken = was })

-- Or later.
pub wanting_after : {T F : Type 0} (Wants : F → Type 0) (Taken : List ℕ → Type 0) (Failed : List ℕ → F → Type 0) (d : Deck) (a : ScriptAiring) (r : Result T F) → IsErrAnd r Wants → IsAiring d a
    → Taken (tape_so_far d a) → IfErr r (StopsAt Wants Taken Failed (script_tape d))
wanting_after Wants Taken Failed d a (Ok x) wants kept was = tt
wanting_after Wants Taken Failed d a (Err y) wants kept was =
    let rest = begins d a kept in
    inl (wants, record { so_far = tape_so_far d a; left = rest.0; joined = rest.1; taken = was })

-- The sink failed at a piece.
pub failed_at : {T F : Type 0} (Wants : F → Type 0) (Taken : List ℕ → Type 0) (Failed : List ℕ → F → Type 0) (d : Deck) (before after : ScriptAiring) (bytes : List ℕ) (fault : F) (r : Result T F)
    → IsErrAnd r (λ y. y ≡ fault) → bytes ≡ piece_in after → tape_so_far d after ≡ tape_so_far d before ++ piece_in after → IsAiring d after
    → ((rest : List ℕ) → Failed ((tape_so_far d before ++ bytes) ++ rest) fault) → IfErr r (StopsAt Wants Taken Failed (script_tape d))
failed_at Wants Taken Failed d before after bytes fault (Ok x) is same joined kept failed = tt
failed_at Wants Taken Failed d before after bytes fault (Err y) is same joined kept failed =
    let rest = begins d after kept in
    let whole = ap (λ p. (tape_so_far d before ++ p) ++ rest.0) same ∙ ap (λ t. t ++ rest.0) (sym joined) ∙ sym rest.1 in
    inr (subst (Failed (script_tape d)) (sym is) (subst (λ t. Failed t fault) whole (failed rest.0)))
