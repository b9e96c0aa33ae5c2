-- What the pieces of a script's tape are, and what the sessions are of readers that heard them all.
use Rattle.std.proofs.Common.{◌≡◌, ℕ, ◌+◌, ◌*◌, ◌<◌, ◌≤◌, if◌then◌else◌, Bool, true, false, None, List, [], ◌++◌, length, map, take, All, sym, ◌∙◌, ap, subst, arith, length-append}
use Rattle.std.proofs.lemmas.List.{get_or-append-add, get_or_append_left}
use Rattle.std.proofs.lemmas.Grind.{flat_map-append}
use Rattle.air_history.specs.declared.histories.Event.{Event}
use Rattle.air_model.specs.Aired.{air_of, history_tape, scheme_in}
use Rattle.air_model.specs.AiredLaws.{CanAir}
use Rattle.air_model.specs.Buckets.{entry_len, has_ages, most_count, spelling}
use Rattle.air_model.specs.Decks.{Deck, IsDeck, script_history, values_in}
use Rattle.air_model.specs.Ethers.{heard_by}
use Rattle.air_model.specs.Judges.{by_entries}
use Rattle.air_model.specs.Outputs.{odds_in, script_tape, sessions_over, true_sessions}
use Rattle.air_model.specs.Sessions.{State}
use Rattle.air_model.specs.Tapes.{TapeRead, record_bytes, tape_of, tape_read}
use Rattle.air_model.proofs.ReceiverLemmas.{true_sessions_are}
use Rattle.air_model.proofs.TapeLemmas.{whole_read}
use Rattle.listeners.proofs.HistoryLemmas.{begins_aired}
use Rattle.air_sender.specs.AiredBytes.{aired_bytes}
use Rattle.air_sender.proofs.AiredLemmas.{buckets_none}
use Rattle.air_sender.proofs.TapeLemmas.{records_short}

-- Two tapes one behind the other are the tape of all their records.
pub tapes_join : (xs ys : List (List ℕ)) → tape_of (xs ++ ys) ≡ tape_of xs ++ tape_of ys
unfolding tape_of
tapes_join xs ys = flat_map-append record_bytes xs ys

-- No event airs anything.
pub nothing_aired : (deck : Deck) (now : List Event) → now ≡ [] → aired_bytes deck now ≡ []
nothing_aired deck now none = ap (aired_bytes deck) none ∙ ap (map spelling) (buckets_none (values_in deck) (air_of deck))

pub no_tape : (deck : Deck) (now : List Event) → now ≡ [] → history_tape (values_in deck) (air_of deck) now ≡ []
unfolding tape_of
no_tape deck now none = ap tape_of (nothing_aired deck now none)

-- What the first events of a script's history air begins what all of them air.
pub script_begins : (deck : Deck) (now : List Event) (k : ℕ) → now ≡ take k (script_history deck) → (rest : List (List ℕ)) × (aired_bytes deck (script_history deck) ≡ aired_bytes deck now ++ rest)
script_begins deck now k is =
    let begun = begins_aired deck (script_history deck) k in
    (begun.0, begun.1 ∙ ap (λ G. aired_bytes deck G ++ begun.0) (sym is))

-- So does their tape.
pub tape_begins : (deck : Deck) (now : List Event) (k : ℕ) → now ≡ take k (script_history deck) → (rest : List ℕ) × (script_tape deck ≡ history_tape (values_in deck) (air_of deck) now ++ rest)
tape_begins deck now k is =
    let begun = script_begins deck now k is in
    (tape_of begun.0, ap tape_of begun.1 ∙ tapes_join (aired_bytes deck now) begun.0)

-- What holds of all holds of those in the middle.
pub middle : (P : List ℕ → Type 0) (xs ys zs : List (List ℕ)) → All P ((xs ++ ys) ++ zs) → All P ys
middle P xs ys zs all = λ k d below.
    let inside : length xs + k < length (xs ++ ys) = omega (arith, below, length-append xs ys) in
    subst P (get_or_append_left (xs ++ ys) zs d (length xs + k) inside ∙ get_or-append-add xs ys k d)
    (all (length xs + k) d (omega (arith, inside, length-append (xs ++ ys) zs)))

-- A record is no longer than a bucket with an entry for each item.
abbrev IsShort : Deck → List ℕ → Type 0
IsShort deck r = length r ≤ 24 + entry_len deck.settings.version * length deck.items

few_bytes : (ages : Bool) (n : ℕ) → n ≤ (if ages then 1024 else 256) → 24 + (if ages then 1 else 4) * n ≤ 1048
few_bytes true n few = omega arith
few_bytes false n few = omega arith

-- A bucket with no more items than its version takes is short.
room_few : (version n : ℕ) → n ≤ most_count version → 24 + entry_len version * n ≤ 1048
room_few version n few = few_bytes (has_ages version) n few

-- The tape of a piece is read as the piece, which has no record longer than a bucket.
pub piece_read : (deck : Deck) (before now : List Event) (piece : List (List ℕ)) (tape : List ℕ) (k : ℕ) → IsDeck deck
    → now ≡ take k (script_history deck) → aired_bytes deck now ≡ aired_bytes deck before ++ piece → tape ≡ tape_of piece
    → ◌≡◌ {A = TapeRead} (tape_read tape) (record { records = piece; cut = None }) × All (IsShort deck) piece
piece_read deck before now piece tape k made is aired same =
    let begun = script_begins deck now k is in
    let whole : aired_bytes deck (script_history deck) ≡ (aired_bytes deck before ++ piece) ++ begun.0 = begun.1 ∙ ap (λ l. l ++ begun.0) aired in
    let short = middle (IsShort deck) (aired_bytes deck before) piece begun.0
    (subst (All (IsShort deck)) whole (records_short deck (script_history deck))) in
    let most = room_few deck.settings.version (length deck.items) made.most in
    (ap tape_read same ∙ whole_read piece (length (tape_of piece)) 0 (λ j d below. let s = short j d below in omega (arith, s, most)) (omega arith), short)

-- Their tape is that from before with the piece's behind it.
pub piece_joins : (deck : Deck) (before now : List Event) (piece : List (List ℕ)) → aired_bytes deck now ≡ aired_bytes deck before ++ piece
    → history_tape (values_in deck) (air_of deck) now ≡ history_tape (values_in deck) (air_of deck) before ++ tape_of piece
piece_joins deck before now piece aired = ap tape_of aired ∙ tapes_join (aired_bytes deck before) piece

-- ---- the end

-- Where all of a script was heard, its readers' sessions are those that its history judges; so is what is told of them.
pub ended_told : {X : Type 0} (deck : Deck) (G : List Event) (tell : List State → X) (told : X) → CanAir deck (script_history deck) → G ≡ script_history deck
    → told ≡ tell (sessions_over (by_entries (scheme_in deck)) deck (λ r. heard_by deck.settings.seed r (odds_in deck) (aired_bytes deck G))) → told ≡ tell (true_sessions deck (script_history deck))
ended_told deck G tell told can all is =
    is ∙ ap (λ H. tell (sessions_over (by_entries (scheme_in deck)) deck (λ r. heard_by deck.settings.seed r (odds_in deck) (aired_bytes deck H)))) all
    ∙ ap tell (true_sessions_are deck (script_history deck) can)
