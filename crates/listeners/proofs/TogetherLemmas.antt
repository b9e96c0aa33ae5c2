-- Readers that hear a tape together: piece by piece, and where nothing is lost, heard again or delayed.
-- The calls of `together` and `hearers` cite these.
use Rattle.std.proofs.Common.{◌≡◌, ℕ, ◌+◌, ◌<◌, ◌≤◌, true, List, [], ◌∷◌, ◌++◌, Option, length, map, get_or, All, refl, sym, ◌∙◌, ap, subst, arith, length-append}
use Rattle.std.specs.Prelude.{IfOk}
use Rattle.std.specs.List.{range_with_len}
use Rattle.std.specs.Result.{result_ok}
use Rattle.std.proofs.lemmas.List.{get_or-map, length-map, map-append, same_lists}
use Rattle.std.proofs.lemmas.List.Elements.{All-map}
use Rattle.std.proofs.lemmas.List.FromFn.{get_or-map-range_with_len, length-map-range_with_len}
use Rattle.std.proofs.lemmas.Simd.{map-map}
use Rattle.air_model.specs.Aired.{Air, air_of}
use Rattle.air_model.specs.Buckets.{Bucket, IsInRange, bucket_in}
use Rattle.air_model.specs.Decks.{Deck}
use Rattle.listeners.specs.declared.readers.TheConstants.{MOST_TAPE_RECORDS}
use Rattle.listeners.specs.declared.judged.JudgedPiece.{JudgedPiece}
use Rattle.listeners.specs.declared.together.TogetherReader.{TogetherReader}
use Rattle.listeners.specs.Hearings.{IsPerfect}
use Rattle.listeners.specs.Hearings.{AreTogether}
use Rattle.listeners.specs.Listeners.{Listener, hears, listener_of}
use Rattle.listeners.specs.Private.TogetherSteps.{CanHear, EachHeard, HasHeardMembers, KnowsAir, listeners_in}
use Rattle.listeners.specs.Private.JudgedPieces.{IsJudged}
use Rattle.listeners.proofs.HearLemmas.{counted_all, pieces}
use Rattle.listeners.proofs.ReaderLemmas.{HasRoom, hears_none}
use Rattle.listeners.proofs.RunLemmas.{clear_heard, ethers_in, readers_over}

-- ---- pieces

abbrev listener_in : TogetherReader → Listener
listener_in reader = reader.listener

-- What readers heard side by side, their listeners heard.
pub each_heard : (members : List (Option Bucket)) (before now : List TogetherReader) → EachHeard members before now → All (λ reader. reader.done ≡ true) now → listeners_in now ≡ map (hears members) (listeners_in before)
unfolding HasHeardMembers
each_heard members before now each done =
    let size : length (map listener_in now) ≡ length before = length-map now listener_in ∙ each.0 in
    let first : length (map (hears members) (map listener_in before)) ≡ length before = length-map (map listener_in before) (hears members) ∙ length-map before listener_in in
    same_lists (map listener_in now) (map (hears members) (map listener_in before)) (size ∙ sym first) (λ k d below. one k d (omega (arith, size)))
  where
    one : (k : ℕ) (d : Listener) → k < length before → get_or (map listener_in now) k d ≡ get_or (map (hears members) (map listener_in before)) k d
    one k d below =
        let reader : TogetherReader = record { listener = d; done = true } in
        let inside : k < length now = omega (arith, each.0) in
        let within : k < length (map listener_in before) = omega (arith, length-map before listener_in) in
        get_or-map listener_in now k reader d inside ∙ (each.1 k reader below).0 (done k reader inside) ∙ ap (hears members) (sym (get_or-map listener_in before k reader d below))
        ∙ sym (get_or-map (hears members) (map listener_in before) k d d within)

-- Each knows the air that it knew.
pub each_knows : (air : Air) (members : List (Option Bucket)) (before now : List TogetherReader) → EachHeard members before now → All (KnowsAir air) before → All (KnowsAir air) now
unfolding HasHeardMembers
each_knows air members before now each known = λ k d below. let inside : k < length before = omega (arith, each.0) in (each.1 k d inside).1 ∙ known k d inside

-- A deck's readers know its air.
pub all_know : (deck : Deck) (air : Air) (readers : List TogetherReader) (n : ℕ) → air ≡ air_of deck → listeners_in readers ≡ map (listener_of deck) (range_with_len 0 n) → All (KnowsAir air) readers
all_know deck air readers n is are = λ k d below.
    let long : length readers ≡ n = sym (length-map readers listener_in) ∙ ap length are ∙ length-map-range_with_len (listener_of deck) 0 n in
    let own : get_or (map (listener_of deck) (range_with_len 0 n)) k d.listener ≡ listener_of deck k = get_or-map-range_with_len (listener_of deck) 0 n k k d.listener (omega (arith, below, long)) (omega arith) in
    ap (λ (l : Listener). l.air) (sym (get_or-map listener_in readers k d d.listener below) ∙ ap (λ ls. get_or ls k d.listener) are ∙ own) ∙ sym is

-- To hear one list and then another is to hear both.
pub map_pieces : (first second : List (Option Bucket)) (A : List Listener) → map (hears second) (map (hears first) A) ≡ map (hears (first ++ second)) A
map_pieces first second [] = refl
map_pieces first second (l ∷ A) = ap (λ x. x ∷ map (hears second) (map (hears first) A)) (sym (pieces first second l)) ∙ ap (λ B. hears (first ++ second) l ∷ B) (map_pieces first second A)

-- Where there was room for all members, there is for those that are left.
room_left : (so_far : List (Option Bucket)) (n all : ℕ) (A : List Listener) → length so_far + n ≤ all → All (HasRoom all) A → All (HasRoom n) (map (hears so_far) A)
room_left so_far n all A within room =
    All-map (HasRoom n) (hears so_far) A (λ k d below. let counted = counted_all so_far (get_or A k d) in let most = room k d below in omega (arith, counted, most, within))

-- So all can hear the next piece.
pub can_hear : (records : List (List ℕ)) (so_far : List (Option Bucket)) (air : Air) (piece : JudgedPiece) (rest : List (Option Bucket)) (before now : List TogetherReader)
    → All (HasRoom (length records)) (listeners_in before) → map bucket_in records ≡ so_far ++ (map result_ok piece.heard.items ++ rest) → listeners_in now ≡ map (hears so_far) (listeners_in before)
    → All (λ heard. IfOk heard IsInRange) piece.heard.items → IsJudged air piece → All (KnowsAir air) now → All (CanHear piece) now
unfolding CanHear
can_hear records so_far air piece rest before now room all heard range judged known = λ k d below. (
  range,
  subst (HasRoom (length piece.heard.items)) (get_or-map listener_in now k d d.listener below) (left k d.listener (omega (arith, below, length-map now listener_in))),
  subst (λ a. IsJudged a piece) (sym (known k d below)) judged,
)
  where
    within : length so_far + length piece.heard.items ≤ length records
    within =
        let members = map result_ok piece.heard.items in
        omega (arith, ap length all, length-append so_far (members ++ rest), length-append members rest, length-map piece.heard.items result_ok, length-map records bucket_in)

    left : All (HasRoom (length piece.heard.items)) (map listener_in now)
    left = subst (All (HasRoom (length piece.heard.items))) (sym heard) (room_left so_far (length piece.heard.items) (length records) (listeners_in before) within room)

-- ---- a deck's readers, where nothing is lost, heard again or delayed

-- All of them, before they hear anything.
abbrev all_of : Deck → List Listener
all_of deck = map (listener_of deck) (range_with_len 0 (length deck.readers))

-- Nothing was heard.
pub together_first : (deck : Deck) (listeners : List Listener) → IsPerfect deck → listeners ≡ map (listener_of deck) (range_with_len 0 (length deck.readers)) → AreTogether deck [] listeners
together_first deck listeners clear are = record { clear = clear; heard = are ∙ sym (hears_none (all_of deck)) }

-- There is room to count a piece's records.
pub together_room : (deck : Deck) (pushed : List (List ℕ)) (listeners : List Listener) (n : ℕ) → AreTogether deck pushed listeners → length pushed + n ≤ MOST_TAPE_RECORDS → All (HasRoom n) listeners
together_room deck pushed listeners n are few =
    let members = map bucket_in pushed in
    subst (All (HasRoom n)) (sym are.heard) (All-map (HasRoom n) (hears members) (all_of deck) (All-map (λ l. HasRoom n (hears members l)) (listener_of deck) (range_with_len 0 (length deck.readers))
    (λ k d below. room (get_or (range_with_len 0 (length deck.readers)) k d))))
  where
    room : (r : ℕ) → HasRoom n (hears (map bucket_in pushed) (listener_of deck r))
    room r = omega (arith, counted_all (map bucket_in pushed) (listener_of deck r), length-map pushed bucket_in, few)

-- After it all heard its records too.
pub together_heard : (deck : Deck) (pushed records : List (List ℕ)) (before now : List Listener) → AreTogether deck pushed before → now ≡ map (hears (map bucket_in records)) before → AreTogether deck (pushed ++ records) now
together_heard deck pushed records before now are heard = record {
  clear = are.clear;
  heard = heard ∙ ap (map (hears (map bucket_in records))) are.heard ∙ map_pieces (map bucket_in pushed) (map bucket_in records) (all_of deck)
      ∙ ap (λ members. map (hears members) (all_of deck)) (sym (map-append bucket_in pushed records));
}

-- Each has heard what its ether gives.
pub together_over : (deck : Deck) (pushed : List (List ℕ)) (listeners : List Listener) → AreTogether deck pushed listeners → listeners ≡ readers_over deck (ethers_in deck pushed)
together_over deck pushed listeners are = are.heard ∙ map-map (hears (map bucket_in pushed)) (listener_of deck) (range_with_len 0 (length deck.readers)) ∙ same (range_with_len 0 (length deck.readers))
  where
    same : (readers : List ℕ) → map (λ r. hears (map bucket_in pushed) (listener_of deck r)) readers ≡ map (λ r. hears (map bucket_in (ethers_in deck pushed r)) (listener_of deck r)) readers
    same [] = refl
    same (r ∷ readers) = ap (λ heard. hears (map bucket_in heard) (listener_of deck r) ∷ map (λ r. hears (map bucket_in pushed) (listener_of deck r)) readers) (clear_heard deck pushed r are.clear)
        ∙ ap (λ l. hears (map bucket_in (ethers_in deck pushed r)) (listener_of deck r) ∷ l) (same readers)
