-- A deck's reader that hears its ether by places, cycle by cycle and to the end, and all such readers.
-- The calls of `place_listeners` and `place_hearers` cite these.
use Rattle.std.proofs.Common.{◌≡◌, ℕ, ◌+◌, ◌-◌, ◌%◌, ◌<◌, ◌≤◌, Bool, true, false, Option, Some, List, [], ◌∷◌, ◌++◌, length, map, get_or, All, refl, sym, ◌∙◌, ap, subst, inl, inr, arith, length-append, length-set}
use Rattle.std.specs.Prelude.{slice_index_or}
use Rattle.std.specs.List.{range_with_len}
use Rattle.std.proofs.Math.ListN.{set}
use Rattle.std.proofs.Math.Nat.{mod-lt}
use Rattle.std.proofs.lemmas.Bool.{cases_lt}
use Rattle.std.proofs.lemmas.List.{get_or-append_right, get_or-map, get_or-set_other, get_or-set_same, get_or_append_left, get_or_default, get_or_push, length-map, same_lists}
use Rattle.std.proofs.lemmas.List.FromFn.{get_or-map-range_with_len, length-map-range_with_len}
use Rattle.std.proofs.lemmas.Simd.{map-map}
use Rattle.air_base.specs.declared.verdicts.Form.{Form}
use Rattle.air_ether.specs.HeardPlaces.{IsPlacesAfter, places_of}
use Rattle.air_ether.specs.HeardSoFar.{Ether}
use Rattle.air_ether.proofs.EtherLemmas.{due_is, heard_is, places_pushed, places_stay}
use Rattle.air_history.specs.Boards.{Board}
use Rattle.air_model.specs.Aired.{air_of}
use Rattle.air_model.specs.Buckets.{Bucket, bucket_in, spelling}
use Rattle.air_model.specs.Decks.{Deck}
use Rattle.air_model.specs.Ethers.{Odds, heard_by, places_due}
use Rattle.air_model.specs.Outputs.{odds_in}
use Rattle.air_sender.specs.BoardBuckets.{board_bytes, bucket_on}
use Rattle.air_sender.proofs.SendLemmas.{length_cycle}
use Rattle.listeners.specs.declared.readers.TheConstants.{MOST_TAPE_RECORDS}
use Rattle.listeners.specs.declared.place_hearers.PlaceHearers.{PlaceHearers}
use Rattle.listeners.specs.declared.place_listeners.PlaceListener.{PlaceListener}
use Rattle.listeners.specs.AiredCycles.{AreFitting}
use Rattle.listeners.specs.Listeners.{Listener, hears, listener_of}
use Rattle.listeners.specs.PlaceListeners.{AreGivenEach, AreGivenPlaces, AreRecent, IsPlaceListener, given_at, places_for, pushed_at}
use Rattle.listeners.specs.Private.PlaceSteps.{AllEndedPlaces, AllHearPlaces, AreKeptFrom, AreMembers, CanHearPlaces, HearsPlaces, places_to}
use Rattle.listeners.proofs.PlaceLemmas.{same_range}
use Rattle.listeners.proofs.RunLemmas.{ethers_in, readers_over}
use Rattle.listeners.proofs.SleepLemmas.{keeps_air, stretches}

-- ---- what was given before

-- Of a longer list the same places are due first, and they have the same members: so they were heard as of it.
pub heard_before : (deck : Deck) (number : ℕ) (pushed later : List (List ℕ)) (ended : Bool) (l : Listener)
    → l ≡ hears (map (given_at (pushed_at pushed) (places_for deck number pushed false)) (range_with_len 0 (length (places_for deck number pushed false)))) (listener_of deck number)
    → l ≡ hears (map (given_at (pushed_at (pushed ++ later)) (places_for deck number (pushed ++ later) ended)) (range_with_len 0 (length (places_for deck number pushed false)))) (listener_of deck number)
heard_before deck number pushed later ended l heard =
    heard ∙ ap (λ os. hears os (listener_of deck number)) (same_range (given_at (pushed_at pushed) before) (given_at (pushed_at (pushed ++ later)) now) 0 (length before) (λ k from to. same k (omega arith)))
  where
    before : List ℕ
    before = places_for deck number pushed false

    now : List ℕ
    now = places_for deck number (pushed ++ later) ended

    same : (k : ℕ) → k < length before → given_at (pushed_at pushed) before k ≡ given_at (pushed_at (pushed ++ later)) now k
    same k l =
        let longer = length-append pushed later in
        let stays = places_stay deck.settings.seed number (odds_in deck) (length pushed) (length (pushed ++ later)) ended (omega arith) in
        let place : get_or now k 0 ≡ get_or before k 0 = ap (λ ps. get_or ps k 0) stays.1 ∙ get_or_append_left before stays.0 0 k l in
        let below : get_or before k 0 < length pushed = places_pushed deck.settings.seed number (odds_in deck) (length pushed) false k 0 l in
        ap bucket_in (sym (get_or_append_left pushed later [] (get_or before k 0) below)) ∙ ap (pushed_at (pushed ++ later)) (sym place)

-- All of what is heard at these places.
pub all_given : {X : Type 0} (f : ℕ → X) (places : List ℕ) → map (λ k. f (get_or places k 0)) (range_with_len 0 (length places)) ≡ map f places
all_given {X} f places =
    let at : ℕ → X = λ k. f (get_or places k 0) in
    let n = length places in
    same_lists (map at (range_with_len 0 n)) (map f places) (length-map-range_with_len at 0 n ∙ sym (length-map places f))
    (λ k d l.
    let within : k < n = omega (arith, length-map-range_with_len at 0 n) in
    get_or-map-range_with_len at 0 n k k d within (omega arith) ∙ sym (get_or-map f places k 0 d within))

-- After the end all that the ether gives was heard.
pub heard_to_end : (deck : Deck) (number : ℕ) (pushed : List (List ℕ)) (given : ℕ) (l : Listener) → given ≡ length (places_for deck number pushed true)
    → l ≡ hears (map (given_at (pushed_at pushed) (places_for deck number pushed true)) (range_with_len 0 given)) (listener_of deck number)
    → l ≡ hears (map bucket_in (heard_by deck.settings.seed number (odds_in deck) pushed)) (listener_of deck number)
heard_to_end deck number pushed given l all heard =
    let places = places_for deck number pushed true in
    let bytes : ℕ → List ℕ = λ place. slice_index_or pushed place [] in
    heard ∙ ap (λ n. hears (map (given_at (pushed_at pushed) places) (range_with_len 0 n)) (listener_of deck number)) all
    ∙ ap (λ os. hears os (listener_of deck number))
    (all_given (pushed_at pushed) places ∙ sym (map-map bucket_in bytes places) ∙ ap (map bucket_in) (sym (due_is deck.settings.seed number (odds_in deck) pushed true) ∙ heard_is deck.settings.seed number (odds_in deck) pushed))

-- ---- a cycle

-- The record of a slot.
pub slot_record : (form : Form) (e : ℕ) (slots : List (Option ℕ)) (board : Board) (s : ℕ) → s < length slots → get_or (board_bytes form e slots board) s [] ≡ spelling (bucket_on form e slots board s)
slot_record form e slots board s l =
    let on : ℕ → Bucket = bucket_on form e slots board in
    get_or-map spelling (map on (range_with_len 0 (length slots))) s (on s) [] (omega (arith, l, length-map-range_with_len on 0 (length slots)))
    ∙ ap spelling (get_or-map-range_with_len on 0 (length slots) s s (on s) l (omega arith))

-- One more of the last buckets is kept.
pub kept_more : (recent now : List (List ℕ)) (first slot n : ℕ) (all : List (List ℕ)) → slot < n → length recent ≡ 9
    → ((p : ℕ) → p < first + slot → first + n ≤ p + 9 → get_or recent (p % 9) [] ≡ slice_index_or all p []) → now ≡ set recent ((first + slot) % 9) (slice_index_or all (first + slot) [])
    → (length now ≡ 9) × ((p : ℕ) → p < first + (slot + 1) → first + n ≤ p + 9 → get_or now (p % 9) [] ≡ slice_index_or all p [])
kept_more recent now first slot n all within nine kept is = (
  ap length is ∙ length-set recent ((first + slot) % 9) (slice_index_or all (first + slot) []) ∙ nine,
  λ p l near. ap (λ xs. get_or xs (p % 9) []) is ∙ elim (cases_lt p (first + slot)) as (λ _. get_or (set recent ((first + slot) % 9) (slice_index_or all (first + slot) [])) (p % 9) [] ≡ slice_index_or all p []) [
    | inl less ↦ get_or-set_other recent ((first + slot) % 9) (p % 9) (slice_index_or all (first + slot) []) [] (λ same. absurd (omega arith)) ∙ kept p less near
    | inr past ↦
        let same : first + slot ≡ p = omega arith in
        let small : (first + slot) % 9 < 9 = mod-lt (first + slot) (omega arith) in
        subst (λ q. get_or (set recent ((first + slot) % 9) (slice_index_or all (first + slot) [])) (q % 9) [] ≡ slice_index_or all q []) same
        (get_or-set_same recent ((first + slot) % 9) (slice_index_or all (first + slot) []) [] (omega arith))
  ],
)

module _ (form : Form) (e : ℕ) (slots : List (Option ℕ)) (board : Board) (decodes : (s : ℕ) → s < length slots → bucket_in (spelling (bucket_on form e slots board s)) ≡ Some (bucket_on form e slots board s)) where
  abbrev records : List (List ℕ)
  records = board_bytes form e slots board

  -- The members of the places of a cycle that is pushed.
  pub cycle_members : (pushed recent : List (List ℕ)) (first : ℕ) → first ≡ length pushed → AreRecent pushed recent → AreMembers form e slots board first recent (pushed_at (pushed ++ records))
  cycle_members pushed recent first is kept = record {
    here = λ s l.
        let own : first + s - length pushed ≡ s = omega arith in
        ap bucket_in (get_or-append_right pushed records (length pushed) (first + s) [] refl (omega arith) ∙ ap (λ k. get_or records k []) own ∙ slot_record form e slots board s l) ∙ decodes s l;
    before = λ p l near. ap bucket_in (get_or_append_left pushed records [] p (omega arith) ∙ sym (kept p (omega arith) (omega arith)));
  }

  -- A reader that heard what its ether gives of the cycle was given the cycle's records too.
  pub cycle_given : (deck : Deck) (number : ℕ) (pushed recent : List (List ℕ)) (first : ℕ) (before now : PlaceListener) → first ≡ length pushed → AreRecent pushed recent → IsPlaceListener deck number pushed before
      → HearsPlaces form e slots board first recent before now → IsPlaceListener deck number (pushed ++ records) now
  cycle_given deck number pushed recent first before now is kept own hears_it =
      let seed = deck.settings.seed in
      let all = pushed ++ records in
      let g = length (places_for deck number pushed false) in
      let long : length all ≡ first + length slots = length-append pushed records ∙ ap (λ n. length pushed + n) (length_cycle form e slots board) ∙ ap (λ n. n + length slots) (sym is) in
      let so = hears_it.heard seed number g (pushed_at all) own.follows (cycle_members pushed recent first is kept) in
      let places : places_to seed number before.ether (first + length slots) ≡ places_for deck number all false =
      ap (λ (o : Odds). places_of seed number o (first + length slots) false) own.odds ∙ ap (λ n. places_of seed number (odds_in deck) n false) (sym long) in
      let next : so.0 ≡ length (places_for deck number all false) = so.3 ∙ ap length places in
      let begun = own.pushes in
      let bound = own.counts in
      let counted = hears_it.counts in
      let pushes = hears_it.pushes in
      record {
        opened = hears_it.opened;
        quiet = hears_it.quiet;
        pushes = hears_it.pushes ∙ sym long;
        odds = hears_it.odds ∙ own.odds;
        counts = omega arith;
        follows = subst (λ n. IsPlacesAfter seed number n now.ether) next so.2;
        heard = stretches (given_at (pushed_at all) (places_for deck number all false)) g so.0 (listener_of deck number) before.listener now.listener so.1
            (heard_before deck number pushed records false before.listener own.heard)
            (so.4 ∙ ap (λ ps. hears (map (given_at (pushed_at all) ps) (range_with_len g (so.0 - g))) before.listener) places)
            ∙ ap (λ n. hears (map (given_at (pushed_at all) (places_for deck number all false)) (range_with_len 0 n)) (listener_of deck number)) next;
      }

-- ---- a reader before anything was pushed

none_due : (seed number : ℕ) (odds : Odds) → places_of seed number odds 0 false ≡ []
unfolding places_of places_due
none_due seed number odds = refl

pub none_given : (deck : Deck) (number : ℕ) → places_for deck number [] false ≡ []
none_given deck number = none_due deck.settings.seed number (odds_in deck)

pub none_heard : (deck : Deck) (number : ℕ) (l : Listener) → l ≡ listener_of deck number
    → l ≡ hears (map (given_at (pushed_at []) (places_for deck number [] false)) (range_with_len 0 (length (places_for deck number [] false)))) (listener_of deck number)
unfolding hears
none_heard deck number l is = is ∙ ap (λ ps. hears (map (given_at (pushed_at []) ps) (range_with_len 0 (length ps))) (listener_of deck number)) (sym (none_given deck number))

-- ---- all readers

-- The places that are due after the end.
pub places_now : (deck : Deck) (number : ℕ) (pushed : List (List ℕ)) (e : Ether) → e.odds ≡ odds_in deck → e.pushes ≡ length pushed → e.ended ≡ true
    → places_of deck.settings.seed number e.odds e.pushes e.ended ≡ places_for deck number pushed true
places_now deck number pushed e odds pushes ended =
    ap (λ (o : Odds). places_of deck.settings.seed number o e.pushes e.ended) odds ∙ ap (λ n. places_of deck.settings.seed number (odds_in deck) n e.ended) pushes
    ∙ ap (places_of deck.settings.seed number (odds_in deck) (length pushed)) ended

-- Of readers that hear one after another those up to a place have heard.
pub record HeardUpTo (R : PlaceListener → PlaceListener → Type 0) (i : ℕ) (before now : List PlaceListener) : Type 0 where
  pub long : length now ≡ length before
  pub done : (k : ℕ) (d : PlaceListener) → k < i → R (get_or before k d) (get_or now k d)
  pub left : (k : ℕ) (d : PlaceListener) → i ≤ k → get_or now k d ≡ get_or before k d

pub none_heard_yet : (R : PlaceListener → PlaceListener → Type 0) (before now : List PlaceListener) → now ≡ before → HeardUpTo R 0 before now
none_heard_yet R before now is = record { long = ap length is; done = λ k d l. absurd (omega arith); left = λ k d l. ap (λ xs. get_or xs k d) is }

pub one_hears : (R : PlaceListener → PlaceListener → Type 0) (i : ℕ) (before now : List PlaceListener) (d x : PlaceListener) → HeardUpTo R i before now → i < length now → R (get_or now i d) x
    → HeardUpTo R (i + 1) before (set now i x)
one_hears R i before now d x h within heard = record {
  long = length-set now i x ∙ h.long;
  done = λ k e l. elim (cases_lt k i) as (λ _. R (get_or before k e) (get_or (set now i x) k e)) [
    | inl less ↦ subst (R (get_or before k e)) (sym (get_or-set_other now i k x e (λ same. absurd (omega arith)))) (h.done k e less)
    | inr past ↦
        let same : i ≡ k = omega arith in
        subst (λ j. R (get_or before j e) (get_or (set now i x) j e)) same
        (subst (R (get_or before i e)) (sym (get_or-set_same now i x e within)) (subst (λ y. R y x) (get_or_default now i d e within ∙ h.left i e (omega arith)) heard))
  ];
  left = λ k e l. get_or-set_other now i k x e (λ same. absurd (omega arith)) ∙ h.left k e (omega arith);
}

-- One more reader joins those before it.
pub one_more_given : (deck : Deck) (pushed : List (List ℕ)) (r : ℕ) (runs after : List PlaceListener) (run : PlaceListener) → length runs ≡ r → AreGivenEach deck pushed runs → IsPlaceListener deck r pushed run
    → after ≡ runs ++ run ∷ [] → AreGivenEach deck pushed after
one_more_given deck pushed r runs after run long so_far own grew k d below = elim (cases_lt k r) as (λ _. IsPlaceListener deck k pushed (get_or after k d)) [
  | inl less ↦ subst (IsPlaceListener deck k pushed) (sym (ap (λ l. get_or l k d) grew ∙ get_or_append_left runs (run ∷ []) d k (omega arith))) (so_far k d (omega arith))
  | inr past ↦
      let size : length after ≡ length runs + 1 = ap length grew ∙ length-append runs (run ∷ []) in
      let same : r ≡ k = omega arith in
      subst (IsPlaceListener deck k pushed) (sym (ap (λ l. get_or l k d) grew ∙ get_or_push runs run d k (long ∙ same))) (subst (λ n. IsPlaceListener deck n pushed run) same own)
]

-- ---- the deck's readers and a cycle

module _ (form : Form) (e : ℕ) (slots : List (Option ℕ)) (board : Board) where
  -- Each reader can hear it.
  pub can_hear_cycle : (deck : Deck) (pushed : List (List ℕ)) (h : PlaceHearers) → AreGivenPlaces deck pushed h → AreFitting (air_of deck) form e slots board → length pushed + length slots ≤ MOST_TAPE_RECORDS
      → All (CanHearPlaces form e slots board h.pushes) h.readers.items
  can_hear_cycle deck pushed h given fitting few k d l =
      let own = given.each k d l in
      let at = own.pushes in
      let pushes = given.pushes in
      let bound = own.counts in
      record {
        at = own.pushes ∙ sym given.pushes;
        fitting = subst (λ a. AreFitting a form e slots board) (sym (ap (λ (l : Listener). l.air) own.heard
            ∙ keeps_air (map (given_at (pushed_at pushed) (places_for deck k pushed false)) (range_with_len 0 (length (places_for deck k pushed false)))) (listener_of deck k))) fitting;
        opened = own.opened;
        last = omega arith;
        counts = omega arith;
      }

  -- After it each was given its records.
  pub all_given_cycle : ((s : ℕ) → s < length slots → bucket_in (spelling (bucket_on form e slots board s)) ≡ Some (bucket_on form e slots board s)) → (deck : Deck) (pushed : List (List ℕ)) (h : PlaceHearers)
      → AreGivenPlaces deck pushed h → (now : List PlaceListener) → AllHearPlaces form e slots board h.pushes h.recent h.readers.items now
      → (length now ≡ length deck.readers) × AreGivenEach deck (pushed ++ board_bytes form e slots board) now
  all_given_cycle decodes deck pushed h given now heard = (
    heard.0 ∙ given.long,
    λ k d l.
        let inside : k < length h.readers.items = omega (arith, l, heard.0) in
        cycle_given form e slots board decodes deck k pushed h.recent h.pushes (get_or h.readers.items k d) (get_or now k d) given.pushes given.recent (given.each k d inside) (heard.1 k d inside),
  )

  -- The last of its records are to be kept after those before.
  pub kept_from : (deck : Deck) (pushed : List (List ℕ)) (h : PlaceHearers) → AreGivenPlaces deck pushed h → AreKeptFrom h.pushes (board_bytes form e slots board) h.recent (pushed ++ board_bytes form e slots board)
  kept_from deck pushed h given =
      let records = board_bytes form e slots board in
      let pushes = given.pushes in
      record {
        long = given.sized;
        here = λ s l.
            let own : h.pushes + s - length pushed ≡ s = omega arith in
            get_or-append_right pushed records (length pushed) (h.pushes + s) [] refl (omega arith) ∙ ap (λ k. get_or records k []) own;
        before = λ p l near. given.recent p (omega arith) (omega arith) ∙ sym (get_or_append_left pushed records [] p (omega arith));
      }

-- After the end each has heard its ether of all records.
pub all_ended : (deck : Deck) (pushed : List (List ℕ)) (h : PlaceHearers) → AreGivenPlaces deck pushed h → (now : List PlaceListener) → AllEndedPlaces h.recent h.readers.items now
    → map (λ reader. reader.listener) now ≡ readers_over deck (ethers_in deck pushed)
all_ended deck pushed h given now ended =
    let n = length deck.readers in
    let size : length (map listener_in now) ≡ n = length-map now listener_in ∙ ended.0 ∙ given.long in
    same_lists (map listener_in now) (readers_over deck (ethers_in deck pushed)) (size ∙ sym (length-map-range_with_len over 0 n))
    (λ k d below. one (some_reader now k (omega (arith, length-map now listener_in))) k d (omega (arith, size)))
  where
    listener_in : PlaceListener → Listener
    listener_in reader = reader.listener

    some_reader : (runs : List PlaceListener) (k : ℕ) → k < length runs → PlaceListener
    some_reader [] k below = absurd (omega arith)
    some_reader (run ∷ runs) k below = run

    over : ℕ → Listener
    over r = hears (map bucket_in (ethers_in deck pushed r)) (listener_of deck r)

    one : (run : PlaceListener) (k : ℕ) (d : Listener) → k < length deck.readers → get_or (map listener_in now) k d ≡ get_or (map over (range_with_len 0 (length deck.readers))) k d
    one run k d below =
        let here : k < length h.readers.items = omega (arith, given.long) in
        let inside : k < length now = omega (arith, ended.0) in
        get_or-map listener_in now k run d inside ∙ ended.1 k run here deck k pushed (given.each k run here) given.recent
        ∙ sym (get_or-map-range_with_len over 0 (length deck.readers) k k d below (omega arith))
