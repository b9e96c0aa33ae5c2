-- All readers of a deck, who hear members one by one: the room to count them, the lines and counts at the end, and the sessions.
-- The loops of `readers` cite these, and crates above.
use Rattle.std.proofs.Common.{◌≡◌, ℕ, zero, suc, ◌+◌, ◌<◌, ◌≤◌, ◌^◌, Bool, true, false, Option, None, Some, List, [], ◌∷◌, ◌++◌, length, map, take, drop, get_or, set, All, refl, sym, ◌∙◌, ap, arith}
use native.Mathlib.Numerals.{unary_clauses}
use Rattle.std.specs.Prelude.{◌==◌, if◌then◌else◌}
use Rattle.std.specs.List.{enumerate_from, flat_map, range_with_len}
use Rattle.std.proofs.lemmas.List.{drop-drop, drop-set-lt, get_or-drop, length-map, length-set, map-append, take_all, take_more, take_more_set}
use Rattle.std.proofs.lemmas.List.Elements.{All-map}
use Rattle.std.proofs.lemmas.List.FromFn.{length-range_with_len, map-range_with_len_more}
use Rattle.air_model.specs.declared.reports.CountsLine.{CountsLine}
use Rattle.air_model.specs.declared.reports.VerdictLine.{VerdictLine}
use Rattle.air_model.specs.Aired.{scheme_in}
use Rattle.air_model.specs.Buckets.{Bucket, bucket_in}
use Rattle.air_model.specs.Decks.{Deck}
use Rattle.air_model.specs.Judges.{by_entries}
use Rattle.air_model.specs.Outputs.{sessions_over}
use Rattle.air_model.specs.Reports.{line_by}
use Rattle.air_model.specs.ReceiverLaws.{session_of}
use Rattle.air_model.specs.Tapes.{TapeRead, ends_inside, read_from}
use Rattle.listeners.specs.Listeners.{AreNumbered, Listener, end_state, hears, hears_one, listener_of}
use Rattle.listeners.proofs.CountLemmas.{heard_by}
use Rattle.listeners.proofs.HearLemmas.{counted_one, session_is}

-- ---- all of them

-- Nothing more is heard.
pub hears_none : (A : List Listener) → map (hears []) A ≡ A
unfolding hears
hears_none [] = refl
hears_none (l ∷ A) = ap (λ B. l ∷ B) (hears_none A)

-- There is room to count so many members more.
abbrev pub HasRoom : ℕ → Listener → Type 0
HasRoom n l = heard_by l.state + n < 2 ^ 64

pub room_after : (member : Option Bucket) (n : ℕ) (A : List Listener) → All (HasRoom (n + 1)) A → All (HasRoom n) (map (hears_one member) A)
room_after member n A room = All-map (HasRoom n) (hears_one member) A (λ k d below. let one = counted_one member (get_or A k d) in let most = room k d below in omega arith)

-- Readers that heard nothing yet have room for a tape's records.
pub room_at_first : (deck : Deck) (n : ℕ) (readers : List ℕ) → n < 2 ^ 64 → All (HasRoom n) (map (listener_of deck) readers)
room_at_first deck n readers few = All-map (HasRoom n) (listener_of deck) readers (λ k d below. omega (arith, few))

one_record : (over cut : Bool) (n at : ℕ) (r : List ℕ) (rs : List (List ℕ)) (c : Option ℕ) → length rs ≤ n → length
    (if over then (let t : TapeRead = record { records = []; cut = None } in t) else if cut then record { records = []; cut = Some at } else record { records = r ∷ rs; cut = c }).records ≤ suc n
one_record true cut n at r rs c few = omega arith
one_record false true n at r rs c few = omega arith
one_record false false n at r rs c few = omega arith

-- A tape has no more records than bytes.
pub few_records : (n at : ℕ) (rest : List ℕ) → length (read_from n at rest).records ≤ n
unfolding read_from
few_records zero at rest = omega arith
few_records (suc n) at rest = one_record (length rest == 0) (ends_inside rest) n at _ _ _ (few_records n _ _)

-- So far all up to a place have heard the member.
pub record HeardUpTo (hear : Listener → Listener) (i : ℕ) (before now : List Listener) : Type 0 where
  pub done : take i now ≡ map hear (take i before)
  pub left : drop i now ≡ drop i before
  pub long : length now ≡ length before

-- One of those that are left.
pub left_at : {hear : Listener → Listener} {i : ℕ} {before now : List Listener} (d : Listener) → HeardUpTo hear i before now → get_or now i d ≡ get_or before i d
left_at {hear} {i} {before} {now} d h = simp unary_clauses at (sym (get_or-drop i now 0 d) ∙ ap (λ l. get_or l 0 d) h.left ∙ get_or-drop i before 0 d)

pub one_hears : {hear : Listener → Listener} {i : ℕ} {before now : List Listener} (d x : Listener) → HeardUpTo hear i before now → i < length now → x ≡ hear (get_or now i d)
    → HeardUpTo hear (i + 1) before (set now i x)
one_hears {hear} {i} {before} {now} d x h within heard =
    let inside : i < length before = omega (arith, h.long) in
    record {
      done = take_more_set now i x within ∙ ap (λ l. l ++ x ∷ []) h.done ∙ ap (λ y. map hear (take i before) ++ y ∷ []) (heard ∙ ap hear (left_at d h))
          ∙ sym (map-append hear (take i before) (get_or before i d ∷ [])) ∙ ap (map hear) (sym (take_more before i d inside));
      left = drop-set-lt (i + 1) now i x (omega arith) ∙ sym (drop-drop 1 i now) ∙ ap (drop 1) h.left ∙ drop-drop 1 i before;
      long = length-set now i x ∙ h.long;
    }

pub all_heard : {hear : Listener → Listener} {i : ℕ} {before now : List Listener} → HeardUpTo hear i before now → length now ≤ i → now ≡ map hear before
all_heard {hear} {i} {before} {now} h past = sym (take_all i now past) ∙ h.done ∙ ap (map hear) (take_all i before (omega (arith, h.long)))

-- ---- a deck's readers

-- What is made for one more reader joins what was made for those before it.
pub one_more_reader : {X : Type 0} (made : ℕ → X) (r : ℕ) (before after : List X) (x : X) → before ≡ map made (range_with_len 0 r) → x ≡ made r → after ≡ before ++ x ∷ []
    → after ≡ map made (range_with_len 0 (r + 1))
one_more_reader made r before after x so_far is grew =
    grew ∙ ap (λ l. l ++ x ∷ []) so_far ∙ ap (λ t. map made (range_with_len 0 r) ++ t ∷ []) is
    ∙ sym (map-range_with_len_more made 0 r r (omega arith))

-- The verdict lines of a listener that ends here, and its counts.
abbrev pub verdicts_of : Listener → List VerdictLine
verdicts_of l = map (line_by l.number) (end_state l).lines

abbrev pub counts_of : Listener → CountsLine
counts_of l = record { reader = l.number; counts = (end_state l).counts }

-- Listeners that are numbered from n on.
abbrev NumberedFrom : ℕ → List Listener → Type 0
NumberedFrom n A = map (λ l. l.number) A ≡ range_with_len n (length A)

numbers : (n : ℕ) (l : Listener) (A : List Listener) → NumberedFrom n (l ∷ A) → (l.number ≡ n) × NumberedFrom (n + 1) A
numbers n l A e = (cc, cc)

verdicts_from : (n : ℕ) (A : List Listener) → NumberedFrom n A → flat_map verdicts_of A ≡ flat_map (λ p. map (line_by p.0) p.1.lines) (enumerate_from n (map end_state A))
verdicts_from n [] e = refl
verdicts_from n (l ∷ A) e =
    let own = numbers n l A e in
    ap (λ k. map (line_by k) (end_state l).lines ++ flat_map verdicts_of A) own.0 ∙ ap (λ rest. map (line_by n) (end_state l).lines ++ rest) (verdicts_from (n + 1) A own.1)

pub all_verdicts : (A : List Listener) → AreNumbered A → flat_map verdicts_of A ≡ flat_map (λ p. map (line_by p.0) p.1.lines) (enumerate_from 0 (map end_state A))
all_verdicts A e = verdicts_from 0 A e

counts_from : (n : ℕ) (A : List Listener) → NumberedFrom n A → map counts_of A ≡ map (λ p. let l : CountsLine = record { reader = p.0; counts = p.1.counts } in l) (enumerate_from n (map end_state A))
counts_from n [] e = refl
counts_from n (l ∷ A) e =
    let own = numbers n l A e in
    ap (λ k. let c : CountsLine = record { reader = k; counts = (end_state l).counts } in c ∷ map counts_of A) own.0
    ∙ ap (λ rest. let c : CountsLine = record { reader = n; counts = (end_state l).counts } in c ∷ rest) (counts_from (n + 1) A own.1)

pub all_counts : (A : List Listener) → AreNumbered A → map counts_of A ≡ map (λ p. let l : CountsLine = record { reader = p.0; counts = p.1.counts } in l) (enumerate_from 0 (map end_state A))
all_counts A e = counts_from 0 A e

-- All readers of a deck that have heard these members.
abbrev pub heard_readers : Deck → List (Option Bucket) → List Listener
heard_readers deck members = map (hears members) (map (listener_of deck) (range_with_len 0 (length deck.readers)))

pub keeps_number : (members : List (Option Bucket)) (l : Listener) → (hears members l).number ≡ l.number
unfolding hears hears_one
keeps_number [] l = refl
keeps_number (o ∷ members) l = keeps_number members (hears_one o l)

numbers_of : (deck : Deck) (members : List (Option Bucket)) (n k : ℕ) → map (λ l. l.number) (map (hears members) (map (listener_of deck) (range_with_len n k))) ≡ range_with_len n k
numbers_of deck members n zero = refl
numbers_of deck members n (suc k) =
    ap (λ x. x ∷ map (λ l. l.number) (map (hears members) (map (listener_of deck) (range_with_len (n + 1) k)))) (keeps_number members (listener_of deck n))
    ∙ ap (λ xs. n ∷ xs) (numbers_of deck members (n + 1) k)

pub are_numbered : (deck : Deck) (members : List (Option Bucket)) → AreNumbered (heard_readers deck members)
are_numbered deck members =
    let n = length deck.readers in
    let long : length (heard_readers deck members) ≡ n =
    length-map (map (listener_of deck) (range_with_len 0 n)) (hears members) ∙ length-map (range_with_len 0 n) (listener_of deck) ∙ length-range_with_len 0 n in
    numbers_of deck members 0 n ∙ ap (range_with_len 0) (sym long)

-- So their sessions are those over the members.
pub sessions_are : (deck : Deck) (records : List (List ℕ)) → map end_state (heard_readers deck (map bucket_in records)) ≡ sessions_over (by_entries (scheme_in deck)) deck (λ r. records)
sessions_are deck records = same (range_with_len 0 (length deck.readers))
  where
    same : (readers : List ℕ) → map end_state (map (hears (map bucket_in records)) (map (listener_of deck) readers)) ≡ map (λ r. session_of (by_entries (scheme_in deck)) deck r (map bucket_in records)) readers
    same [] = refl
    same (r ∷ readers) = ap (λ s. s ∷ map end_state (map (hears (map bucket_in records)) (map (listener_of deck) readers))) (session_is deck r (map bucket_in records))
        ∙ ap (λ l. session_of (by_entries (scheme_in deck)) deck r (map bucket_in records) ∷ l) (same readers)
