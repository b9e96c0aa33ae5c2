-- What a tape holds: the reading takes whole records off the front until nothing is left or a record is cut.
-- `whole_read` and `cut_read` say what is read if the records are known, `tells` what the reading of any bytes tells.
use Rattle.std.proofs.Common.{◌≡◌, ◌≤◌, ◌<◌, ◌+◌, ◌-◌, ◌^◌, ◌++◌, ◌&&◌, ◌||◌, ◌==◌, if◌then◌else◌, nat_lt, ℕ, zero, suc, Bool, true, false, Option, Some, None, List, [], ◌∷◌, length, take, drop, refl, sym, ◌∙◌, ap, subst, arith, append_assoc, ◌↔◌}
use Rattle.std.specs.Prelude.{All}
use Rattle.std.proofs.lemmas.Bool.{and_right, eqb-false, ltb-false, ne_eqb, or_from, eqb-true, le-ltb, lt-ltb, false≢true}
use Rattle.std.proofs.lemmas.List.{drop-drop, drop_at, get_or-drop, length-append, length-drop, length-take, nil_from_length, take-append-drop, take_at}
use Rattle.std.proofs.lemmas.List.Elements.{All-cons, All-head, All-tail}
use Rattle.byteorder.specs.Endian.{big_bytes, big_number}
use Rattle.byteorder.specs.Numbers.{big_from-lt, big_number-reads_back}
use Rattle.air_model.specs.Tapes.{IsCutTape, IsTape, TapeRead, ends_inside, read_from, record_bytes, tape_of, tape_read, with_record}
use Rattle.air_model.specs.Buckets.{AreBytes}
use Rattle.air_model.proofs.ByteLemmas.{AllBytes, all_bytes, one_spelling}

abbrev pub AreShort : List (List ℕ) → Type 0
AreShort records = All (λ r. length r < 2 ^ 32) records

-- ---- one record
pub length_record : (r s : List ℕ) → length (record_bytes r ++ s) ≡ 4 + length r + length s
unfolding record_bytes
length_record r s = omega (arith, length-append r s)

pub number_record : (r s : List ℕ) → length r < 2 ^ 32 → big_number 4 (record_bytes r ++ s) ≡ length r
unfolding record_bytes
number_record r s short = big_number-reads_back 4 (length r) (r ++ s) short

-- A record's bytes follow its length, and what follows the record comes after its bytes.
pub record_first : (r s : List ℕ) → take (length r) (drop 4 (record_bytes r ++ s)) ≡ r
unfolding record_bytes
record_first r s = take_at r s (length r) refl

pub record_rest : (r s : List ℕ) → drop (4 + length r) (record_bytes r ++ s) ≡ s
unfolding record_bytes
record_rest r s = sym (drop-drop (length r) 4 (record_bytes r ++ s)) ∙ drop_at r s (length r) refl

-- The first record of bytes that hold one, and what follows it.
pub record_is : (rest : List ℕ) (n : ℕ) → AllBytes rest → 4 ≤ length rest → n ≡ big_number 4 rest → n ≤ length rest - 4
    → rest ≡ record_bytes (take n (drop 4 rest)) ++ drop (4 + length (take n (drop 4 rest))) rest
unfolding record_bytes
record_is rest n all long e room =
    let r = take n (drop 4 rest) in
    let size : length r ≡ n = omega (arith, length-take n (drop 4 rest), length-drop 4 rest) in
    sym (take-append-drop 4 rest) ∙ ap (λ l. l ++ drop 4 rest) (one_spelling 4 rest long all)
    ∙ ap (λ k. big_bytes 4 k ++ drop 4 rest) (sym e ∙ sym size)
    ∙ ap (λ l. big_bytes 4 (length r) ++ l) (sym (take-append-drop n (drop 4 rest)) ∙ ap (λ l. r ++ l) (drop-drop n 4 rest ∙ ap (λ k. drop (4 + k) rest) (sym size)))
    ∙ sym (append_assoc (big_bytes 4 (length r)) r (drop (4 + length r) rest))

-- ---- the place where a record is cut
-- a whole record isn't cut.
pub record_not_cut : (r s : List ℕ) → length r < 2 ^ 32 → ends_inside (record_bytes r ++ s) ≡ false
unfolding ends_inside
record_not_cut r s short =
    let long = length_record r s in
    let n = number_record r s short in
    let size = length (record_bytes r ++ s) in
    and_right (nat_lt 0 size) _ (or_from (nat_lt size 4) _ (le-ltb size 4 (omega arith)) (le-ltb size (4 + big_number 4 (record_bytes r ++ s)) (omega arith)))

pub cut_short : (rest : List ℕ) → 0 < length rest → length rest < 4 → ends_inside rest ≡ true
unfolding ends_inside
cut_short rest some short = rw (lt-ltb 0 (length rest) some, lt-ltb (length rest) 4 short) refl

pub cut_within : (rest : List ℕ) (n : ℕ) → 4 ≤ length rest → n ≡ big_number 4 rest → length rest - 4 < n → ends_inside rest ≡ true
unfolding ends_inside
cut_within rest n long e short = rw (lt-ltb 0 (length rest) (omega arith), le-ltb (length rest) 4 long, lt-ltb (length rest) (4 + big_number 4 rest) (omega arith)) refl

-- What it tells that a record is cut, and what it tells that none is.
pub cut_some : (rest : List ℕ) → ends_inside rest ≡ true → 0 < length rest
unfolding ends_inside
cut_some [] cut = absurd (false≢true cut)
cut_some (x ∷ rest) cut = omega arith

pub room_for : (rest : List ℕ) → 0 < length rest → ends_inside rest ≡ false → (4 ≤ length rest) × (4 + big_number 4 rest ≤ length rest)
unfolding ends_inside
room_for rest some whole = by (nat_lt 0 (length rest)) (nat_lt (length rest) 4) (nat_lt (length rest) (4 + big_number 4 rest)) refl refl refl whole
  where
    by : (a b c : Bool) → nat_lt 0 (length rest) ≡ a → nat_lt (length rest) 4 ≡ b → nat_lt (length rest) (4 + big_number 4 rest) ≡ c → (a && (b || c)) ≡ false → (4 ≤ length rest) × (4 + big_number 4 rest ≤ length rest)
    by false b c d e f g = absurd (false≢true (sym d ∙ lt-ltb 0 (length rest) some))
    by true true c d e f g = absurd (false≢true (sym g))
    by true false true d e f g = absurd (false≢true (sym g))
    by true false false d e f g = (ltb-false (length rest) 4 e, ltb-false (length rest) (4 + big_number 4 rest) f)

-- ---- what is read of known records
-- a record is read off the front.
pub read_record : (n at : ℕ) (r s : List ℕ) → length r < 2 ^ 32 → read_from (suc n) at (record_bytes r ++ s) ≡ with_record r (read_from n (at + (4 + length r)) s)
unfolding read_from
read_record n at r s short =
    by (record_bytes r ++ s) (ne_eqb (length (record_bytes r ++ s)) 0 (λ none. let long = length_record r s in omega arith)) (record_not_cut r s short) (number_record r s short) (record_first r s) (record_rest r s)
  where
    by : (rest : List ℕ) → (length rest == 0) ≡ false → ends_inside rest ≡ false → big_number 4 rest ≡ length r → take (length r) (drop 4 rest) ≡ r → drop (4 + length r) rest ≡ s
        → read_from (suc n) at rest ≡ with_record r (read_from n (at + (4 + length r)) s)
    by rest some whole number first after =
        rw (some, whole, number, first, after) refl

-- A cut record is read as cut.
pub read_cut : (n at : ℕ) (rest : List ℕ) → ends_inside rest ≡ true → length rest ≤ n → read_from n at rest ≡ record { records = []; cut = Some at }
unfolding read_from
read_cut zero at rest cut room = absurd (let some = cut_some rest cut in omega arith)
read_cut (suc n) at rest cut room = rw (ne_eqb (length rest) 0 (λ none. let some = cut_some rest cut in omega arith), cut) refl

record_then : (r : List ℕ) (rs : List (List ℕ)) (c : Option ℕ) (read : TapeRead) → read ≡ record { records = rs; cut = c } → with_record r read ≡ record { records = r ∷ rs; cut = c }
record_then r rs c read e = ap (with_record r) e

-- Records with nothing after them are read, and nothing is cut.
pub whole_read : (rs : List (List ℕ)) (n at : ℕ) → AreShort rs → length (tape_of rs) ≤ n → read_from n at (tape_of rs) ≡ record { records = rs; cut = None }
unfolding tape_of read_from
whole_read [] zero at short room = refl
whole_read [] (suc n) at short room = refl
whole_read (r ∷ rs) zero at short room = absurd (let long = length_record r (tape_of rs) in omega arith)
whole_read (r ∷ rs) (suc n) at short room =
    let long = length_record r (tape_of rs) in
    read_record n at r (tape_of rs) (All-head (λ r. length r < 2 ^ 32) r rs short)
    ∙ record_then r rs None (read_from n (at + (4 + length r)) (tape_of rs)) (whole_read rs n (at + (4 + length r)) (All-tail (λ r. length r < 2 ^ 32) r rs short) (omega arith))

-- Records before a cut one are read, and the cut is after them.
pub cut_read : (rs : List (List ℕ)) (tail : List ℕ) (n at : ℕ) → AreShort rs → ends_inside tail ≡ true → length (tape_of rs ++ tail) ≤ n
    → read_from n at (tape_of rs ++ tail) ≡ record { records = rs; cut = Some (at + length (tape_of rs)) }
unfolding tape_of
cut_read [] tail n at short cut room = read_cut n at tail cut room ∙ ap (λ p. let t : TapeRead = record { records = []; cut = Some p } in t) (omega arith)
cut_read (r ∷ rs) tail zero at short cut room = absurd (let some = cut_some tail cut in let long = length-append (tape_of (r ∷ rs)) tail in omega arith)
cut_read (r ∷ rs) tail (suc n) at short cut room =
    let long = length_record r (tape_of rs ++ tail) in
    let whole = length_record r (tape_of rs) in
    let joined : tape_of (r ∷ rs) ++ tail ≡ record_bytes r ++ (tape_of rs ++ tail) = append_assoc (record_bytes r) (tape_of rs) tail in
    let size = ap length joined in
    ap (read_from (suc n) at) joined
    ∙ read_record n at r (tape_of rs ++ tail) (All-head (λ r. length r < 2 ^ 32) r rs short)
    ∙ record_then r rs (Some (at + (4 + length r) + length (tape_of rs))) (read_from n (at + (4 + length r)) (tape_of rs ++ tail)) (cut_read rs tail n (at + (4 + length r)) (All-tail (λ r. length r < 2 ^ 32) r rs short) cut (omega arith))
    ∙ ap (λ p. let t : TapeRead = record { records = r ∷ rs; cut = Some p } in t) (omega arith)

-- ---- what is told of any bytes
-- the records are at the front, and what follows them ends inside its first record.
pub record CutBehind (rest : List ℕ) (rs : List (List ℕ)) (q : ℕ) : Type 0 where
  pub short : AreShort rs
  pub tail : List ℕ
  pub is : rest ≡ tape_of rs ++ tail
  pub place : q ≡ length (tape_of rs)
  pub cut : ends_inside tail ≡ true

-- What a reading tells: just these records, or these and then a cut.
unfoldable pub Tells : ℕ → List ℕ → List (List ℕ) → Option ℕ → Type 0
Tells at rest rs None = AreShort rs × (rest ≡ tape_of rs)
Tells at rest rs (Some p) = (q : ℕ) × (p ≡ at + q) × CutBehind rest rs q

nothing_left : (at : ℕ) (rest : List ℕ) → length rest ≡ 0 → Tells at rest [] None
unfolding Tells tape_of
nothing_left at rest e = ((λ k d below. absurd (omega arith)), nil_from_length rest e)

more : (at : ℕ) (r s : List ℕ) (rs : List (List ℕ)) (c : Option ℕ) → length r < 2 ^ 32 → Tells (at + (4 + length r)) s rs c → Tells at (record_bytes r ++ s) (r ∷ rs) c
unfolding Tells tape_of
more at r s rs None short t = (All-cons (λ r. length r < 2 ^ 32) r rs short t.0, ap (λ l. record_bytes r ++ l) t.1)
more at r s rs (Some p) short t =
    let b = t.2 in
    let long = length_record r (tape_of rs) in
    let place = t.1 in
    let q = b.place in (
      4 + length r + t.0,
      omega arith,
      record {
        short = All-cons (λ r. length r < 2 ^ 32) r rs short b.short;
        tail = b.tail;
        is = ap (λ l. record_bytes r ++ l) b.is ∙ sym (append_assoc (record_bytes r) (tape_of rs) b.tail);
        place = omega arith;
        cut = b.cut;
      },
    )

bytes_behind : (k : ℕ) (rest : List ℕ) → AllBytes rest → AllBytes (drop k rest)
bytes_behind k rest all i = subst (λ x. x < 256) (sym (get_or-drop k rest i 0)) (all (k + i))

-- One step of the reading, from what the reading after the first record tells.
step : (at : ℕ) (rest : List ℕ) (after : TapeRead) (a b : Bool) → AllBytes rest → (length rest == 0) ≡ a → ends_inside rest ≡ b
    → Tells (at + (4 + big_number 4 rest)) (drop (4 + big_number 4 rest) rest) after.records after.cut
    → let read = if a then record { records = []; cut = None } else if b then record { records = []; cut = Some at } else with_record (take (big_number 4 rest) (drop 4 rest)) after in
    Tells at rest read.records read.cut
unfolding Tells tape_of
step at rest after true b all e f t = nothing_left at rest (eqb-true (length rest) 0 e)
step at rest after false true all e f t =
    (0, omega arith, record { short = λ k d below. absurd (omega arith); tail = rest; is = refl; place = refl; cut = f })
step at rest after false false all e f t =
    let none = eqb-false (length rest) 0 e in
    let some : 0 < length rest = omega (arith, none) in
    let room = room_for rest some f in
    let n = big_number 4 rest in
    let r = take n (drop 4 rest) in
    let long = room.0 in
    let whole = room.1 in
    let size : length r ≡ n = omega (arith, length-take n (drop 4 rest), length-drop 4 rest) in
    let is : rest ≡ record_bytes r ++ drop (4 + n) rest = record_is rest n all long refl (omega arith) ∙ ap (λ k. record_bytes r ++ drop (4 + k) rest) size in
    let below : n < 2 ^ 32 = big_from-lt 0 4 rest all in
    subst (λ l. Tells at l (r ∷ after.records) after.cut) (sym is)
    (more at r (drop (4 + n) rest) after.records after.cut (omega arith) (subst (λ k. Tells (at + (4 + k)) (drop (4 + n) rest) after.records after.cut) (sym size) t))

pub tells : (n at : ℕ) (rest : List ℕ) → AllBytes rest → length rest ≤ n → Tells at rest (read_from n at rest).records (read_from n at rest).cut
unfolding read_from
tells zero at rest all room = nothing_left at rest (omega arith)
tells (suc n) at rest all room =
    step at rest (read_from n (at + (4 + big_number 4 rest)) (drop (4 + big_number 4 rest) rest)) (length rest == 0) (ends_inside rest) all refl refl
    (tells n (at + (4 + big_number 4 rest)) (drop (4 + big_number 4 rest) rest) (bytes_behind (4 + big_number 4 rest) rest all) (omega (arith, length-drop (4 + big_number 4 rest) rest)))

-- ---- the law
-- a cut and the records before it, as a front and a tail.
behind : (bytes : List ℕ) (rs : List (List ℕ)) (at : ℕ) → IsCutTape bytes rs at → CutBehind bytes rs at
behind bytes rs at c =
    let some = cut_some (drop at bytes) c.cut in
    let size : length (take at bytes) ≡ at = omega (arith, length-take at bytes, length-drop at bytes) in
    record {
      short = c.before.0;
      tail = drop at bytes;
      is = sym (take-append-drop at bytes) ∙ ap (λ l. l ++ drop at bytes) c.before.1;
      place = sym size ∙ ap length c.before.1;
      cut = c.cut;
    }

cut_from : (bytes : List ℕ) (rs : List (List ℕ)) (at : ℕ) → CutBehind bytes rs at → IsCutTape bytes rs at
cut_from bytes rs at b = record {
  before = (b.short, ap (take at) b.is ∙ take_at (tape_of rs) b.tail at (sym b.place));
  cut = ap ends_inside (ap (drop at) b.is ∙ drop_at (tape_of rs) b.tail at (sym b.place)) ∙ b.cut;
}

-- What a reading of whole bytes tells.
told : (bytes : List ℕ) (read : TapeRead) → AreBytes bytes → tape_read bytes ≡ read → Tells 0 bytes read.records read.cut
told bytes read are e = subst (λ (r : TapeRead). Tells 0 bytes r.records r.cut) e (tells (length bytes) 0 bytes (all_bytes bytes are) (omega arith))

pub whole_tape : (bytes : List ℕ) (records : List (List ℕ)) → AreBytes bytes →
    IsTape bytes records ↔ (tape_read bytes ≡ record { records = records; cut = None })
unfolding Tells
whole_tape bytes rs are = (
  λ h. let size = ap length h.1 in ap (read_from (length bytes) 0) h.1 ∙ whole_read rs (length bytes) 0 h.0 (omega arith),
  told bytes (record { records = rs; cut = None }) are,
)

pub cut_tape : (bytes : List ℕ) (records : List (List ℕ)) (at : ℕ) → AreBytes bytes →
    IsCutTape bytes records at ↔ (tape_read bytes ≡ record { records = records; cut = Some at })
unfolding Tells
cut_tape bytes rs at are = (
  λ h.
      let b = behind bytes rs at h in
      let size = ap length b.is in
      let place = b.place in
      ap (read_from (length bytes) 0) b.is ∙ cut_read rs b.tail (length bytes) 0 b.short b.cut (omega arith)
      ∙ ap (λ p. let t : TapeRead = record { records = rs; cut = Some p } in t) (omega arith),
  λ e.
      let t = told bytes (record { records = rs; cut = Some at }) are e in
      let q = t.1 in
      cut_from bytes rs at (subst (CutBehind bytes rs) (omega arith) t.2),
)
