-- What a reader of a tape has still to give, before and after a record. `next` of the reader uses `nothing_read`, `cut_is` and
-- `record_next`; `tape_record` uses `pasted` and `record_wrote`.
use Rattle.std.proofs.Common.{◌≡◌, ◌≤◌, ◌<◌, ◌+◌, ◌^◌, ◌++◌, ◌==◌, if◌then◌else◌, ℕ, zero, suc, Bool, true, false, Some, None, List, [], ◌∷◌, length, take, drop, refl, sym, ◌∙◌, ap, arith, append_assoc}
use Rattle.std.proofs.lemmas.Bool.{eqb-true}
use Rattle.std.proofs.lemmas.List.{length-drop, take_all}
use Rattle.std.proofs.lemmas.Slice.{put_mid-paste}
use borrow.Rule.Slice.PartMut.{put_mid}
use Rattle.byteorder.specs.Endian.{big_bytes, big_number}
use Rattle.air_model.specs.Tapes.{TapeRead, ends_inside, read_from, record_bytes, with_record}
use Rattle.air_model.proofs.TapeLemmas.{length_record, read_cut, read_record}
use Rattle.bucket_codec.proofs.WriteLemmas.{put_next}

-- If nothing is left, nothing is read.
pub nothing_read : (n at : ℕ) (rest : List ℕ) → length rest ≡ 0 → read_from n at rest ≡ record { records = []; cut = None }
unfolding read_from
nothing_read zero at rest e = refl
nothing_read (suc n) at [] e = refl
nothing_read (suc n) at (x ∷ rest) e = absurd (omega arith)

-- A reading is the same for each bound that is large enough.
pub enough : (n m at : ℕ) (rest : List ℕ) → length rest ≤ n → length rest ≤ m → read_from n at rest ≡ read_from m at rest
unfolding read_from
enough zero m at rest a b = nothing_read zero at rest (omega arith) ∙ sym (nothing_read m at rest (omega arith))
enough (suc n) zero at rest a b = nothing_read (suc n) at rest (omega arith) ∙ sym (nothing_read zero at rest (omega arith))
enough (suc n) (suc m) at rest a b =
    by (length rest == 0) refl
    (enough n m (at + (4 + big_number 4 rest)) (drop (4 + big_number 4 rest) rest) (omega (arith, length-drop (4 + big_number 4 rest) rest)) (omega (arith, length-drop (4 + big_number 4 rest) rest)))
  where
    by : (b : Bool) → (length rest == 0) ≡ b → read_from n (at + (4 + big_number 4 rest)) (drop (4 + big_number 4 rest) rest) ≡ read_from m (at + (4 + big_number 4 rest)) (drop (4 + big_number 4 rest) rest)
        → read_from (suc n) at rest ≡ read_from (suc m) at rest
    by true e later = let none = eqb-true (length rest) 0 e in nothing_read (suc n) at rest none ∙ sym (nothing_read (suc m) at rest none)
    by false e later =
        ap (λ (t : TapeRead). if length rest == 0 then record { records = []; cut = None } else if ends_inside rest then record { records = []; cut = Some at } else with_record (take (big_number 4 rest) (drop 4 rest)) t) later

-- A cut record is read as cut.
pub cut_is : (at : ℕ) (rest : List ℕ) → ends_inside rest ≡ true → read_from (length rest) at rest ≡ record { records = []; cut = Some at }
cut_is at rest cut = read_cut (length rest) at rest cut (omega arith)

-- A record is read, and then what follows it.
pub record_next : (at : ℕ) (r rest after : List ℕ) → length r < 2 ^ 32 → rest ≡ record_bytes r ++ drop (4 + length r) rest → after ≡ drop (4 + length r) rest
    → read_from (length rest) at rest ≡ with_record r (read_from (length after) (at + (4 + length r)) after)
record_next at r rest after short is e =
    let size : length rest ≡ 4 + length r + length after = ap length (is ∙ ap (λ l. record_bytes r ++ l) (sym e)) ∙ length_record r after in
    let n = 3 + length r + length after in
    enough (length rest) (suc n) at rest (omega arith) (omega arith)
    ∙ ap (read_from (suc n) at) (is ∙ ap (λ l. record_bytes r ++ l) (sym e)) ∙ read_record n at r after short
    ∙ ap (with_record r) (enough n (length after) (at + (4 + length r)) after (omega arith) (omega arith))

-- ---- a record written
-- a copy into a part.
pub pasted : (out ys : List ℕ) (at n m : ℕ) → m ≡ n → length ys ≡ n → put_mid at m out ys ≡ take at out ++ (ys ++ drop (at + n) out)
pasted out ys at n m e size =
    ap (λ k. put_mid at k out ys) e ∙ put_mid-paste at n out ys ys n refl refl (sym size)
    ∙ ap (λ l. take at out ++ l ++ drop (at + n) out) (take_all n ys (omega arith)) ∙ append_assoc (take at out) ys (drop (at + n) out)

pub record_wrote : (old out new bytes : List ℕ) → out ≡ big_bytes 4 (length bytes) ++ drop 4 old → new ≡ take 4 out ++ (bytes ++ drop (4 + length bytes) out) → new ≡ record_bytes bytes ++ drop (4 + length bytes) old
unfolding record_bytes
record_wrote old out new bytes told wrote = put_next old out new (big_bytes 4 (length bytes)) bytes 4 (length bytes) refl refl told wrote

pub record_size : (bytes : List ℕ) → 4 + length bytes ≡ length (record_bytes bytes)
unfolding record_bytes
record_size bytes = omega arith
