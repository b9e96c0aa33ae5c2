-- The whole records at the beginning of bytes, and what follows them: nothing, or bytes that end inside their first record. `whole_to_end` and
-- `whole_before_cut` say what a reading has of them, `read_alone` what they are read as alone.
use Rattle.std.proofs.Common.{◌≡◌, ◌≤◌, ◌*◌, ◌++◌, ◌∙◌, ℕ, List, [], ◌∷◌, Option, Some, None, refl, length, take, drop, sym, ap, subst, inl, inr, arith, length-append}
use Rattle.std.proofs.lemmas.List.{drop_all, drop_at, take_all, take_at}
use Rattle.std.proofs.lemmas.Grind.{flat_map-append}
use Rattle.air_model.specs.Tapes.{TapeRead, ends_inside, record_bytes, tape_of, tape_read}
use Rattle.air_model.proofs.ByteLemmas.{AllBytes}
use Rattle.air_model.proofs.TapeLemmas.{AreShort, Tells, length_record, tells, whole_read}
use Rattle.air_cli.specs.Private.Pieces.{AreWholeRecords}

told_before_cut : (piece : List ℕ) (n : ℕ) (rs : List (List ℕ)) (c : Option ℕ) → (tape_read piece).records ≡ rs → Tells 0 piece rs c → c ≡ Some n → AreWholeRecords piece n
unfolding Tells
told_before_cut piece n rs None same t here = absurd (cc here)
told_before_cut piece n rs (Some p) same t here =
    let at = t.1 in
    let b = t.2 in
    let place = b.place in
    let is : Some p ≡ Some n = here in
    let one : p ≡ n = cc is in
    let size : length (tape_of rs) ≡ n = omega arith in
    let front : take n piece ≡ tape_of rs = ap (take n) b.is ∙ take_at (tape_of rs) b.tail n size in
    let tail : drop n piece ≡ b.tail = ap (drop n) b.is ∙ drop_at (tape_of rs) b.tail n size in
    record {
      within = omega (arith, ap length b.is, length-append (tape_of rs) b.tail);
      whole = (subst AreShort (sym same) b.short, front ∙ ap tape_of (sym same));
      rest = inr (ap ends_inside tail ∙ b.cut);
    }

-- If a piece is cut, the whole records come before the cut.
pub whole_before_cut : (piece : List ℕ) (n : ℕ) → AllBytes piece → Some n ≡ (tape_read piece).cut → AreWholeRecords piece n
whole_before_cut piece n all here = told_before_cut piece n (tape_read piece).records (tape_read piece).cut refl (tells (length piece) 0 piece all (omega arith)) (sym here)

told_whole : (piece : List ℕ) (rs : List (List ℕ)) (c : Option ℕ) → Tells 0 piece rs c → c ≡ None → AreShort rs × (piece ≡ tape_of rs)
unfolding Tells
told_whole piece rs None t here = t
told_whole piece rs (Some p) t here = absurd (cc here)

-- If it isn't cut, they are all of it.
pub whole_to_end : (piece : List ℕ) → AllBytes piece → None ≡ (tape_read piece).cut → AreWholeRecords piece (length piece)
whole_to_end piece all here =
    let t = told_whole piece (tape_read piece).records (tape_read piece).cut (tells (length piece) 0 piece all (omega arith)) (sym here) in
    record {
      within = omega arith;
      whole = (t.0, take_all (length piece) piece (omega arith) ∙ t.1);
      rest = inl (drop_all (length piece) piece (omega arith));
    }

-- They are read as these records, and nothing is cut.
pub read_alone : {piece : List ℕ} {n : ℕ} → AreWholeRecords piece n → ◌≡◌ {A = TapeRead} (tape_read (take n piece)) (record { records = (tape_read piece).records; cut = None })
read_alone {piece} {n} front =
    let rs = (tape_read piece).records in
    ap (λ bytes. tape_read bytes) front.whole.1 ∙ whole_read rs (length (tape_of rs)) 0 front.whole.0 (omega arith)

-- The tape of some records and then others is the tape of the first and then that of the others.
pub tape_joined : (rs more : List (List ℕ)) → tape_of (rs ++ more) ≡ tape_of rs ++ tape_of more
unfolding tape_of
tape_joined rs more = flat_map-append record_bytes rs more

-- Each record has at least four bytes.
pub many_bytes : (rs : List (List ℕ)) → 4 * length rs ≤ length (tape_of rs)
unfolding tape_of
many_bytes [] = omega arith
many_bytes (r ∷ rs) = let rest = many_bytes rs in omega (arith, length_record r (tape_of rs))
