-- What is at the beginning of a buffer after a read into its middle.
use Rattle.std.proofs.Common.{◌≡◌, ◌≤◌, ◌<◌, ◌+◌, ◌++◌, ◌∙◌, ℕ, List, Option, Result, Ok, Err, length, take, drop, sym, ap, arith, append_assoc, length-append}
use Rattle.std.specs.Prelude.{IfOk}
use Rattle.std.specs.Io.{ReadsAtMost}
use Rattle.std.specs.Io.KnownBytes.{ReadConsumes}
use Rattle.std.proofs.lemmas.List.{length-take-le, take-append-drop, take_at}
use borrow.Rule.Slice.PartMut.{post_of, put_mid}
use Rattle.air_cli.specs.Private.Pieces.{HasCome}

-- What was read into the middle comes after the beginning.
read_into : (xs ys : List ℕ) (len k n : ℕ) → len ≤ length xs → n ≤ length ys → take (len + n) (put_mid len k xs ys) ≡ take len xs ++ take n ys
read_into xs ys len k n inside within =
    let front = take len xs in
    let bytes = take n ys in
    let rest = drop n ys ++ post_of len k xs in
    let split : put_mid len k xs ys ≡ (front ++ bytes) ++ rest =
    ap (λ l. front ++ (l ++ post_of len k xs)) (sym (take-append-drop n ys)) ∙ ap (λ l. front ++ l) (append_assoc bytes (drop n ys) (post_of len k xs)) ∙ sym (append_assoc front bytes rest) in
    ap (take (len + n)) split ∙ take_at (front ++ bytes) rest (len + n) (omega (arith, length-append front bytes, length-take-le len xs inside, length-take-le n ys within))

-- A read into the middle of a buffer adds what it gave to the beginning.
pub has_come : {E : Type 0} (r : Result ℕ E) (xs ys : List ℕ) (len k : ℕ) (left later : Option (List ℕ)) → len ≤ length xs → 0 < length ys → ReadsAtMost r ys → ReadConsumes left later r ys
    → IfOk r (λ n. HasCome n (take len xs) (take (len + n) (put_mid len k xs ys)) left later)
has_come (Ok n) xs ys len k left later inside some bound moved = record {
  bytes = take n ys;
  count = length-take-le n ys bound.0;
  behind = read_into xs ys len k n inside bound.0;
  taken = moved.0;
  end = λ none. moved.1 none some;
}
has_come (Err e) xs ys len k left later inside some bound moved = tt
