-- A piece that is written after the first bytes of a buffer. A room of fixed size needs `piece_added`.
use Rattle.std.proofs.Common.{◌≡◌, ◌≤◌, ◌+◌, ◌-◌, ◌++◌, ◌∙◌, ℕ, List, length, take, min, refl, sym, ap, arith, length-append, length-take, length-drop, vec_len}
use Rattle.std.proofs.lemmas.List.{length-take-le, take_min, with_items_is}
use Rattle.std.proofs.lemmas.Slice.{take-put_mid}
use Rattle.std.specs.Vec.{with_items}
use Rattle.std.specs.Global.{Global}
use Rattle.std.specs.Prelude.{Vec}
use Rattle.air_devices.specs.WrittenBytes.{WrittenBytes}
use borrow.Rule.Slice.PartMut.{put_mid}

-- A piece put into the middle of a list doesn't change its length.
length_kept : (xs ys : List ℕ) (a k : ℕ) → length ys ≡ k → a + k ≤ length xs → length (put_mid a k xs ys) ≡ length xs
length_kept xs ys a k piece fits = simp (length-append, length-take, length-drop) (omega arith)

-- The buffer after a piece was written.
pub piece_held : (buffer : Vec ℕ Global) (xs ys bytes : List ℕ) (len count k : ℕ)
    → xs ≡ buffer.items → length xs ≡ vec_len buffer → len ≤ length buffer.items → count ≡ min (length bytes) (length buffer.items - len) → k ≡ count → ys ≡ take count bytes
    → (with_items buffer (put_mid len k xs ys)).items ≡ put_mid len k xs ys
piece_held buffer xs ys bytes len count k same whole below counted width piece =
    let size : length ys ≡ k = ap length piece ∙ length-take-le count bytes (omega arith) ∙ sym width in
    let held : length xs ≡ length buffer.items = ap length same in
    with_items_is buffer (put_mid len k xs ys) (length_kept xs ys len k size (omega arith) ∙ whole)

-- A piece written after the first `len` bytes is added to them, and the room stays.
pub piece_added : (before : WrittenBytes) (buffer after xs ys bytes : List ℕ) (len count k : ℕ)
    → ◌≡◌ {A = WrittenBytes} (record { bytes = take len buffer; room = length buffer }) before
    → after ≡ put_mid len k xs ys → xs ≡ buffer → len ≤ length buffer → count ≡ min (length bytes) (length buffer - len) → k ≡ count → ys ≡ take count bytes
    → ◌≡◌ {A = WrittenBytes} (record { bytes = take (len + count) after; room = length after })
    (record { bytes = before.bytes ++ take (before.room - length before.bytes) bytes; room = before.room })
piece_added before buffer after xs ys bytes len count k view held same below counted width piece =
    let short : length (take count bytes) ≡ count = length-take-le count bytes (omega arith) in
    let size : length ys ≡ count = ap length piece ∙ short in
    let beginning : take (len + count) (put_mid len count buffer ys) ≡ take len buffer ++ ys = take-put_mid len count buffer ys (len + count) (omega arith) below in
    let room : length (put_mid len count buffer ys) ≡ length buffer = length_kept buffer ys len count size (omega arith) in
    let lesser : count ≡ min (length buffer - len) (length bytes) = omega arith in
    let rest : take count bytes ≡ take (length buffer - len) bytes = ap (λ n. take n bytes) lesser ∙ take_min (length buffer - len) bytes in
    let first : length (take len buffer) ≡ len = length-take-le len buffer below in
    rw (sym view, held, same, width, beginning, room, first, sym rest, piece) refl
