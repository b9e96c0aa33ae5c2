-- One more record at the end of a tape: what the tape is read as, how long it is, and what the fields then hold. A room of
-- fixed size needs `tape_more`, `tape_room` and `recording_is`.
use Rattle.std.proofs.Common.{◌≡◌, ◌≤◌, ◌<◌, ◌+◌, ◌*◌, ◌^◌, ◌++◌, ◌∙◌, ℕ, List, [], ◌∷◌, length, sym, ap, arith, append_assoc, length-append, vec_capacity}
use Rattle.std.proofs.lemmas.List.{append-nil}
use Rattle.std.proofs.lemmas.List.Elements.{All-append, All-cons, All-nil}
use Rattle.std.proofs.lemmas.Grind.{flat_map-append}
use Rattle.std.specs.Int.{bytes_high_first}
use Rattle.air_model.specs.Tapes.{IsTape, record_bytes, tape_of, tape_read}
use Rattle.air_model.proofs.TapeLemmas.{length_record, whole_read}
use Rattle.air_devices.specs.Recordings.{IsTapeRoom, Recording, recording_in}
use Rattle.air_devices.specs.declared.rooms.tape_room.TapeRoom.TheInside.{Inside}

-- The tape of some records is read as these.
pub read_whole : (tape : List ℕ) (rs : List (List ℕ)) → IsTape tape rs → (tape_read tape).records ≡ rs
read_whole tape rs is = ap (λ t. (tape_read t).records) is.1 ∙ ap (λ read. read.records) (whole_read rs (length (tape_of rs)) 0 is.0 (omega arith))

-- Each record takes at least four bytes.
pub many_bytes : (rs : List (List ℕ)) → 4 * length rs ≤ length (tape_of rs)
unfolding tape_of
many_bytes [] = omega arith
many_bytes (r ∷ rs) = let rest = many_bytes rs in omega (arith, length_record r (tape_of rs))

-- The tape of records and one more.
pub tape_push : (rs : List (List ℕ)) (r : List ℕ) → tape_of (rs ++ r ∷ []) ≡ tape_of rs ++ record_bytes r
unfolding tape_of
tape_push rs r = flat_map-append record_bytes rs (r ∷ []) ∙ ap (λ l. tape_of rs ++ l) (append-nil (record_bytes r))

pub length_push : (rs : List (List ℕ)) (r : List ℕ) → length (tape_of (rs ++ r ∷ [])) ≡ length (tape_of rs) + (4 + length r)
length_push rs r = ap length (tape_push rs r) ∙ length-append (tape_of rs) (record_bytes r) ∙ (let long = length_record r [] in omega (arith, long, ap length (append-nil (record_bytes r))))

pub tape_more : (tape after : List ℕ) (rs : List (List ℕ)) (r : List ℕ) → IsTape tape rs → length r < 2 ^ 32 → after ≡ tape ++ record_bytes r → IsTape after (rs ++ r ∷ [])
tape_more tape after rs r is short e = (
  All-append (λ r. length r < 2 ^ 32) rs (r ∷ []) is.0 (All-cons (λ r. length r < 2 ^ 32) r [] short (All-nil _)),
  e ∙ ap (λ l. l ++ record_bytes r) is.1 ∙ sym (tape_push rs r),
)

-- The four bytes of the length and then the record were put at the end of the tape.
pub record_put : (tape first after frame r : List ℕ) → frame ≡ bytes_high_first 4 (length r) → first ≡ tape ++ frame → after ≡ first ++ r → after ≡ tape ++ record_bytes r
unfolding record_bytes
record_put tape first after frame r framed one two = two ∙ ap (λ l. l ++ r) (one ∙ ap (λ l. tape ++ l) framed) ∙ append_assoc tape (bytes_high_first 4 (length r)) r

-- The fields of a room whose tape is that of these records.
pub tape_room : (t : Inside) (rs : List (List ℕ)) → IsTape t.tape.items rs → t.count ≡ length rs → length t.tape.items ≤ t.room → t.room ≤ vec_capacity t.tape → IsTapeRoom t
tape_room t rs is counted within taken =
    let read = read_whole t.tape.items rs is in
    record {
      whole = (simp read is.0, is.1 ∙ ap tape_of (sym read));
      counted = counted ∙ ap length (sym read);
      within = within;
      taken = taken;
    }

pub recording_is : (t : Inside) (rs : List (List ℕ)) → IsTape t.tape.items rs → recording_in t ≡ record { records = rs; room = t.room }
recording_is t rs is = ap (λ (l : List (List ℕ)). let x : Recording = record { records = l; room = t.room } in x) (read_whole t.tape.items rs is)
