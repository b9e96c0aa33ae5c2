-- Plain writes: a number's digits at a place, and the sign or the `=` that follows them.
use Rattle.std.proofs.Common.{◌≡◌, ◌<◌, ◌≤◌, ◌+◌, ℕ, List, Option, Some, None, IfSome, Bool, true, false, length, get_or, drop, refl, ap, ◌∙◌}
use Rattle.std.specs.Char.{is_ascii_digit}
use Rattle.air_base.specs.Numbers.{number_of}
use Rattle.air_base.specs.LeadingParts.{DigitsRead}
use Rattle.air_base.specs.ReadParts.{PlainAt}
use Rattle.air_base.proofs.LeadingNumberLemmas.{after_byte, leading_moved}
use Rattle.air_base.proofs.PlainNumbers.{byte_then, number_then}
use Rattle.air_history.specs.declared.updates.Write.{Write}
use Rattle.item_catalog.specs.declared.updates.leading_writes.WritePart.{WritePart}
use Rattle.item_catalog.specs.Private.WriteParts.{sign_of, write_said}
use Rattle.item_catalog.specs.Writes.{spelled_value_write, spelled_write, write_on_base}
use Rattle.item_catalog.proofs.LeadingWriteLemmas.{value_signed_leading, write_value_leading}

sign_other : (minus : Bool) → is_ascii_digit (sign_of minus) ≡ false
sign_other true = refl
sign_other false = refl

-- A number's digits were read at a place, and no digit follows them.
module _ (whole : List ℕ) (place behind len n : ℕ) (there : behind ≡ place + len) (read : DigitsRead (drop place whole) len n) (inside : behind ≤ length whole) (some : 0 < len)
    (alone : get_or (drop place whole) 0 0 ≡ 48 → len ≡ 1) where
  abbrev text : List ℕ
  text = drop place whole

  -- The write of an item, if a sign follows the digits, and a whole write, if a `=` does.
  pub value_plain : (item : ℕ) (minus : Bool) (f : ℕ × ℕ) → behind < length whole → get_or whole behind 0 ≡ sign_of minus → PlainAt number_of whole (behind + 1) f
      → PlainAt (spelled_value_write (Some item)) whole place (record { item = item; base = Some n; minus = minus; amount = f.0 }, f.1)
  value_plain item minus f more sign plain =
      let rest = drop (behind + 1) whole in
      let other = sign_other minus in
      let is = value_signed_leading text minus (Some item) rest (byte_then whole place behind len n there read inside some alone (sign_of minus) more sign other) in (
        leading_moved (spelled_value_write (Some item)) (λ part. write_on_base minus (Some item) (Some n) (number_of part)) text rest (Some (record { item = item; base = Some n; minus = minus; amount = f.0 }, drop f.1 whole))
            (is.0 ∙ rw (number_then whole place behind len n there read inside some alone (ap is_ascii_digit sign ∙ other)) refl) is.1 (rw plain.0.0 refl, plain.0.1),
        plain.1,
      )

  pub write_plain : (f : Write × ℕ) → behind < length whole → get_or whole behind 0 ≡ 61 → PlainAt (spelled_value_write (Some n)) whole (behind + 1) f → PlainAt spelled_write whole place f
  write_plain f more equals plain =
      let rest = drop (behind + 1) whole in
      let after = byte_then whole place behind len n there read inside some alone 61 more equals refl in
      (leading_moved spelled_write (spelled_value_write (Some n)) text rest (Some (f.0, drop f.1 whole)) (write_value_leading text rest after ∙ rw (number_then whole place behind len n there read inside some alone (ap is_ascii_digit equals)) refl) (after_byte text 61 rest after refl) plain.0, plain.1)

  pub all_plain : (r : Option (WritePart × ℕ)) → behind < length whole → get_or whole behind 0 ≡ 61 → IfSome r (λ f. PlainAt (spelled_value_write (Some n)) whole (behind + 1) (write_said f.0, f.1))
      → IfSome r (λ f. PlainAt spelled_write whole place (write_said f.0, f.1))
  all_plain None more equals plain = plain
  all_plain (Some f) more equals plain = write_plain (write_said f.0, f.1) more equals plain
