-- One file of a shelf in memory is read up to another place, or one output is written: what the shelf then tells.
use Rattle.std.proofs.Common.{◌≤◌, ◌↔◌, Bool, IsTrue, ◌≡◌, ◌≢◌, ◌<◌, ◌+◌, ◌-◌, ◌++◌, ◌∙◌, inl, inr, ℕ, List, [], Option, Some, None, true, false, drop, take, take-append-drop, get_or, length, map, min, set, string_bytes, position, sym, ap, arith, refl, String, Vec, vec_len}
use Rattle.std.proofs.lemmas.List.{drop-drop, drop_all}
use Rattle.std.specs.List.{find}
use Rattle.std.specs.Option.{is_none, option_map}
use Rattle.std.proofs.lemmas.Bool.{cases_Bool}
use Rattle.std.proofs.lemmas.List.Folds.{find_past}
use Rattle.std.proofs.lemmas.List.Quantifiers.{position-Some}
use Rattle.std.specs.Cmp.Lexicographic.{same_text}
use Rattle.std.specs.Global.{Global}
use Rattle.air_devices.specs.Memory.{empty_output, file_bytes, file_named, given_bytes, given_named, left_bytes, output_bytes, output_named, overflows, spells, unpicked_file}
use Rattle.air_devices.specs.WrittenBytes.{WrittenBytes}
use Rattle.air_devices.specs.declared.memory.shelf.MemFile.{MemFile}
use Rattle.air_devices.specs.declared.memory.shelf.MemOutput.{MemOutput}
use Rattle.air_devices.proofs.NamedLemmas.{asked_kept, found, found_image, found_nowhere, found_written, value_kept}

-- A text spells only one name.
other_name : (text : String Global) (m n : List ℕ) → m ≢ n → spells n text ≡ true → spells m text ≡ false
other_name text m n other named =
    elim (cases_Bool (spells m text)) [
      | inl same ↦ absurd (other (sym (same_text (string_bytes text) m (sym same)) ∙ same_text (string_bytes text) n (sym named)))
      | inr differs ↦ differs
    ]

-- The file d of the name n was read up to another place.
pub record FileMoved (files after : List MemFile) (d : MemFile) (to : ℕ) (n : List ℕ) : Type 0 where
  pub was : left_bytes (file_named n files) ≡ drop d.at d.bytes.items
  pub now : left_bytes (file_named n after) ≡ drop to d.bytes.items
  pub whole : file_bytes (file_named n files) ≡ d.bytes.items
  pub others : (m : List ℕ) → m ≢ n → left_bytes (file_named m after) ≡ left_bytes (file_named m files)
  pub bytes : (m : List ℕ) → file_bytes (file_named m after) ≡ file_bytes (file_named m files)
  pub names : map (λ f. string_bytes f.name) after ≡ map (λ f. string_bytes f.name) files
  pub there : is_none (file_named n files) ≡ false

pub file_moved : (files : List MemFile) (i to : ℕ) (d : MemFile) (n : List ℕ) → position (λ f. spells n f.name) files ≡ Some i → d ≡ get_or files i d
    → FileMoved files (set files i (record d { at = to })) d to n
file_moved files i to d n place here =
    let at = position-Some (λ (f : MemFile). spells n f.name) files i d place in
    let named : spells n d.name ≡ true = ap (λ (f : MemFile). spells n f.name) here ∙ at.1 in
    let find_was = found (λ (f : MemFile). spells n f.name) files i d place here in
    let find_now = found_written (λ (f : MemFile). spells n f.name) files i d (record d { at = to }) place named in
    record {
      was = ap left_bytes find_was;
      now = ap left_bytes find_now;
      whole = ap file_bytes find_was;
      others = λ m other.
          let away = other_name d.name m n other named in
          ap left_bytes (find_past (λ (f : MemFile). spells m f.name) files i (record d { at = to }) d (ap (λ (f : MemFile). spells m f.name) (sym here) ∙ away) away);
      bytes = λ m. value_kept (λ (f : MemFile). spells m f.name) file_bytes files i d (record d { at = to }) (ap (λ (f : MemFile). spells m f.name) here) (ap (λ (f : MemFile). file_bytes (Some f)) here);
      names = asked_kept (λ (f : MemFile). string_bytes f.name) files i d (record d { at = to }) (ap (λ (f : MemFile). string_bytes f.name) here);
      there = ap is_none find_was;
    }

-- No file has the name n.
pub nothing_left : (files : List MemFile) (n : List ℕ) → position (λ f. spells n f.name) files ≡ None → left_bytes (file_named n files) ≡ []
nothing_left files n none = ap left_bytes (found_nowhere (λ (f : MemFile). spells n f.name) files none)

pub file_absent : (files : List MemFile) (n : List ℕ) → position (λ f. spells n f.name) files ≡ None → is_none (file_named n files) ≡ true
file_absent files n none = ap is_none (found_nowhere (λ (f : MemFile). spells n f.name) files none)

-- What a read of k bytes from the beginning of what is left takes, and when that is nothing.
pub record BeginningTaken (before after : List ℕ) (k : ℕ) (buf : List ℕ) : Type 0 where
  pub bytes : before ≡ take k buf ++ after
  pub end : k ≡ 0 → 0 < length buf → after ≡ []

pub beginning_taken : (files after : List MemFile) (d : MemFile) (k : ℕ) (n buf : List ℕ) → FileMoved files after d (d.at + k) n
    → k ≡ min (length d.bytes.items - d.at) (length buf) → take k buf ≡ take k (drop d.at d.bytes.items)
    → BeginningTaken (left_bytes (file_named n files)) (left_bytes (file_named n after)) k buf
beginning_taken files after d k n buf moved count beginning =
    rw (moved.was, moved.now) (record {
      bytes = sym (take-append-drop k (drop d.at d.bytes.items)) ∙ ap (λ l. take k (drop d.at d.bytes.items) ++ l) (drop-drop k d.at d.bytes.items) ∙ ap (λ l. l ++ drop (d.at + k) d.bytes.items) (sym beginning);
      end = λ none room. drop_all (d.at + k) d.bytes.items (omega arith);
    })

-- If not all fit, the bytes are past the room.
pub past_room : (whole : Bool) (before : WrittenBytes) (bytes : List ℕ) → whole ≡ false → IsTrue whole ↔ (length before.bytes + length bytes ≤ before.room) → overflows before bytes ≡ true
past_room whole before bytes cut told =
    elim (cases_Bool (overflows before bytes)) [
      | inl past ↦ past
      | inr within ↦ let fits : length before.bytes + length bytes ≤ before.room = grind arith in let all : whole ≡ true = told.1 fits in cc
    ]

-- The output d of the name n was written.
pub record OutputWritten (outputs after : List MemOutput) (d : MemOutput) (to : WrittenBytes) (n : List ℕ) : Type 0 where
  pub was : output_bytes (output_named n outputs) ≡ d.written.bytes
  pub now : output_bytes (output_named n after) ≡ to.bytes
  pub others : (m : List ℕ) → m ≢ n → output_bytes (output_named m after) ≡ output_bytes (output_named m outputs)
  pub names : map (λ o. string_bytes o.name) after ≡ map (λ o. string_bytes o.name) outputs
  pub rooms : to.room ≡ d.written.room → map (λ o. o.written.room) after ≡ map (λ o. o.written.room) outputs
  pub there : output_named n outputs ≡ Some d

pub output_absent : (outputs : List MemOutput) (n : List ℕ) → position (λ o. spells n o.name) outputs ≡ None → output_named n outputs ≡ None
output_absent outputs n none = found_nowhere (λ (o : MemOutput). spells n o.name) outputs none

pub output_written : (outputs : List MemOutput) (i : ℕ) (to : WrittenBytes) (d : MemOutput) (n : List ℕ) → position (λ o. spells n o.name) outputs ≡ Some i → d ≡ get_or outputs i d
    → OutputWritten outputs (set outputs i (record d { written = to })) d to n
output_written outputs i to d n place here =
    let at = position-Some (λ (o : MemOutput). spells n o.name) outputs i d place in
    let named : spells n d.name ≡ true = ap (λ (o : MemOutput). spells n o.name) here ∙ at.1 in
    let find_was = found (λ (o : MemOutput). spells n o.name) outputs i d place here in
    record {
      names = asked_kept (λ (o : MemOutput). string_bytes o.name) outputs i d (record d { written = to }) (ap (λ (o : MemOutput). string_bytes o.name) here);
      rooms = λ same. asked_kept (λ (o : MemOutput). o.written.room) outputs i d (record d { written = to }) (same ∙ ap (λ (o : MemOutput). o.written.room) here);
      there = find_was;
      was = ap output_bytes find_was;
      now = ap output_bytes (found_written (λ (o : MemOutput). spells n o.name) outputs i d (record d { written = to }) place named);
      others = λ m other.
          let away = other_name d.name m n other named in
          ap output_bytes (find_past (λ (o : MemOutput). spells m o.name) outputs i (record d { written = to }) d (ap (λ (o : MemOutput). spells m o.name) (sym here) ∙ away) away);
    }

-- The shelf has the given files, and nothing is left of them.
pub given_file : (given : List (String Global × Vec ℕ Global)) (n : List ℕ) → file_bytes (file_named n (map unpicked_file given)) ≡ given_bytes (given_named n given)
given_file given n = ap file_bytes (found_image unpicked_file (λ (f : MemFile). spells n f.name) given) ∙ by (given_named n given)
  where
    by : (o : Option (String Global × Vec ℕ Global)) → file_bytes (option_map unpicked_file o) ≡ given_bytes o
    by None = refl
    by (Some f) = refl

pub given_left : (given : List (String Global × Vec ℕ Global)) (n : List ℕ) → left_bytes (file_named n (map unpicked_file given)) ≡ []
given_left given n = ap left_bytes (found_image unpicked_file (λ (f : MemFile). spells n f.name) given) ∙ by (given_named n given)
  where
    by : (o : Option (String Global × Vec ℕ Global)) → left_bytes (option_map unpicked_file o) ≡ []
    by None = refl
    by (Some f) = let size : vec_len f.1 ≡ length f.1.items = f.1.ok.0 in drop_all (vec_len f.1) f.1.items (omega arith)

-- A given output has no bytes.
pub given_output : (names : List (String Global)) (room : ℕ) (n : List ℕ) → output_bytes (output_named n (map (empty_output room) names)) ≡ []
given_output names room n = ap output_bytes (found_image (empty_output room) (λ (o : MemOutput). spells n o.name) names) ∙ by (find (λ name. spells n name) names)
  where
    by : (o : Option (String Global)) → output_bytes (option_map (empty_output room) o) ≡ []
    by None = refl
    by (Some name) = refl
