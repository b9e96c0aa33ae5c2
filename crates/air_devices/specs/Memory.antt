-- What a shelf in memory tells: everything. If several files or outputs have one name, the first is meant. For a name that none
-- has, the shelf tells that there are no bytes.
use Rattle.std.specs.Prelude.{◌≡◌, length, map, true, nat_lt, ◌+◌, ◌-◌, if◌then◌else◌, take, ℕ, List, [], Bool, Option, Some, None, Vec, String, drop, nat_eq, string_bytes, vec_len}
use Rattle.std.specs.Cmp.Lexicographic.{pointwise}
use Rattle.std.specs.Global.{Global}
use Rattle.std.specs.List.{find}
use Rattle.air_devices.specs.WrittenBytes.{WrittenBytes}
use Rattle.air_devices.specs.Calls.{AreNewCalls, IsNextCall, is_next_listed}
use Rattle.air_devices.specs.Contents.{Contents}
use Rattle.air_devices.specs.Counts.{Faults, one_count}
use Rattle.air_devices.specs.Shelves.{ShelfState}
use Rattle.air_devices.specs.declared.memory.calls.Calls.{Calls}
use Rattle.air_devices.specs.declared.memory.shelf.MemFile.{MemFile}
use Rattle.air_devices.specs.declared.memory.shelf.MemOutput.{MemOutput}
use Rattle.air_devices.specs.declared.memory.shelf.MemShelf.{MemShelf}

-- Whether a text has these bytes.
abbrev pub spells : List ℕ → String Global → Bool
spells name text = pointwise nat_eq (string_bytes text) name

-- The first file of this name.
abbrev pub file_named : List ℕ → List MemFile → Option MemFile
file_named name files = find (λ f. spells name f.name) files

-- The first output of this name.
abbrev pub output_named : List ℕ → List MemOutput → Option MemOutput
output_named name outputs = find (λ o. spells name o.name) outputs

-- The first given file of this name.
abbrev pub given_named : List ℕ → List (String Global × Vec ℕ Global) → Option (String Global × Vec ℕ Global)
given_named name files = find (λ f. spells name f.0) files

-- The bytes of a file; no bytes if there is no file.
abbrev pub file_bytes : Option MemFile → List ℕ
file_bytes None = []
file_bytes (Some f) = f.bytes.items

-- What is left to read of a file; nothing if there is no file.
abbrev pub left_bytes : Option MemFile → List ℕ
left_bytes None = []
left_bytes (Some f) = drop f.at f.bytes.items

-- The bytes of an output; no bytes if there is no output.
abbrev pub output_bytes : Option MemOutput → List ℕ
output_bytes None = []
output_bytes (Some o) = o.written.bytes

-- The bytes of a given file; no bytes if there is none.
abbrev pub given_bytes : Option (String Global × Vec ℕ Global) → List ℕ
given_bytes None = []
given_bytes (Some f) = f.1.items

-- What these files, these outputs and these printed bytes tell.
abbrev pub contents_with : List MemFile → List MemOutput → List ℕ → Contents
contents_with files outputs printed = record {
  file = λ name. Some (file_bytes (file_named name files));
  left = λ name. Some (left_bytes (file_named name files));
  output = λ name. Some (output_bytes (output_named name outputs));
  printed = Some printed;
}

-- What a shelf in memory tells.
abbrev pub told_by : MemShelf → Contents
told_by s = contents_with s.files.items s.outputs.items s.printed.bytes

-- A given file, of which nothing is left to read before it is picked.
abbrev pub unpicked_file : String Global × Vec ℕ Global → MemFile
unpicked_file f = record { name = f.0; bytes = f.1; at = vec_len f.1 }

-- An output with no bytes, and with room for this many.
abbrev pub empty_output : ℕ → String Global → MemOutput
empty_output room name = record { name = name; written = record { bytes = []; room = room } }

-- How often the calls of a shelf in memory failed.
abbrev pub faults_of : MemShelf → Faults
faults_of s = one_count s.calls.faults

-- A shelf in memory, as a call finds or leaves it.
abbrev pub shelved_of : MemShelf → ShelfState
shelved_of s = record { told = told_by s; faults = faults_of s }

-- The file of this name on a shelf.
abbrev pub file_in : List ℕ → MemShelf → Option MemFile
file_in name s = file_named name s.files.items

-- The output of this name on a shelf.
abbrev pub output_in : List ℕ → MemShelf → Option MemOutput
output_in name s = output_named name s.outputs.items

-- A shelf has just been made, with these files, these outputs, this room and these numbers of calls that fail.
pub record IsNewShelf (given : List (String Global × Vec ℕ Global)) (named : List (String Global)) (room : ℕ) (listed : List ℕ) (s : MemShelf) : Type 0 where
  pub files : s.files.items ≡ map unpicked_file given
  pub outputs : s.outputs.items ≡ map (empty_output room) named
  pub printed : s.printed ≡ record { bytes = []; room = room }
  pub calls : AreNewCalls listed s.calls

-- Whether there is no room for all of the bytes after those that were written.
abbrev pub overflows : WrittenBytes → List ℕ → Bool
overflows written bytes = nat_lt written.room (length written.bytes + length bytes)

-- What a call adds of these bytes to those that were written: nothing if the call is listed, otherwise what fits.
abbrev pub added_bytes : Calls → WrittenBytes → List ℕ → List ℕ
added_bytes calls written bytes = if is_next_listed calls then [] else take (written.room - length written.bytes) bytes

-- Whether there is no output, or it has no room for all of the bytes.
abbrev pub overflows_output : Option MemOutput → List ℕ → Bool
overflows_output None bytes = true
overflows_output (Some o) bytes = overflows o.written bytes

-- Whether there is no room for all of the bytes after the printed ones.
abbrev pub overflows_print : MemShelf → List ℕ → Bool
overflows_print s bytes = overflows s.printed bytes

-- The names of the files.
abbrev pub file_names : MemShelf → List (List ℕ)
file_names s = map (λ f. string_bytes f.name) s.files.items

-- The names of the outputs.
abbrev pub output_names : MemShelf → List (List ℕ)
output_names s = map (λ o. string_bytes o.name) s.outputs.items

-- How many bytes there is room for in each output.
abbrev pub output_rooms : MemShelf → List ℕ
output_rooms s = map (λ o. o.written.room) s.outputs.items

-- One call was made; the names and the rooms are unchanged.
pub record MadeShelfCall (before now : MemShelf) : Type 0 where
  pub calls : IsNextCall before.calls now.calls
  pub files : file_names now ≡ file_names before
  pub outputs : output_names now ≡ output_names before
  pub rooms : output_rooms now ≡ output_rooms before
  pub room : now.printed.room ≡ before.printed.room
