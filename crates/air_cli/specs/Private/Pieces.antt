-- For private steps alone. A piece of a tape in its buffer, what a read adds to it, and what is so of the whole tape.
use Rattle.std.specs.Prelude.{◌≡◌, ◌≤◌, ◌<◌, ◌-◌, ◌⊎◌, ℕ, IsTrue, List, [], ◌++◌, length, take, drop, None, Option}
use Rattle.std.specs.Io.KnownBytes.{Consumes, IsAtEnd}
use Rattle.air_devices.specs.WhatIsTold.{ToldIs}
use Rattle.air_devices.specs.Shelves.{ShelfState}
use Rattle.air_model.specs.Tapes.{IsTape, ends_inside, tape_read}
use Rattle.air_report.specs.declared.status.Status.{Status}
use Rattle.air_report.specs.declared.status.Status.TheVariants as status

-- The bytes that were read and not dropped, and the number of bytes that there is room for.
pub record PieceBytes : Type 0 where
  pub bytes : List ℕ
  pub room : ℕ

-- A read added n bytes after those before. They are from the beginning of what was left of the file, if that is told. There are none only at its end.
pub record HasCome (n : ℕ) (before after : List ℕ) (left later : Option (List ℕ)) : Type 0 where
  pub bytes : List ℕ
  pub count : length bytes ≡ n
  pub behind : after ≡ before ++ bytes
  pub taken : Consumes left later bytes
  pub end : n ≡ 0 → IsAtEnd later

-- Nothing, or bytes that end inside their first record: there is no whole record at the beginning.
abbrev pub IsRest : List ℕ → Type 0
IsRest rest = (rest ≡ []) ⊎ IsTrue (ends_inside rest)

-- The first n bytes of a piece are the tape of all the records that the piece is read as.
pub record AreWholeRecords (piece : List ℕ) (n : ℕ) : Type 0 where
  pub within : n ≤ length piece
  pub whole : IsTape (take n piece) (tape_read piece).records
  pub rest : IsRest (drop n piece)

-- The last bytes of a tape of `len` bytes weren't heard, and the tape is cut where they begin.
abbrev pub IsCutBefore : List ℕ → ℕ → Status → Type 0
IsCutBefore rest len s = (0 < length rest) × (s ≡ status.TapeCut (len - length rest))

-- Some bytes, at most `most`, are a whole tape, and this holds of its records. If the named file is told, these are its bytes.
pub record IsOfTape (name : List ℕ) (most : ℕ) (shelf : ShelfState) (P : List (List ℕ) → Type 0) : Type 0 where
  pub bytes : List ℕ
  pub told : ToldIs (shelf.told.file name) bytes
  pub fits : length bytes ≤ most
  pub whole : (tape_read bytes).cut ≡ None
  pub so : P (tape_read bytes).records
