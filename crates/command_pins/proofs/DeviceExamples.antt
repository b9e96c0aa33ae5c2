-- Counts of a shelf of which only one went up, and a file that is told before it is read but not after that.
use Rattle.std.proofs.Common.{◌≡◌, ◌<◌, ◌≤◌, [], Some, arith}
use Rattle.std.specs.Prelude.{codes}
use Rattle.air_devices.specs.Contents.{Contents, nothing_told}
use Rattle.air_devices.specs.Counts.{Faults, KeepsCounts, NoCountFalls, one_count}
use Rattle.air_devices.specs.Reading.{IsTooLarge}

-- Three of each, and four readings or four writings.
abbrev read_once : Faults
read_once = record (one_count 3) { reading = λ _. 4 }

abbrev written_once : Faults
written_once = record (one_count 3) { writing = λ _. 4 }

-- With one more reading, or one more writing, the counts aren't kept.
not_kept : (KeepsCounts (one_count 3) read_once → ⊥) × (KeepsCounts (one_count 3) written_once → ⊥)
not_kept = (
  λ h. let same : 4 ≡ 3 = h.reading [] in omega (arith, same),
  λ h. let same : 4 ≡ 3 = h.writing [] in omega (arith, same),
)

-- With one less of either, a count goes down.
falls : (NoCountFalls read_once (one_count 3) → ⊥) × (NoCountFalls written_once (one_count 3) → ⊥)
falls = (
  λ h. let least : 4 ≤ 3 = h.reading [] in omega (arith, least),
  λ h. let least : 4 ≤ 3 = h.writing [] in omega (arith, least),
)

-- A file of three bytes, and all of it left.
abbrev of_three : Contents
of_three = record nothing_told { file = λ _. Some (codes "abc"); left = λ _. Some (codes "abc") }

-- It isn't too large if three are the most, regardless of what is told of it later.
not_too_large : IsTooLarge 3 (codes "deck") of_three nothing_told → ⊥
not_too_large h = let more : 3 < 3 = h.0 in omega (arith, more)
