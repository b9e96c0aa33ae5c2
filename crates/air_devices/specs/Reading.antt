-- What a call that reads a whole file says of one that is too large.
use Rattle.std.specs.Prelude.{◌≡◌, ◌<◌, ◌+◌, ℕ, List, Some, drop, length}
use Rattle.air_devices.specs.Contents.{Contents}
use Rattle.air_devices.specs.WhatIsTold.{WhereTold}

-- The named file, if it is told, has more bytes than the limit, and was read up to the limit plus one byte.
abbrev pub IsTooLarge : ℕ → List ℕ → Contents → Contents → Type 0
IsTooLarge limit name before now = WhereTold (before.file name) (λ bytes. (limit < length bytes) × (now.left name ≡ Some (drop (limit + 1) bytes)))
