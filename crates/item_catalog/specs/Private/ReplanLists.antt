-- For private steps only. The two lists of a replan while they are read. Of each list one part more is kept than a replan may
-- have disks, so lists that are too long can be told from others.
use Rattle.std.specs.Prelude.{◌≡◌, ◌+◌, ◌++◌, ◌∷◌, [], List, Bool, false, Option, Some, None, length, nat_le, take, if◌then◌else◌}
use Rattle.std.specs.List.{list_any}
use Rattle.air_base.specs.declared.limits.TheConstants.{MOST_DISKS}

-- The parts that are kept of a list.
abbrev pub kept_parts : {A : Type 0} → List A → List A
kept_parts parts = take (MOST_DISKS + 1) parts

-- One more part, if there is room for it.
abbrev pub keep_part : {A : Type 0} → List A → A → List A
keep_part kept part = if nat_le (length kept) MOST_DISKS then kept ++ part ∷ [] else kept

-- A reader of a list answers whether some part is wrong; if none is, it has kept the first parts. It answers None if the text
-- spells no list.
abbrev pub PartsRead : {A : Type 0} → (A → Bool) → Option Bool → Option (List A) → List A → Type 0
PartsRead is_wrong read None kept = read ≡ None
PartsRead is_wrong read (Some parts) kept = (read ≡ Some (list_any is_wrong parts)) × (list_any is_wrong parts ≡ false → kept ≡ kept_parts parts)
