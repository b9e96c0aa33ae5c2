-- One more file among those that were read.
use Rattle.std.proofs.Common.{◌≡◌, ◌++◌, ◌∙◌, List, [], ◌∷◌, true, refl, ap, rules}
use Rattle.std.specs.Prelude.{◌==◌, ◌&&◌}
use Rattle.std.proofs.lemmas.List.Folds.{list_any-append}
use Rattle.air_devices.specs.ReadFiles.{is_among}
use Rattle.air_devices.specs.declared.reading.read_files.FileId.{FileId}

-- The file that was added is one of them.
pub is_added : (id : FileId) (before now : List FileId) → now ≡ before ++ id ∷ [] → is_among id now ≡ true
is_added id before now more = ap (is_among id) more ∙ list_any-append (λ (read : FileId). read.device == id.device && read.inode == id.inode) before (id ∷ []) ∙ search rules

-- The files that were there stay.
pub stays_among : (other id : FileId) (before now : List FileId) → now ≡ before ++ id ∷ [] → is_among other before ≡ true → is_among other now ≡ true
stays_among other id before now more there = ap (is_among other) more ∙ list_any-append (λ (read : FileId). read.device == other.device && read.inode == other.inode) before (id ∷ []) ∙ rw there refl
