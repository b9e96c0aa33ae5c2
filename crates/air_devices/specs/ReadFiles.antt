-- Which files were read: each is identified by its device and its number there.
use Rattle.std.specs.Prelude.{◌==◌, ◌&&◌, List, Bool}
use Rattle.std.specs.List.{list_any}
use Rattle.air_devices.specs.declared.reading.read_files.FileId.{FileId}

-- Whether this file is one of these.
abbrev pub is_among : FileId → List FileId → Bool
is_among id ids = list_any (λ read. read.device == id.device && read.inode == id.inode) ids
