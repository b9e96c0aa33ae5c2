-- The pins of devices use two files, each known by its device and its inode.
use Rattle.air_devices.specs.declared.reading.read_files.FileId.{FileId}

-- The file that was read first, and the one after it, which are on one device.
abbrev pub first_read : FileId
first_read = record { device = 1; inode = 7 }

abbrev pub second_read : FileId
second_read = record { device = 1; inode = 8 }
