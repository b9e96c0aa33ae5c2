use Rattle.std.proofs.Common.{◌≡◌, ◌≤◌, ◌<◌, ◌^◌, take}
use Rattle.disk_split.proofs.MinorLemmas.{common_of}
use Rattle.disk_split.proofs.numbers.minors.Given as goal

abbrev pub invariant-loop-disk : goal.invariant-loop-disk
invariant-loop-disk l = record {
  counted : l.minors ≡ common_of (take l.disk l.deck.disks);
  some : 0 < l.minors;
  under : l.minors ≤ 64 ^ l.disk;
}
