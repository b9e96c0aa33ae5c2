use Rattle.std.proofs.Common.{◌≡◌, drop}
use Rattle.std.specs.List.{list_all}
use Rattle.air_history.specs.UpdateRules.{base_is_read}
use Rattle.air_history.proofs.updates.all_based.Given as goal

abbrev pub invariant-loop-write : goal.invariant-loop-write
invariant-loop-write l = list_all (base_is_read l.reads) (drop l.write-index l.writes) ≡ list_all (base_is_read l.reads) l.writes
