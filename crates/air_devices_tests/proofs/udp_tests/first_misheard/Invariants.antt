use Rattle.std.proofs.Common.{IsSome}
use Rattle.air_devices_tests.proofs.udp_tests.first_misheard.Given as goal

abbrev pub invariant-loop-place : goal.invariant-loop-place
invariant-loop-place g l = let E = g.E.Ear in IsSome (E.state l.ear).port
