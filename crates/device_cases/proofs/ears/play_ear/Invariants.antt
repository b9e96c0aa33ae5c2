use Rattle.std.proofs.Common.{IsSome}
use Rattle.device_cases.proofs.ears.play_ear.Given as goal

abbrev pub invariant-loop : goal.invariant-loop
invariant-loop l = IsSome l.ear.port
