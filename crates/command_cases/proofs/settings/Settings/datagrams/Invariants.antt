use Rattle.std.proofs.Common.{◌≤◌, length, All}
use Rattle.command_cases.proofs.settings.Settings.datagrams.Given as goal

abbrev pub invariant-loop-bytes : goal.invariant-loop-bytes
invariant-loop-bytes l = All (λ bytes. 1 ≤ length bytes.items) l.all.items
