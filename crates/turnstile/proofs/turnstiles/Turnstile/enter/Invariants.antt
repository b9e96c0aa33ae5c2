use Rattle.std.proofs.Common.{◌≡◌}
use Rattle.turnstile.proofs.turnstiles.Turnstile.enter.Given as goal

-- A load that finds another ticket leaves the seat as it is.
abbrev pub invariant-loop : goal.invariant-loop
invariant-loop g l = (l.pass-inside.seat.table_id ≡ l.initial.pass-inside.seat.table_id) × (l.pass-inside.seat.me ≡ l.initial.pass-inside.seat.me)
