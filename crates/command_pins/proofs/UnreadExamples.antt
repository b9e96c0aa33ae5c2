-- A report that wasn't read to its end is told neither as faulty nor as too much to replay.
use Rattle.std.proofs.Common.{◌≡◌, ℕ, [], ◌∷◌, Some, subst}
use Rattle.std.specs.Prelude.{codes}
use Rattle.std.specs.Io.KnownBytes.{IsAtEnd}
use Rattle.air_devices.specs.Shelves.{ShelfState}
use Rattle.air_report.specs.declared.status.Status.TheVariants as status
use Rattle.air_cli.specs.Audit.{AuditCause}

left_over : IsAtEnd (Some (0 ∷ [])) → ⊥
left_over e = cc

not_too_much : (before now : ShelfState) (product : ℕ) → now.told.left (codes "r") ≡ Some (0 ∷ []) → AuditCause (codes "d") (codes "r") before now (status.TooMuch product) → ⊥
unfolding AuditCause
not_too_much before now product left cause = left_over (subst IsAtEnd left cause.0)

not_faulty : (before now : ShelfState) (row kind : ℕ) → now.told.left (codes "r") ≡ Some (0 ∷ []) → AuditCause (codes "d") (codes "r") before now (status.Report row kind) → ⊥
unfolding AuditCause
not_faulty before now row kind left cause = left_over (subst IsAtEnd left cause.0)
