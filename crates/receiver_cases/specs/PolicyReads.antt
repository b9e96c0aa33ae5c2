-- Held reads that are checked by a policy, as contracts see them: the policy, the reads, and the least cycle of a further one.
use Rattle.std.specs.Prelude.{ℕ, map}
use Rattle.air_base.specs.declared.verdicts.Policy.{Policy}
use Rattle.air_base.specs.declared.verdicts.Policy.TheVariants.{FMatrix, Datacycle, RMatrix}
use Rattle.air_history.specs.Clashes.{read_at}
use Rattle.air_history.specs.HeldReads.{HeldReads}
use Rattle.air_history.specs.Reads.{last_cycle}
use Rattle.receiver_cases.specs.declared.held.PolicyHeld.{PolicyHeld}
use Rattle.receiver_cases.specs.declared.held.PolicyHeld.TheVariants as by_policy

-- The policy that checks them.
abbrev pub policy_of : PolicyHeld → Policy
policy_of (by_policy.FMatrix held) = FMatrix
policy_of (by_policy.Datacycle held) = Datacycle
policy_of (by_policy.RMatrix held) = RMatrix

-- The held reads, regardless of the policy.
abbrev pub held_of : PolicyHeld → HeldReads
held_of (by_policy.FMatrix held) = held
held_of (by_policy.Datacycle held) = held
held_of (by_policy.RMatrix held) = held

-- The least cycle of a further read: under R-Matrix that of the last held one.
abbrev pub least_cycle : PolicyHeld → ℕ
least_cycle (by_policy.FMatrix held) = 0
least_cycle (by_policy.Datacycle held) = 0
least_cycle (by_policy.RMatrix held) = last_cycle (map read_at held.reads)
