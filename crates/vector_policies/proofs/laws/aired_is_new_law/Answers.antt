use Rattle.std.proofs.Common.{refl}
use Rattle.air_base.specs.declared.verdicts.Policy.TheVariants.{Datacycle, RMatrix}
use Rattle.air_history.specs.Columns.{scheme_of}
use Rattle.air_history.proofs.AgeLemmas.{full_is_capped}
use Rattle.vector_policies.proofs.NewLemmas.{vector_is_new}
use Rattle.vector_policies.proofs.laws.aired_is_new_law.Goals as goal

pub returns-clause-capped_datacycle : goal.returns-clause-capped_datacycle
returns-clause-capped_datacycle c = λ held H x heard free. vector_is_new (scheme_of Datacycle) held H x (λ i. refl) heard free

pub returns-clause-capped_r_matrix : goal.returns-clause-capped_r_matrix
returns-clause-capped_r_matrix c = λ held H x heard free. vector_is_new (scheme_of RMatrix) held H x (λ i. refl) heard free

pub returns-clause-datacycle : goal.returns-clause-datacycle
returns-clause-datacycle c = λ held H x heard free. vector_is_new (scheme_of Datacycle) held H x (λ i. refl) (full_is_capped (scheme_of Datacycle) held.n H x heard) free

pub returns-clause-r_matrix : goal.returns-clause-r_matrix
returns-clause-r_matrix c = λ held H x heard free. vector_is_new (scheme_of RMatrix) held H x (λ i. refl) (full_is_capped (scheme_of RMatrix) held.n H x heard) free
