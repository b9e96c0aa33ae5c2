use Rattle.air_history.proofs.ClosureLemmas.{closure}
use Rattle.air_history.proofs.laws.descent_law.Goals as goal

pub returns : goal.returns
returns c = record {
  itself = λ G p. (closure G p).itself;
  closed = λ G p. (closure G p).closed;
  least = λ G p. (closure G p).least;
}
