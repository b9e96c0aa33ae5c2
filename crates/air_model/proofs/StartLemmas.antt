-- How many starts a list of events has.
use Rattle.std.proofs.Common.{◌≡◌, suc, ◌+◌, cond, List, [], ◌∷◌, ◌++◌, false, refl, ◌∙◌, ap, arith}
use Rattle.std.proofs.lemmas.List.Sums.{sum_by-append, sum_by-cons}
use Rattle.air_history.specs.declared.histories.Event.{Event}
use Rattle.air_history.specs.declared.histories.Event.TheVariants.{Start}
use Rattle.air_history.specs.Histories.{is_start, starts}

pub starts_none : starts [] ≡ 0
unfolding starts
starts_none = refl

pub starts_one : starts (Start ∷ []) ≡ 1
unfolding starts is_start
starts_one = refl

pub starts_start : (H : List Event) → starts (Start ∷ H) ≡ suc (starts H)
unfolding starts is_start
starts_start H = sum_by-cons (λ e. cond (is_start e) 1 0) Start H ∙ omega arith

pub starts_commit : (H : List Event) (e : Event) → is_start e ≡ false → starts (e ∷ H) ≡ starts H
unfolding starts
starts_commit H e f = sum_by-cons (λ e. cond (is_start e) 1 0) e H ∙ ap (λ b. cond b 1 0 + starts H) f ∙ omega arith

pub starts_append : (H later : List Event) → starts (H ++ later) ≡ starts H + starts later
unfolding starts
starts_append H later = sum_by-append (λ e. cond (is_start e) 1 0) H later
