-- A longer history has the same buckets in the cycles that the shorter one started, since it has the same fronts.
use Rattle.std.proofs.Common.{◌≡◌, ℕ, zero, suc, ◌+◌, ◌≤◌, cond, Option, Some, None, List, [], ◌∷◌, ◌++◌, get_or, false, refl, sym, ◌∙◌, ap, arith}
use Rattle.std.proofs.lemmas.List.Sums.{sum_by-cons}
use Rattle.air_base.specs.declared.verdicts.Policy.{Policy}
use Rattle.air_base.specs.declared.verdicts.Policy.TheVariants.{FMatrix, Datacycle, RMatrix}
use Rattle.air_history.specs.declared.histories.Event.{Event}
use Rattle.air_history.specs.declared.histories.Event.TheVariants.{Commit, Start}
use Rattle.air_history.specs.Histories.{front, is_start, starts}
use Rattle.air_history.specs.Columns.{aired_entries, column, group_column, has_groups, policy_entries, vector}
use Rattle.air_history.specs.Tables.{table, values_of}
use Rattle.air_history.specs.Reads.{read_value}
use Rattle.air_model.specs.Buckets.{Body, capped_bucket}
use Rattle.air_model.specs.Aired.{Air, aired_as, body_of, bucket_of, edition_at, slots_at}

starts_start : (H : List Event) → starts (Start ∷ H) ≡ 1 + starts H
unfolding starts is_start
starts_start H = sum_by-cons (λ e. cond (is_start e) 1 0) Start H

starts_commit : (H : List Event) (e : Event) → is_start e ≡ false → starts (e ∷ H) ≡ starts H
unfolding starts
starts_commit H e f = sum_by-cons (λ e. cond (is_start e) 1 0) e H ∙ ap (λ b. cond b 1 0 + starts H) f ∙ omega arith

no_starts : starts [] ≡ 0
unfolding starts
no_starts = refl

front_append : (H later : List Event) (c : ℕ) → c ≤ starts H → front (H ++ later) c ≡ front H c
unfolding front is_start
front_append H later zero l = refl
front_append [] later (suc c) l = let none = no_starts in absurd (omega arith)
front_append (Start ∷ H) later (suc zero) l = refl
front_append (Start ∷ H) later (suc (suc c)) l = ap (λ G. Start ∷ G) (front_append H later (suc c) (let more = starts_start H in omega arith))
front_append (Commit by seq u ∷ H) later (suc c) l = ap (λ G. Commit by seq u ∷ G) (front_append H later (suc c) (let same = starts_commit H (Commit by seq u) refl in omega arith))

-- What a policy airs with an item, by the front of the cycle.
policy_front : Policy → ℕ → List Event → ℕ → List ℕ
policy_front FMatrix n G item = column n G item
policy_front Datacycle n G item = vector n G
policy_front RMatrix n G item = vector n G

policy_is : (p : Policy) (n : ℕ) (H : List Event) (c item : ℕ) → policy_entries p n H c item ≡ policy_front p n (front H c) item
unfolding policy_front
policy_is FMatrix n H c item = refl
policy_is Datacycle n H c item = refl
policy_is RMatrix n H c item = refl

-- The body of a slot, by the front of its cycle.
body_by : (values : List ℕ) (air : Air) (G : List Event) (item : ℕ) → Body
body_by values air G item = aired_as air.scheme.policy item (table (values_of values) G item)
    (cond (has_groups air.scheme) (group_column air.scheme.group air.items G item) (policy_front air.scheme.policy air.items G item))

body_is : (values : List ℕ) (air : Air) (H : List Event) (c item : ℕ) →
    aired_as air.scheme.policy item (read_value (values_of values) H (record { item = item; cycle = c })) (aired_entries air.scheme air.items H c item) ≡ body_by values air (front H c) item
unfolding body_by
body_is values air H c item = ap (λ es. aired_as air.scheme.policy item (table (values_of values) (front H c) item)
    (cond (has_groups air.scheme) (group_column air.scheme.group air.items (front H c) item) es)) (policy_is air.scheme.policy air.items H c item)

body_later : (values : List ℕ) (air : Air) (H later : List Event) (c : ℕ) (o : Option ℕ) → c ≤ starts H → body_of values air (H ++ later) c o ≡ body_of values air H c o
unfolding body_of
body_later values air H later c None l = refl
body_later values air H later c (Some item) l =
    body_is values air (H ++ later) c item
    ∙ ap (λ G. body_by values air G item) (front_append H later c l)
    ∙ sym (body_is values air H c item)

pub later : (values : List ℕ) (air : Air) (H later : List Event) (v c s : ℕ) → c ≤ starts H →
    bucket_of values air (H ++ later) v c s ≡ bucket_of values air H v c s
unfolding bucket_of
later values air H more v c s l =
    ap (λ y. capped_bucket (record { version = v; edition = edition_at air c; cycle = c; slot = s; body = y })) (body_later values air H more c (get_or (slots_at air c) s None) l)
