-- The lists that the kernels give, place by place, and a list from its places. Callers cite `greater_at` and `stamp_each_at`.
use Rattle.std.proofs.Common.{◌≡◌, ◌<◌, ◌==◌, ℕ, List, length, max, get_or, if◌then◌else◌, sym, ◌∙◌, arith}
use Rattle.std.proofs.lemmas.List.{ext_get_or}
use Rattle.std.proofs.lemmas.Simd.{get_or-zip2, length-zip2}
use Rattle.air_lanes.specs.Kernels.{greater_of_each, stamp_each}

pub greater_at : (xs ys : List ℕ) (k : ℕ) → length ys ≡ length xs → k < length xs → get_or (greater_of_each xs ys) k 0 ≡ max (get_or xs k 0) (get_or ys k 0)
greater_at xs ys k same l = get_or-zip2 max xs ys k 0 0 0 l (omega arith)

pub stamp_each_at : (cycle : ℕ) (marks xs : List ℕ) (k : ℕ) → length marks ≡ length xs → k < length xs →
    get_or (stamp_each cycle marks xs) k 0 ≡ (if get_or marks k 0 == 0 then get_or xs k 0 else cycle)
stamp_each_at cycle marks xs k same l = get_or-zip2 (λ mark x. if mark == 0 then x else cycle) marks xs k 0 0 0 (omega arith) l

pub greater_by_places : (new xs ys : List ℕ) → length new ≡ length xs → length ys ≡ length xs →
    ((k : ℕ) → k < length xs → get_or new k 0 ≡ max (get_or xs k 0) (get_or ys k 0)) → new ≡ greater_of_each xs ys
greater_by_places new xs ys long same each =
    let whole = length-zip2 max xs ys (sym same) in
    ext_get_or 0 new (greater_of_each xs ys) (long ∙ sym whole) (λ k l. let below : k < length xs = omega arith in each k below ∙ sym (greater_at xs ys k same below))

pub stamped_by_places : (cycle : ℕ) (new marks xs : List ℕ) → length new ≡ length xs → length marks ≡ length xs →
    ((k : ℕ) → k < length xs → get_or new k 0 ≡ (if get_or marks k 0 == 0 then get_or xs k 0 else cycle)) → new ≡ stamp_each cycle marks xs
stamped_by_places cycle new marks xs long same each =
    let whole = length-zip2 (λ mark x. if mark == 0 then x else cycle) marks xs same in
    ext_get_or 0 new (stamp_each cycle marks xs) (long ∙ sym (whole ∙ same)) (λ k l. let below : k < length xs = omega arith in each k below ∙ sym (stamp_each_at cycle marks xs k same below))
