-- Frames of boards.
use Rattle.std.proofs.Common.{◌≡◌, ℕ, zero, suc, ◌<◌, List, [], ◌∷◌, length, get_or, map, ap, ◌∙◌, arith}
use Rattle.air_history.specs.Boards.{Frame}

-- Frames with equal fields are equal.
pub same_frame : (a b : Frame) → a.cycle ≡ b.cycle → a.values ≡ b.values → a.columns ≡ b.columns → a.total ≡ b.total → a ≡ b
same_frame a b p q r s =
    ap (λ (m : ℕ). let x : Frame = record { cycle = m; values = a.values; columns = a.columns; total = a.total } in x) p
    ∙ ap (λ (m : List ℕ). let x : Frame = record { cycle = b.cycle; values = m; columns = a.columns; total = a.total } in x) q
    ∙ ap (λ (m : List (List ℕ)). let x : Frame = record { cycle = b.cycle; values = b.values; columns = m; total = a.total } in x) r
    ∙ ap (λ (m : ℕ). let x : Frame = record { cycle = b.cycle; values = b.values; columns = b.columns; total = m } in x) s

-- What a function gives at a place of a list, for any value that stands for what is after the end.
pub mapped : {X Y : Type 0} (f : X → Y) (xs : List X) (k : ℕ) (e y : Y) → k < length xs → ((d : X) → f (get_or xs k d) ≡ y) → get_or (map f xs) k e ≡ y
mapped f [] k e y l h = absurd (omega arith)
mapped f (x ∷ xs) zero e y l h = h x
mapped f (x ∷ xs) (suc k) e y l h = mapped f xs k e y (omega arith) h
