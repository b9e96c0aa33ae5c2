-- Findings of lines, one line after the other.
use Rattle.std.proofs.Common.{◌≡◌, ℕ, zero, suc, ◌+◌, ◌<◌, Option, List, [], ◌∷◌, ◌++◌, length, get_or, take, refl, ap, ◌∙◌, arith, add-one}
use Rattle.live_replay.specs.Audits.{found_in}
use Rattle.live_replay.specs.declared.findings.Cause.{Cause}
use Rattle.live_replay.specs.declared.findings.Finding.{Finding}

-- No lines have no findings.
pub found_none : {L : Type 0} (cause : L → Option Cause) (rows : List ℕ) → found_in cause rows [] ≡ []
found_none cause [] = refl
found_none cause (n ∷ rows) = refl

-- The findings of one line more.
found_more : {L : Type 0} (cause : L → Option Cause) (rows : List ℕ) (k : ℕ) (lines : List L) (d : L) → k < length rows → k < length lines →
    found_in cause rows (take (suc k) lines) ≡ found_in cause rows (take k lines) ++ record { row = get_or rows k 0; differs = cause (get_or lines k d) } ∷ []
found_more cause [] k lines d r l = absurd (omega arith)
found_more cause (n ∷ rows) k [] d r l = absurd (omega arith)
found_more cause (n ∷ []) zero (x ∷ lines) d r l = refl
found_more cause (n ∷ m ∷ rows) zero (x ∷ lines) d r l = refl
found_more cause (n ∷ rows) (suc k) (x ∷ lines) d r l =
    let first : Finding = record { row = n; differs = cause x } in
    ap (λ fs. first ∷ fs) (found_more cause rows k lines d (omega arith) (omega arith))

pub found_next : {L : Type 0} (cause : L → Option Cause) (rows : List ℕ) (k : ℕ) (lines : List L) (d : L) → k < length rows → k < length lines →
    found_in cause rows (take (k + 1) lines) ≡ found_in cause rows (take k lines) ++ record { row = get_or rows k 0; differs = cause (get_or lines k d) } ∷ []
found_next cause rows k lines d r l = ap (λ n. found_in cause rows (take n lines)) (add-one k) ∙ found_more cause rows k lines d r l
