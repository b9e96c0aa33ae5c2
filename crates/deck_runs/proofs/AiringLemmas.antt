-- What is aired from a board by groups, and whether a deck has groups.
use Rattle.std.proofs.Common.{◌≡◌, ℕ, ◌<◌, true, cond, sym, ap, ◌∙◌}
use Rattle.std.proofs.lemmas.Bool.{lt-ltb}
use Rattle.air_base.specs.declared.verdicts.Policy.{Policy}
use Rattle.air_base.specs.declared.verdicts.Policy.TheVariants.{FMatrix, Datacycle, RMatrix}
use Rattle.air_history.specs.Boards.{Board}
use Rattle.air_history.specs.Columns.{Scheme, airs_groups}
use Rattle.group_matrix.specs.GroupBoards.{grouped}
use Rattle.air_sender.specs.BoardBuckets.{aired_board, spread}

airs_by : (p : Policy) (g : ℕ) → p ≡ FMatrix → 0 < g → airs_groups p g ≡ true
airs_by FMatrix g is pos = lt-ltb 0 g pos
airs_by Datacycle g is pos = cc
airs_by RMatrix g is pos = cc

-- Under F-Matrix with groups the board by groups is aired.
pub group_board : (scheme : Scheme) (board : Board) (g : ℕ) → scheme.policy ≡ FMatrix → scheme.group ≡ g → 0 < g → spread (grouped g board) ≡ aired_board scheme board
group_board scheme board g policy same pos =
    ap (λ n. spread (grouped n board)) (sym same)
    ∙ sym (ap (λ b. cond b (spread (grouped scheme.group board)) board) (ap (airs_groups scheme.policy) same ∙ airs_by scheme.policy g policy pos))
