-- The cycle of the last held read.
use Rattle.std.proofs.Common.{◌≡◌, ℕ, ◌+◌, ◌-◌, ◌<◌, ◌≤◌, List, [], ◌∷◌, ◌++◌, length, get_or, take, map, refl, sym, ◌∙◌, ap, arith}
use Rattle.std.proofs.lemmas.List.{map-append, take_more}
use Rattle.air_history.specs.Reads.{ReadAt, last_cycle}
use Rattle.air_history.specs.Clashes.{read_at}
use Rattle.held_reads.specs.declared.reads.HeldRead.{HeldRead}
use Rattle.held_reads.specs.HeardReads.{heard_of_held}

last_push : (S : List ReadAt) (s : ReadAt) → last_cycle (S ++ s ∷ []) ≡ s.cycle
last_push [] s = refl
last_push (r ∷ []) s = refl
last_push (r ∷ t ∷ S) s = last_push (t ∷ S) s

-- The cycle of the last held read is that of the last place that holds a read.
pub last_held : (places : List HeldRead) (len : ℕ) (p : HeldRead) → 0 < len → len ≤ length places → p ≡ get_or places (len - 1) p →
    p.cycle ≡ last_cycle (map read_at (map heard_of_held (take len places)))
last_held places len p pos within e =
    let more : take (len - 1 + 1) places ≡ take (len - 1) places ++ get_or places (len - 1) p ∷ [] = take_more places (len - 1) p (omega arith) in
    let all : len - 1 + 1 ≡ len = omega arith in
    let taken : take len places ≡ take (len - 1) places ++ p ∷ [] = ap (λ n. take n places) (sym all) ∙ more ∙ ap (λ q. take (len - 1) places ++ q ∷ []) (sym e) in
    sym (ap (λ ps. last_cycle (map read_at (map heard_of_held ps))) taken
    ∙ ap (λ R. last_cycle (map read_at R)) (map-append heard_of_held (take (len - 1) places) (p ∷ []))
    ∙ ap last_cycle (map-append read_at (map heard_of_held (take (len - 1) places)) (heard_of_held p ∷ []))
    ∙ last_push (map read_at (map heard_of_held (take (len - 1) places))) (read_at (heard_of_held p)))
