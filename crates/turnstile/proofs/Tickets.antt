-- Tickets are counted modulo 2^64; each has a distance from the one that is served.
use Rattle.std.proofs.Common.{◌≡◌, ℕ, zero, suc, ◌+◌, ◌%◌, ◌<◌, ◌≤◌, ◌≢◌, sym, refl, ap, ◌∙◌, arith}
use Rattle.std.specs.Prelude.{Option, Some, None}
use Rattle.std.proofs.Math.Nat.{mod-add-mod, mod-eq_of_lt}
use Rattle.atomic_table.proofs.Lists.{one_turn}
use Rattle.turnstile.specs.Private.SeatViews.{ticket_count}

pub ticket_count_le : (o : Option ℕ) (n : ℕ) → ((t : ℕ) → o ≡ Some t → 0 < n) → ticket_count o ≤ n
ticket_count_le None n h = omega arith
ticket_count_le (Some t) n h = let a = h t refl in omega arith

-- Two tickets at different distances differ.
pub far : (serving d e : ℕ) → d < e → e < 18446744073709551616 → (serving + d) % 18446744073709551616 ≡ (serving + e) % 18446744073709551616 → ⊥
far serving d e less small same = let a = one_turn (serving + d) (serving + e) 18446744073709551616 (omega arith) (omega arith) same in omega arith

-- The ticket after the one that is served is served next.
pub nearer : (serving d : ℕ) → (serving + suc d) % 18446744073709551616 ≡ ((serving + 1) % 18446744073709551616 + d) % 18446744073709551616
nearer serving d = ap (λ k. k % 18446744073709551616) (let e : serving + suc d ≡ serving + 1 + d = omega arith in e) ∙ sym (mod-add-mod (serving + 1) 18446744073709551616 d)

pub closer : (serving f p q d t : ℕ) → f ≡ (serving + 1) % 18446744073709551616 → q + 1 ≡ p → d < p → t ≡ (serving + d) % 18446744073709551616 → d ≢ 0 → (d' : ℕ) × (d' < q) × (t ≡ (f + d') % 18446744073709551616)
closer serving f p q zero t f_is less l e far = absurd (far refl)
closer serving f p q (suc d) t f_is less l e far = (d, omega arith, e ∙ (nearer serving d ∙ ap (λ k. (k + d) % 18446744073709551616) (sym f_is)))

pub mod_here : (serving : ℕ) → serving < 18446744073709551616 → (serving + 0) % 18446744073709551616 ≡ serving
mod_here serving small = ap (λ k. k % 18446744073709551616) (let e : serving + 0 ≡ serving = omega arith in e) ∙ mod-eq_of_lt small
