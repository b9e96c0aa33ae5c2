-- What draws give: a word is below its modulus, and drawing for each number gives as many values as asked for, each from its
-- own draw.
use Rattle.std.proofs.Common.{◌≡◌, ◌<◌, ◌%◌, ◌+◌, ◌++◌, ◌∷◌, [], ℕ, zero, suc, List, length, map, refl, sym, ap, ◌∙◌, arith}
use Rattle.std.specs.Prelude.{All}
use Rattle.std.specs.List.{range_with_len}
use Rattle.std.proofs.Math.Nat.{mod-lt}
use Rattle.std.proofs.lemmas.List.{length-append, map-append}
use Rattle.std.proofs.lemmas.List.Elements.{All-nil, All-push}
use Rattle.std.proofs.lemmas.List.FromFn.{map-range_with_len_more}
use Rattle.rand_pcg.specs.Lcg.{Lcg}
use Rattle.rand_pcg.specs.Pcg.{pcg32}
use Rattle.air_model.specs.Draws.{Draw, ◌>>=◌, draw, draw_each, gives, go_on}

pub draw_below : (m : ℕ) (g : Lcg) → 0 < m → (draw m g).0 < m
unfolding draw
draw_below m g l = mod-lt (pcg32 g).0 l

pub draw_told : (m word : ℕ) (g left : Lcg) → (word, left) ≡ pcg32 g → draw m g ≡ (word % m, left)
unfolding draw
draw_told m word g left e = ap (λ (p : ℕ × Lcg). (p.0 % m, p.1)) (sym e)

-- One more draw.
pub drawn_none : {A : Type 0} (one : ℕ → Draw A) (g : Lcg) → draw_each 0 one g ≡ ([], g)
unfolding draw_each
drawn_none one g = refl

pub drawn_more : {A : Type 0} (one : ℕ → Draw A) (n : ℕ) (g left after : Lcg) (before : List A) (last : A) →
    draw_each n one g ≡ (before, left) → one n left ≡ (last, after) → draw_each (n + 1) one g ≡ (before ++ last ∷ [], after)
unfolding draw_each
drawn_more {A} one n g left after before last e f =
    let next : n + 1 ≡ suc n = omega arith in
    let rest = λ (before : List A). (one n >>= (λ last. gives (before ++ last ∷ []))) in
    ap (λ k. draw_each k one g) next ∙ ap (λ p. go_on p rest) e ∙ ap (λ p. go_on p (λ last. gives (before ++ last ∷ []))) f

pub length-draw_each : {A : Type 0} (one : ℕ → Draw A) (n : ℕ) (g : Lcg) → length (draw_each n one g).0 ≡ n
unfolding draw_each
length-draw_each one zero g = refl
length-draw_each one (suc n) g =
    let before = draw_each n one g in
    let e = length-append before.0 ((one n before.1).0 ∷ []) in let h = length-draw_each one n g in
    omega (arith, e, h)

pub drawn_all : {A : Type 0} (P : A → Type 0) (one : ℕ → Draw A) → ((i : ℕ) (g : Lcg) → P (one i g).0) → (n : ℕ) (g : Lcg) → All P (draw_each n one g).0
unfolding draw_each
drawn_all P one each zero g = All-nil P
drawn_all P one each (suc n) g =
    let before = draw_each n one g in
    All-push P before.0 (one n before.1).0 (drawn_all P one each n g) (each n before.1)

-- If a part of each is known, the list of these parts is known.
pub drawn_parts : {A B : Type 0} (part : A → B) (told : ℕ → B) (one : ℕ → Draw A) → ((i : ℕ) (g : Lcg) → part (one i g).0 ≡ told i) → (n : ℕ) (g : Lcg) →
    map part (draw_each n one g).0 ≡ map told (range_with_len 0 n)
unfolding draw_each
drawn_parts part told one each zero g = refl
drawn_parts part told one each (suc n) g =
    let before = draw_each n one g in
    let next : suc n ≡ n + 1 = omega arith in
    map-append part before.0 ((one n before.1).0 ∷ [])
    ∙ ap (λ xs. xs ++ part (one n before.1).0 ∷ []) (drawn_parts part told one each n g)
    ∙ ap (λ x. map told (range_with_len 0 n) ++ x ∷ []) (each n before.1)
    ∙ sym (map-range_with_len_more told 0 n n (omega arith))
    ∙ ap (λ k. map told (range_with_len 0 k)) (sym next)
