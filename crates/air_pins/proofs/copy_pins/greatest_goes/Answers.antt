-- The copy of item 0 gives way: the newcomer and the copy of item 1 go before it.
use Rattle.std.proofs.Common.{◌<◌, ◌==◌, ◌⊎◌, ℕ, zero, suc, List, [], ◌∷◌, IsTrue, get_or, inl, inr, subst, sym, refl, lit≤, arith}
use Rattle.air_model.specs.Reads.{Read, read_with}
use Rattle.air_model.specs.Copies.{goes_before}
use Rattle.pix_cache.specs.Caches.{Cache, GivesWay, copy_among}
use Rattle.air_pins.specs.SmallCaches.{of_three}
use Rattle.air_pins.proofs.copy_pins.greatest_goes.Goals as goal

abbrev numbers : List ℕ
numbers = 1 ∷ 5 ∷ 3 ∷ []

abbrev copies : List Read
copies = of_three 0 2 ∷ of_three 1 2 ∷ []

others : (k : ℕ) (d : Read) → k < 2 → IsTrue ((get_or copies k d).item == 0) ⊎ IsTrue (goes_before numbers (get_or copies k d) (of_three 0 2))
others zero d h = inl refl
others (suc zero) d h = inr refl
others (suc (suc k)) d h = absurd (omega arith)

gives_way : GivesWay 2 numbers copies (of_three 2 3) 0
unfolding copy_among
gives_way = ((refl, lit≤ tt), of_three 0 2, refl, refl, others)

pub returns-clause-answer : goal.returns-clause-answer
returns-clause-answer c =
    let at_column : List ℕ → Type 0 = λ entries. GivesWay 2 numbers copies (read_with 2 3 70 entries) 0 in
    let at_cache : Cache → Type 0 = λ k. GivesWay k.room k.pix k.copies (read_with 2 3 70 c.args.column.now) 0 in
    (c.keep.ensures.evicted 0).1 (subst at_cache (sym c.requires.copies) (subst at_column (sym c.requires.column) gives_way))
