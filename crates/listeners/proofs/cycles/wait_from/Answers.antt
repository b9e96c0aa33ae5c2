use Rattle.std.proofs.Common.{◌≡◌, ◌+◌, ◌*◌, ◌%◌, ◌<◌, ◌≢◌, ℕ, Some, length, ap, sym, ◌∙◌, subst, arith}
use Rattle.std.specs.Prelude.{IfSome}
use Rattle.std.proofs.lemmas.Nat.{mod-mul-add}
use Rattle.air_model.specs.Airings.{slot_item}
use Rattle.air_model.specs.Programs.{program as slots_of}
use Rattle.listeners.proofs.cycles.wait_from.Goals as goal

-- A place within a cycle is its own.
mod_small : (n w : ℕ) → n < w → n % w ≡ n
mod_small n w within = ap (λ m. m % w) (let own : n ≡ 0 * w + n = omega arith in own) ∙ mod-mul-add 0 w n within

pub returns-in-Some-clause-other : goal.returns-in-Some-clause-other
returns-in-Some-clause-other c = λ j l.
    let slots = slots_of c.args.program.now.disks in
    let s = c.args.slot in
    let least = c.min.ensures in
    let counted = c.slots.ensures.counted in
    let wait : j < c.next_wake.result = omega arith in
    let same : (s + j) % length slots ≡ s + j = mod_small (s + j) (length slots) (omega arith) in
    subst (λ o. IfSome o (λ i. slot_item slots (s + j) ≢ Some i)) (sym c.in-Some.is) (subst (λ k. slot_item slots k ≢ Some c.in-Some.item) same (c.next_wake.ensures.least.first j wait))
