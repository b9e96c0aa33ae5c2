use Rattle.std.proofs.Common.{◌≤◌, ◌∙◌, ℕ, List, All, length, sym, ap, subst}
use Rattle.std.proofs.lemmas.List.Elements.{All-head, All-tail}
use Rattle.air_devices.proofs.EarLemmas.{next_bytes, takes_first}
use Rattle.air_devices.proofs.memory.ear.MemEarEar.hear.Goals as goal

pub fill-count-requires-clause-some : goal.fill-count-requires-clause-some
fill-count-requires-clause-some c =
    let next = next_bytes c.self.inside.heard.items c.deref.result.now c.self.inside.at c.in-Some.bytes.now c.deref-2.result.now c.deref.ensures.value c.in-Some.ensures.lookup.0 c.in-Some.ensures.lookup.1 c.deref-2.ensures.value in
    All-head (λ (x : List ℕ). 1 ≤ length x) _ _ (subst (All (λ (x : List ℕ). 1 ≤ length x)) next c.self.invariant)

pub invariant_of-self-2 : goal.invariant_of-self-2
invariant_of-self-2 c =
    let next = next_bytes c.self.inside.heard.items c.deref.result.now c.self.inside.at c.in-Some.bytes.now c.deref-2.result.now c.deref.ensures.value c.in-Some.ensures.lookup.0 c.in-Some.ensures.lookup.1 c.deref-2.ensures.value in
    All-tail (λ (x : List ℕ). 1 ≤ length x) _ _ (subst (All (λ (x : List ℕ). 1 ≤ length x)) next c.self.invariant)

pub returns-clause-heard : goal.returns-clause-heard
returns-clause-heard c =
    let next = next_bytes c.self.inside.heard.items c.deref.result.now c.self.inside.at c.in-Some.bytes.now c.deref-2.result.now c.deref.ensures.value c.in-Some.ensures.lookup.0 c.in-Some.ensures.lookup.1 c.deref-2.ensures.value in (
      c.fill-count.ensures.some,
      c.fill-count.ensures.within,
      takes_first c.args.self.now.waiting _ c.deref-2.result.now _ (sym (ap (λ e. e.waiting) c.self.view_is) ∙ next) c.fill-count.ensures.beginning,
    )
