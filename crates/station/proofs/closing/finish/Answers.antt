use Rattle.std.proofs.Common.{◌≡◌, ℕ, ◌+◌, [], ◌∷◌, ◌++◌, get_or, All, sym, ap, ◌∙◌, subst, inl, inr, arith, append_assoc}
use Rattle.std.specs.Prelude.{Contains}
use Rattle.std.proofs.lemmas.Bool.{cases_lt}
use Rattle.std.proofs.lemmas.List.Elements.{All-cons, All-get_or, All-weaker, Contains-append_left, Contains-append_right}
use Rattle.turnstile.specs.PassEntries.{Continues}
use Rattle.air_model.specs.Decks.{is_by}
use Rattle.air_model.specs.Closings.{GoesOnWithout}
use Rattle.station.specs.PassStates.{PassState}
use Rattle.station.specs.PassFields.{base_in}
use Rattle.station.proofs.EntryLemmas.{commits_make, goes_on}
use Rattle.station.proofs.TurnLemmas.{no_start}
use Rattle.station.proofs.Joins.{Joined, goes_through, still_joined, all_but_last, numbers_joined, none_left}
use Rattle.station.proofs.closing.finish.Goals as goal

pub loop-next-preserved : goal.loop-next-preserved
loop-next-preserved c =
    let i = c.loop-next.invariant in
    let first = c.loop-next.first in
    let left = c.pop.new.self.items in
    let p = c.in-Some.next in
    let other = c.next.inside.pass in
    let gone = i.7.0 in
    let items : c.loop-next.passes.items ≡ c.pop.new.self.items ++ c.in-Some.next ∷ [] = c.in-Some.ensures.items in
    let j = c.join.ensures.pass in
    let by : c.next.inside.by ≡ c.in-Some.next.number = ap (λ q. q.number) c.next.view_is in
    let nums = c.next.invariant.0.numbers in
    let more : (m : ℕ) → Contains first.numbers m → Contains c.join.new.pass.numbers m = λ m h. subst (λ ns. Contains ns m) (sym (ap (λ q. q.numbers) j)) (Contains-append_left first.numbers other.numbers m h) in
    let here : Contains c.join.new.pass.numbers p.number = subst (λ ns. Contains ns p.number) (sym (ap (λ q. q.numbers) j)) (Contains-append_right first.numbers other.numbers p.number (subst (λ ns. Contains ns p.number) (sym nums) (0, omega arith, by))) in (
      ap (λ q. q.turnstile) j ∙ i.0,
      ap (λ q. q.passes) j ∙ i.1,
      ap (λ q. q.base) j ∙ i.2,
      ap (λ q. q.turn) j ∙ i.3,
      λ m h. more m (i.4 m h),
      goes_through c.args.first.numbers first.numbers c.args.first.seen first.seen c.join.new.pass.seen i.4 i.5 c.join.ensures.mine,
      (all_but_last (λ (q : PassState). q.station ≡ c.args.station) left p (subst (All (λ (q : PassState). q.station ≡ c.args.station)) items i.6)).0,
      (
        p ∷ gone,
        i.7.1 ∙ ap (λ l. l ++ gone) items ∙ append_assoc left (p ∷ []) gone,
        All-cons (Joined c.join.new.pass) p gone (here, (other.seen, ap (λ q. q.seen) c.next.view_is, subst (λ ns. Continues ns other.seen c.join.new.pass.seen) (nums ∙ ap (λ k. k ∷ []) by) c.join.ensures.other))
            (All-weaker (Joined first) (Joined c.join.new.pass) (λ q h. still_joined first c.join.new.pass q more c.join.ensures.mine h) gone i.7.2),
      ),
    )

pub close-requires-clause-all : goal.close-requires-clause-all
close-requires-clause-all c = λ n l.
    let i = c.loop-next.invariant in
    let u = (base_in c.args.first).1 in
    let none = none_left c.loop-next.passes.items (let z = c.in_default.ensures.cases.0 in let o = c.loop-next.passes.ok.0 in omega arith) in
    let all = subst (All (Joined c.loop-next.first)) (sym (i.7.1 ∙ ap (λ l. l ++ i.7.0) none)) i.7.2 in
    let count : c.loop-next.first.passes ≡ (base_in c.args.first).1 + 1 = i.1 ∙ c.requires.first.passes in
    elim (cases_lt n u) as (λ _. Contains c.loop-next.first.numbers n) [
      | inl low ↦ numbers_joined c.loop-next.first c.args.passes.items n all (c.requires.all n low)
      | inr high ↦ (let is : (base_in c.args.first).1 ≡ n = omega arith in
          i.4 n (subst (λ ns. Contains ns n) (sym c.requires.first.numbers) (0, omega arith, is)))
    ]

pub returns-clause-each : goal.returns-clause-each
returns-clause-each c = λ k d l.
    let i = c.loop-next.invariant in
    let core = c.close.result.core in
    let p = get_or c.args.passes.items k d in
    let none = none_left c.loop-next.passes.items (let z = c.in_default.ensures.cases.0 in let o = c.loop-next.passes.ok.0 in omega arith) in
    let all = subst (All (Joined c.loop-next.first)) (sym (i.7.1 ∙ ap (λ l. l ++ i.7.0) none)) i.7.2 in
    let j = All-get_or (Joined c.loop-next.first) c.args.passes.items k d l all in
    subst (λ s. GoesOnWithout (is_by p.number) s core.events) j.1.1
    (goes_on core.updaters p.number (is_by p.number) (commits_make core.updaters p.number) j.1.0 core.events (subst (Continues (p.number ∷ []) j.1.0) (sym c.close.ensures.list) j.1.2))

pub returns-clause-first : goal.returns-clause-first
returns-clause-first c =
    let i = c.loop-next.invariant in
    no_start c.args.first c.close.result.core c.requires.first (sym i.2 ∙ c.close.ensures.base) (subst (Continues c.args.first.numbers c.args.first.seen) (sym c.close.ensures.list) i.5)
