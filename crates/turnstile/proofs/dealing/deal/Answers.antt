use Rattle.std.proofs.Common.{◌≡◌, ◌<◌, ◌-◌, ◌+◌, length, [], arith, ap, sym, refl, ◌∙◌, slice_get, Some}
use Rattle.std.proofs.lemmas.Option.{none-some}
use Rattle.turnstile.specs.Passes.{newcomer}
use Rattle.turnstile.specs.Private.SeatViews.{numbers_from, idle, sight}
use Rattle.turnstile.proofs.SplitLemmas.{splits}
use Rattle.turnstile.proofs.Stacks.{each_snoc, stack_step, stack_two, sound_one, pass_with_one}
use Rattle.turnstile.proofs.dealing.deal.Goals as goal

pub loop-init : goal.loop-init
loop-init g c =
    let r = c.requires.room in
    let n : length c.args.all.now.items ≡ 0 = ap length r.0 in
    let some = c.requires.some in
    let all : c.args.about.now.passes ≡ c.args.about.now.passes - length c.args.all.now.items = omega arith in (
      refl,
      omega arith,
      omega arith,
      refl,
      c.requires.seat.1 ∙ ap (λ ns. (idle c.args.about.now.passes (Some (g.K.Chronicle.base c.args.about.now.value.value)) (sight (g.K.Chronicle.entries c.args.about.now.value.value) ns), []))
          (ap (numbers_from 0) all ∙ ap (λ k. numbers_from k (c.args.about.now.passes - length c.args.all.now.items)) (sym n)),
      λ k p e. absurd (none-some p (ap (λ l. slice_get l k) (sym r.0) ∙ e)),
    )

pub split_seat-one-requires : goal.split_seat-one-requires
split_seat-one-requires g c =
    let i = c.loop.invariant in
    let t = c.loop-test.true in
    let n = i.1 in
    let two = c.requires.words in (
      i.0 ∙ c.requires.seat.0,
      omega arith,
      splits _ _ _ _ (ap (λ m. m.0.ticket) i.4) (ap (λ m. m.0.noted) i.4) (ap (λ m. m.0.old) i.4)
          (stack_two _ _ _ _ _ (let h : length c.loop.all.items + 1 < c.args.about.now.passes = omega arith in h) i.4),
    )

pub invariant_of-push_reserved : goal.invariant_of-push_reserved
invariant_of-push_reserved g c =
    let i = c.loop.invariant in
    let t = c.loop-test.true in
    let n = i.1 in
    sound_one _ _ _ _ _ (c.split_seat-one.ensures.4 ∙ ap (λ v. (v, [])) (stack_step _ _ _ _ _ (let h : length c.loop.all.items < c.args.about.now.passes = omega arith in h) i.4).1)

pub push_reserved-requires : goal.push_reserved-requires
push_reserved-requires g c =
    let i = c.loop.invariant in
    let t = c.loop-test.true in
    let n = i.1 in
    let a = c.loop.all.ok.0 in
    let v = i.3 in
    let r = c.requires.room.1 in
    omega arith

pub loop-preserved : goal.loop-preserved
loop-preserved g c =
    let i = c.loop.invariant in
    let t = c.loop-test.true in
    let e = c.split_seat-one.ensures in
    let p = c.push_reserved.ensures in
    let n = i.1 in
    let o = c.loop.all.ok.0 in
    let l = p.len in
    let q = c.push_reserved.new.self.ok.0 in
    let s = stack_step _ _ _ _ _ (let h : length c.loop.all.items < c.args.about.now.passes = omega arith in h) i.4 in
    let len : length c.loop.all.items + 1 ≡ length c.push_reserved.new.self.items = omega arith in (
      e.0 ∙ i.0,
      omega arith,
      omega arith,
      p.capacity ∙ i.3,
      e.2 ∙ ((λ k. (s.0 k, ap (λ m. m.1) i.4 k)) ∙ ap (λ k. (idle c.args.about.now.passes (Some (g.K.Chronicle.base c.args.about.now.value.value)) (sight (g.K.Chronicle.entries c.args.about.now.value.value) (numbers_from k (c.args.about.now.passes - k))), [])) len),
      rw p.items (each_snoc (λ k (p : _). p ≡ newcomer c.args.shared.now.table_id c.args.about.now.passes (g.K.Chronicle.base c.args.about.now.value.value) (g.K.Chronicle.entries c.args.about.now.value.value) k) _ _ i.5
          (pass_with_one _ _ _ _ _ _ _ (e.3 ∙ (i.0 ∙ c.requires.seat.0)) (e.4 ∙ ap (λ v. (v, [])) s.1))),
    )

pub invariant_of-push_reserved-2 : goal.invariant_of-push_reserved-2
invariant_of-push_reserved-2 g c =
    let i = c.loop.invariant in
    let n = i.1 in
    let m = i.2 in
    let f = c.loop-test.false in
    let one : c.args.about.now.passes - length c.loop.all.items ≡ 1 = omega arith in
    sound_one _ _ _ _ _ (i.4 ∙ ap (λ z. (idle c.args.about.now.passes (Some (g.K.Chronicle.base c.args.about.now.value.value)) (sight (g.K.Chronicle.entries c.args.about.now.value.value) (numbers_from (length c.loop.all.items) z)), [])) one)

pub push_reserved-requires-2 : goal.push_reserved-requires-2
push_reserved-requires-2 g c =
    let i = c.loop.invariant in
    let n = i.1 in
    let m = i.2 in
    let a = c.loop.all.ok.0 in
    let v = i.3 in
    let r = c.requires.room.1 in
    omega arith

pub returns-clause-passes : goal.returns-clause-passes
returns-clause-passes g c =
    let i = c.loop.invariant in
    let n = i.1 in
    let m = i.2 in
    let f = c.loop-test.false in
    let l = c.push_reserved-2.ensures.len in
    let a = c.loop.all.ok.0 in
    let q = c.push_reserved-2.new.self.ok.0 in
    omega arith

pub returns-clause-each : goal.returns-clause-each
returns-clause-each g c =
    let i = c.loop.invariant in
    let n = i.1 in
    let m = i.2 in
    let f = c.loop-test.false in
    let one : c.args.about.now.passes - length c.loop.all.items ≡ 1 = omega arith in
    rw c.push_reserved-2.ensures.items (each_snoc (λ k (p : _). p ≡ newcomer c.args.shared.now.table_id c.args.about.now.passes (g.K.Chronicle.base c.args.about.now.value.value) (g.K.Chronicle.entries c.args.about.now.value.value) k) _ _ i.5
    (pass_with_one _ _ _ _ _ _ _ (i.0 ∙ c.requires.seat.0) (i.4 ∙ ap (λ z. (idle c.args.about.now.passes (Some (g.K.Chronicle.base c.args.about.now.value.value)) (sight (g.K.Chronicle.entries c.args.about.now.value.value) (numbers_from (length c.loop.all.items) z)), [])) one)))
