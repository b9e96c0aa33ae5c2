use Rattle.std.proofs.Common.{◌≡◌, [], ◌∷◌, ◌++◌, length, sym, ap, ◌∙◌, arith, length-append, append_assoc}
use Rattle.std.specs.Prelude.{Some, slice_get}
use Rattle.std.specs.Vec.Iter.{into_iter_items}
use Rattle.turnstile.proofs.Stacks.{each_snoc}
use Rattle.station.specs.PassStates.{PassState}
use Rattle.station.specs.PassFields.{Inner, pass_in}
use Rattle.station.proofs.PassLists.{mid_at}
use Rattle.station.proofs.stations.hand_out.Goals as goal

pub invariant_of-push_reserved : goal.invariant_of-push_reserved
invariant_of-push_reserved c =
    let i = c.loop-pass.invariant in
    let rest = into_iter_items c.next.new.self in
    let items : c.args.all.items ≡ c.loop-pass.yielded ++ c.in-Some.pass ∷ into_iter_items c.next.new.self = sym c.into_iter-pass-iterator.ensures.into_iter_gives.0 ∙ sym i.0 ∙ ap (λ l. c.loop-pass.yielded ++ l) c.in-Some.ensures.steps.0 in
    let by : c.len-by.result ≡ length c.loop-pass.yielded = let a = c.len-by.ensures in let b = c.loop-pass.passes.ok.0 in let d = i.2 in omega arith in
    c.requires.each c.len-by.result c.in-Some.pass (ap (λ l. slice_get l c.len-by.result) items ∙ ap (slice_get (c.loop-pass.yielded ++ c.in-Some.pass ∷ rest)) by ∙ mid_at c.loop-pass.yielded c.in-Some.pass rest)

pub loop-pass-preserved : goal.loop-pass-preserved
loop-pass-preserved c =
    let i = c.loop-pass.invariant in
    let rest = into_iter_items c.next.new.self in
    let steps : into_iter_items c.loop-pass.pass-iterator ≡ c.in-Some.pass ∷ into_iter_items c.next.new.self = c.in-Some.ensures.steps.0 in
    let items : c.args.all.items ≡ c.loop-pass.yielded ++ c.in-Some.pass ∷ into_iter_items c.next.new.self = sym c.into_iter-pass-iterator.ensures.into_iter_gives.0 ∙ sym i.0 ∙ ap (λ l. c.loop-pass.yielded ++ l) steps in
    let by : c.len-by.result ≡ length c.loop-pass.yielded = let a = c.len-by.ensures in let b = c.loop-pass.passes.ok.0 in let d = i.2 in omega arith in
    let at : slice_get c.args.all.items c.len-by.result ≡ Some c.in-Some.pass = ap (λ l. slice_get l c.len-by.result) items ∙ ap (slice_get (c.loop-pass.yielded ++ c.in-Some.pass ∷ rest)) by ∙ mid_at c.loop-pass.yielded c.in-Some.pass rest in
    let place : length c.loop-pass.passes.items ≡ c.len-by.result = i.2 ∙ sym by in
    let pushed = c.push_reserved.ensures.items in (
      append_assoc c.loop-pass.yielded (c.in-Some.pass ∷ []) rest ∙ sym items ∙ sym c.into_iter-pass-iterator.ensures.into_iter_gives.0,
      (let was = i.1 in let gone = c.in-Some.ensures.steps.1 in let short = ap length steps in omega arith),
      (let a = ap length pushed ∙ length-append c.loop-pass.passes.items _ in let b = length-append c.loop-pass.yielded (c.in-Some.pass ∷ []) in let d = i.2 in omega arith),
      c.push_reserved.ensures.capacity ∙ i.3,
      rw pushed (each_snoc (λ k (p : PassState). (pass : Inner) × (slice_get c.args.all.items k ≡ Some pass) × (p ≡ pass_in pass k)) c.loop-pass.passes.items _ i.4
          (c.in-Some.pass, ap (slice_get c.args.all.items) place ∙ at, ap (pass_in c.in-Some.pass) (sym place))),
    )
