use Rattle.std.proofs.Common.{◌≡◌, ◌+◌, [], ◌∷◌, ◌++◌, length, length-append, slice_get, Some, ap, ◌∙◌, sym, subst, arith}
use Rattle.std.proofs.lemmas.List.Elements.{All-push}
use Rattle.turnstile_tests.specs.declared.workers.Worker.{Worker}
use Rattle.turnstile_tests.specs.Workers.{IsReady}
use Rattle.turnstile_tests.proofs.Crews.{within_front, last_at, counts_push}
use Rattle.turnstile_tests.proofs.rounds.hire.Goals as goal

pub loop-pass-preserved : goal.loop-pass-preserved
loop-pass-preserved c =
    let i = c.loop-pass.invariant in
    let new = c.pop.new.self.items in
    let pass = c.in-Some.pass in
    let items : c.loop-pass.passes.items ≡ c.pop.new.self.items ++ c.in-Some.pass ∷ [] = c.in-Some.ensures.items in
    let at : slice_get c.args.passes.items (length new) ≡ Some pass = i.1 (length new) pass (subst (λ l. slice_get l (length new) ≡ Some pass) (sym items) (last_at new pass)) in
    let q = c.requires.each (length new) pass at in
    let long : length c.loop-pass.passes.items ≡ length new + 1 = ap length items ∙ length-append new (pass ∷ []) in
    let ok = c.pop.new.self.ok.0 in
    let len = c.len-by.ensures in
    let by : c.len-by.result ≡ length new = omega arith in
    let pushed = c.in_ok-push.ensures.items in
    let total = i.0 in
    let counts : c.len-by.result + length c.loop-pass.workers.items + 1 ≡ length c.args.passes.items = omega arith in
    let more : length c.push.new.self.items ≡ length c.loop-pass.workers.items + 1 = ap length pushed ∙ length-append c.loop-pass.workers.items _ in (
      omega arith,
      λ k p e. i.1 k p (subst (λ l. slice_get l k ≡ Some p) (sym items) (within_front new pass k p e)),
      rw pushed (All-push (λ (w : Worker). IsReady c.args.turnstile.now (length c.args.passes.items) c.args.mark w) c.loop-pass.workers.items _ i.2 (q.0, q.1, q.2, q.3 ∙ ap (λ k. k ∷ []) (sym by), q.4)),
      rw pushed (counts_push (length c.args.passes.items) c.loop-pass.workers.items _ i.3 counts),
    )
