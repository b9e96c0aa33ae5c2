use Rattle.std.proofs.Common.{◌≡◌, ◌∙◌, sym, ap, arith, get_or, length, nat_lt, true, false, []}
use Rattle.std.proofs.lemmas.List.{get_or_default}
use Rattle.air_base.specs.declared.limits.TheConstants.{MOST_UPDATERS}
use Rattle.air_model.specs.Decks.{scripted_commits}
use Rattle.item_catalog.proofs.ScriptLemmas.{some_at, some_more, some_none}
use Rattle.item_catalog.proofs.scripts.Script.overdraws.Goals as goal

pub loop-by-init : goal.loop-by-init
loop-by-init c = some_none _

pub returns-then-len-self : goal.returns-then-len-self
returns-then-len-self c =
    let at = c.index-updates-by.is ∙ get_or_default c.args.updates.now c.loop-by.by c.index-updates-by.result [] (omega arith) in
    let counted = c.self.invariant.commits c.loop-by.by (omega arith) ∙ ap (scripted_commits c.loop-by.by) c.self.view_is in
    let less : nat_lt (length (get_or c.args.updates.now c.loop-by.by [])) (scripted_commits c.loop-by.by c.args.self.now) ≡ true = grind (arith, ap length at, counted) in
    sym (some_at MOST_UPDATERS c.loop-by.by (λ by. nat_lt (length (get_or c.args.updates.now by [])) (scripted_commits by c.args.self.now)) (omega arith) less)

pub loop-by-preserved : goal.loop-by-preserved
loop-by-preserved c =
    let at = c.index-updates-by.is ∙ get_or_default c.args.updates.now c.loop-by.by c.index-updates-by.result [] (omega arith) in
    let counted = c.self.invariant.commits c.loop-by.by (omega arith) ∙ ap (scripted_commits c.loop-by.by) c.self.view_is in
    let less : nat_lt (length (get_or c.args.updates.now c.loop-by.by [])) (scripted_commits c.loop-by.by c.args.self.now) ≡ false = grind (arith, ap length at, counted) in
    some_more c.loop-by.by (λ by. nat_lt (length (get_or c.args.updates.now by [])) (scripted_commits by c.args.self.now)) c.loop-by.invariant less
