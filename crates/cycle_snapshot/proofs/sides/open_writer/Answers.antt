use Rattle.std.proofs.Common.{◌≡◌, sym, subst, fold}
use Rattle.cycle_snapshot.specs.SideRule.{IsPublished, Follows}
use Rattle.cycle_snapshot.specs.Private.BoardRuns.{after_news}
use Rattle.cycle_snapshot.proofs.SightLemmas.{sees, follows_self, opens_rule}
use Rattle.cycle_snapshot.proofs.sides.open_writer.Goals as goal

pub new-requires-clause-rule : goal.new-requires-clause-rule
new-requires-clause-rule g c = opens_rule _ c.requires.shown

pub publish_as-writer-requires : goal.publish_as-writer-requires
publish_as-writer-requires g c next is = let w = c.in_ok-writer.writer in let x = w.desk.shown.value in let next_is : next ≡ x = subst (λ l. next ≡ fold after_news x l) c.in_ok-writer.ensures.1 is in
    sees _ _ x next (subst (Follows x) (sym next_is) (follows_self x)) (λ h. subst IsPublished (sym next_is) h)
