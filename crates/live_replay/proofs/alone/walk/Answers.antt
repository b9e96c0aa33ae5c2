use Rattle.std.proofs.Common.{◌<◌, All, IfSome, sym, subst, ◌∙◌}
use Rattle.live_replay.proofs.alone.walk.Goals as goal

pub none_late-requires-clause-end : goal.none_late-requires-clause-end
none_late-requires-clause-end c = subst (All (λ o. IfSome o (λ w. w < c.args.end))) (sym (c.deref.ensures.value ∙ c.in_ok-list_origins.ensures)) c.requires.end
