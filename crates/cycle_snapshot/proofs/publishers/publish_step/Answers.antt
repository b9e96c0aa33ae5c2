use Rattle.std.proofs.Common.{◌≡◌, subst, fold}
use Rattle.cycle_snapshot.specs.Private.BoardRuns.{after_news}
use Rattle.cycle_snapshot.proofs.SightLemmas.{sees, news_follow}
use Rattle.cycle_snapshot.proofs.publishers.publish_step.Goals as goal

pub publish_as-requires : goal.publish_as-requires
publish_as-requires g c next is =
    let x = c.args.writer.desk.shown.value in let n = c.requires.news.0 in
    let f = news_follow x next n (subst (λ l. next ≡ fold after_news x l) c.requires.news.1 is) c.requires.news.2 in
    sees _ _ x next f.0 f.1
