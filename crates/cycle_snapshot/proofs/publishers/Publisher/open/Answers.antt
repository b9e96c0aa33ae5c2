use Rattle.std.proofs.Common.{sym, ◌∙◌, ap, subst}
use Rattle.cycle_snapshot.specs.SideRule.{IsPublished}
use Rattle.cycle_snapshot.proofs.SightLemmas.{first_is}
use Rattle.cycle_snapshot.proofs.publishers.Publisher.open.Goals as goal

pub open_writer-requires-clause-shown : goal.open_writer-requires-clause-shown
open_writer-requires-clause-shown g c = first_is c.in_ok-first.first c.args.values.now c.args.most c.open-list.result.0 c.in_ok-first.ensures c.open-list.ensures.0 c.requires.most

pub invariant_of-result : goal.invariant_of-result
invariant_of-result g c =
    let f = first_is c.in_ok-first.first c.args.values.now c.args.most c.open-list.result.0 c.in_ok-first.ensures c.open-list.ensures.0 c.requires.most in
    let o = c.in_ok-writer.ensures in
    record {
      sees = o.0;
      list = ap (λ x. x.list) (o.1 ∙ c.in_ok-first.ensures);
      none = o.2;
      head = c.open-list.ensures.1;
      shown = subst IsPublished (sym o.1) f;
    }
