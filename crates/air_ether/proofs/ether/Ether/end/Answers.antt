use Rattle.std.proofs.Common.{◌≡◌, sym, subst}
use Rattle.air_ether.specs.EtherFields.{ether_in}
use Rattle.air_ether.specs.HeardSoFar.{Ether, limit_of}
use Rattle.air_ether.proofs.PushLemmas.{few_after_end}
use Rattle.air_ether.proofs.ether.Ether.end.Goals as goal

pub returns-clause-few : goal.returns-clause-few
returns-clause-few c =
    let e : Ether = ether_in c.self.inside in
    let quiet : e.cursor.number ≡ limit_of e.ended e.pushes = subst (λ (s : Ether). s.cursor.number ≡ limit_of s.ended s.pushes) (sym c.self.view_is) c.requires in
    few_after_end e.pushes e.ended e.queue e.cursor c.self.invariant.within quiet
