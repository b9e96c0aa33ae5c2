use Rattle.std.proofs.Common.{◌≡◌, ◌++◌, ◌∷◌, [], arith}
use Rattle.chunk_program.proofs.HomeLemmas.{each_home}
use Rattle.chunk_program.proofs.homes.homes.Goals as goal

pub loop-item-preserved : goal.loop-item-preserved
loop-item-preserved c =
    let items : c.push.new.self.items ≡ c.loop-item.homes.items ++ c.home_of.result ∷ [] = c.in_ok-push.ensures.items in
    record {
      len = (let len = c.in_ok-push.ensures.len in let so_far = c.loop-item.invariant.len in omega arith);
      homes = each_home c.args.cut.now c.loop-item.homes.items c.push.new.self.items c.loop-item.item c.home_of.result items c.loop-item.invariant.len c.loop-item.invariant.homes c.home_of.ensures;
    }
