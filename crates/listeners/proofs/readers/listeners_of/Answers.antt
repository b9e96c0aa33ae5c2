use Rattle.listeners.specs.Listeners.{listener_of}
use Rattle.listeners.proofs.ReaderLemmas.{one_more_reader}
use Rattle.listeners.proofs.readers.listeners_of.Goals as goal

pub loop-r-preserved : goal.loop-r-preserved
loop-r-preserved c =
    one_more_reader (listener_of c.args.planned.now) c.loop-r.r c.loop-r.listeners.items c.push.new.self.items c.in_ok-new.field-0 c.loop-r.invariant c.in_ok-new.ensures c.in_ok-push.ensures.items
