use Rattle.std.specs.Result.{result_ok}
use Rattle.listeners.specs.Listeners.{hears_one}
use Rattle.listeners.proofs.ReaderLemmas.{HeardUpTo}
use Rattle.listeners.proofs.readers.all_hear.Given as goal

abbrev pub invariant-loop-listener : goal.invariant-loop-listener
invariant-loop-listener l = HeardUpTo (hears_one (result_ok l.heard)) l.listener-index l.fn.listeners.items l.listener-items
