use Rattle.std.proofs.Common.{◌≡◌, ◌∙◌, map, ap, sym, arith}
use Rattle.std.specs.List.{flat_map}
use Rattle.std.proofs.lemmas.List.{map-id}
use Rattle.std.proofs.lemmas.Iterator.Adapters.{YieldsList-from_vec}
use Rattle.std.proofs.lemmas.Iterator.Consumers.{YieldsList-end}
use Rattle.listeners.proofs.ReaderLemmas.{all_counts, all_verdicts, counts_of, verdicts_of}
use Rattle.listeners.proofs.readers.end_all.Goals as goal

pub returns : goal.returns
returns c =
    let A = c.args.listeners.items in
    let gives = c.into_iter-listener-iterator.ensures.into_iter_gives in
    let end = YieldsList-end (YieldsList-from_vec A gives.0 (omega (arith, gives.1, c.args.listeners.ok))) c.loop-listener.yielded c.loop-listener.listener-iterator c.loop-listener.yielded_by c.next.result c.next.new.self c.in-None.is c.next.ensures.steps in
    let all : c.loop-listener.yielded ≡ A = sym (map-id c.loop-listener.yielded) ∙ end.0 in
    record {
      verdicts = c.loop-listener.invariant.0 ∙ ap (flat_map verdicts_of) all ∙ all_verdicts A c.requires;
      counts = c.loop-listener.invariant.1 ∙ ap (map counts_of) all ∙ all_counts A c.requires;
    }
