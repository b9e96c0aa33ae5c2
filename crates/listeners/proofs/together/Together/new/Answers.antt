use Rattle.std.proofs.Common.{◌∷◌, [], ◌∙◌, true, ap}
use Rattle.std.proofs.lemmas.List.{map-append}
use Rattle.listeners.specs.declared.together.TogetherReader.{TogetherReader}
use Rattle.listeners.specs.Listeners.{Listener, listener_of}
use Rattle.listeners.specs.Private.TogetherSteps.{listeners_in}
use Rattle.air_model.specs.Aired.{air_of}
use Rattle.listeners.proofs.ReaderLemmas.{one_more_reader}
use Rattle.listeners.proofs.TogetherLemmas.{all_know}
use Rattle.listeners.proofs.together.Together.new.Goals as goal

pub loop-r-preserved : goal.loop-r-preserved
loop-r-preserved c =
    let reader : TogetherReader = record { listener = c.in_ok-new.field-0; done = true } in
    let listener : TogetherReader → Listener = λ reader. reader.listener in
    one_more_reader (listener_of c.args.planned.now) c.loop-r.r (listeners_in c.loop-r.readers.items) (listeners_in c.push.new.self.items) c.in_ok-new.field-0 c.loop-r.invariant c.in_ok-new.ensures
    (ap listeners_in c.in_ok-push.ensures.items ∙ map-append listener c.loop-r.readers.items (reader ∷ []))

pub invariant_of-result : goal.invariant_of-result
invariant_of-result c =
    all_know c.args.planned.now c.in_ok-air.air c.loop-r.readers.items c.loop-r.r (c.in_ok-air.ensures.told ∙ ap air_of c.lend.ensures) c.loop-r.invariant
