use Rattle.std.proofs.Common.{◌+◌, ◌∷◌, [], ◌∙◌, length, ap, length-append}
use Rattle.listeners.proofs.PlaceReaderLemmas.{one_more_given}
use Rattle.listeners.proofs.place_hearers.PlaceHearers.new.Goals as goal

pub loop-r-preserved : goal.loop-r-preserved
loop-r-preserved c =
    let runs = c.loop-r.readers.items in
    let run = c.in_ok-new.field-0 in (
      ap length c.in_ok-push.ensures.items ∙ length-append runs (run ∷ []) ∙ ap (λ n. n + 1) c.loop-r.invariant.0,
      one_more_given c.args.planned.now [] c.loop-r.r runs c.push.new.self.items run c.loop-r.invariant.0 c.loop-r.invariant.1 c.in_ok-new.ensures c.in_ok-push.ensures.items,
    )
