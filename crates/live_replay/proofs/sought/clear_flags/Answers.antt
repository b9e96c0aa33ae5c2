use Rattle.std.proofs.Common.{rules, ◌≡◌, ◌∙◌, ap, length, replicate, get_or, false}
use Rattle.std.proofs.lemmas.List.{length-replicate}
use Rattle.air_history.proofs.MarkLemmas.{unmarked}
use Rattle.live_replay.proofs.sought.clear_flags.Goals as goal

pub returns : goal.returns
returns c =
    let made : c.resize.new.self.items ≡ replicate c.args.count false = search rules in
    record { sized = ap length made ∙ length-replicate c.args.count false; clear = λ i. ap (λ xs. get_or xs i false) made ∙ unmarked c.args.count i }
