use Rattle.std.proofs.Common.{◌≡◌, length, get_or, nat_lt, [], false}
use Rattle.air_model.specs.Decks.{scripted_commits}
use Rattle.item_catalog.specs.Faults.{some_below}
use Rattle.item_catalog.proofs.scripts.Script.overdraws.Given as goal

abbrev pub invariant-loop-by : goal.invariant-loop-by
invariant-loop-by l = some_below l.by (λ by. nat_lt (length (get_or l.updates by [])) (scripted_commits by l.self)) ≡ false
