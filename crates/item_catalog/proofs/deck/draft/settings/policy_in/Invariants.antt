use Rattle.std.proofs.Common.{◌≡◌, drop}
use Rattle.item_catalog.specs.Settings.{policy_in}
use Rattle.item_catalog.proofs.deck.draft.settings.policy_in.Given as goal

abbrev pub invariant-loop-setting : goal.invariant-loop-setting
invariant-loop-setting l = policy_in (drop l.setting-index l.set) ≡ policy_in l.fn.set
