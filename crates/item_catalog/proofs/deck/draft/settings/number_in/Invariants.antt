use Rattle.std.proofs.Common.{◌≡◌, drop}
use Rattle.item_catalog.specs.Settings.{number_in}
use Rattle.item_catalog.proofs.deck.draft.settings.number_in.Given as goal

abbrev pub invariant-loop-setting : goal.invariant-loop-setting
invariant-loop-setting l = number_in l.name (drop l.setting-index l.set) ≡ number_in l.name l.fn.set
