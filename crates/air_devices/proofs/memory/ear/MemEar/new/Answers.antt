use Rattle.std.proofs.Common.{◌≤◌, List, ℕ, length}
use Rattle.std.proofs.lemmas.List.Elements.{All-map}
use Rattle.air_devices.proofs.memory.ear.MemEar.new.Goals as goal

pub invariant_of-result : goal.invariant_of-result
invariant_of-result c = All-map (λ (bytes : List ℕ). 1 ≤ length bytes) (λ bytes. bytes.items) c.args.heard.items c.requires.filled
