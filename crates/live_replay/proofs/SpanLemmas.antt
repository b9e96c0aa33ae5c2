-- No reads don't lie too far apart.
use Rattle.std.proofs.Common.{◌≡◌, ◌∷◌, [], ℕ, List, false, length, sym, arith}
use Rattle.air_base.specs.declared.verdicts.ReadOf.{ReadOf}
use Rattle.air_model.specs.SessionLaws.{are_far}
use Rattle.air_model.proofs.HeardLemmas.{none_far}
use Rattle.live_replay.specs.Findings.{places_read}

pub none_apart : (version : ℕ) (reads : List ReadOf) → length reads ≡ 0 → false ≡ are_far version (places_read reads)
none_apart version [] none = sym (none_far version)
none_apart version (read ∷ reads) none = absurd (omega arith)
