-- What two calls that read one file leave, one after the other. The loop of `hear_pieces` cites these.
use Rattle.std.proofs.Common.{ℕ, List, ◌∙◌}
use Rattle.air_devices.specs.Contents.{Contents}
use Rattle.air_devices.specs.Counts.{Faults, KeepsCounts}
use Rattle.air_devices.specs.Unchanged.{KeepsButLeft}

pub left_twice : {name : List ℕ} {a b c : Contents} → KeepsButLeft name a b → KeepsButLeft name b c → KeepsButLeft name a c
left_twice {name} {a} {b} {c} first second = record {
  files = λ n. second.files n ∙ first.files n;
  other_left = λ n other. second.other_left n other ∙ first.other_left n other;
  outputs = λ n. second.outputs n ∙ first.outputs n;
  printed = second.printed ∙ first.printed;
}

pub calm_twice : {a b c : Faults} → KeepsCounts a b → KeepsCounts b c → KeepsCounts a c
calm_twice {a} {b} {c} first second = record {
  reading = λ n. second.reading n ∙ first.reading n;
  writing = λ n. second.writing n ∙ first.writing n;
  printing = second.printing ∙ first.printing;
}
