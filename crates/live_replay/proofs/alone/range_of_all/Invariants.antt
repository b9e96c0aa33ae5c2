use Rattle.std.proofs.Common.{◌≡◌, ◌<◌, ◌≤◌, ℕ, true, [], IfSome, length, get_or}
use Rattle.air_base.specs.declared.verdicts.ReadOf.{ReadOf}
use Rattle.air_history.specs.Reads.{origin}
use Rattle.live_replay.specs.Findings.{place_of_line}
use Rattle.live_replay.proofs.AloneLemmas.{is_late_for}
use Rattle.live_replay.proofs.alone.range_of_all.Given as goal

abbrev pub invariant-loop-read : goal.invariant-loop-read
invariant-loop-read l = record {
  within : l.end ≤ length l.replay.history;
  late : (k : ℕ) (d : ReadOf) → k < l.read-index → (q : ℕ) → is_late_for l.replay.history [] q (place_of_line (get_or l.reads k d)) ≡ true → l.first ≤ q;
  before : (k : ℕ) (d : ReadOf) → k < l.read-index → IfSome (origin l.replay.history (place_of_line (get_or l.reads k d))) (λ w. w < l.end);
}
