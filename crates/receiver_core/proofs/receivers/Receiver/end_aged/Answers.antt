use Rattle.std.proofs.Common.{refl}
use Rattle.air_base.specs.declared.verdicts.VerdictKind.TheVariants.{Aged}
use Rattle.air_model.specs.Judges.{by_entries}
use Rattle.air_model.specs.Sessions.{next_attempt, with_line}
use Rattle.receiver_core.proofs.StateLemmas.{goes_on, next_attempt_lines, still_left}
use Rattle.receiver_core.proofs.receivers.Receiver.end_aged.Goals as goal

pub next_attempt-requires : goal.next_attempt-requires
next_attempt-requires c = still_left c.args.self.now c.give.new.self (Aged c.args.item c.args.cycle) c.give.ensures c.requires.left

pub returns : goal.returns
returns c =
    let old = c.args.self.now in
    let s = with_line (by_entries old.air.scheme) (Aged c.args.item c.args.cycle) old.state in
    goes_on old c.give.new.self c.next_attempt.new.self next_attempt s _ c.give.ensures c.next_attempt.ensures (next_attempt_lines old.reader s) refl
