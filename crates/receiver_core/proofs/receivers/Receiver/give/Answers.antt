use Rattle.std.proofs.Common.{◌∙◌, ap}
use Rattle.air_model.specs.Judges.{by_entries}
use Rattle.air_model.specs.Sessions.{with_line}
use Rattle.receiver_core.specs.LastReads.{in_state}
use Rattle.receiver_core.specs.Receivers.{Receiver}
use Rattle.receiver_core.proofs.StateLemmas.{give_is}
use Rattle.receiver_core.proofs.receivers.Receiver.give.Goals as goal

pub returns : goal.returns
returns c =
    give_is c.self.inside c.set.new.self c.args.kind (ap (λ (r : Receiver). r.state.lines) c.self.view_is ∙ c.requires.given) (c.set.ensures ∙ c.line_reads.ensures)
    ∙ ap (λ (r : Receiver). in_state r (with_line (by_entries r.air.scheme) c.args.kind r.state)) c.self.view_is
