use Rattle.std.proofs.Common.{◌∙◌, ap, not, sym}
use Rattle.std.specs.Option.{is_some}
use Rattle.air_base.specs.declared.verdicts.VerdictKind.TheVariants.{Accept}
use Rattle.air_model.specs.Judges.{by_entries}
use Rattle.air_model.specs.Sessions.{next_query, with_line}
use Rattle.receiver_core.specs.LastReads.{in_state}
use Rattle.receiver_core.proofs.StateLemmas.{goes_on, in_own_state, next_query_lines, not_whole_is, still_left, whole_is}
use Rattle.receiver_core.proofs.receivers.Receiver.accept_if_whole.Goals as goal

pub next_query-requires : goal.next_query-requires
next_query-requires c = still_left c.args.self.now c.give.new.self Accept c.give.ensures c.requires.left

pub returns-then-is_none : goal.returns-then-is_none
returns-then-is_none c =
    let old = c.args.self.now in
    let s = with_line (by_entries old.air.scheme) Accept old.state in
    goes_on old c.give.new.self c.next_query.new.self (λ reader t. next_query t) s _ c.give.ensures c.next_query.ensures (next_query_lines s)
    (whole_is old.air old.reader old.state (ap is_some (sym c.wanted.ensures.told) ∙ c.is_none.ensures ∙ ap not c.if-is_none.true))

pub returns-else-is_none : goal.returns-else-is_none
returns-else-is_none c =
    let old = c.args.self.now in
    in_own_state old c.requires.given ∙ ap (in_state old) (not_whole_is old.air old.reader old.state (ap is_some (sym c.wanted.ensures.told) ∙ c.is_none.ensures ∙ ap not c.if-is_none.false))
