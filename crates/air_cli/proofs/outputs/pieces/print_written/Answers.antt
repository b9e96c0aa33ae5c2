use Rattle.std.proofs.Common.{sym, ap, ◌∙◌}
use Rattle.air_cli.specs.ReportsAndTapes.{given_status}
use Rattle.air_cli.proofs.OutputLemmas.{keeps_falling, rest_printed}
use Rattle.air_cli.proofs.PieceAnswers.{printed_all, printed_part, stopped_counts, stopped_delivers, stopped_rest}
use Rattle.air_cli.proofs.outputs.pieces.print_written.Goals as goal

pub returns-in-Ok-print : goal.returns-in-Ok-print
returns-in-Ok-print g c = λ output given first same of_text of_tape stopped.
    let S = g.S.Shelf in
    let mid = S.state c.args.shelf.now in
    let now = S.state c.print.new.self in
    let printed = c.in-Ok-print.ensures in
    let text = rw c.in-Ok.is at of_text in
    let whole = rw c.in-Ok.is at of_tape in
    record {
      delivers = printed_all output given c.deref.result.now first mid now (ap given_status (sym same)) (c.deref.ensures.value ∙ text) whole printed.all c.print.ensures.rest printed.cause.calm;
      rest = rest_printed output given.tape first mid now whole c.print.ensures.rest;
      counts = keeps_falling first.faults mid.faults now.faults whole.calm c.print.ensures.cause.later;
    }

pub returns-in-Ok : goal.returns-in-Ok
returns-in-Ok g c = λ output given first same of_text of_tape stopped.
    let S = g.S.Shelf in
    let mid = S.state c.args.shelf.now in
    let now = S.state c.print.new.self in
    let failed = c.in-Err-print.ensures in
    let text = rw c.in-Ok.is at of_text in
    let whole = rw c.in-Ok.is at of_tape in
    record {
      delivers = printed_part output given c.deref.result.now first mid now (c.deref.ensures.value ∙ text) whole failed.part c.print.ensures.rest failed.cause.rose;
      rest = rest_printed output given.tape first mid now whole c.print.ensures.rest;
      counts = keeps_falling first.faults mid.faults now.faults whole.calm c.print.ensures.cause.later;
    }

pub returns : goal.returns
returns g c = λ output given first same of_text of_tape of_stop.
    let S = g.S.Shelf in
    let mid = S.state c.args.shelf.now in
    let status = c.in-Err.status in
    let stopped = rw c.in-Err.is at of_stop in
    record {
      delivers = stopped_delivers output given first mid status stopped;
      rest = stopped_rest output given.tape first mid status stopped;
      counts = stopped_counts output given.tape first mid status stopped;
    }
