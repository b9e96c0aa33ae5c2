use Rattle.std.proofs.Common.{Bor, List, ℕ, arith}
use Rattle.std.specs.Prelude.{Option}
use Rattle.std.specs.Option.{option_map}
use Rattle.air_cli.proofs.DeliveryLemmas.{delivers_all, delivers_none, delivers_part}
use Rattle.air_cli.proofs.OutputLemmas.{keeps_falling, rest_printed}
use Rattle.air_cli.proofs.outputs.deliver.Goals as goal

pub returns-in-Ok-print : goal.returns-in-Ok-print
returns-in-Ok-print g c =
    let S = g.S.Shelf in
    let before = S.state c.args.shelf.now in
    let mid = S.state c.write_tape.new.shelf in
    let now = S.state c.print.new.self in
    let output : Option (List ℕ) = option_map (λ (name : Bor (List ℕ)). name.now) c.args.output in
    let was = c.in-Ok.ensures.whole in
    record {
      gives = delivers_all output c.args.given.now c.tape.result.now c.text.result.now before mid now c.status.result c.tape.ensures c.text.ensures c.status.ensures
          was.holds was.calm was.printed c.print.ensures.rest.outputs c.in-Ok-print.ensures.all c.in-Ok-print.ensures.cause.calm;
      rest = rest_printed output c.tape.result.now before mid now was c.print.ensures.rest;
      counts = keeps_falling before.faults mid.faults now.faults was.calm c.print.ensures.cause.later;
    }

pub returns-in-Err-print : goal.returns-in-Err-print
returns-in-Err-print g c =
    let S = g.S.Shelf in
    let before = S.state c.args.shelf.now in
    let mid = S.state c.write_tape.new.shelf in
    let now = S.state c.print.new.self in
    let output : Option (List ℕ) = option_map (λ (name : Bor (List ℕ)). name.now) c.args.output in
    let was = c.in-Ok.ensures.whole in
    record {
      gives = delivers_part output c.args.given.now c.tape.result.now c.text.result.now before mid now c.tape.ensures c.text.ensures
          was.holds (omega (arith, was.calm.printing)) was.printed c.print.ensures.rest.outputs c.in-Err-print.ensures.part c.in-Err-print.ensures.cause.rose;
      rest = rest_printed output c.tape.result.now before mid now was c.print.ensures.rest;
      counts = keeps_falling before.faults mid.faults now.faults was.calm c.print.ensures.cause.later;
    }

pub returns-in-Err-clause-gives : goal.returns-in-Err-clause-gives
returns-in-Err-clause-gives g c =
    let S = g.S.Shelf in
    let before = S.state c.args.shelf.now in
    let now = S.state c.write_tape.new.shelf in
    let output : Option (List ℕ) = option_map (λ (name : Bor (List ℕ)). name.now) c.args.output in
    delivers_none output c.args.given.now c.tape.result.now before now c.tape.ensures c.in-Err.ensures.cut.fails c.in-Err.ensures.cut.printed
