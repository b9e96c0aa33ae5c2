use Rattle.std.proofs.Common.{◌*◌, sym, ◌∙◌, ap, subst, arith}
use Rattle.std.proofs.lemmas.Nat.{mul-le}
use Rattle.listeners.specs.Hearings.{AreHearing}
use Rattle.scripts.proofs.TapePieceLemmas.{no_tape, nothing_aired}
use Rattle.scripts.proofs.script_airing.ScriptAiring.new.Goals as goal

pub overflow_mul-bytes : goal.overflow_mul-bytes
overflow_mul-bytes c =
    let few = c.longest_cycle.ensures.few in
    let same = c.from.ensures in
    let range = c.ranges.cycles in
    let all = mul-le c.from.result c.longest_cycle.result 4294967296 67567616 (omega arith) (omega arith) in
    omega arith

pub returns-clause-kept : goal.returns-clause-kept
returns-clause-kept c =
    let deck = c.args.planned.now in
    let run = c.in_ok-new.field-0 in
    record {
      run = c.in_ok-new.ensures.kept;
      hearers = subst (λ rs. AreHearing deck rs c.in_ok-new-2.field-0) (sym (nothing_aired deck run.events.items c.in_ok-new.ensures.empty)) c.in_ok-new-2.ensures;
      some = c.requires;
    }

pub returns-clause-nothing : goal.returns-clause-nothing
returns-clause-nothing c = no_tape c.args.planned.now c.in_ok-new.field-0.events.items c.in_ok-new.ensures.empty

pub returns-clause-room : goal.returns-clause-room
returns-clause-room c = c.in_ok-new-3.ensures.room ∙ ap (λ k. k * c.longest_cycle.result) c.from.ensures ∙ ap (λ n. c.args.cycles * n) c.longest_cycle.ensures.told
