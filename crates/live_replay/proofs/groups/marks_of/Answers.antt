use Rattle.std.proofs.Common.{◌≡◌, ◌≤◌, ◌+◌, false, length, get_or, sym, ap, ◌∙◌, arith}
use Rattle.live_replay.specs.Findings.{place_of_line}
use Rattle.live_replay.specs.Private.Groups.{group_reads}
use Rattle.live_replay.proofs.MarkedLemmas.{alone_past}
use Rattle.live_replay.proofs.groups.marks_of.Goals as goal

pub returns-then-first-events : goal.returns-then-first-events
returns-then-first-events c = record {
  alone = λ k.
      let r = c.args.replay.now in
      let listed : length c.events.result.now ≡ length r.history = ap length c.events.ensures.listed in
      let past : length r.history ≤ c.first_of_all-first.result + k = omega (arith, c.if-first-events.true) in
      ap (λ xs. get_or xs k false) c.new.ensures.items
      ∙ sym (alone_past r.history (group_reads r.deck.settings.group (length r.deck.items) (place_of_line c.args.read.now)) (c.first_of_all-first.result + k) past);
  low = c.first_of_all-first.ensures.least;
}

pub returns : goal.returns
returns c = record { alone = λ k. c.in_ok-marks.ensures k; low = c.first_of_all-first.ensures.least }
