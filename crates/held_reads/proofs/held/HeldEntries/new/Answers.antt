use Rattle.std.proofs.Common.{rules, ◌≡◌, ◌∙◌, replicate, sym, arith}
use Rattle.held_reads.specs.declared.cycles.TheConstants.{NOT_HELD}
use Rattle.held_reads.proofs.ArrayLemmas.{no_cycles}
use Rattle.held_reads.proofs.held.HeldEntries.new.Goals as goal

pub invariant_of-result : goal.invariant_of-result
invariant_of-result c =
    let filled : c.in_ok-cycles.cycles.items ≡ replicate c.args.n NOT_HELD = search rules in
    record {
      room = search rules;
      cycles = filled ∙ sym (no_cycles c.args.n);
      once = λ k d l. absurd (omega arith);
    }
