use Rattle.std.proofs.Common.{rules, ◌≡◌, ◌∙◌, length, replicate, sym, ap, arith}
use Rattle.held_reads.specs.declared.cycles.TheConstants.{NOT_HELD}
use Rattle.held_reads.specs.HeldFields.{held_reads}
use Rattle.held_reads.proofs.ArrayLemmas.{cycles_len, no_cycles}
use Rattle.held_reads.proofs.held.HeldEntries.clear.Goals as goal

pub invariant_of-self : goal.invariant_of-self
invariant_of-self c =
    let inside = c.self.inside in
    let long : length inside.cycles.items ≡ inside.n = ap length c.self.invariant.cycles ∙ cycles_len (held_reads inside) in
    record {
      room = search rules;
      cycles = (search rules) ∙ ap (λ n. replicate n NOT_HELD) long ∙ sym (no_cycles inside.n);
      once = λ k d l. absurd (omega arith);
    }
