use Rattle.std.proofs.Common.{◌≡◌, ◌∙◌, ◌<◌, length, take, sym, ap, subst}
use Rattle.std.proofs.lemmas.List.Elements.{All-map}
use Rattle.air_history.specs.Clashes.{heard_clash}
use Rattle.air_history.specs.HeldReads.{HeldReads}
use Rattle.held_reads.specs.HeardReads.{heard_of_held}
use Rattle.held_reads.specs.Searches.{is_reached}
use Rattle.held_reads.specs.HeldFields.{held_reads}
use Rattle.held_reads.specs.Private.FirstClash.{IsFirstClash}
use Rattle.held_reads.proofs.ArrayLemmas.{cycles_len}
use Rattle.held_reads.proofs.ReachedLemmas.{reached_is}
use Rattle.held_reads.proofs.held.HeldEntries.least_reached.Goals as goal

pub first_clash-requires-clause-cycles : goal.first_clash-requires-clause-cycles
first_clash-requires-clause-cycles c = ap length (c.deref.ensures.value ∙ c.self.invariant.cycles) ∙ cycles_len (held_reads c.self.inside)

pub returns : goal.returns
returns c =
    let inside = c.self.inside in
    let entries = c.args.entries.now in
    let within = All-map (λ r. r.item < inside.n) heard_of_held (take inside.len inside.places.items) c.self.invariant.room.items in
    let sized : length entries ≡ inside.n = c.requires.sized ∙ ap (λ (h : HeldReads). h.n) (sym c.self.view_is) in
    reached_is (held_reads inside) entries c.first_clash.result within c.self.invariant.once sized c.requires.below
    (subst (λ cycles. IsFirstClash entries cycles c.first_clash.result) (c.deref.ensures.value ∙ c.self.invariant.cycles) c.first_clash.ensures)
    ∙ ap (λ (h : HeldReads). heard_clash (is_reached entries) h.reads) c.self.view_is
