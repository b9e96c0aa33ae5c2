use Rattle.std.proofs.Common.{◌≡◌, ◌∙◌, None, ap, arith, length, sym}
use Rattle.std.proofs.lemmas.List.{length-set}
use Rattle.item_catalog.specs.Private.Drafts.{DraftValue, record_kind}
use Rattle.item_catalog.specs.RecordKinds.{first_of}
use Rattle.item_catalog.specs.Faults.{update_tests}
use Rattle.item_catalog.proofs.DeclarationLemmas.{update_tested}
use Rattle.item_catalog.proofs.deck.draft.Draft.add_update.Goals as goal

pub invariant_of-self-2 : goal.invariant_of-self-2
invariant_of-self-2 c =
    let read = c.in_ok-by.ensures.read in let inv = c.self.invariant in let d = c.args.self.now in
    let none : first_of (update_tests (length d.items) d.update_count c.in_ok-by.by c.in_ok-by.update.reads c.in_ok-by.update.writes) ≡ None = sym (ap (record_kind d) read.1) ∙ read.0 in
    let t = update_tested (length d.items) c.in_ok-by.by d.update_count c.in_ok-by.update.reads c.in_ok-by.update.writes none in
    let same = c.self.view_is ∙ c.in_ok-by.ensures.same in
    let given : c.self.inside.update_count ≡ d.update_count = ap (λ (d : DraftValue). d.update_count) same in
    record {
      items = inv.items;
      disks = inv.disks;
      replans = inv.replans;
      replan = inv.replan;
      updates = length-set c.self.inside.updates.items c.in_ok-by.by c.push.new.self ∙ inv.updates;
      updaters = omega (arith, c.max-self-inside.ensures, t.updater, inv.updaters);
      update_count = omega (arith, t.few);
      readers = inv.readers;
      queries = inv.queries;
      query_count = inv.query_count;
    }
