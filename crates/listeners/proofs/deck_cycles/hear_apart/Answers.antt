use Rattle.std.proofs.Common.{◌≡◌, ◌≤◌, ◌+◌, ◌*◌, length, refl, sym, ◌∙◌, ap, subst, arith, length-append}
use Rattle.air_base.specs.declared.verdicts.Form.{Form}
use Rattle.air_model.specs.Aired.{air_of}
use Rattle.air_model.specs.Buckets.{entry_len, most_count}
use Rattle.air_model.specs.Decks.{edition}
use Rattle.air_model.specs.Programs.{program}
use Rattle.air_sender.specs.AiredBytes.{aired_bytes}
use Rattle.air_sender.specs.BoardBuckets.{board_bytes}
use Rattle.air_sender.proofs.SendLemmas.{length_cycle}
use Rattle.chunk_program.specs.Editions.{HaveItems, Plans, edition_disks}
use Rattle.listeners.specs.declared.readers.TheConstants.{MOST_TAPE_RECORDS}
use Rattle.listeners.specs.PlaceListeners.{AreGivenPlaces}
use Rattle.listeners.proofs.DeckCycleLemmas.{cycle_fits, cycle_records, slot_heard}
use Rattle.listeners.proofs.SourceLemmas.{source_below, source_started, source_values}
use Rattle.listeners.proofs.deck_cycles.hear_apart.Goals as goal

pub hear_cycle-requires-clause-started : goal.hear_cycle-requires-clause-started
hear_cycle-requires-clause-started g c = source_started c.args.planned.now c.requires.source.0 (g.S.Source.board c.args.source.now) c.requires.source.1

pub hear_cycle-requires-clause-below : goal.hear_cycle-requires-clause-below
hear_cycle-requires-clause-below g c =
    source_below c.args.planned.now c.requires.source.0 (g.S.Source.board c.args.source.now) c.requires.source.1 c.below_law.ensures c.groups_below_law.ensures

pub hear_cycle-requires-clause-allowed : goal.hear_cycle-requires-clause-allowed
hear_cycle-requires-clause-allowed g c = subst g.S.Source.airs (sym (ap (λ (f : Form). f.policy) c.own_form.ensures.form)) c.requires.allowed

pub hear_cycle-requires-clause-items : goal.hear_cycle-requires-clause-items
hear_cycle-requires-clause-items g c =
    let n = length c.args.planned.now.items in
    c.in_force-program.ensures.items n (subst (λ (p : Plans). HaveItems n p.programs) (sym c.plans.ensures.told) c.plans.ensures.items)
    ∙ sym (source_values c.args.planned.now c.requires.source.0 (g.S.Source.board c.args.source.now) c.requires.source.1)

pub hear_cycle-requires-clause-few : goal.hear_cycle-requires-clause-few
hear_cycle-requires-clause-few g c =
    let deck = c.args.planned.now in
    let board = g.S.Source.board c.args.source.now in
    let items = source_values deck c.requires.source.0 board c.requires.source.1 in
    let version = ap (λ (f : Form). f.version) c.own_form.ensures.form in
    subst (λ n. length board.values ≤ most_count n) (sym version) (subst (λ n. n ≤ most_count deck.settings.version) (sym items) c.shows_planned.ensures.made.most)

pub hear_cycle-requires-clause-room : goal.hear_cycle-requires-clause-room
hear_cycle-requires-clause-room g c =
    let deck = c.args.planned.now in
    let board = g.S.Source.board c.args.source.now in
    let items = source_values deck c.requires.source.0 board c.requires.source.1 in
    let size : entry_len c.own_form.result.version * length board.values ≡ entry_len deck.settings.version * length deck.items =
    ap (λ (f : Form). entry_len f.version * length board.values) c.own_form.ensures.form ∙ ap (λ n. entry_len deck.settings.version * n) items in
    omega (arith, size, c.requires.room)

pub hear_cycle-requires-clause-given : goal.hear_cycle-requires-clause-given
hear_cycle-requires-clause-given g c =
    let deck = c.args.planned.now in
    let G = c.requires.source.0 in
    let can = c.requires.source.2 in
    let board = g.S.Source.board c.args.source.now in
    let own = c.in_force-program.result.now in
    let form = c.own_form.result in
    let in_force = c.in_force-program.ensures.deck deck c.plans.ensures.told ∙ ap (λ n. edition_disks deck (edition deck n)) c.its_cycle.ensures.found in
    let joined = ap length (cycle_records deck G board c.requires.source.1 c.own_cycle_law.ensures can.can form own c.own_form.ensures.form in_force) in
    let parts = length-append (aired_bytes deck G) (board_bytes form own.edition (program own.disks) board) in
    let cycle = length_cycle form own.edition (program own.disks) board in
    let few : length (aired_bytes deck G) + length (program own.disks) ≤ MOST_TAPE_RECORDS = omega (arith, joined, parts, cycle, can.few) in
    (deck, aired_bytes deck G, can.heard, cycle_fits deck G board c.requires.source.1 c.own_cycle_law.ensures can.can form own c.own_form.ensures.form in_force (air_of deck) refl, few)

pub hear_cycle-requires-clause-decodes : goal.hear_cycle-requires-clause-decodes
hear_cycle-requires-clause-decodes g c = λ s l.
    let deck = c.args.planned.now in
    let own = c.in_force-program.result.now in
    let in_force = c.in_force-program.ensures.deck deck c.plans.ensures.told ∙ ap (λ n. edition_disks deck (edition deck n)) c.its_cycle.ensures.found in
    (slot_heard deck c.requires.source.0 (g.S.Source.board c.args.source.now) c.requires.source.1 c.own_cycle_law.ensures c.requires.source.2.can c.own_form.result own c.own_form.ensures.form in_force s l).1

pub returns-clause-heard : goal.returns-clause-heard
returns-clause-heard g c = λ G from can.
    let deck = c.args.planned.now in
    let board = g.S.Source.board c.args.source.now in
    let own = c.in_force-program.result.now in
    let form = c.own_form.result in
    let in_force = c.in_force-program.ensures.deck deck c.plans.ensures.told ∙ ap (λ n. edition_disks deck (edition deck n)) c.its_cycle.ensures.found in
    subst (λ rs. AreGivenPlaces deck rs c.in_ok-hearers.hearers)
    (cycle_records deck G board from c.own_cycle_law.ensures can.can form own c.own_form.ensures.form in_force)
    (c.in_ok-hearers.ensures.heard deck (aired_bytes deck G) can.heard (cycle_fits deck G board from c.own_cycle_law.ensures can.can form own c.own_form.ensures.form in_force (air_of deck) refl))
