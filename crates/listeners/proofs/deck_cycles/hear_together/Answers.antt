use Rattle.std.proofs.Common.{◌≡◌, ◌≤◌, ◌*◌, length, sym, ◌∙◌, ap, subst, arith, length-append}
use Rattle.air_base.specs.declared.verdicts.Form.{Form}
use Rattle.air_model.specs.Aired.{Air}
use Rattle.air_model.specs.Buckets.{entry_len, most_count}
use Rattle.air_model.specs.Decks.{edition}
use Rattle.air_model.specs.Programs.{program}
use Rattle.air_sender.specs.AiredBytes.{aired_bytes}
use Rattle.air_sender.specs.BoardBuckets.{board_bytes}
use Rattle.air_sender.proofs.SendLemmas.{length_cycle}
use Rattle.chunk_program.specs.Editions.{HaveItems, Plans, edition_disks}
use Rattle.listeners.proofs.TogetherLemmas.{together_room}
use Rattle.listeners.proofs.DeckCycleLemmas.{cycle_fits, cycle_heard, cycle_records, together_air}
use Rattle.listeners.proofs.SourceLemmas.{source_below, source_started, source_values}
use Rattle.listeners.proofs.deck_cycles.hear_together.Goals as goal

pub all_hear_cycle-requires-clause-counts : goal.all_hear_cycle-requires-clause-counts
all_hear_cycle-requires-clause-counts g c =
    let deck = c.args.planned.now in
    let G = c.requires.source.0 in
    let can = c.requires.source.2 in
    let board = g.S.Source.board c.args.source.now in
    let own = c.in_force-program.result.now in
    let form = c.own_form.result in
    let in_force = c.in_force-program.ensures.deck deck c.plans.ensures.told ∙ ap (λ n. edition_disks deck (edition deck n)) c.its_cycle.ensures.found in
    let joined = ap length (cycle_records deck G board c.requires.source.1 c.own_cycle_law.ensures can.can form own c.own_form.ensures.form in_force) in
    let parts = length-append (aired_bytes deck G) (board_bytes form own.edition (program own.disks) board) in
    let cycle = length_cycle form own.edition (program own.disks) board in
    together_room deck (aired_bytes deck G) c.args.listeners.items (length (program own.disks)) can.heard (omega (arith, joined, parts, cycle, can.few))

pub all_hear_cycle-requires-clause-fitting : goal.all_hear_cycle-requires-clause-fitting
all_hear_cycle-requires-clause-fitting g c k d below =
    let deck = c.args.planned.now in
    let G = c.requires.source.0 in
    let can = c.requires.source.2 in
    let own = c.in_force-program.result.now in
    let in_force = c.in_force-program.ensures.deck deck c.plans.ensures.told ∙ ap (λ n. edition_disks deck (edition deck n)) c.its_cycle.ensures.found in
    cycle_fits deck G (g.S.Source.board c.args.source.now) c.requires.source.1 c.own_cycle_law.ensures can.can c.own_form.result own c.own_form.ensures.form in_force _
    (together_air deck (aired_bytes deck G) c.args.listeners.items can.heard k d below)

pub all_hear_cycle-requires-clause-own : goal.all_hear_cycle-requires-clause-own
all_hear_cycle-requires-clause-own g c k d below =
    let deck = c.args.planned.now in
    c.in_force-program.ensures.items (length deck.items) (subst (λ (p : Plans). HaveItems (length deck.items) p.programs) (sym c.plans.ensures.told) c.plans.ensures.items)
    ∙ sym (ap (λ (a : Air). a.items) (together_air deck (aired_bytes deck c.requires.source.0) c.args.listeners.items c.requires.source.2.heard k d below))

pub all_hear_cycle-requires-clause-started : goal.all_hear_cycle-requires-clause-started
all_hear_cycle-requires-clause-started g c = source_started c.args.planned.now c.requires.source.0 (g.S.Source.board c.args.source.now) c.requires.source.1

pub all_hear_cycle-requires-clause-below : goal.all_hear_cycle-requires-clause-below
all_hear_cycle-requires-clause-below g c =
    source_below c.args.planned.now c.requires.source.0 (g.S.Source.board c.args.source.now) c.requires.source.1 c.below_law.ensures c.groups_below_law.ensures

pub all_hear_cycle-requires-clause-allowed : goal.all_hear_cycle-requires-clause-allowed
all_hear_cycle-requires-clause-allowed g c = subst g.S.Source.airs (sym (ap (λ (f : Form). f.policy) c.own_form.ensures.form)) c.requires.allowed

pub all_hear_cycle-requires-clause-items : goal.all_hear_cycle-requires-clause-items
all_hear_cycle-requires-clause-items g c =
    let n = length c.args.planned.now.items in
    c.in_force-program.ensures.items n (subst (λ (p : Plans). HaveItems n p.programs) (sym c.plans.ensures.told) c.plans.ensures.items)
    ∙ sym (source_values c.args.planned.now c.requires.source.0 (g.S.Source.board c.args.source.now) c.requires.source.1)

pub all_hear_cycle-requires-clause-few : goal.all_hear_cycle-requires-clause-few
all_hear_cycle-requires-clause-few g c =
    let deck = c.args.planned.now in
    let board = g.S.Source.board c.args.source.now in
    let items = source_values deck c.requires.source.0 board c.requires.source.1 in
    let version = ap (λ (f : Form). f.version) c.own_form.ensures.form in
    subst (λ n. length board.values ≤ most_count n) (sym version) (subst (λ n. n ≤ most_count deck.settings.version) (sym items) c.shows_planned.ensures.made.most)

pub all_hear_cycle-requires-clause-room : goal.all_hear_cycle-requires-clause-room
all_hear_cycle-requires-clause-room g c =
    let deck = c.args.planned.now in
    let board = g.S.Source.board c.args.source.now in
    let items = source_values deck c.requires.source.0 board c.requires.source.1 in
    let size : entry_len c.own_form.result.version * length board.values ≡ entry_len deck.settings.version * length deck.items =
    ap (λ (f : Form). entry_len f.version * length board.values) c.own_form.ensures.form ∙ ap (λ n. entry_len deck.settings.version * n) items in
    omega (arith, size, c.requires.room)

pub returns-clause-heard : goal.returns-clause-heard
returns-clause-heard g c = λ G from can.
    let deck = c.args.planned.now in
    let own = c.in_force-program.result.now in
    let in_force = c.in_force-program.ensures.deck deck c.plans.ensures.told ∙ ap (λ n. edition_disks deck (edition deck n)) c.its_cycle.ensures.found in
    cycle_heard deck G (g.S.Source.board c.args.source.now) from c.own_cycle_law.ensures can.can c.own_form.result own c.own_form.ensures.form in_force
    c.args.listeners.items c.in_ok-listeners.listeners.items can.heard c.in_ok-listeners.ensures.heard
