use Rattle.std.proofs.Common.{◌≡◌, ◌*◌, ◌++◌, length, refl, sym, ◌∙◌, ap, subst, arith}
use Rattle.std.proofs.lemmas.List.{append_assoc}
use Rattle.air_base.specs.declared.verdicts.Form.{Form}
use Rattle.air_history.specs.declared.histories.Event.TheVariants.{Start}
use Rattle.air_history.specs.Histories.{is_start}
use Rattle.air_model.specs.Buckets.{entry_len}
use Rattle.air_model.specs.Decks.{edition}
use Rattle.air_model.specs.Programs.{program}
use Rattle.air_devices.specs.Masts.{SentBuckets}
use Rattle.air_sender.specs.BoardBuckets.{board_bytes}
use Rattle.air_sender.specs.TapeMasts.{told_by_tape}
use Rattle.air_sender.proofs.AiredLemmas.{few_full, start_aired, told_alike}
use Rattle.chunk_program.specs.Editions.{HaveItems, Plans, edition_disks}
use Rattle.listeners.proofs.SourceLemmas.{board_after, source_below, source_cycle, source_started, source_values}
use Rattle.scripts.proofs.cycle_sources.air_from.Goals as goal

pub air_source-requires-clause-started : goal.air_source-requires-clause-started
air_source-requires-clause-started g c = source_started c.args.planned.now c.requires.source.0 (g.S.Source.board c.args.source.now) c.requires.source.1

pub air_source-requires-clause-below : goal.air_source-requires-clause-below
air_source-requires-clause-below g c =
    source_below c.args.planned.now c.requires.source.0 (g.S.Source.board c.args.source.now) c.requires.source.1 c.below_law.ensures c.groups_below_law.ensures

pub air_source-requires-clause-allowed : goal.air_source-requires-clause-allowed
air_source-requires-clause-allowed g c = subst g.S.Source.airs (sym (ap (λ (f : Form). f.policy) c.own_form.ensures.form)) c.requires.allowed

pub air_source-requires-clause-items : goal.air_source-requires-clause-items
air_source-requires-clause-items g c =
    let n = length c.args.planned.now.items in
    c.in_force-program.ensures.items n (subst (λ (p : Plans). HaveItems n p.programs) (sym c.plans.ensures.told) c.plans.ensures.items)
    ∙ sym (source_values c.args.planned.now c.requires.source.0 (g.S.Source.board c.args.source.now) c.requires.source.1)

pub air_source-requires-clause-few : goal.air_source-requires-clause-few
air_source-requires-clause-few g c one =
    let deck = c.args.planned.now in
    let items = source_values deck c.requires.source.0 (g.S.Source.board c.args.source.now) c.requires.source.1 in
    omega (arith, items, few_full deck c.shows_planned.ensures.made c.own_form.result.version (ap (λ (f : Form). f.version) c.own_form.ensures.form) one)

pub air_source-requires-clause-room : goal.air_source-requires-clause-room
air_source-requires-clause-room g c =
    let deck = c.args.planned.now in
    let board = g.S.Source.board c.args.source.now in
    let items = source_values deck c.requires.source.0 board c.requires.source.1 in
    let size : entry_len c.own_form.result.version * length board.values ≡ entry_len deck.settings.version * length deck.items =
    ap (λ (f : Form). entry_len f.version * length board.values) c.own_form.ensures.form ∙ ap (λ n. entry_len deck.settings.version * n) items in
    omega (arith, size, c.requires.room)

pub returns-in-Ok-clause-aired : goal.returns-in-Ok-clause-aired
unfolding is_start
returns-in-Ok-clause-aired g c = λ G before from so_far.
    let deck = c.args.planned.now in
    let board = g.S.Source.board c.args.source.now in
    let old = (told_by_tape c.args.piece.now).buckets in
    let sent = ap (λ (t : SentBuckets). t.buckets) (told_alike c.in-Ok.ensures.aired) in
    let own = c.in_force-program.result.now in
    let in_force = c.in_force-program.ensures.deck deck c.plans.ensures.told
    ∙ ap (λ n. edition_disks deck (edition deck n)) (c.its_cycle.ensures.found ∙ source_cycle deck G board from) in
    let cycle = board_bytes c.own_form.result own.edition (program own.disks) board in
    let grew = ap (λ l. before ++ l) sent ∙ sym (append_assoc before old cycle) in
    sym (start_aired deck G Start (board_after deck G board from) refl c.own_cycle_law.ensures c.shows_planned.ensures.made refl board from
    c.own_form.result own (before ++ old) (before ++ (told_by_tape c.air_source.new.mast).buckets) c.own_form.ensures.form in_force (sym so_far) grew)
