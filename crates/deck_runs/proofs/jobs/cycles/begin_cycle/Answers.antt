use Rattle.std.proofs.Common.{◌≡◌, ◌∙◌, All, length, sym, ap, subst, arith, inr}
use Rattle.air_history.specs.Histories.{starts, ItemsFit, events_in}
use Rattle.air_history.specs.Tables.{BasesRead}
use Rattle.cycle_snapshot.specs.Batches.{IsBatch}
use Rattle.control_matrix.specs.BoardSteps.{step_all}
use Rattle.cycle_snapshot.proofs.BatchLemmas.{batch_starts}
use Rattle.deck_runs.specs.PublishedBatches.{IsUpTo}
use Rattle.air_sender.specs.BoardBuckets.{EntriesBelow, spread}
use Rattle.group_matrix.specs.GroupBoards.{grouped}
use Rattle.deck_runs.proofs.CycleLemmas.{at_fault, board_ahead, board_cycle, board_kept, board_seen, board_sized, in_step}
use Rattle.deck_runs.proofs.SendLemmas.{beginning, last, started}
use Rattle.deck_runs.proofs.jobs.cycles.begin_cycle.Goals as goal

pub apply_all-requires-clause-fits : goal.apply_all-requires-clause-fits
apply_all-requires-clause-fits g c =
    let p = c.args.pass.now in
    let f = c.args.publisher.now in
    let s = c.in_ok-fresh.ensures.started f.batches c.requires.step.published in
    let sized = board_sized p.values c.args.board.now (events_in f.batches) c.requires.step.board in
    subst (λ n. All (ItemsFit n) c.deref.result.now) (sym sized) (subst (All (ItemsFit (length p.values))) (sym c.deref.ensures.value) s.0.fits)

pub apply_all-requires-clause-room : goal.apply_all-requires-clause-room
apply_all-requires-clause-room g c =
    let p = c.args.pass.now in
    let f = c.args.publisher.now in
    let s = c.in_ok-fresh.ensures.started f.batches c.requires.step.published in
    let cycle = board_cycle p f c.args.board.now c.requires.step in
    let one : starts c.deref.result.now ≡ 1 = ap starts c.deref.ensures.value ∙ batch_starts (length p.values) c.in_ok-fresh.fresh.items s.0 in
    let room = c.requires.room.1 in
    omega arith

pub fill_from-requires : goal.fill_from-requires
fill_from-requires g c =
    record { suits = (c.args.means.now.form, subst (λ n. g.A.Airing.suits c.args.airing.now n c.args.means.now.form) (grind (arith, board_sized)) c.requires.suits) }

pub publish-requires-clause-batch : goal.publish-requires-clause-batch
publish-requires-clause-batch g c =
    let f = c.args.publisher.now in
    let s = c.in_ok-fresh.ensures.started f.batches c.requires.step.published in
    subst (λ v. IsBatch (length v) c.in_ok-fresh.fresh.items) (sym c.requires.step.values) s.0

pub publish-requires-clause-room : goal.publish-requires-clause-room
publish-requires-clause-room g c = let count = c.requires.step.published.count in let room = c.requires.room.0 in omega arith

pub returns-clause-begun : goal.returns-clause-begun
returns-clause-begun g c =
    let p = c.args.pass.now in
    let f = c.args.publisher.now in
    let fresh = c.in_ok-fresh.fresh.items in
    let step = c.requires.step in
    let s = c.in_ok-fresh.ensures.started f.batches step.published in
    let lent = c.deref.ensures.value in
    let bases = subst (All BasesRead) lent c.apply_all.ensures.bases in (
      in_step p c.start_fresh.new.pass f c.publish.new.self c.args.board.now c.apply_all.new.board fresh step c.start_fresh.ensures.on c.in_ok-publish.ensures
          (c.apply_all.ensures.stepped ∙ ap (step_all c.args.board.now) lent) s.0 bases s.2,
      (fresh, c.in_ok-publish.ensures, subst (λ v. IsBatch (length v) fresh) (sym step.values) s.0),
    )

pub returns-clause-board : goal.returns-clause-board
returns-clause-board g c = let b = returns-clause-begun g c in board_seen c.start_fresh.new.pass c.publish.new.self c.apply_all.new.board b.0

pub returns-clause-started : goal.returns-clause-started
returns-clause-started g c =
    let b = returns-clause-begun g c in
    started c.args.pass.now c.start_fresh.new.pass c.args.publisher.now c.publish.new.self c.apply_all.new.board c.start_fresh.ensures.on b.0 b.1

pub returns-clause-below : goal.returns-clause-below
returns-clause-below g c =
    let b = returns-clause-begun g c in
    let p = c.args.pass.now in
    let q = c.start_fresh.new.pass in
    let f = c.args.publisher.now in
    let h = c.publish.new.self in
    let board = c.apply_all.new.board in
    let on = c.start_fresh.ensures.on in
    subst EntriesBelow (sym (last p q f h board on b.0 b.1)) (c.below_law.ensures p.values (beginning p q f h board on b.0 b.1))

pub returns-clause-groups_below : goal.returns-clause-groups_below
returns-clause-groups_below g c =
    let b = returns-clause-begun g c in
    let p = c.args.pass.now in
    let q = c.start_fresh.new.pass in
    let f = c.args.publisher.now in
    let h = c.publish.new.self in
    let board = c.apply_all.new.board in
    let on = c.start_fresh.ensures.on in
    λ n pos. subst (λ b. EntriesBelow (spread (grouped n b))) (sym (last p q f h board on b.0 b.1)) (c.groups_below_law.ensures n p.values (beginning p q f h board on b.0 b.1) pos)

pub returns-clause-sized : goal.returns-clause-sized
returns-clause-sized g c =
    let b = returns-clause-begun g c in
    let p = c.args.pass.now in
    let board = c.apply_all.new.board in
    board_sized p.values board _ (last p c.start_fresh.new.pass c.args.publisher.now c.publish.new.self board c.start_fresh.ensures.on b.0 b.1)

pub returns-in_err-fresh-clause-board : goal.returns-in_err-fresh-clause-board
returns-in_err-fresh-clause-board g c =
    let f = c.args.publisher.now in
    board_kept c.args.pass.now c.start_fresh.new.pass f c.args.board.now c.requires.step c.start_fresh.ensures.on (c.in_err-fresh.ensures.started f.batches c.requires.step.published)

pub returns-in_err-publish-clause-board : goal.returns-in_err-publish-clause-board
returns-in_err-publish-clause-board g c =
    let f = c.args.publisher.now in
    let fresh = c.in_ok-fresh.fresh.items in
    let s = c.in_ok-fresh.ensures.started f.batches c.requires.step.published in
    let lent = c.deref.ensures.value in
    board_ahead c.args.pass.now c.start_fresh.new.pass f c.args.board.now c.apply_all.new.board fresh c.requires.step c.start_fresh.ensures.on
    (c.apply_all.ensures.stepped ∙ ap (step_all c.args.board.now) lent) s.0 (subst (All BasesRead) lent c.apply_all.ensures.bases) s.2

pub returns-in_err-publish-clause-stopped : goal.returns-in_err-publish-clause-stopped
returns-in_err-publish-clause-stopped g c =
    let f = c.args.publisher.now in
    let s = c.in_ok-fresh.ensures.started f.batches c.requires.step.published in
    at_fault _ c.from_residual-in_err-publish.result (c.in_err-publish.ensures, inr (subst (IsUpTo 1 c.start_fresh.new.pass.seen) (sym (ap (λ x. x.batches) c.in_err-publish.ensures)) s.1))
