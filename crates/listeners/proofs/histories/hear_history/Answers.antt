use Rattle.std.proofs.Common.{◌≡◌, ◌+◌, ◌*◌, ◌∙◌, [], length, ap, sym, subst, arith}
use Rattle.std.proofs.lemmas.List.{with_items_is}
use Rattle.air_history.specs.Boards.{board_of}
use Rattle.air_model.specs.Buckets.{entry_len}
use Rattle.air_model.specs.Decks.{values_in}
use Rattle.air_sender.specs.AiredBytes.{aired_bytes}
use Rattle.listeners.specs.Hearings.{AreHearing}
use Rattle.listeners.proofs.HistoryLemmas.{next_fits, next_heard, next_room, next_up_to, none_heard_yet}
use Rattle.listeners.proofs.histories.hear_history.Goals as goal

pub loop-event-init : goal.loop-event-init
loop-event-init c =
    let deck = c.args.planned.now in
    let values = c.deref.ensures.value ∙ c.in_ok-values.ensures ∙ ap values_in c.deck.ensures.told in
    record {
      stepped = c.in_ok-board.ensures.empty ∙ ap (λ vs. board_of vs []) values;
      groups = c.in_ok-groups.ensures;
      room = (let room : length c.in_ok-room.room.items ≡ 24 + entry_len deck.settings.version * length deck.items = omega (arith, c.in_ok-room.ensures.len, c.bucket_room.ensures, c.in_ok-room.room.ok.0) in room);
      heard = none_heard_yet deck c.in_ok-hearers.hearers c.in_ok-hearers.ensures;
    }

pub apply-requires-clause-fits : goal.apply-requires-clause-fits
apply-requires-clause-fits c = next_fits c.args.planned.now c.args.events.now c.loop-event.event-index c.event-item.result c.loop-event-test.true c.event-item.is c.loop-event.board c.requires.can c.loop-event.invariant.stepped

pub apply-requires-clause-room : goal.apply-requires-clause-room
apply-requires-clause-room c = next_room c.args.planned.now c.args.events.now c.loop-event.event-index c.event-item.result c.loop-event-test.true c.event-item.is c.loop-event.board c.requires.cycles c.loop-event.invariant.stepped

pub hear_event-requires-clause-next : goal.hear_event-requires-clause-next
hear_event-requires-clause-next c = (
  _,
  next_heard c.args.planned.now c.args.events.now c.loop-event.event-index c.event-item.result c.loop-event-test.true c.event-item.is c.apply.new.self c.loop-event.hearers c.requires.can c.requires.few
      (c.apply.ensures.followed _ _ c.loop-event.invariant.stepped) c.loop-event.invariant.heard,
)

pub loop-event-preserved : goal.loop-event-preserved
loop-event-preserved c =
    let deck = c.args.planned.now in
    let H = c.args.events.now in
    let k = c.loop-event.event-index in
    let e = c.event-item.result in
    let up_to = next_up_to deck H k e c.loop-event-test.true c.event-item.is in
    let board = c.apply.ensures.followed _ _ c.loop-event.invariant.stepped in
    let next = next_heard deck H k e c.loop-event-test.true c.event-item.is c.apply.new.self c.loop-event.hearers c.requires.can c.requires.few board c.loop-event.invariant.heard in
    let long : length c.hear_event.new.room ≡ c.loop-event.room.len = c.hear_event.auto.room ∙ c.deref_mut.ensures.len in
    record {
      stepped = board ∙ ap (board_of (values_in deck)) (sym up_to);
      groups = c.in_ok-hearers-2.ensures.groups;
      room = ap length (with_items_is c.loop-event.room c.hear_event.new.room long) ∙ c.hear_event.auto.room ∙ ap length c.deref_mut.ensures.value ∙ c.loop-event.invariant.room;
      heard = subst (λ G. AreHearing deck (aired_bytes deck G) c.in_ok-hearers-2.hearers) (sym up_to) (c.in_ok-hearers-2.ensures.heard _ next);
    }
