use Rattle.std.proofs.Common.{◌≡◌, ◌<◌, ◌≤◌, ◌-◌, ◌==◌, cond, Option, Some, None, ℕ, length, get_or, sym, ap, subst, ◌∙◌, arith}
use Rattle.air_history.specs.Reads.{origin}
use Rattle.air_model.specs.Decks.{values_in}
use Rattle.live_replay.specs.declared.writes.ItemWrite.{ItemWrite}
use Rattle.live_replay.specs.Findings.{read_in_cycle}
use Rattle.live_replay.specs.Private.Replays.{DeckAndHistory}
use Rattle.live_replay.specs.Private.Writes.{writes_from}
use Rattle.live_replay.proofs.LastLemmas.{count_within, origin_of}
use Rattle.live_replay.proofs.NextLemmas.{next_inside, next_kept}
use Rattle.live_replay.proofs.ReplayLemmas.{kept_fits, past_origin}
use Rattle.live_replay.proofs.replay.Replay.around.Goals as goal

none : ItemWrite
none = record { place = 0; cycle = 0; value = 0 }

pub last_of-requires : goal.last_of-requires
last_of-requires c = omega (arith, ap length c.writes-writes.ensures, c.writes_before-before.ensures, count_within (values_in c.args.self.now.deck) c.args.self.now.history c.args.item c.args.cycle)

pub returns-clause-origin : goal.returns-clause-origin
returns-clause-origin c =
    let n = c.writes_before-before.result in
    c.last_of.ensures none
    ∙ ap (λ ws. cond (n == 0) None (Some (get_or ws (n - 1) none).place)) c.writes-writes.ensures
    ∙ origin_of (values_in c.args.self.now.deck) c.args.self.now.history c.args.item c.args.cycle n none c.writes_before-before.ensures

pub returns-clause-next : goal.returns-clause-next
returns-clause-next c = λ q wrote late.
    let V = values_in c.args.self.now.deck in
    let H = c.args.self.now.history in
    let n = c.writes_before-before.result in
    let inside : n < length c.writes-writes.result.now = (let l = next_inside V H c.args.item c.args.cycle q wrote late in omega (arith, ap length c.writes-writes.ensures, c.writes_before-before.ensures)) in
    subst (λ p. p ≤ q) (sym (c.place_of.ensures.some none inside ∙ ap (λ ws. (get_or ws n none).place) c.writes-writes.ensures
    ∙ ap (λ k. (get_or (writes_from V H c.args.item 0 (length H)) k none).place) c.writes_before-before.ensures)) (next_kept V H c.args.item c.args.cycle q wrote late none)

pub returns-then-item-items-clause-origin : goal.returns-then-item-items-clause-origin
returns-then-item-items-clause-origin c =
    let i = c.args.item in
    let n = length c.self.inside.deck.now.items in
    let Past : DeckAndHistory → Type 0 = λ t. ◌≡◌ {A = Option ℕ} None (origin t.history (read_in_cycle i c.args.cycle)) in
    let past : n ≤ i = omega (arith, c.items.ensures.told, c.if-item-items.true) in
    subst Past c.self.view_is (sym (past_origin n c.self.inside.history.now i c.args.cycle (kept_fits c.self.inside c.self.invariant) past))
