use Rattle.std.proofs.Common.{◌≡◌, ◌<◌, ◌-◌, ℕ, length, get_or, sym, ap, subst, ◌∙◌, arith}
use Rattle.air_history.specs.Tables.{values_of}
use Rattle.air_model.specs.Decks.{Item, values_in}
use Rattle.live_replay.specs.declared.writes.ItemWrite.{ItemWrite}
use Rattle.live_replay.specs.Private.Replays.{DeckAndHistory}
use Rattle.live_replay.specs.Private.Writes.{count_at, writes_from}
use Rattle.live_replay.proofs.LastLemmas.{count_within, last_written, none_written}
use Rattle.live_replay.proofs.RunLemmas.{value_in}
use Rattle.live_replay.proofs.replay.Replay.value.Goals as goal
use Rattle.live_replay.proofs.replay.Replay.value.Goals.{After-as_slice}

its : (c : After-as_slice) → c.as_slice.result.now ≡ writes_from (values_in c.args.self.now.deck) c.args.self.now.history c.args.item 0 (length c.args.self.now.history)
its c = c.as_slice.ensures ∙ c.writes.ensures

pub returns-then-before-eq0 : goal.returns-then-before-eq0
returns-then-before-eq0 c =
    let i = c.args.item in
    let Catalog : DeckAndHistory → ℕ = λ t. values_of (values_in t.deck) i in
    let within : i < length c.self.inside.deck.now.items = subst (λ (t : DeckAndHistory). i < length t.deck.items) (sym c.self.view_is) c.requires in
    sym (none_written (values_in c.args.self.now.deck) c.args.self.now.history i c.args.cycle (sym c.writes_before-before.ensures ∙ c.if-before-eq0.true)
    ∙ sym (ap Catalog c.self.view_is) ∙ value_in (λ (it : Item). it.value) c.self.inside.deck.now.items i c.value.result within c.value.ensures)

pub bounds-as_slice-before : goal.bounds-as_slice-before
bounds-as_slice-before c = omega (arith, ap length (its c), c.writes_before-before.ensures, count_within (values_in c.args.self.now.deck) c.args.self.now.history c.args.item c.args.cycle)

pub offset_bounds-as_slice-before : goal.offset_bounds-as_slice-before
offset_bounds-as_slice-before c = let below = bounds-as_slice-before c in omega (arith, c.as_slice.type_inv)

pub returns : goal.returns
returns c =
    let V = values_in c.args.self.now.deck in
    let H = c.args.self.now.history in
    let i = c.args.item in
    let d : ItemWrite = record { place = 0; cycle = 0; value = 0 } in
    let n = c.writes_before-before.result in
    let some : 0 < count_at V H i c.args.cycle = omega (arith, c.writes_before-before.ensures, c.if-before-eq0.false) in
    sym (last_written V H i c.args.cycle d some
    ∙ ap (λ (k : _). (get_or (writes_from V H i 0 (length H)) (k - 1) d).value) (sym c.writes_before-before.ensures)
    ∙ ap (λ (ws : _). (get_or ws (n - 1) d).value) (sym (its (goal.at.returns c).After-as_slice)))
