use Rattle.std.proofs.Common.{◌≡◌, ◌≤◌, ◌-◌, length, take, drop, sym, ap, ◌∙◌, arith}
use Rattle.air_model.specs.Decks.{values_in}
use Rattle.live_replay.specs.Private.Writes.{count_at, writes_from}
use Rattle.live_replay.proofs.BetweenLemmas.{between_kept, between_none}
use Rattle.live_replay.proofs.LastLemmas.{count_within}
use Rattle.live_replay.proofs.replay.Replay.writes_between.Goals as goal
use Rattle.live_replay.proofs.replay.Replay.writes_between.Goals.{After-as_slice}

its : (c : After-as_slice) → c.as_slice.result.now ≡ writes_from (values_in c.args.self.now.deck) c.args.self.now.history c.args.item 0 (length c.args.self.now.history)
its c = c.as_slice.ensures ∙ c.writes.ensures

pub returns-then-end-first : goal.returns-then-end-first
returns-then-end-first c = sym (between_none (values_in c.args.self.now.deck) c.args.self.now.history c.args.item c.args.from c.args.to
    (omega (arith, c.writes_before-first.ensures, c.writes_before-end.ensures, c.if-end-first.true)))

pub slice_bounds-result-end-2 : goal.slice_bounds-result-end-2
slice_bounds-result-end-2 c = omega (arith, ap length (its c), c.writes_before-end.ensures, count_within (values_in c.args.self.now.deck) c.args.self.now.history c.args.item c.args.to)

pub offset_bounds-as_slice-first : goal.offset_bounds-as_slice-first
offset_bounds-as_slice-first c =
    let below : c.writes_before-end.result ≤ length c.as_slice.result.now = omega (arith, ap length (its c), c.writes_before-end.ensures, count_within (values_in c.args.self.now.deck) c.args.self.now.history c.args.item c.args.to) in
    omega (arith, c.as_slice.type_inv)

pub returns : goal.returns
returns c =
    let V = values_in c.args.self.now.deck in
    let H = c.args.self.now.history in
    let i = c.args.item in
    let first : c.writes_before-first.result ≡ count_at V H i c.args.from = c.writes_before-first.ensures in
    let end : c.writes_before-end.result ≡ count_at V H i c.args.to = c.writes_before-end.ensures in
    ap (λ ws. take (c.writes_before-end.result - c.writes_before-first.result) (drop c.writes_before-first.result ws)) (its (goal.at.returns c).After-as_slice)
    ∙ ap (λ k. take (c.writes_before-end.result - k) (drop k (writes_from V H i 0 (length H)))) first
    ∙ ap (λ k. take (k - count_at V H i c.args.from) (drop (count_at V H i c.args.from) (writes_from V H i 0 (length H)))) end
    ∙ between_kept V H i c.args.from c.args.to (omega arith)
