use Rattle.std.proofs.Common.{◌≡◌, ◌+◌, ◌*◌, ◌∙◌, [], length, replicate, ap, rules, arith}
use Rattle.air_history.specs.Boards.{board_of}
use Rattle.air_model.specs.Buckets.{entry_len}
use Rattle.air_model.specs.Decks.{Deck, values_in}
use Rattle.scripts.proofs.PieceLemmas.{piece_begins}
use Rattle.scripts.proofs.piece_runs.PieceRun.new.Goals as goal

pub returns-clause-kept : goal.returns-clause-kept
returns-clause-kept c =
    let deck = c.args.planned.now in
    let told = c.deck-deck.ensures.told in
    let values = c.deref.ensures.value ∙ c.in_ok-values.ensures ∙ ap values_in told in
    let updaters = c.updaters.ensures.told ∙ ap (λ (d : Deck). length d.updates) told in
    let zeros : c.in_ok-vec.field-0.items ≡ replicate c.updaters.result 0 = search rules in
    let room : length c.in_ok-vec-2.field-0.items ≡ 24 + entry_len deck.settings.version * length deck.items = omega (arith, c.in_ok-vec-2.ensures.len, c.bucket_room.ensures, c.in_ok-vec-2.field-0.ok.0) in
    piece_begins deck (record { events = c.new.result; made = c.in_ok-vec.field-0; board = c.in_ok-new.field-0; groups = c.in_ok-groups_of.field-0; room = c.in_ok-vec-2.field-0 })
    c.new.ensures.items (c.in_ok-new.ensures.empty ∙ ap (λ vs. board_of vs []) values) (zeros ∙ ap (λ n. replicate n 0) updaters) c.in_ok-groups_of.ensures room
