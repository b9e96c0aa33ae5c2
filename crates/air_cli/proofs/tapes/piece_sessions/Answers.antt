use Rattle.std.proofs.Common.{◌≡◌, ◌∙◌, All, List, [], length, map, ap, sym, subst, arith}
use Rattle.std.specs.List.{range_with_len}
use Rattle.std.proofs.lemmas.List.Elements.{All-map}
use Rattle.air_model.specs.Buckets.{bucket_in}
use Rattle.air_model.specs.Decks.{Deck}
use Rattle.air_model.specs.Reports.{counts_lines, verdict_lines}
use Rattle.air_model.specs.Tapes.{tape_read}
use Rattle.listeners.specs.Listeners.{AreNumbered, Listener, end_state, hears, listener_of}
use Rattle.listeners.proofs.CountLemmas.{heard_by}
use Rattle.listeners.proofs.ReaderLemmas.{are_numbered, hears_none, sessions_are}
use Rattle.air_cli.proofs.tapes.piece_sessions.Goals as goal

-- The readers of a deck heard nothing at first.
at_first : (d : Deck) (readers : List Listener) → readers ≡ map (listener_of d) (range_with_len 0 (length d.readers)) → All (λ l. heard_by l.state ≡ 0) readers × (readers ≡ map (hears []) readers)
at_first d readers same = (
  subst (All (λ l. heard_by l.state ≡ 0)) (sym same) (All-map (λ l. heard_by l.state ≡ 0) (listener_of d) (range_with_len 0 (length d.readers)) (λ k d below. omega arith)),
  sym (hears_none readers),
)

pub hear_pieces-requires-after_bounds : goal.hear_pieces-requires-after_bounds
hear_pieces-requires-after_bounds g c κs within = (c.in_ok-readers.readers, at_first c.args.planned.now c.in_ok-readers.readers c.in_ok-readers.ensures)

pub end-requires : goal.end-requires
end-requires g c =
    let readers = c.in_ok-readers.readers in
    let all = c.in_ok-hear_pieces.ensures.heard readers (at_first c.args.planned.now readers c.in_ok-readers.ensures) in
    let members = map bucket_in (tape_read all.bytes).records in
    subst AreNumbered (sym (all.so.1 ∙ ap (map (hears members)) c.in_ok-readers.ensures)) (are_numbered c.args.planned.now members)

pub returns-clause-heard : goal.returns-clause-heard
returns-clause-heard g c =
    let deck = c.args.planned.now in
    let readers = c.in_ok-readers.readers in
    let all = c.in_ok-hear_pieces.ensures.heard readers (at_first deck readers c.in_ok-readers.ensures) in
    let records = (tape_read all.bytes).records in
    let heard = all.so.1 ∙ ap (map (hears (map bucket_in records))) c.in_ok-readers.ensures in
    let sessions = ap (map end_state) heard ∙ sessions_are deck records in
    record {
      bytes = all.bytes;
      told = all.told;
      fits = all.fits;
      whole = all.whole;
      verdicts = c.in_ok-sessions.ensures.verdicts ∙ ap verdict_lines sessions;
      counts = c.in_ok-sessions.ensures.counts ∙ ap counts_lines sessions;
    }
