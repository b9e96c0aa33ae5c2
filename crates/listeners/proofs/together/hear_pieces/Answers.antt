use Rattle.std.proofs.Common.{◌≡◌, ◌∙◌, ◌++◌, ◌<◌, ℕ, zero, suc, false, [], length, map, ap, sym, refl, arith}
use Rattle.std.specs.Prelude.{◌==◌}
use Rattle.std.specs.Result.{result_ok}
use Rattle.std.proofs.lemmas.Bool.{eqb-false, eqb-true}
use Rattle.air_model.specs.Buckets.{bucket_in}
use Rattle.air_model.specs.Tapes.{TapeRead, tape_read}
use Rattle.listeners.specs.Listeners.{hears}
use Rattle.listeners.specs.Private.TogetherSteps.{listeners_in}
use Rattle.listeners.proofs.PieceLemmas.{all_read, fewer_left, next_is}
use Rattle.listeners.proofs.ReaderLemmas.{hears_none}
use Rattle.listeners.proofs.TogetherLemmas.{can_hear, map_pieces}
use Rattle.listeners.proofs.together.hear_pieces.Goals as goal

-- What isn't empty has a member.
some_in : (n : ℕ) → (n == 0) ≡ false → 0 < n
some_in zero is = absurd (eqb-false 0 0 is refl)
some_in (suc n) is = omega arith

pub loop-records-init : goal.loop-records-init
loop-records-init g c =
    let made = c.in_ok-piece.ensures in
    record {
      uncut = made.whole;
      range = made.range;
      end = made.end;
      judged = made.judged;
      known = c.requires.air;
      heard = ([], ap (λ (t : TapeRead). map bucket_in t.records) (sym c.new-records.ensures) ∙ made.members, sym (hears_none (listeners_in c.args.readers.now)));
    }

pub hear_members-requires-after_bounds : goal.hear_members-requires-after_bounds
hear_members-requires-after_bounds g c κs within =
    let i = c.loop-records.invariant in
    can_hear (tape_read c.args.tape.now).records i.heard.0 c.args.air.now c.loop-records.piece (map bucket_in c.loop-records.records.records) c.args.readers.now c.loop-records.readers c.requires.counts i.heard.1
    i.heard.2 i.range i.judged i.known

pub loop-records-smaller : goal.loop-records-smaller
loop-records-smaller g c =
    let some : 0 < c.loop-records.piece.heard.len = some_in c.loop-records.piece.heard.len (sym c.is_empty.ensures ∙ c.loop-records-test.true) in
    let fewer = fewer_left c.in_ok-piece-2.piece.heard.items c.loop-records.records.records c.next_piece-in-loop-records.new.records.records c.in_ok-piece-2.ensures.members in
    omega (arith, some, fewer, c.loop-records.piece.heard.ok.0)

pub loop-records-preserved : goal.loop-records-preserved
loop-records-preserved g c =
    let i = c.loop-records.invariant in
    let made = c.in_ok-piece-2.ensures in
    let members = map result_ok c.loop-records.piece.heard.items in
    record {
      uncut = made.whole;
      range = made.range;
      end = made.end;
      judged = made.judged;
      known = c.hear_members.ensures.air c.args.air.now i.known;
      heard = (
        i.heard.0 ++ members,
        next_is (map bucket_in (tape_read c.args.tape.now).records) i.heard.0 c.loop-records.piece.heard.items c.in_ok-piece-2.piece.heard.items c.loop-records.records.records
            c.next_piece-in-loop-records.new.records.records i.heard.1 made.members,
        c.in_ok-hear_members.ensures.heard ∙ ap (map (hears members)) i.heard.2
            ∙ map_pieces i.heard.0 members (listeners_in c.args.readers.now),
      );
    }

pub returns-clause-heard : goal.returns-clause-heard
returns-clause-heard g c =
    let i = c.loop-records.invariant in
    let none : c.loop-records.piece.heard.len ≡ 0 = eqb-true c.loop-records.piece.heard.len 0 (sym c.is_empty.ensures ∙ c.loop-records-test.false) in
    let empty : length c.loop-records.piece.heard.items ≡ 0 = omega (arith, none, c.loop-records.piece.heard.ok.0) in
    i.heard.2 ∙ ap (λ members. map (hears members) (listeners_in c.args.readers.now))
    (all_read (map bucket_in (tape_read c.args.tape.now).records) i.heard.0 c.loop-records.piece.heard.items c.loop-records.records.records i.heard.1 empty (i.end empty))

pub returns-in_err-hear_members-clause-air : goal.returns-in_err-hear_members-clause-air
returns-in_err-hear_members-clause-air g c = c.hear_members.ensures.air c.args.air.now c.loop-records.invariant.known

pub returns-in_err-piece-2-clause-air : goal.returns-in_err-piece-2-clause-air
returns-in_err-piece-2-clause-air g c = c.hear_members.ensures.air c.args.air.now c.loop-records.invariant.known
