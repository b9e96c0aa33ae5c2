use Rattle.std.proofs.Common.{◌≡◌, ◌∙◌, ◌++◌, All, map, ap, subst, sym}
use Rattle.std.specs.Prelude.{IfOk}
use Rattle.std.specs.Result.{result_ok}
use Rattle.std.proofs.lemmas.List.Elements.{All-push}
use Rattle.air_model.specs.Buckets.{IsInRange, bucket_in}
use Rattle.air_model.specs.Tapes.{TapeRead}
use Rattle.listeners.proofs.PieceLemmas.{in_range, one_decoded}
use Rattle.listeners.proofs.pieces.next_members.Goals as goal

pub loop-records-preserved : goal.loop-records-preserved
loop-records-preserved c =
    let i = c.loop-records.invariant in
    let rest = c.next_whole.new.self in
    let bytes = c.in-Some.bytes.now in
    let x = c.decode.result in
    let all = map bucket_in c.args.records.now.records in
    let items = c.in_ok-push.ensures.items in
    record {
      uncut = sym (ap (λ (t : TapeRead). t.cut) c.in-Some.ensures) ∙ i.uncut;
      members = subst (λ l. all ≡ map result_ok l ++ map bucket_in rest.records) (sym items)
          (one_decoded all c.loop-records.piece.items x bytes c.loop-records.records.records rest.records (ap result_ok c.decode.ensures.reading) (ap (λ (t : TapeRead). t.records) c.in-Some.ensures) i.members);
      range = subst (All (λ heard. IfOk heard IsInRange)) (sym items) (All-push (λ heard. IfOk heard IsInRange) c.loop-records.piece.items x i.range (in_range x bytes c.decode.ensures.grammar));
    }
