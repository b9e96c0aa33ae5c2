use Rattle.std.proofs.Common.{rules, ◌≡◌, ◌+◌, ◌-◌, ◌<◌, true, [], drop, length, sym, subst, ap, ◌∙◌, arith}
use Rattle.std.specs.Prelude.{slice_index_or}
use Rattle.std.specs.Result.{is_ok}
use Rattle.std.proofs.lemmas.List.{get_or_read, length_push, take_rest}
use Rattle.disk_split.specs.Private.Tables.{IsTable}
use Rattle.disk_split.proofs.TableSteps.{each_more, tail_chunks}
use Rattle.disk_split.proofs.tables.tables.Goals as goal

pub table_from-requires-clause-next : goal.table_from-requires-clause-next
table_from-requires-clause-next c =
    let sums = c.args.sums.now in let chunks = c.args.chunks.now in let count = c.loop-count.count in let i = c.loop-count.invariant in
    let below : count < length chunks = c.loop-count-test.true in
    let is : c.deref.result.now ≡ slice_index_or c.loop-count.tables.items count [] =
    c.deref.ensures.value ∙ c.next.view_is ∙ get_or_read c.loop-count.tables.items count c.index-next.result.now (let long = i.long in omega arith) c.index-next.ensures [] in
    subst (λ l. IsTable sums l c.args.width c.deref.result.now) (sym (tail_chunks chunks count below))
    (subst (IsTable sums (drop (length chunks - count) chunks) c.args.width) (sym is) (i.tables count (omega arith)))

pub loop-count-preserved : goal.loop-count-preserved
loop-count-preserved c =
    let sums = c.args.sums.now in let chunks = c.args.chunks.now in let count = c.loop-count.count in let i = c.loop-count.invariant in
    let good : is_ok c.push-in-loop-count.result ≡ true = search rules in
    let pushed = rw good at c.push-in-loop-count.ensures.items in
    let own : IsTable sums (drop (length chunks - (count + 1)) chunks) c.args.width c.in_ok-table.table =
    subst (λ l. IsTable sums l c.args.width c.in_ok-table.table) (take_rest chunks (length chunks - (count + 1))) c.in_ok-table.ensures in
    let each = each_more (λ k t. IsTable sums (drop (length chunks - k) chunks) c.args.width t) c.loop-count.tables.items _ _ [] (count + 1) i.long pushed (λ k below. i.tables k (omega arith)) own in
    record {
      long = ap length pushed ∙ length_push c.loop-count.tables.items _ ∙ ap (λ n. n + 1) i.long;
      tables = λ k below. each k (omega arith);
    }
