use Rattle.std.proofs.Common.{rules, ◌≡◌, ◌+◌, true, [], length, ap, ◌∙◌}
use Rattle.std.specs.Result.{is_ok}
use Rattle.std.proofs.lemmas.List.{length_push}
use Rattle.disk_split.specs.Private.Tables.{IsTableRow}
use Rattle.disk_split.proofs.TableSteps.{each_more}
use Rattle.disk_split.proofs.tables.table_from.Goals as goal

pub loop-from-preserved : goal.loop-from-preserved
loop-from-preserved c =
    let sums = c.args.sums.now in let chunks = c.args.chunks.now in let from = c.loop-from.from in let i = c.loop-from.invariant in
    let good : is_ok c.push.result ≡ true = search rules in
    let pushed = rw good at c.push.ensures.items in
    record {
      long = ap length pushed ∙ length_push c.loop-from.rows.items _ ∙ ap (λ n. n + 1) i.long;
      rows = each_more (λ k row. IsTableRow sums chunks k c.args.width row) c.loop-from.rows.items _ _ [] from i.long pushed i.rows c.in_ok-row_from.ensures;
    }
