use Rattle.std.proofs.Common.{◌≡◌, ltb, sym, ap, ◌∙◌, subst, count_by, length, ◌≤◌, arith, rules}
use Rattle.std.specs.List.Sorted.{IsNonDecreasingBy}
use Rattle.std.proofs.lemmas.List.Sorted.{IsPartitionPoint-from_clause, IsPartitionedBy-ltb}
use Rattle.live_replay.specs.declared.writes.ItemWrite.{ItemWrite}
use Rattle.live_replay.proofs.CountLemmas.{split_count}
use Rattle.live_replay.proofs.writes.ItemWrites.before.Goals as goal

pub returns : goal.returns
returns c =
    let same : c.args.self.now ≡ c.deref.result.now = search rules in
    let rises : IsNonDecreasingBy (λ (w : ItemWrite). w.cycle) c.deref.result.now = subst (IsNonDecreasingBy (λ (w : ItemWrite). w.cycle)) same c.requires in
    let parted = IsPartitionedBy-ltb (λ (w : ItemWrite). w.cycle) c.deref.result.now c.args.cycle rises in
    let point = IsPartitionPoint-from_clause (λ (w : ItemWrite). ltb w.cycle c.args.cycle) _ _ c.partition_point.ensures.partitioned parted (λ a r q k. search rules) in
    let bound : c.partition_point.result ≤ length c.deref.result.now = search rules in
    sym (split_count (λ (w : ItemWrite). ltb w.cycle c.args.cycle) c.deref.result.now c.partition_point.result bound (λ k d h. point.0 k d (omega arith) h) (λ k d h l. point.1 k d h l))
    ∙ ap (count_by (λ (w : ItemWrite). ltb w.cycle c.args.cycle)) (sym same)
