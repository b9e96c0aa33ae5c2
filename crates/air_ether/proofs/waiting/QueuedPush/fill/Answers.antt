use Rattle.std.proofs.Common.{◌∙◌, ap, length, List, ℕ, sym, take, drop}
use Rattle.std.proofs.Math.Seq.{take-append_seam}
use Rattle.std.proofs.lemmas.List.{with_items_is}
use Rattle.air_ether.proofs.waiting.QueuedPush.fill.Goals as goal

pub returns-clause-value : goal.returns-clause-value
returns-clause-value c =
    let long = c.put_at_start.auto.room ∙ ap length c.deref_mut.ensures.value ∙ sym c.args.self.now.room.ok.0 in
    ap (λ (bs : List ℕ). record { due = c.args.hearing.due; times = c.args.hearing.times; bytes = bs })
    (ap (take (length c.args.bytes.now)) (with_items_is c.args.self.now.room c.put_at_start.new.room long ∙ c.put_at_start.ensures)
    ∙ take-append_seam c.args.bytes.now (drop (length c.args.bytes.now) c.deref_mut.result.now))
