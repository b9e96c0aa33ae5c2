use Rattle.std.proofs.Common.{◌≢◌, ◌==◌, ◌∙◌, ap, sym, inl, inr}
use Rattle.air_model.specs.Buckets.{item_of, kind_of}
use Rattle.air_model.specs.Sessions.{is_wanted, wanted}
use Rattle.bucket_codec.specs.DatagramKinds.{kind_number}
use Rattle.receiver_core.proofs.HearLemmas.{busy_wanted, idle_unwanted, no_kind_0}
use Rattle.receiver_core.proofs.receivers.Receiver.wants.Goals as goal

pub returns-in-Idle : goal.returns-in-Idle
returns-in-Idle c = sym (idle_unwanted (wanted c.args.self.now.reader c.args.self.now.state) c.args.bucket.now.cycle c.args.bucket.now.body (sym c.in-Idle.ensures))

pub returns-in-Column : goal.returns-in-Column
returns-in-Column c =
    let b = c.args.bucket.now in
    let w = wanted c.args.self.now.reader c.args.self.now.state in
    let busy : kind_of b.body ≢ 0 = elim c.in-Column.is [
      | inl column ↦ λ idle. no_kind_0 0 (sym (ap kind_number column) ∙ c.kind.ensures ∙ idle)
      | inr vector ↦ λ idle. no_kind_0 1 (sym (ap kind_number vector) ∙ c.kind.ensures ∙ idle)
    ] in
    ap (λ i. c.in-Some.item == i) c.item.ensures ∙ ap (λ o. is_wanted o (item_of b.body)) (sym c.in-Some.is ∙ c.wanted.ensures.told) ∙ sym (busy_wanted w b.cycle b.body busy)
