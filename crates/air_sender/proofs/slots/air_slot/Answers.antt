use Rattle.std.proofs.Common.{List, [], ◌∷◌, ℕ, ap, length, subst, arith}
use Rattle.std.specs.Prelude.{OnOk}
use Rattle.air_model.specs.Programs.{program as slots_of}
use Rattle.air_devices.specs.Masts.{Changes, with_buckets}
use Rattle.air_sender.specs.BoardBuckets.{bucket_on}
use Rattle.air_sender.proofs.RangeLemmas.{spelling_long}
use Rattle.air_sender.proofs.slots.air_slot.Goals as goal

pub send-requires-clause-some : goal.send-requires-clause-some
send-requires-clause-some g c =
    let long = spelling_long (bucket_on c.args.form c.args.program.now.edition (slots_of c.args.program.now.disks) (g.S.Source.board c.args.source.now) c.args.slot) in
    omega (arith, long, ap length c.encode_source-len.ensures.bytes)

pub returns-clause-sent : goal.returns-clause-sent
returns-clause-sent g c =
    subst (λ (l : List ℕ). OnOk c.send.result (Changes (with_buckets (l ∷ [])) (g.M.Mast.state c.args.mast.now).told (g.M.Mast.state c.send.new.self).told)) c.encode_source-len.ensures.bytes c.send.ensures.added
