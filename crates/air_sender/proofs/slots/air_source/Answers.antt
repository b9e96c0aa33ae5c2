use Rattle.std.proofs.Common.{◌<◌, ◌∙◌, length, subst, arith}
use Rattle.air_model.specs.Disks.{all_items}
use Rattle.air_model.specs.Programs.{program as slots_of}
use Rattle.air_model.specs.Buckets.{spelling}
use Rattle.air_devices.specs.Masts.{Changes, with_buckets}
use Rattle.air_sender.specs.BoardBuckets.{board_bytes, bucket_on}
use Rattle.air_sender.specs.declared.airing.AirFault.TheVariants as fault
use Rattle.air_sender.proofs.SendLemmas.{last_bytes_are, length_cycle, refused, sent_all, sent_more, sent_up_to, slot_bytes, well}
use Rattle.air_sender.proofs.slots.air_source.Goals as goal

pub returns-then-is_err-clause-fault : goal.returns-then-is_err-clause-fault
returns-then-is_err-clause-fault g c = record {
  within = omega (arith, length_cycle c.args.form c.args.program.now.edition (slots_of c.args.program.now.disks) (g.S.Source.board c.args.source.now), c.slots-slot-end.ensures.counted);
  just_before = c.loop-slot.mast;
  sent = c.loop-slot.invariant.sent;
  calm = c.loop-slot.invariant.calm;
  port = c.loop-slot.invariant.port;
  rose = refused c.air_slot.result c.is_err.result c.is_err.ensures.value c.if-is_err.true c.air_slot.ensures.cause.rose;
  kept = refused c.air_slot.result c.is_err.result c.is_err.ensures.value c.if-is_err.true c.air_slot.ensures.refused;
}

pub loop-slot-preserved : goal.loop-slot-preserved
loop-slot-preserved g c =
    let form = c.args.form in
    let e = c.args.program.now.edition in
    let slots = slots_of c.args.program.now.disks in
    let board = (g.S.Source.board c.args.source.now) in
    let s = c.loop-slot.slot in
    let within : s < length slots = omega (arith, c.slots-slot-end.ensures.counted) in
    record {
      sent = sent_more (board_bytes form e slots board) (spelling (bucket_on form e slots board s)) s _ _ _ (omega (arith, length_cycle form e slots board)) (slot_bytes form e slots board s within)
          c.loop-slot.invariant.sent (well c.air_slot.result c.is_err.result c.is_err.ensures.value c.if-is_err.false c.air_slot.ensures.sent);
      calm = well c.air_slot.result c.is_err.result c.is_err.ensures.value c.if-is_err.false c.air_slot.ensures.cause.calm ∙ c.loop-slot.invariant.calm;
      port = c.air_slot.ensures.port ∙ c.loop-slot.invariant.port;
    }

pub returns-clause-aired : goal.returns-clause-aired
returns-clause-aired g c =
    let form = c.args.form in
    let e = c.args.program.now.edition in
    let slots = slots_of c.args.program.now.disks in
    let board = (g.S.Source.board c.args.source.now) in
    sent_all (board_bytes form e slots board) c.loop-slot.slot _ _ (omega (arith, length_cycle form e slots board, c.slots-slot-end.ensures.counted)) c.loop-slot.invariant.sent

pub returns-clause-history : goal.returns-clause-history
returns-clause-history g c values air G is =
    subst (λ bs. Changes (with_buckets bs) (g.M.Mast.state c.args.mast.now).told (g.M.Mast.state c.loop-slot.mast).told)
    (last_bytes_are values air G c.args.form c.args.program.now.edition (slots_of c.args.program.now.disks) (g.S.Source.board c.args.source.now) (length (all_items c.args.program.now.disks)) is c.requires.items c.shows_well_made.ensures.slots)
    (returns-clause-aired g c)

pub returns-then-is_err-clause-history : goal.returns-then-is_err-clause-history
returns-then-is_err-clause-history g c values air G is =
    sent_up_to g.M.Mast.state _ _ c.args.mast.now _ (fault.Mast _)
    (last_bytes_are values air G c.args.form c.args.program.now.edition (slots_of c.args.program.now.disks) (g.S.Source.board c.args.source.now) (length (all_items c.args.program.now.disks)) is c.requires.items c.shows_well_made.ensures.slots)
    (returns-then-is_err-clause-fault g c)
