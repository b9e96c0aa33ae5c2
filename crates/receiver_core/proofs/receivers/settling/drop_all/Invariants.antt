use Rattle.std.proofs.Common.{◌≡◌, ◌<◌, ◌≤◌, All}
use Rattle.air_model.specs.Reads.{Read}
use Rattle.receiver_core.proofs.receivers.settling.drop_all.Given as goal

abbrev pub invariant-loop-item : goal.invariant-loop-item
invariant-loop-item l = record {
  room : l.copies.room ≡ l.fn.copies.room;
  pix : l.copies.pix ≡ l.fn.copies.pix;
  from : All (λ (r : Read). l.item ≤ r.item) l.copies.copies;
  below : All (λ (r : Read). r.item < l.items) l.copies.copies;
}
