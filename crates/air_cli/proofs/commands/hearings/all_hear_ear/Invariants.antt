use Rattle.std.proofs.Common.{◌≡◌, ◌-◌, All, length}
use Rattle.listeners.proofs.ReaderLemmas.{HasRoom}
use Rattle.air_cli.proofs.EarLemmas.{HaveHeardFirst}
use Rattle.air_cli.specs.declared.commands.hearings.TheConstants.{MOST_HEARD_BYTES}
use Rattle.air_cli.proofs.commands.hearings.all_hear_ear.Given as goal

abbrev pub invariant-loop-n : goal.invariant-loop-n
invariant-loop-n g l = let E = g.E.Ear in record {
  room : All (HasRoom (l.hears - l.n)) l.listeners.items;
  heard : HaveHeardFirst l.n (E.state l.fn.ear).told (E.state l.ear).told l.fn.listeners.items l.listeners.items;
  calm : (E.state l.ear).faults ≡ (E.state l.fn.ear).faults;
  port : (E.state l.ear).port ≡ (E.state l.fn.ear).port;
  long : length l.buf ≡ MOST_HEARD_BYTES;
}
