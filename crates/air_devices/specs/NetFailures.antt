-- What a mast or an ear over the network keeps of its last call that failed.
use Rattle.std.specs.Prelude.{◌≡◌, ℕ, Option, Some, Result, OnErr, OnOk}
use Rattle.std.specs.Option.{option_map}
use Rattle.air_devices.specs.declared.system.net_failures.NetCall.{NetCall}
use Rattle.air_devices.specs.declared.system.net_failures.NetFailure.{NetFailure}

-- The failure that is kept is one of this call, on this port.
pub record IsLastOf (call : NetCall) (port : Option ℕ) (last : Option NetFailure) : Type 0 where
  pub of_call : option_map (λ failure. failure.call) last ≡ Some call
  pub on_port : option_map (λ failure. failure.port) last ≡ Some port

-- A call that failed is the one that is kept; a call that was done leaves what was kept.
pub record KeepsLastOf {T E : Type 0} (call : NetCall) (port : Option ℕ) (before now : Option NetFailure) (result : Result T E) : Type 0 where
  pub failed : OnErr result (IsLastOf call port now)
  pub done : OnOk result (now ≡ before)
