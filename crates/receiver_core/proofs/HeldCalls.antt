-- What each call of a receiver keeps of a history.
use Rattle.std.proofs.Common.{◌≡◌, ℕ, Option, List, length, nat_lt, sym, subst}
use Rattle.air_history.specs.declared.histories.Event.{Event}
use Rattle.air_model.specs.Aired.{Air}
use Rattle.air_model.specs.Buckets.{Bucket}
use Rattle.air_model.specs.Judges.{by_entries}
use Rattle.air_model.specs.SessionLaws.{QueriesFilled, dozed_through}
use Rattle.air_model.specs.Sessions.{Reader, SessionLine, State, end_query, hear, query_of, wanted}
use Rattle.air_model.proofs.MomentLemmas.{cond_keeps}
use Rattle.receiver_core.specs.HeldTruths.{HearsTruly, HoldsTruly, StaysTrue}
use Rattle.receiver_core.specs.ReceiverSteps.{step}
use Rattle.receiver_core.specs.Receivers.{Receiver, state_after_step}
use Rattle.receiver_core.proofs.HeldLemmas.{ends_truly, hears_truly, steps_truly}

-- Air and reader stay.
moved : (before now : Receiver) (H : List Event) → now.air ≡ before.air → now.reader ≡ before.reader → HoldsTruly before.air H before.reader now.state → HoldsTruly now.air H now.reader now.state
moved before now H air reader h = subst (λ a. HoldsTruly a H now.reader now.state) (sym air) (subst (λ r. HoldsTruly before.air H r now.state) (sym reader) h)

-- Lines that wait are no part of what is held.
lined : (air : Air) (H : List Event) (reader : Reader) (s : State) (L : List SessionLine) → HoldsTruly air H reader (record s { lines = L }) → HoldsTruly air H reader s
unfolding wanted query_of
lined air H reader s L h = record { held = h.held; copies = h.copies; allowed = h.allowed; accepted = h.accepted; at_hand = h.at_hand }

pub hears : (member : Option Bucket) (before now : Receiver) → now.state ≡ hear (by_entries before.air.scheme) before.air before.reader member before.state → now.air ≡ before.air → now.reader ≡ before.reader
    → HearsTruly member before now
hears member before now state air reader = record {
  keeps = λ values H slots filled aired truly.
      moved before now H air reader (subst (HoldsTruly before.air H before.reader) (sym state) (hears_truly before.air H before.reader filled values member before.state slots aired truly));
}

-- A step goes on, or hands out what waits.
stepped_truly : (before : Receiver) (H : List Event) → QueriesFilled before.reader → HoldsTruly before.air H before.reader before.state → HoldsTruly before.air H before.reader (state_after_step before)
stepped_truly before H filled truly = cond_keeps (HoldsTruly before.air H before.reader) (nat_lt 0 (length before.state.lines)) before.state (step (by_entries before.air.scheme) before.air before.reader before.state) (λ _. truly)
    (λ _. steps_truly before.air H before.reader filled before.state truly)

pub steps : (before now : Receiver) (L : List SessionLine) → (let t : State = record now.state { lines = L } in t) ≡ state_after_step before → now.air ≡ before.air → now.reader ≡ before.reader → StaysTrue before now
steps before now L state air reader = record {
  keeps = λ H filled truly.
      moved before now H air reader (lined before.air H before.reader now.state L (subst (HoldsTruly before.air H before.reader) (sym state) (stepped_truly before H filled truly)));
}

pub ends : (before now : Receiver) (L : List SessionLine) → (let t : State = record now.state { lines = L } in t) ≡ end_query (by_entries before.air.scheme) before.air before.reader before.state → now.air ≡ before.air → now.reader ≡ before.reader
    → StaysTrue before now
ends before now L state air reader = record {
  keeps = λ H filled truly.
      moved before now H air reader (lined before.air H before.reader now.state L (subst (HoldsTruly before.air H before.reader) (sym state) (ends_truly before.air H before.reader filled before.state truly)));
}

-- Counts and the newest cycle are no part of what is held.
dozed_truly : (air : Air) (H : List Event) (reader : Reader) (s : State) (n m : ℕ) → HoldsTruly air H reader s → HoldsTruly air H reader (dozed_through n m s)
unfolding wanted query_of
dozed_truly air H reader s n m h = record { held = h.held; copies = h.copies; allowed = h.allowed; accepted = h.accepted; at_hand = h.at_hand }

pub dozes : (before now : Receiver) (n m : ℕ) → now.state ≡ dozed_through n m before.state → now.air ≡ before.air → now.reader ≡ before.reader → StaysTrue before now
dozes before now n m state air reader = record {
  keeps = λ H filled truly.
      moved before now H air reader (subst (HoldsTruly before.air H before.reader) (sym state) (dozed_truly before.air H before.reader before.state n m truly));
}
