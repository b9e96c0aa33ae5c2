use Rattle.std.proofs.Common.{◌≡◌, Some, None, ◌∙◌, ap, refl, subst, sym}
use Rattle.receiver_core.proofs.AttemptLemmas.{entries_clash}
use Rattle.air_model.specs.Judges.{by_entries}
use Rattle.air_model.specs.Sessions.{copy_of, turn, wanted}
use Rattle.receiver_core.specs.LastReads.{in_state}
use Rattle.receiver_core.specs.Receivers.{Receiver}
use Rattle.receiver_core.specs.ReceiverFields.{receiver_in}
use Rattle.air_model.specs.Reads.{read_with}
use Rattle.receiver_core.specs.Private.Turns.{uses_copy}
use Rattle.receiver_core.proofs.KeepsLemmas.{dropped_one, few_same, few_taken, item_within, more_held, same_held}
use Rattle.receiver_core.proofs.OpenLemmas.{new_read, room_left}
use Rattle.receiver_core.proofs.StateLemmas.{in_own_state, left}
use Rattle.receiver_core.proofs.TurnLemmas.{dropped_at, kept_at, kept_whole, stale_at, taken_at}
use Rattle.receiver_core.proofs.WordLemmas.{clashing, dropped_unused, no_copy, stale, taken_used, unturned, unused, usable}
use Rattle.receiver_core.proofs.receivers.Receiver.turn.Goals as goal

pub returns-in_default-clause-state : goal.returns-in_default-clause-state
returns-in_default-clause-state c =
    let old = c.args.self.now in
    let none = ap (λ o. copy_of o old.state) (sym c.wanted.ensures.told ∙ c.in_default.is) ∙ no_copy old.state in
    in_own_state old c.requires.given ∙ ap (in_state old) (sym (unturned old.air old.reader old.state none))

pub returns-in_default-clause-used : goal.returns-in_default-clause-used
returns-in_default-clause-used c =
    let old = c.args.self.now in
    unused old.air old.reader old.state (ap (λ o. copy_of o old.state) (sym c.wanted.ensures.told ∙ c.in_default.is) ∙ no_copy old.state)

pub get-requires : goal.get-requires
get-requires c = item_within c.self.inside c.in-Some.item c.self.invariant (ap (λ (v : Receiver). wanted v.reader v.state) c.self.view_is ∙ sym c.wanted.ensures.told ∙ c.in-Some.is)

pub returns-in_default-get-clause-state : goal.returns-in_default-get-clause-state
returns-in_default-get-clause-state c =
    let old = c.args.self.now in
    let none = subst (λ (v : Receiver). copy_of (wanted v.reader v.state) v.state ≡ None) c.self.view_is (kept_at c.self.inside c.in-Some.item None (ap (λ (v : Receiver). wanted v.reader v.state) c.self.view_is ∙ sym c.wanted.ensures.told ∙ c.in-Some.is) c.in_default-get.ensures) in
    in_own_state old c.requires.given ∙ ap (in_state old) (sym (unturned old.air old.reader old.state none))

pub returns-in_default-get-clause-used : goal.returns-in_default-get-clause-used
returns-in_default-get-clause-used c =
    let old = c.args.self.now in
    unused old.air old.reader old.state (subst (λ (v : Receiver). copy_of (wanted v.reader v.state) v.state ≡ None) c.self.view_is (kept_at c.self.inside c.in-Some.item None (ap (λ (v : Receiver). wanted v.reader v.state) c.self.view_is ∙ sym c.wanted.ensures.told ∙ c.in-Some.is) c.in_default-get.ensures))

-- ---- a stale copy

pub drop_copy-requires : goal.drop_copy-requires
drop_copy-requires c = item_within c.self.inside c.in-Some.item c.self.invariant (ap (λ (v : Receiver). wanted v.reader v.state) c.self.view_is ∙ sym c.wanted.ensures.told ∙ c.in-Some.is)

pub invariant_of-self : goal.invariant_of-self
invariant_of-self c =
    let r = c.self.inside in
    let k = c.self.invariant in
    record {
      deck = k.deck;
      cache = dropped_one r.air r.reader r.latest r.copies c.drop_copy.new.self c.in-Some.item k.cache c.drop_copy.ensures;
      held = k.held;
      few = k.few;
      column = k.column;
    }

pub returns-then-is_stale-clause-state : goal.returns-then-is_stale-clause-state
returns-then-is_stale-clause-state c =
    let r = c.self.inside in
    let x = read_with c.in-Some.item c.in-Some-get.kept.cycle c.in-Some-get.kept.value c.in-Some-get.kept.column.now in
    dropped_at r x (kept_at r c.in-Some.item (Some x) (ap (λ (v : Receiver). wanted v.reader v.state) c.self.view_is ∙ sym c.wanted.ensures.told ∙ c.in-Some.is) c.in-Some-get.ensures) r.held c.drop_copy.new.self (ap (λ (v : Receiver). v.state.lines) c.self.view_is ∙ c.requires.given)
    (stale r.air r.reader x (receiver_in r).state (stale_at r x c.is_stale.result c.age.result c.version-version.result c.self.invariant c.is_stale.ensures c.age.ensures c.version-version.ensures ∙ c.if-is_stale.true)) refl c.drop_copy.ensures
    ∙ ap (λ (v : Receiver). in_state v (turn (by_entries v.air.scheme) v.air v.reader v.state)) c.self.view_is

pub returns-then-is_stale-clause-used : goal.returns-then-is_stale-clause-used
returns-then-is_stale-clause-used c =
    let r = c.self.inside in
    let x = read_with c.in-Some.item c.in-Some-get.kept.cycle c.in-Some-get.kept.value c.in-Some-get.kept.column.now in
    dropped_unused r.air r.reader x (receiver_in r).state (kept_at r c.in-Some.item (Some x) (ap (λ (v : Receiver). wanted v.reader v.state) c.self.view_is ∙ sym c.wanted.ensures.told ∙ c.in-Some.is) c.in-Some-get.ensures) (stale r.air r.reader x (receiver_in r).state (stale_at r x c.is_stale.result c.age.result c.version-version.result c.self.invariant c.is_stale.ensures c.age.ensures c.version-version.ensures ∙ c.if-is_stale.true)) ∙ ap (λ (v : Receiver). uses_copy v.air v.reader v.state) c.self.view_is

-- ---- a copy that is tried

pub try_hold-requires-clause-room : goal.try_hold-requires-clause-room
try_hold-requires-clause-room c = room_left c.self.inside c.in-Some.item c.self.invariant (ap (λ (v : Receiver). wanted v.reader v.state) c.self.view_is ∙ sym c.wanted.ensures.told ∙ c.in-Some.is)

pub try_hold-requires-clause-new : goal.try_hold-requires-clause-new
try_hold-requires-clause-new c =
    let x = read_with c.in-Some.item c.in-Some-get.kept.cycle c.in-Some-get.kept.value c.in-Some-get.kept.column.now in
    new_read c.self.inside x c.self.invariant (kept_whole c.self.inside c.in-Some.item x c.self.invariant c.in-Some-get.ensures) (ap (λ (v : Receiver). wanted v.reader v.state) c.self.view_is ∙ sym c.wanted.ensures.told ∙ c.in-Some.is)

pub invariant_of-self-in-None : goal.invariant_of-self-in-None
invariant_of-self-in-None c =
    let r = c.self.inside in
    let k = c.self.invariant in
    let x = read_with c.in-Some.item c.in-Some-get.kept.cycle c.in-Some-get.kept.value c.in-Some-get.kept.column.now in
    record {
      deck = k.deck;
      cache = k.cache;
      held = more_held r c.try_hold.new.self x k c.in-None.ensures.held (ap (λ (v : Receiver). wanted v.reader v.state) c.self.view_is ∙ sym c.wanted.ensures.told ∙ c.in-Some.is);
      few = few_taken r c.try_hold.new.self x k c.in-None.ensures.held;
      column = k.column;
    }

pub accept_if_whole-requires-clause-left : goal.accept_if_whole-requires-clause-left
accept_if_whole-requires-clause-left c =
    let v = receiver_in c.self.inside in
    left v.reader v.state c.in-Some.item (ap (λ (v : Receiver). wanted v.reader v.state) c.self.view_is ∙ sym c.wanted.ensures.told ∙ c.in-Some.is)

pub returns-in-None-clause-state : goal.returns-in-None-clause-state
returns-in-None-clause-state c =
    let r = c.self.inside in
    let x = read_with c.in-Some.item c.in-Some-get.kept.cycle c.in-Some-get.kept.value c.in-Some-get.kept.column.now in
    let clear = entries_clash r.air.scheme _ r.held.reads x c.self.invariant.held.policy ∙ sym c.try_hold.ensures.clash ∙ c.in-None.is in
    c.accept_if_whole.ensures ∙ taken_at r x (kept_at r c.in-Some.item (Some x) (ap (λ (v : Receiver). wanted v.reader v.state) c.self.view_is ∙ sym c.wanted.ensures.told ∙ c.in-Some.is) c.in-Some-get.ensures) c.try_hold.new.self (usable r.air r.reader x (receiver_in r).state (stale_at r x c.is_stale.result c.age.result c.version-version.result c.self.invariant c.is_stale.ensures c.age.ensures c.version-version.ensures ∙ c.if-is_stale.false) clear) c.in-None.ensures.held
    ∙ ap (λ (v : Receiver). in_state v (turn (by_entries v.air.scheme) v.air v.reader v.state)) c.self.view_is

pub returns-in-None-clause-used : goal.returns-in-None-clause-used
returns-in-None-clause-used c =
    let r = c.self.inside in
    let x = read_with c.in-Some.item c.in-Some-get.kept.cycle c.in-Some-get.kept.value c.in-Some-get.kept.column.now in
    let clear = entries_clash r.air.scheme _ r.held.reads x c.self.invariant.held.policy ∙ sym c.try_hold.ensures.clash ∙ c.in-None.is in
    taken_used r.air r.reader x (receiver_in r).state (kept_at r c.in-Some.item (Some x) (ap (λ (v : Receiver). wanted v.reader v.state) c.self.view_is ∙ sym c.wanted.ensures.told ∙ c.in-Some.is) c.in-Some-get.ensures) (usable r.air r.reader x (receiver_in r).state (stale_at r x c.is_stale.result c.age.result c.version-version.result c.self.invariant c.is_stale.ensures c.age.ensures c.version-version.ensures ∙ c.if-is_stale.false) clear) ∙ ap (λ (v : Receiver). uses_copy v.air v.reader v.state) c.self.view_is

pub drop_copy-requires-in-Some-try_hold : goal.drop_copy-requires-in-Some-try_hold
drop_copy-requires-in-Some-try_hold c = item_within c.self.inside c.in-Some.item c.self.invariant (ap (λ (v : Receiver). wanted v.reader v.state) c.self.view_is ∙ sym c.wanted.ensures.told ∙ c.in-Some.is)

pub invariant_of-self-in-Some-try_hold : goal.invariant_of-self-in-Some-try_hold
invariant_of-self-in-Some-try_hold c =
    let r = c.self.inside in
    let k = c.self.invariant in
    record {
      deck = k.deck;
      cache = dropped_one r.air r.reader r.latest r.copies c.drop_copy-in-Some-try_hold.new.self c.in-Some.item k.cache c.drop_copy-in-Some-try_hold.ensures;
      held = same_held r c.try_hold.new.self k c.in-Some-try_hold.ensures.held;
      few = few_same r c.try_hold.new.self k c.in-Some-try_hold.ensures.held;
      column = k.column;
    }

pub returns-in-Some-try_hold-clause-state : goal.returns-in-Some-try_hold-clause-state
returns-in-Some-try_hold-clause-state c =
    let r = c.self.inside in
    let x = read_with c.in-Some.item c.in-Some-get.kept.cycle c.in-Some-get.kept.value c.in-Some-get.kept.column.now in
    let clash = entries_clash r.air.scheme _ r.held.reads x c.self.invariant.held.policy ∙ sym c.try_hold.ensures.clash ∙ c.in-Some-try_hold.is in
    dropped_at r x (kept_at r c.in-Some.item (Some x) (ap (λ (v : Receiver). wanted v.reader v.state) c.self.view_is ∙ sym c.wanted.ensures.told ∙ c.in-Some.is) c.in-Some-get.ensures) c.try_hold.new.self c.drop_copy-in-Some-try_hold.new.self (ap (λ (v : Receiver). v.state.lines) c.self.view_is ∙ c.requires.given)
    (clashing r.air r.reader x (receiver_in r).state _ (stale_at r x c.is_stale.result c.age.result c.version-version.result c.self.invariant c.is_stale.ensures c.age.ensures c.version-version.ensures ∙ c.if-is_stale.false) clash) c.in-Some-try_hold.ensures.held c.drop_copy-in-Some-try_hold.ensures
    ∙ ap (λ (v : Receiver). in_state v (turn (by_entries v.air.scheme) v.air v.reader v.state)) c.self.view_is

pub returns-in-Some-try_hold-clause-used : goal.returns-in-Some-try_hold-clause-used
returns-in-Some-try_hold-clause-used c =
    let r = c.self.inside in
    let x = read_with c.in-Some.item c.in-Some-get.kept.cycle c.in-Some-get.kept.value c.in-Some-get.kept.column.now in
    let clash = entries_clash r.air.scheme _ r.held.reads x c.self.invariant.held.policy ∙ sym c.try_hold.ensures.clash ∙ c.in-Some-try_hold.is in
    dropped_unused r.air r.reader x (receiver_in r).state (kept_at r c.in-Some.item (Some x) (ap (λ (v : Receiver). wanted v.reader v.state) c.self.view_is ∙ sym c.wanted.ensures.told ∙ c.in-Some.is) c.in-Some-get.ensures) (clashing r.air r.reader x (receiver_in r).state _ (stale_at r x c.is_stale.result c.age.result c.version-version.result c.self.invariant c.is_stale.ensures c.age.ensures c.version-version.ensures ∙ c.if-is_stale.false) clash) ∙ ap (λ (v : Receiver). uses_copy v.air v.reader v.state) c.self.view_is
