use Rattle.std.proofs.Common.{◌≡◌, None, Some, ◌∙◌, ap, subst, sym}
use Rattle.std.specs.Vec.{with_items}
use Rattle.receiver_core.proofs.AttemptLemmas.{entries_clash}
use Rattle.air_history.specs.HeldReads.{IsNew}
use Rattle.air_model.specs.Buckets.{item_of}
use Rattle.air_model.specs.Judges.{by_entries, heard_of}
use Rattle.air_model.specs.Reads.{Read, read_with}
use Rattle.air_model.specs.Sessions.{comes_aged, open_bucket, wanted}
use Rattle.receiver_core.specs.Private.Attempts.{columns_of, read_from_bucket}
use Rattle.receiver_core.specs.LastReads.{in_state}
use Rattle.receiver_core.specs.Receivers.{Receiver}
use Rattle.receiver_core.specs.ReceiverFields.{IsWholeRead, receiver_in}
use Rattle.receiver_core.proofs.OpenLemmas.{bucket_read, column_sized, far_at, new_read, offered_to, opened_aged, opened_clash, opened_clear, read_parts, room_left}
use Rattle.receiver_core.proofs.KeepsLemmas.{clashes_within, few_opened, few_same, item_within, more_held, offered, same_held}
use Rattle.receiver_core.proofs.StateLemmas.{left}
use Rattle.receiver_core.proofs.receivers.Receiver.open.Goals as goal
use Rattle.receiver_core.proofs.receivers.Receiver.open.Goals.{After-is_far, After-try_hold-clash}

pub try_hold-clash-requires-clause-room : goal.try_hold-clash-requires-clause-room
try_hold-clash-requires-clause-room c =
    room_left c.self.inside (item_of c.args.bucket.now.body) c.self.invariant (ap (λ (v : Receiver). wanted v.reader v.state) c.self.view_is ∙ c.requires.wanted)

pub try_hold-clash-requires-clause-new : goal.try_hold-clash-requires-clause-new
try_hold-clash-requires-clause-new c =
    let r = c.self.inside in
    let b = c.args.bucket.now in
    let whole = bucket_read b r.air.items c.requires.range c.requires.busy (c.requires.counted ∙ sym (ap (λ (v : Receiver). v.air.items) c.self.view_is)) in
    subst (λ x. IsNew (columns_of r.held) (heard_of x)) (read_parts c.args.bucket.now c.item-item.result c.cycle-cycle.result c.value-value.result c.fill.new.out c.item-item.ensures c.cycle-cycle.ensures c.value-value.ensures c.fill.ensures)
    (new_read r (read_from_bucket b) c.self.invariant whole (ap (λ (v : Receiver). wanted v.reader v.state) c.self.view_is ∙ c.requires.wanted))

pub offer-requires-clause-clash : goal.offer-requires-clause-clash
offer-requires-clause-clash c =
    let r = c.self.inside in
    let x = (read_with c.item-item.result c.cycle-cycle.result c.value-value.result c.fill.new.out) in
    clashes_within r x c.try_hold-clash.result c.self.invariant (left (receiver_in r).reader (receiver_in r).state (item_of c.args.bucket.now.body) (ap (λ (v : Receiver). wanted v.reader v.state) c.self.view_is ∙ c.requires.wanted))
    (entries_clash r.air.scheme _ r.held.reads x c.self.invariant.held.policy ∙ sym c.try_hold-clash.ensures.clash)

pub offer-requires-clause-item : goal.offer-requires-clause-item
offer-requires-clause-item c =
    item_within c.self.inside c.item-item.result c.self.invariant (ap (λ (v : Receiver). wanted v.reader v.state) c.self.view_is ∙ c.requires.wanted ∙ ap Some (sym c.item-item.ensures))

pub offer-requires-clause-column : goal.offer-requires-clause-column
offer-requires-clause-column c =
    column_sized c.self.inside c.args.bucket.now c.fill.new.out c.self.invariant c.requires.busy (c.requires.counted ∙ sym (ap (λ (v : Receiver). v.air.items) c.self.view_is)) c.fill.ensures

-- The read that was tried, by its parts.
abbrev told : After-is_far → Read
told c = read_with c.item-item.result c.cycle-cycle.result c.value-value.result c.fill.new.out

-- It is the read of the bucket.
told_is : (c : After-is_far) → read_from_bucket c.args.bucket.now ≡ told c
told_is c = read_parts c.args.bucket.now c.item-item.result c.cycle-cycle.result c.value-value.result c.fill.new.out c.item-item.ensures c.cycle-cycle.ensures c.value-value.ensures c.fill.ensures

-- It is whole.
told_whole : (c : After-is_far) → IsWholeRead c.self.inside.air.items (told c)
told_whole c =
    let whole = bucket_read c.args.bucket.now c.self.inside.air.items c.requires.range c.requires.busy (c.requires.counted ∙ sym (ap (λ (v : Receiver). v.air.items) c.self.view_is)) in
    subst (IsWholeRead c.self.inside.air.items) (told_is c) whole

-- Whether it lies too far from the held ones is what was answered.
far_told : (c : After-is_far) → comes_aged c.self.inside.air (receiver_in c.self.inside).state (told c) ≡ c.is_far.result
far_told c = far_at c.self.inside (told c) c.is_far.result c.version.result c.is_far.ensures c.version.ensures

-- Its clash with the held reads is the one that was answered.
clash_told : (c : After-try_hold-clash) → (by_entries c.self.inside.air.scheme).clash c.self.inside.held.reads (read_with c.item-item.result c.cycle-cycle.result c.value-value.result c.fill.new.out) ≡ c.try_hold-clash.result
clash_told c =
    let x = read_with c.item-item.result c.cycle-cycle.result c.value-value.result c.fill.new.out in
    entries_clash c.self.inside.air.scheme _ c.self.inside.held.reads x c.self.invariant.held.policy ∙ sym c.try_hold-clash.ensures.clash

-- ---- a read that lies too far

pub keep-requires-clause-item : goal.keep-requires-clause-item
keep-requires-clause-item c =
    item_within c.self.inside c.item-item.result c.self.invariant (ap (λ (v : Receiver). wanted v.reader v.state) c.self.view_is ∙ c.requires.wanted ∙ ap Some (sym c.item-item.ensures))

pub keep-requires-clause-column : goal.keep-requires-clause-column
keep-requires-clause-column c =
    column_sized c.self.inside c.args.bucket.now c.fill.new.out c.self.invariant c.requires.busy (c.requires.counted ∙ sym (ap (λ (v : Receiver). v.air.items) c.self.view_is)) c.fill.ensures

pub invariant_of-self : goal.invariant_of-self
invariant_of-self c =
    let r = c.self.inside in
    let k = c.self.invariant in
    let a = (goal.at.invariant_of-self c).After-is_far in
    record {
      deck = k.deck;
      cache = offered r.air r.reader r.latest r.copies c.keep.new.self None (told a) k.cache (told_whole a) c.keep.ensures.kept;
      held = k.held;
      few = k.few;
      column = sym (with_items r.column c.fill.new.out).ok.0 ∙ r.column.ok.0 ∙ k.column;
    }

pub end_aged-requires-clause-left : goal.end_aged-requires-clause-left
end_aged-requires-clause-left c =
    let v = receiver_in c.self.inside in
    left v.reader v.state (item_of c.args.bucket.now.body) (ap (λ (v : Receiver). wanted v.reader v.state) c.self.view_is ∙ c.requires.wanted)

pub returns-then-is_far : goal.returns-then-is_far
returns-then-is_far c =
    let r = c.self.inside in
    let old = c.args.self.now in
    let a = (goal.at.returns-then-is_far c).After-is_far in
    let x = told a in
    c.end_aged.ensures
    ∙ opened_aged r c.keep.new.self x c.self.invariant c.keep.ensures.kept (far_told a ∙ c.if-is_far.true)
    ∙ ap (λ (v : Receiver). in_state v (open_bucket (by_entries v.air.scheme) v.air v.reader x v.state)) c.self.view_is
    ∙ ap (λ y. in_state old (open_bucket (by_entries old.air.scheme) old.air old.reader y old.state)) (sym (told_is a))

-- ---- a read that doesn't

pub invariant_of-self-in-None : goal.invariant_of-self-in-None
invariant_of-self-in-None c =
    let r = c.self.inside in
    let k = c.self.invariant in
    let a = (goal.at.invariant_of-self-in-None c).After-is_far in
    let x = told a in
    record {
      deck = k.deck;
      cache = offered r.air r.reader r.latest r.copies c.offer.new.copies c.try_hold-clash.result x k.cache (told_whole a) c.offer.ensures;
      held = more_held r c.try_hold-clash.new.self x k c.in-None.ensures.held (ap (λ (v : Receiver). wanted v.reader v.state) c.self.view_is ∙ c.requires.wanted ∙ ap Some (sym c.item-item.ensures));
      few = few_opened r c.try_hold-clash.new.self x k c.in-None.ensures.held;
      column = sym (with_items r.column c.fill.new.out).ok.0 ∙ r.column.ok.0 ∙ k.column;
    }

pub accept_if_whole-requires-clause-left : goal.accept_if_whole-requires-clause-left
accept_if_whole-requires-clause-left c =
    let v = receiver_in c.self.inside in
    left v.reader v.state (item_of c.args.bucket.now.body) (ap (λ (v : Receiver). wanted v.reader v.state) c.self.view_is ∙ c.requires.wanted)

pub returns-in-None : goal.returns-in-None
returns-in-None c =
    let r = c.self.inside in
    let old = c.args.self.now in
    let k = c.self.invariant in
    let a = (goal.at.returns-in-None c).After-is_far in
    let x = told a in
    c.accept_if_whole.ensures
    ∙ opened_clear r c.try_hold-clash.new.self c.offer.new.copies x k c.in-None.ensures.held (c.offer.ensures ∙ ap (offered_to r x) c.in-None.is) (far_told a ∙ c.if-is_far.false) (clash_told (goal.at.returns-in-None c).After-try_hold-clash ∙ c.in-None.is)
    ∙ ap (λ (v : Receiver). in_state v (open_bucket (by_entries v.air.scheme) v.air v.reader x v.state)) c.self.view_is
    ∙ ap (λ y. in_state old (open_bucket (by_entries old.air.scheme) old.air old.reader y old.state)) (sym (told_is a))

pub invariant_of-self-in-Some : goal.invariant_of-self-in-Some
invariant_of-self-in-Some c =
    let r = c.self.inside in
    let k = c.self.invariant in
    let a = (goal.at.invariant_of-self-in-Some c).After-is_far in
    let x = told a in
    record {
      deck = k.deck;
      cache = offered r.air r.reader r.latest r.copies c.offer.new.copies c.try_hold-clash.result x k.cache (told_whole a) c.offer.ensures;
      held = same_held r c.try_hold-clash.new.self k c.in-Some.ensures.held;
      few = few_same r c.try_hold-clash.new.self k c.in-Some.ensures.held;
      column = sym (with_items r.column c.fill.new.out).ok.0 ∙ r.column.ok.0 ∙ k.column;
    }

pub abort-requires-clause-left : goal.abort-requires-clause-left
abort-requires-clause-left c =
    let v = receiver_in c.self.inside in
    left v.reader v.state (item_of c.args.bucket.now.body) (ap (λ (v : Receiver). wanted v.reader v.state) c.self.view_is ∙ c.requires.wanted)

pub returns-in-Some : goal.returns-in-Some
returns-in-Some c =
    let r = c.self.inside in
    let old = c.args.self.now in
    let k = c.self.invariant in
    let a = (goal.at.returns-in-Some c).After-is_far in
    let x = told a in
    c.abort.ensures
    ∙ opened_clash r c.try_hold-clash.new.self c.offer.new.copies x c.in-Some.clash k c.in-Some.ensures.held (c.offer.ensures ∙ ap (offered_to r x) c.in-Some.is)
    (far_told a ∙ c.if-is_far.false) (clash_told (goal.at.returns-in-Some c).After-try_hold-clash ∙ c.in-Some.is)
    ∙ ap (λ (v : Receiver). in_state v (open_bucket (by_entries v.air.scheme) v.air v.reader x v.state)) c.self.view_is
    ∙ ap (λ y. in_state old (open_bucket (by_entries old.air.scheme) old.air old.reader y old.state)) (sym (told_is a))
