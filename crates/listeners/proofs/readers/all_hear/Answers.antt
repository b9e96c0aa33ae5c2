use Rattle.std.proofs.Common.{◌≡◌, ◌∙◌, refl, ap, drop, length, arith}
use Rattle.std.proofs.lemmas.List.{with_items_is}
use Rattle.receiver_core.specs.Receivers.{heard_count}
use Rattle.listeners.specs.Listeners.{Listener}
use Rattle.listeners.proofs.ReaderLemmas.{all_heard, left_at, one_hears}
use Rattle.listeners.proofs.readers.all_hear.Goals as goal

pub loop-listener-init : goal.loop-listener-init
loop-listener-init c =
    let all = c.deref_mut-listener-items.ensures.value in
    record { done = refl; left = ap (drop 0) all; long = ap length all }

pub hear-requires-clause-counts : goal.hear-requires-clause-counts
hear-requires-clause-counts c =
    let d = c.listener-item.result in
    let i = c.loop-listener.listener-index in
    let same = ap (λ (l : Listener). heard_count l.state.counts) (left_at d c.loop-listener.invariant) in
    let long = c.loop-listener.invariant.long in
    let within = c.loop-listener-test.true in
    let most = c.requires.counts i d (omega arith) in
    omega arith

pub loop-listener-preserved : goal.loop-listener-preserved
loop-listener-preserved c =
    let within = c.loop-listener-test.true in
    let long = c.loop-listener.invariant.long in
    one_hears c.listener-item.result c.hear.new.self c.loop-listener.invariant (omega arith) c.in_ok-hear.ensures.heard

pub returns : goal.returns
returns c =
    let past = c.loop-listener-test.false in
    let long = c.loop-listener.invariant.long in
    let now = c.loop-listener.listener-items in
    let all : length now ≡ c.args.listeners.len = omega (arith, c.args.listeners.ok) in
    with_items_is c.args.listeners now all ∙ all_heard c.loop-listener.invariant (omega arith)
