use Rattle.std.proofs.Common.{arith, refl, sym, ap, subst, ◌∙◌, ◌≡◌, ◌+◌, ◌≤◌, ◌<◌, ℕ, List, length, map, Some, None, slice_get}
use Rattle.air_ether.specs.declared.waiting.QueuedPush.{QueuedPush}
use Rattle.air_ether.specs.declared.cursor.Cursor.{Cursor}
use Rattle.air_ether.specs.HeardPlaces.{places_of}
use Rattle.air_ether.specs.HeardPositions.{InWindow, left_at, position, times_heard_at}
use Rattle.air_ether.specs.HeardSoFar.{Ether, IsEtherAfter, left_of, limit_of}
use Rattle.air_ether.specs.KeptPushes.{Waits, push_of}
use Rattle.air_ether.specs.PushWords.{due_in, times_in}
use Rattle.air_ether.specs.EtherFields.{ether_in}
use Rattle.air_ether.specs.LentBuckets.{Gave}
use Rattle.air_ether.proofs.CursorLemmas.{times_few}
use Rattle.air_ether.proofs.EtherLemmas.{all_given, gave, gives, moved}
use Rattle.air_ether.proofs.ether.Ether.next_place.Goals as goal

-- What `seek` says of the ether's own queue and limit.
in_window : (pushes limit to : ℕ) (queue items : List QueuedPush) (c : Cursor) → limit ≡ to → queue ≡ items → InWindow pushes limit (map push_of queue) c → InWindow pushes to (map push_of items) c
in_window pushes limit to queue items c e f w = subst (λ l. InWindow pushes l (map push_of items) c) e (subst (λ (r : List QueuedPush). InWindow pushes limit (map push_of r) c) f w)

pub returns-then-not-seek-clause-given : goal.returns-then-not-seek-clause-given
returns-then-not-seek-clause-given c =
    let e : Ether = ether_in c.self.inside in
    let cursor = c.seek.new.cursor in
    let items = c.deref.ensures.value in
    let within = in_window e.pushes _ (limit_of e.ended e.pushes) _ _ cursor c.limit_of-limit.ensures items c.seek.ensures.within in
    let at : cursor.number ≡ limit_of e.ended e.pushes = c.seek.ensures.none c.if-not-seek.true ∙ c.limit_of-limit.ensures in
    let same : (seed number given : ℕ) (pushed : List (List ℕ)) → IsEtherAfter seed number pushed given e →
    position (due_in seed number e.odds) (times_in seed number e.odds) e.pushes cursor ≡ position (due_in seed number e.odds) (times_in seed number e.odds) e.pushes e.cursor =
    λ seed number given pushed f. c.seek.ensures.same _ _ (subst (λ (r : List QueuedPush). Waits (due_in seed number e.odds) (times_in seed number e.odds) e.pushes (map push_of r)) (sym items) f.waits) in
    subst (λ (s : Ether). (seed number given : ℕ) (pushed : List (List ℕ)) → IsEtherAfter seed number pushed given s → given ≡ length (places_of seed number s.odds (length pushed) s.ended)) c.self.view_is
    (λ seed number given pushed f. all_given seed number given pushed e cursor f within (same seed number given pushed f) at)

pub returns-then-not-seek-clause-after : goal.returns-then-not-seek-clause-after
returns-then-not-seek-clause-after c =
    let e : Ether = ether_in c.self.inside in
    let cursor = c.seek.new.cursor in
    let items = c.deref.ensures.value in
    let at : cursor.number ≡ limit_of e.ended e.pushes = c.seek.ensures.none c.if-not-seek.true ∙ c.limit_of-limit.ensures in
    let same : (seed number given : ℕ) (pushed : List (List ℕ)) → IsEtherAfter seed number pushed given e →
    position (due_in seed number e.odds) (times_in seed number e.odds) e.pushes cursor ≡ position (due_in seed number e.odds) (times_in seed number e.odds) e.pushes e.cursor =
    λ seed number given pushed f. c.seek.ensures.same _ _ (subst (λ (r : List QueuedPush). Waits (due_in seed number e.odds) (times_in seed number e.odds) e.pushes (map push_of r)) (sym items) f.waits) in
    subst (λ (s : Ether). Gave {X = ℕ} s None (record e { cursor = cursor })) c.self.view_is (record {
      most = refl;
      odds = refl;
      pushes = refl;
      ended = refl;
      fewer = tt;
      quiet = at;
      follows = λ seed number given pushed f. moved seed number given pushed e cursor f (same seed number given pushed f);
    })

pub overflow_add-self : goal.overflow_add-self
overflow_add-self c =
    let items = c.deref.ensures.value in
    let few = times_few c.self.inside.queue.items c.seek.new.cursor c.self.invariant.count c.self.invariant.twice in
    let found = (c.seek.ensures.found c.if-not-seek.false).2 in
    let same = ap (λ (r : List QueuedPush). times_heard_at (map push_of r) c.seek.new.cursor) items in
    omega arith

pub returns-clause-within : goal.returns-clause-within
returns-clause-within c =
    let e : Ether = ether_in c.self.inside in
    let found = c.seek.ensures.found c.if-not-seek.false in
    let w = in_window e.pushes _ (limit_of e.ended e.pushes) _ _ c.seek.new.cursor c.limit_of-limit.ensures c.deref.ensures.value c.seek.ensures.within in
    subst (λ (s : Ether). (c.seek.new.cursor.place < s.pushes) × (s.pushes ≤ c.seek.new.cursor.place + 9)) c.self.view_is (found.1, omega (arith, w.new, w.from))

pub returns-clause-given : goal.returns-clause-given
returns-clause-given c =
    let e : Ether = ether_in c.self.inside in
    let cursor = c.seek.new.cursor in
    let items = c.deref.ensures.value in
    let found = c.seek.ensures.found c.if-not-seek.false in
    let within = in_window e.pushes _ (limit_of e.ended e.pushes) _ _ cursor c.limit_of-limit.ensures items c.seek.ensures.within in
    let below : cursor.number < limit_of e.ended e.pushes = subst (λ l. cursor.number < l) c.limit_of-limit.ensures found.0 in
    let left : cursor.given < times_heard_at e.queue cursor = subst (λ (r : List QueuedPush). cursor.given < times_heard_at (map push_of r) cursor) items found.2 in
    let same : (seed number given : ℕ) (pushed : List (List ℕ)) → IsEtherAfter seed number pushed given e →
    position (due_in seed number e.odds) (times_in seed number e.odds) e.pushes cursor ≡ position (due_in seed number e.odds) (times_in seed number e.odds) e.pushes e.cursor =
    λ seed number given pushed f. c.seek.ensures.same _ _ (subst (λ (r : List QueuedPush). Waits (due_in seed number e.odds) (times_in seed number e.odds) e.pushes (map push_of r)) (sym items) f.waits) in
    subst (λ (s : Ether). (seed number given : ℕ) (pushed : List (List ℕ)) → IsEtherAfter seed number pushed given s → slice_get (places_of seed number s.odds (length pushed) s.ended) given ≡ Some cursor.place) c.self.view_is
    (λ seed number given pushed f. gives seed number given pushed e cursor f within (same seed number given pushed f) below found.1 left)

pub returns-clause-after : goal.returns-clause-after
returns-clause-after c =
    let e : Ether = ether_in c.self.inside in
    let cursor = c.seek.new.cursor in
    let items = c.deref.ensures.value in
    let found = c.seek.ensures.found c.if-not-seek.false in
    let left : cursor.given < times_heard_at e.queue cursor = subst (λ (r : List QueuedPush). cursor.given < times_heard_at (map push_of r) cursor) items found.2 in
    let same : (seed number given : ℕ) (pushed : List (List ℕ)) → IsEtherAfter seed number pushed given e →
    position (due_in seed number e.odds) (times_in seed number e.odds) e.pushes cursor ≡ position (due_in seed number e.odds) (times_in seed number e.odds) e.pushes e.cursor =
    λ seed number given pushed f. c.seek.ensures.same _ _ (subst (λ (r : List QueuedPush). Waits (due_in seed number e.odds) (times_in seed number e.odds) e.pushes (map push_of r)) (sym items) f.waits) in
    let few = times_few c.self.inside.queue.items cursor c.self.invariant.count c.self.invariant.twice in
    let on : Cursor = record { number = cursor.number; place = cursor.place; given = cursor.given + 1 } in
    let given_one : left_of (record e { cursor = on }) < left_of e =
    subst (λ l. left_at l on < left_at l e.cursor) c.limit_of-limit.ensures (omega (arith, c.seek.ensures.fewer, left, few)) in
    subst (λ (s : Ether). Gave s (Some cursor.place) (record e { cursor = on })) c.self.view_is (record {
      most = refl;
      odds = refl;
      pushes = refl;
      ended = refl;
      fewer = given_one;
      quiet = tt;
      follows = λ seed number given pushed f. gave seed number given pushed e cursor f (same seed number given pushed f);
    })

pub returns-then-not-seek-clause-less : goal.returns-then-not-seek-clause-less
returns-then-not-seek-clause-less c =
    let e : Ether = ether_in c.self.inside in
    let cursor = c.seek.new.cursor in
    subst (λ (s : Ether). left_of (record e { cursor = cursor }) ≤ left_of s) c.self.view_is
    (subst (λ l. left_at l cursor ≤ left_at l e.cursor) c.limit_of-limit.ensures c.seek.ensures.fewer)

pub returns-clause-less : goal.returns-clause-less
returns-clause-less c =
    let e : Ether = ether_in c.self.inside in
    let cursor = c.seek.new.cursor in
    let on : Cursor = record { number = cursor.number; place = cursor.place; given = cursor.given + 1 } in
    subst (λ (s : Ether). left_of (record e { cursor = on }) ≤ left_of s) c.self.view_is
    (subst (λ l. left_at l on ≤ left_at l e.cursor) c.limit_of-limit.ensures (omega (arith, c.seek.ensures.fewer)))
