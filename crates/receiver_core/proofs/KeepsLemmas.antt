-- What a receiver keeps from call to call: its cache, its held reads, and that few were taken from copies.
use Rattle.std.proofs.Common.{◌≡◌, ◌≢◌, ℕ, ◌+◌, ◌<◌, ◌≤◌, List, [], ◌∷◌, ◌++◌, length, map, take, get_or, All, Bool, true, false, cond, not, ◌==◌, Option, Some, None, refl, sym, ◌∙◌, ap, subst, arith}
use Rattle.std.specs.Prelude.{Contains, IfSome, MatchOption}
use Rattle.std.specs.List.{filter}
use Rattle.std.specs.Option.{is_some}
use Rattle.std.proofs.lemmas.Bool.{eqb-false}
use Rattle.std.proofs.lemmas.List.{length_push, map-append, take_more}
use Rattle.std.proofs.lemmas.List.Elements.{All-append, All-cons, All-contains, All-filter, All-head, All-nil, All-tail, All-take}
use Rattle.std.proofs.lemmas.Option.{get_or_from_slice_get, slice_get_within}
use Rattle.air_model.specs.Aired.{Air}
use Rattle.air_model.specs.Copies.{keep, with_copy, without_item}
use Rattle.air_base.specs.declared.verdicts.Clash.{Clash}
use Rattle.air_model.specs.Judges.{by_entries}
use Rattle.air_model.proofs.NameLemmas.{names}
use Rattle.air_model.specs.Reads.{Read}
use Rattle.air_model.specs.Sessions.{Reader, wanted}
use Rattle.pix_cache.specs.Caches.{Cache}
use Rattle.receiver_core.specs.Private.Attempts.{HeldValues}
use Rattle.receiver_core.specs.Private.Offers.{without_clash}
use Rattle.receiver_core.specs.ReceiverFields.{CopiesFew, HoldsFirst, IsCacheOf, IsReceiver, IsWholeRead, receiver_in}
use Rattle.receiver_core.specs.declared.receivers.Receiver.TheInside.{Inside}
use Rattle.receiver_core.proofs.OpenLemmas.{at_hand, wanted_at}
use Rattle.receiver_core.proofs.StateLemmas.{left}

-- ---- the cache

whole_without : (n : ℕ) (clash : Option Clash) (R : List Read) → All (IsWholeRead n) R → All (IsWholeRead n) (without_clash clash R)
unfolding without_item
whole_without n None R h = h
whole_without n (Some clash) R h = All-filter _ (IsWholeRead n) R h

pub offered : (air : Air) (reader : Reader) (latest : ℕ) (before now : Cache) (clash : Option Clash) (x : Read) → IsCacheOf air reader latest before → IsWholeRead air.items x →
    now ≡ record before { copies = keep before.room before.pix (with_copy x (without_clash clash before.copies)) } → IsCacheOf air reader latest now
unfolding keep with_copy
offered air reader latest before now clash x k whole e =
    let R = without_clash clash before.copies in
    let rest = whole_without air.items clash before.copies k.copies in
    subst (IsCacheOf air reader latest) (sym e) (record {
      room = k.room;
      pix = k.pix;
      copies = All-filter _ (IsWholeRead air.items) _ (All-append (IsWholeRead air.items) _ (x ∷ _) (All-filter _ (IsWholeRead air.items) R rest)
          (All-cons (IsWholeRead air.items) x _ whole (All-filter _ (IsWholeRead air.items) R rest)));
    })

pub dropped_one : (air : Air) (reader : Reader) (latest : ℕ) (before now : Cache) (i : ℕ) → IsCacheOf air reader latest before → now ≡ record before { copies = without_item i before.copies } →
    IsCacheOf air reader latest now
unfolding without_item
dropped_one air reader latest before now i k e = subst (IsCacheOf air reader latest) (sym e) (record { room = k.room; pix = k.pix; copies = All-filter _ (IsWholeRead air.items) before.copies k.copies })

-- All were dropped.
pub emptied : (r : Inside) (cache : Cache) → IsReceiver r → cache ≡ record r.copies { copies = [] } → IsReceiver (record r { copies = cache })
emptied r cache k e = record {
  deck = k.deck;
  cache = subst (IsCacheOf r.air r.reader r.latest) (sym e) (record { room = k.cache.room; pix = k.cache.pix; copies = All-nil (IsWholeRead r.air.items) });
  held = k.held;
  few = k.few;
  column = k.column;
}

-- ---- the held reads

-- The held items stay the query's first ones.
pub more_held : (r : Inside) (held : HeldValues) (x : Read) → IsReceiver r → held ≡ record r.held { reads = r.held.reads ++ x ∷ [] } →
    wanted (receiver_in r).reader (receiver_in r).state ≡ Some x.item → HoldsFirst r.air r.reader r.query held.policy held.items held.reads
more_held r held x k e w =
    let reads : held.reads ≡ r.held.reads ++ x ∷ [] = ap (λ (h : HeldValues). h.reads) e in
    let n = length r.held.reads in
    let at = wanted_at r x.item w in
    record {
      policy = ap (λ (h : HeldValues). h.policy) e ∙ k.held.policy;
      items = ap (λ (h : HeldValues). h.items) e ∙ k.held.items;
      first = ap (map (λ y. y.item)) reads ∙ map-append (λ y. y.item) r.held.reads (x ∷ []) ∙ ap (λ is. is ++ x.item ∷ []) k.held.first
          ∙ ap (λ i. take n (at_hand r) ++ i ∷ []) (sym (get_or_from_slice_get (at_hand r) n x.item x.item at))
          ∙ sym (take_more (at_hand r) n x.item (slice_get_within (at_hand r) n x.item at))
          ∙ ap (λ m. take m (at_hand r)) (sym (ap length reads ∙ length_push r.held.reads x));
    }

pub same_held : (r : Inside) (held : HeldValues) → IsReceiver r → held ≡ r.held → HoldsFirst r.air r.reader r.query held.policy held.items held.reads
same_held r held k e = subst (λ (h : HeldValues). HoldsFirst r.air r.reader r.query h.policy h.items h.reads) (sym e) k.held

-- ---- the reads from copies

pub few_opened : (r : Inside) (held : HeldValues) (x : Read) → IsReceiver r → held ≡ record r.held { reads = r.held.reads ++ x ∷ [] } → CopiesFew r.query r.attempt (length held.reads) r.counts.copied
few_opened r held x k e =
    let more : length held.reads ≡ length r.held.reads + 1 = ap (λ (h : HeldValues). length h.reads) e ∙ length_push r.held.reads x in
    let few = k.few.within in
    record { tried = k.few.tried; within = omega arith }

pub few_taken : (r : Inside) (held : HeldValues) (x : Read) → IsReceiver r → held ≡ record r.held { reads = r.held.reads ++ x ∷ [] } → CopiesFew r.query r.attempt (length held.reads) (r.counts.copied + 1)
few_taken r held x k e =
    let more : length held.reads ≡ length r.held.reads + 1 = ap (λ (h : HeldValues). length h.reads) e ∙ length_push r.held.reads x in
    let few = k.few.within in
    record { tried = k.few.tried; within = omega arith }

pub few_same : (r : Inside) (held : HeldValues) → IsReceiver r → held ≡ r.held → CopiesFew r.query r.attempt (length held.reads) r.counts.copied
few_same r held k e = subst (λ (h : HeldValues). CopiesFew r.query r.attempt (length h.reads) r.counts.copied) (sym e) k.few

-- ---- items

-- The wanted item has a PIX number.
pub item_within : (r : Inside) (i : ℕ) → IsReceiver r → wanted (receiver_in r).reader (receiver_in r).state ≡ Some i → i < length r.copies.pix
item_within r i k w =
    let q = at_hand r in
    let n = length r.held.reads in
    let here = left (receiver_in r).reader (receiver_in r).state i w in
    let at = wanted_at r i w in
    let below : get_or q n i < r.air.items = k.deck.within r.query [] here n i (slice_get_within q n i at) in
    let same = get_or_from_slice_get q n i i at in
    let all : length r.copies.pix ≡ r.air.items = ap length k.cache.pix ∙ k.deck.numbers r.latest in
    omega arith

-- So it is one of the air's.
pub wanted_within : (r : Inside) (o : Option ℕ) → IsReceiver r → o ≡ wanted (receiver_in r).reader (receiver_in r).state → IfSome o (λ i. i < r.air.items)
wanted_within r None k e = tt
wanted_within r (Some i) k e =
    let below = item_within r i k (sym e) in
    let all : length r.copies.pix ≡ r.air.items = ap length k.cache.pix ∙ k.deck.numbers r.latest in
    omega arith

-- So has the item of a held read that clashes.
clash_within : (r : Inside) (x : Read) (c : Clash) → IsReceiver r → r.query < length r.reader.queries → (by_entries r.air.scheme).clash r.held.reads x ≡ Some c → c.item < length r.copies.pix
clash_within r x c k here e =
    let held : Contains (map (λ (y : Read). y.item) r.held.reads) c.item = (names r.air.scheme 0 [] []).1 r.held.reads x c e in
    let first : All (λ i. i < r.air.items) (take (length r.held.reads) (at_hand r)) = All-take (λ i. i < r.air.items) (length r.held.reads) (at_hand r) (k.deck.within r.query [] here) in
    let below : c.item < r.air.items = All-contains (λ i. i < r.air.items) (take (length r.held.reads) (at_hand r)) c.item first (subst (λ is. Contains is c.item) k.held.first held) in
    let all : length r.copies.pix ≡ r.air.items = ap length k.cache.pix ∙ k.deck.numbers r.latest in
    omega arith

pub clashes_within : (r : Inside) (x : Read) (o : Option Clash) → IsReceiver r → r.query < length r.reader.queries → (by_entries r.air.scheme).clash r.held.reads x ≡ o → IfSome o (λ c. c.item < length r.copies.pix)
clashes_within r x None k here e = tt
clashes_within r x (Some c) k here e = clash_within r x c k here e

-- Whether there is a copy is whether one was got.
pub some_got : {X : Type 0} (f : X → Read) (p : Option Read) (o : Option X) → MatchOption o (p ≡ None) (λ k. p ≡ Some (f k)) → is_some o ≡ is_some p
some_got f p None e = sym (ap is_some e)
some_got f p (Some k) e = sym (ap is_some e)

-- ---- all copies are dropped

pub from_next : (i : ℕ) (R : List Read) → All (λ r. i ≤ r.item) R → All (λ r. i + 1 ≤ r.item) (without_item i R)
unfolding without_item
from_next i [] h = All-nil (λ r. i + 1 ≤ r.item)
from_next i (r ∷ R) h = by (r.item == i) refl (from_next i R (All-tail (λ r. i ≤ r.item) r R h))
  where
    by : (b : Bool) → (r.item == i) ≡ b → All (λ r. i + 1 ≤ r.item) (filter (λ r. not (r.item == i)) R) →
        All (λ r. i + 1 ≤ r.item) (cond (not b) (r ∷ filter (λ r. not (r.item == i)) R) (filter (λ r. not (r.item == i)) R))
    by true e rest = rest
    by false e rest =
        let low = All-head (λ r. i ≤ r.item) r R h in
        let other : r.item ≢ i = eqb-false r.item i e in
        All-cons (λ r. i + 1 ≤ r.item) r _ (omega arith) rest

pub none_from_to : (n : ℕ) (R : List Read) → All (λ r. n ≤ r.item) R → All (λ r. r.item < n) R → R ≡ []
none_from_to n [] h g = refl
none_from_to n (r ∷ R) h g = absurd (let low = All-head (λ r. n ≤ r.item) r R h in let high = All-head (λ r. r.item < n) r R g in omega arith)
