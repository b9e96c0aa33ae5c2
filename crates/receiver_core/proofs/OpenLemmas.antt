-- A read that is tried: it is new to the held ones, and what an opened bucket does is what the rule says.
use Rattle.std.proofs.Common.{◌≡◌, ◌≢◌, ℕ, zero, suc, ◌+◌, ◌<◌, ◌≤◌, Bool, true, false, ◌==◌, List, [], ◌∷◌, ◌++◌, length, map, take, get_or, All, Option, Some, None, refl, sym, ◌∙◌, ap, subst, inl, inr, arith}
use Rattle.std.specs.List.{list_any, slice_get}
use Rattle.std.proofs.lemmas.Bool.{eqb-false}
use Rattle.std.proofs.lemmas.List.Elements.{All-cons, All-head, All-nil, All-tail}
use Rattle.std.proofs.lemmas.Option.{slice_get_within}
use Rattle.air_base.specs.declared.verdicts.Clash.{Clash}
use Rattle.air_base.specs.declared.verdicts.VerdictKind.TheVariants.{Abort, Aged}
use Rattle.held_reads.specs.declared.held.TheConstants.{ROOM}
use Rattle.air_history.specs.UpdateRules.{has_repeat}
use Rattle.air_history.specs.Clashes.{is_late}
use Rattle.air_model.specs.Aired.{pix_at}
use Rattle.air_model.specs.Buckets.{Body, Bucket, Column, Idle, IsInRange, Vector, count_of, entries_of, item_of, kind_of, value_of}
use Rattle.air_model.specs.Copies.{keep, with_copy, without_item}
use Rattle.air_model.specs.Judges.{by_entries, heard_of, place_of}
use Rattle.air_model.specs.Reads.{Read, read_with}
use Rattle.air_model.specs.Sessions.{accept_if_whole, comes_aged, comes_late, next_attempt, open_bucket, query_of, wanted, with_line}
use Rattle.air_model.specs.SessionLaws.{are_far}
use Rattle.air_model.proofs.MomentLemmas.{or_false}
use Rattle.air_history.specs.HeldReads.{IsNew}
use Rattle.pix_cache.specs.Caches.{Cache}
use Rattle.receiver_core.specs.Private.Attempts.{HeldValues, columns_of, read_from_bucket}
use Rattle.receiver_core.specs.Private.Offers.{without_clash}
use Rattle.receiver_core.specs.LastReads.{in_state}
use Rattle.receiver_core.specs.Receivers.{Receiver}
use Rattle.receiver_core.specs.ReceiverFields.{IsReceiver, IsWholeRead, receiver_in}
use Rattle.receiver_core.specs.declared.receivers.Receiver.TheInside.{Inside}
use Rattle.receiver_core.proofs.StateLemmas.{left}
use Rattle.receiver_core.proofs.WordLemmas.{open_aged, open_clash, open_clear, with_opened}

-- ---- the wanted item isn't held

differs : (q : List ℕ) (x k i : ℕ) → list_any (λ y. y == x) q ≡ false → slice_get q k ≡ Some i → x ≢ i
differs [] x k i e s = absurd (let f : ◌≡◌ {A = Option ℕ} None (Some i) = s in cc)
differs (y ∷ q) x zero i e s = λ same.
    let yi : ◌≡◌ {A = Option ℕ} (Some y) (Some i) = s in
    let here : y ≡ i = cc in
    eqb-false y x (or_false (y == x) (list_any (λ z. z == x) q) e).0 (here ∙ sym same)
differs (y ∷ q) x (suc k) i e s = differs q x k i (or_false (y == x) (list_any (λ z. z == x) q) e).1 s

-- Of distinct items none before the one at a place is that one.
pub before_differ : (q : List ℕ) (k i : ℕ) → has_repeat q ≡ false → slice_get q k ≡ Some i → All (λ j. j ≢ i) (take k q)
unfolding has_repeat
before_differ [] k i e s = absurd (let f : ◌≡◌ {A = Option ℕ} None (Some i) = s in cc)
before_differ (x ∷ q) zero i e s = All-nil (λ j. j ≢ i)
before_differ (x ∷ q) (suc k) i e s =
    let both = or_false (list_any (λ y. y == x) q) (has_repeat q) e in
    All-cons (λ j. j ≢ i) x (take k q) (differs q x k i both.0 s) (before_differ q k i both.1 s)

heard_differ : (R : List Read) (i : ℕ) → All (λ j. j ≢ i) (map (λ r. r.item) R) → All (λ h. h.item ≢ i) (map heard_of R)
heard_differ [] i h = All-nil (λ g. g.item ≢ i)
heard_differ (r ∷ R) i h = All-cons (λ g. g.item ≢ i) (heard_of r) (map heard_of R) (All-head (λ j. j ≢ i) r.item (map (λ s. s.item) R) h)
    (heard_differ R i (All-tail (λ j. j ≢ i) r.item (map (λ s. s.item) R) h))

-- ---- at the fields

-- The query at hand.
abbrev pub at_hand : Inside → List ℕ
at_hand r = get_or r.reader.queries r.query []

pub wanted_at : (r : Inside) (i : ℕ) → wanted (receiver_in r).reader (receiver_in r).state ≡ Some i → slice_get (at_hand r) (length r.held.reads) ≡ Some i
unfolding wanted query_of
wanted_at r i w = w

pub room_left : (r : Inside) (i : ℕ) → IsReceiver r → wanted (receiver_in r).reader (receiver_in r).state ≡ Some i → length r.held.reads < ROOM
room_left r i k w =
    let within : length r.held.reads < length (at_hand r) = slice_get_within (at_hand r) (length r.held.reads) i (wanted_at r i w) in
    let short : length (at_hand r) ≤ ROOM = k.deck.short.items r.query [] (left (receiver_in r).reader (receiver_in r).state i w) in
    omega arith

-- A bucket with an item has as many entries as it counts.
entries_counted : (body : Body) → kind_of body ≢ 0 → length (entries_of body) ≡ count_of body
unfolding kind_of entries_of count_of
entries_counted (Idle count) k = absurd (k refl)
entries_counted (Column item value entries) k = refl
entries_counted (Vector item value entries) k = refl

-- What was taken of a bucket, part by part, is the read that it gives.
pub read_parts : (b : Bucket) (item cycle value : ℕ) (entries : List ℕ) → item ≡ item_of b.body → cycle ≡ b.cycle → value ≡ value_of b.body → entries ≡ entries_of b.body →
    read_from_bucket b ≡ read_with item cycle value entries
read_parts b item cycle value entries i c v e =
    ap (λ n. read_with n b.cycle (value_of b.body) (entries_of b.body)) (sym i) ∙ ap (λ n. read_with item n (value_of b.body) (entries_of b.body)) (sym c)
    ∙ ap (λ n. read_with item cycle n (entries_of b.body)) (sym v) ∙ ap (read_with item cycle value) (sym e)

-- The read of a bucket with an item and an entry for each of the items is whole.
pub bucket_read : (b : Bucket) (n : ℕ) → IsInRange b → kind_of b.body ≢ 0 → count_of b.body ≡ n → IsWholeRead n (read_from_bucket b)
bucket_read b n range busy counted = record {
  within = elim range.placed [ inl idle ↦ absurd (busy idle) | inr below ↦ omega arith ];
  sized = entries_counted b.body busy ∙ counted;
  below = range.entries;
}

-- The entries of a bucket that fits are as many as there are PIX numbers.
pub column_sized : (r : Inside) (b : Bucket) (column : List ℕ) → IsReceiver r → kind_of b.body ≢ 0 → count_of b.body ≡ r.air.items → column ≡ entries_of b.body →
    length column ≡ length r.copies.pix
column_sized r b column k busy counted e = ap length e ∙ entries_counted b.body busy ∙ counted ∙ sym (ap length k.cache.pix ∙ k.deck.numbers r.latest)

-- A whole read of the wanted item is new to the held ones.
pub new_read : (r : Inside) (x : Read) → IsReceiver r → IsWholeRead r.air.items x → wanted (receiver_in r).reader (receiver_in r).state ≡ Some x.item → IsNew (columns_of r.held) (heard_of x)
new_read r x k whole w =
    let here : r.query < length r.reader.queries = left (receiver_in r).reader (receiver_in r).state x.item w in
    let apart : All (λ j. j ≢ x.item) (take (length r.held.reads) (at_hand r)) = before_differ (at_hand r) (length r.held.reads) x.item (k.deck.distinct r.query [] here) (wanted_at r x.item w) in
    let all = k.held.items in
    let within = whole.within in
    record {
      within = omega arith;
      free = heard_differ r.held.reads x.item (subst (All (λ j. j ≢ x.item)) (sym k.held.first) apart);
      sized = whole.sized ∙ sym k.held.items;
      below = whole.below;
    }

-- Whether a read comes too late is told by the policy of the held reads as by the deck's.
pub late_at : (r : Inside) (x : Read) (b : Bool) → IsReceiver r → b ≡ is_late r.held.policy (map place_of r.held.reads) (place_of x) → b ≡ comes_late (receiver_in r).air (receiver_in r).state x
late_at r x b k e = e ∙ ap (λ p. is_late p (map place_of r.held.reads) (place_of x)) k.held.policy

-- The same for a bucket's read, by its cycle.
pub late_told : (r : Inside) (b : Bucket) (late : Bool) (cycle : ℕ) → IsReceiver r →
    ((item : ℕ) → late ≡ is_late r.held.policy (map place_of r.held.reads) (record { item = item; cycle = cycle })) → cycle ≡ b.cycle →
    comes_late (receiver_in r).air (receiver_in r).state (read_from_bucket b) ≡ late
late_told r b late cycle k told e =
    sym (late_at r (read_from_bucket b) late k (told (item_of b.body) ∙ ap (λ n. is_late r.held.policy (map place_of r.held.reads) (record { item = item_of b.body; cycle = n })) e))

-- Whether a read lies too far from the held ones is told by the deck's version.
pub far_at : (r : Inside) (x : Read) (b : Bool) (version : ℕ) → ((item : ℕ) → b ≡ are_far version (map place_of r.held.reads ++ record { item = item; cycle = x.cycle } ∷ [])) → version ≡ r.air.version →
    comes_aged r.air (receiver_in r).state x ≡ b
far_at r x b version told e = sym (told x.item ∙ ap (λ n. are_far n (map place_of r.held.reads ++ place_of x ∷ [])) e)

-- ---- an opened bucket

-- The fields with one more opened bucket.
abbrev pub opened_with : Inside → HeldValues → Cache → Inside
opened_with r held cache = record r { counts = record r.counts { opened = r.counts.opened + 1 }; held = held; copies = cache }

-- The copies that stay of some and the new one, by the reader's room and the numbers of the air.
kept_at : (r : Inside) (R : List Read) (x : Read) → IsReceiver r → keep r.copies.room r.copies.pix (with_copy x R) ≡ keep r.reader.plan.room (pix_at r.air r.latest) (with_copy x R)
kept_at r R x k = ap (λ n. keep n r.copies.pix (with_copy x R)) k.cache.room ∙ ap (λ p. keep r.reader.plan.room p (with_copy x R)) k.cache.pix

-- The cache once the read is offered, without the copy of the item that clashes.
abbrev pub offered_to : Inside → Read → Option Clash → Cache
offered_to r x clash = record r.copies { copies = keep r.copies.room r.copies.pix (with_copy x (without_clash clash r.copies.copies)) }

pub opened_clear : (r : Inside) (held : HeldValues) (cache : Cache) (x : Read) → IsReceiver r → held ≡ record r.held { reads = r.held.reads ++ x ∷ [] } →
    cache ≡ offered_to r x None → comes_aged r.air (receiver_in r).state x ≡ false → (by_entries r.air.scheme).clash r.held.reads x ≡ None →
    in_state (receiver_in (opened_with r held cache)) (accept_if_whole (by_entries r.air.scheme) r.air r.reader (receiver_in (opened_with r held cache)).state)
    ≡ in_state (receiver_in r) (open_bucket (by_entries r.air.scheme) r.air r.reader x (receiver_in r).state)
opened_clear r held cache x k e f near none =
    ap (λ h. in_state (receiver_in (opened_with r h cache)) (accept_if_whole (by_entries r.air.scheme) r.air r.reader (receiver_in (opened_with r h cache)).state)) e
    ∙ ap (λ (c : Cache). in_state (receiver_in r) (accept_if_whole (by_entries r.air.scheme) r.air r.reader (record (with_opened (receiver_in r).state) { held = r.held.reads ++ x ∷ []; copies = c.copies }))) f
    ∙ ap (λ cs. in_state (receiver_in r) (accept_if_whole (by_entries r.air.scheme) r.air r.reader (record (with_opened (receiver_in r).state) { held = r.held.reads ++ x ∷ []; copies = cs }))) (kept_at r r.copies.copies x k)
    ∙ ap (in_state (receiver_in r)) (open_clear r.air r.reader x (receiver_in r).state near none)

-- The receiver after the abort, with these copies.
abbrev after_abort : Inside → Read → Clash → List Read → Receiver
after_abort r x c cs = in_state (receiver_in r) (next_attempt r.reader (with_line (by_entries r.air.scheme) (Abort x.item x.cycle c.item) (record (with_opened (receiver_in r).state) { copies = cs })))

pub opened_clash : (r : Inside) (held : HeldValues) (cache : Cache) (x : Read) (c : Clash) → IsReceiver r → held ≡ r.held →
    cache ≡ offered_to r x (Some c) → comes_aged r.air (receiver_in r).state x ≡ false → (by_entries r.air.scheme).clash r.held.reads x ≡ Some c →
    in_state (receiver_in (opened_with r held cache)) (next_attempt r.reader (with_line (by_entries r.air.scheme) (Abort x.item x.cycle c.item) (receiver_in (opened_with r held cache)).state))
    ≡ in_state (receiver_in r) (open_bucket (by_entries r.air.scheme) r.air r.reader x (receiver_in r).state)
opened_clash r held cache x c k e f near some =
    ap (λ h. in_state (receiver_in (opened_with r h cache)) (next_attempt r.reader (with_line (by_entries r.air.scheme) (Abort x.item x.cycle c.item) (receiver_in (opened_with r h cache)).state))) e
    ∙ ap (λ (t : Cache). after_abort r x c t.copies) f ∙ ap (after_abort r x c) (kept_at r (without_item c.item r.copies.copies) x k)
    ∙ ap (in_state (receiver_in r)) (open_clash r.air r.reader x c (receiver_in r).state near some)

-- The receiver after an aged attempt, with these copies.
abbrev after_aged : Inside → Read → List Read → Receiver
after_aged r x cs = in_state (receiver_in r) (next_attempt r.reader (with_line (by_entries r.air.scheme) (Aged x.item x.cycle) (record (with_opened (receiver_in r).state) { copies = cs })))

pub opened_aged : (r : Inside) (cache : Cache) (x : Read) → IsReceiver r → cache ≡ offered_to r x None → comes_aged r.air (receiver_in r).state x ≡ true →
    in_state (receiver_in (opened_with r r.held cache)) (next_attempt r.reader (with_line (by_entries r.air.scheme) (Aged x.item x.cycle) (receiver_in (opened_with r r.held cache)).state))
    ≡ in_state (receiver_in r) (open_bucket (by_entries r.air.scheme) r.air r.reader x (receiver_in r).state)
opened_aged r cache x k f far =
    ap (λ (t : Cache). after_aged r x t.copies) f ∙ ap (after_aged r x) (kept_at r r.copies.copies x k)
    ∙ ap (in_state (receiver_in r)) (open_aged r.air r.reader x (receiver_in r).state far)
