-- The search for the least clash, from the first held read on. If one more read passes the test, the lesser of the clash so far
-- and its own is named.
use Rattle.std.proofs.Common.{◌≡◌, ℕ, ◌+◌, ◌<◌, Bool, true, false, cond, nat_le, List, [], ◌∷◌, ◌++◌, length, get_or, take, map, Option, Some, None, refl, sym, ◌∙◌, ap, arith, append-nil}
use Rattle.std.specs.List.{filter}
use Rattle.std.proofs.lemmas.Bool.{leb-true, leb-false}
use Rattle.std.proofs.lemmas.List.{map-append, take_more}
use Rattle.std.proofs.lemmas.List.Elements.{filter-append}
use Rattle.air_base.specs.declared.verdicts.Clash.{Clash}
use Rattle.air_history.specs.Reads.{ReadAt}
use Rattle.air_history.specs.Clashes.{lesser, least, HeardRead, read_at, heard_clash}
use Rattle.held_reads.specs.declared.reads.HeldRead.{HeldRead}
use Rattle.held_reads.specs.HeardReads.{heard_of_held}
use Rattle.held_reads.specs.Searches.{clash_naming, lesser_of}

-- The clash with a read.
abbrev clash_at : ReadAt → Clash
clash_at r = record { item = r.item; cycle = r.cycle }

cond_some : (b : Bool) (c d : Clash) → cond b (Some c) (Some d) ≡ Some (cond b c d)
cond_some true c d = refl
cond_some false c d = refl

-- Of three clashes the least doesn't depend on which two are compared first.
lesser_assoc : (r : ReadAt) (o : Option Clash) (c : Clash) → lesser r (Some (lesser_of o c)) ≡ Some (lesser_of (lesser r o) c)
lesser_assoc r None c = cond_some (nat_le r.item c.item) (clash_at r) c
lesser_assoc r (Some b) c = by (nat_le r.item b.item) (nat_le b.item c.item) (nat_le r.item c.item) refl refl refl
  where
    by : (x y z : Bool) → nat_le r.item b.item ≡ x → nat_le b.item c.item ≡ y → nat_le r.item c.item ≡ z →
        lesser r (Some (cond y b c)) ≡ Some (lesser_of (cond x (Some (clash_at r)) (Some b)) c)
    by true true true ex ey ez = ap (λ t. cond t (Some (clash_at r)) (Some b)) ex ∙ sym (ap (λ t. Some (cond t (clash_at r) c)) ez)
    by true true false ex ey ez =
        let rb = leb-true r.item b.item ex in
        let bc = leb-true b.item c.item ey in
        let cr = leb-false r.item c.item ez in
        absurd (omega arith)
    by true false z ex ey ez = cond_some (nat_le r.item c.item) (clash_at r) c
    by false true z ex ey ez = ap (λ t. cond t (Some (clash_at r)) (Some b)) ex ∙ sym (ap (λ t. Some (cond t b c)) ey)
    by false false true ex ey ez =
        let br = leb-false r.item b.item ex in
        let cb = leb-false b.item c.item ey in
        let rc = leb-true r.item c.item ez in
        absurd (omega arith)
    by false false false ex ey ez = ap (λ t. cond t (Some (clash_at r)) (Some c)) ez ∙ sym (ap (λ t. Some (cond t b c)) ey)

least_push : (S : List ReadAt) (s : ReadAt) → least (S ++ s ∷ []) ≡ Some (lesser_of (least S) (clash_at s))
unfolding least
least_push [] s = refl
least_push (r ∷ S) s = ap (lesser r) (least_push S s) ∙ lesser_assoc r (least S) (clash_at s)

pub clash_push : (test : HeardRead → Bool) (R : List HeardRead) (r : HeardRead) →
    heard_clash test (R ++ r ∷ []) ≡ cond (test r) (Some (lesser_of (heard_clash test R) (clash_naming r))) (heard_clash test R)
clash_push test R r = ap (λ S. least (map read_at S)) (filter-append test R (r ∷ [])) ∙ by (test r)
  where
    by : (b : Bool) → least (map read_at (filter test R ++ cond b (r ∷ []) [])) ≡ cond b (Some (lesser_of (heard_clash test R) (clash_naming r))) (heard_clash test R)
    by true = ap least (map-append read_at (filter test R) (r ∷ [])) ∙ least_push (map read_at (filter test R)) (read_at r)
    by false = ap (λ S. least (map read_at S)) (append-nil (filter test R))

-- The places up to the one that is read, included.
taken_more : (places : List HeldRead) (i : ℕ) (p : HeldRead) → i < length places → p ≡ get_or places i p →
    map heard_of_held (take (i + 1) places) ≡ map heard_of_held (take i places) ++ heard_of_held p ∷ []
taken_more places i p l e = ap (map heard_of_held) (take_more places i p l) ∙ map-append heard_of_held (take i places) (get_or places i p ∷ []) ∙ ap (λ q. map heard_of_held (take i places) ++ heard_of_held q ∷ []) (sym e)

pub search_hit : (test : HeardRead → Bool) (best : Option Clash) (places : List HeldRead) (i : ℕ) (p : HeldRead) → i < length places → p ≡ get_or places i p →
    test (heard_of_held p) ≡ true → best ≡ heard_clash test (map heard_of_held (take i places)) →
    Some (lesser_of best (clash_naming (heard_of_held p))) ≡ heard_clash test (map heard_of_held (take (i + 1) places))
search_hit test best places i p l e hit so_far =
    ap (λ b. Some (lesser_of b (clash_naming (heard_of_held p)))) so_far
    ∙ sym (ap (heard_clash test) (taken_more places i p l e) ∙ clash_push test (map heard_of_held (take i places)) (heard_of_held p)
    ∙ ap (λ b. cond b (Some (lesser_of (heard_clash test (map heard_of_held (take i places))) (clash_naming (heard_of_held p)))) (heard_clash test (map heard_of_held (take i places)))) hit)

pub search_miss : (test : HeardRead → Bool) (best : Option Clash) (places : List HeldRead) (i : ℕ) (p : HeldRead) → i < length places → p ≡ get_or places i p →
    test (heard_of_held p) ≡ false → best ≡ heard_clash test (map heard_of_held (take i places)) →
    best ≡ heard_clash test (map heard_of_held (take (i + 1) places))
search_miss test best places i p l e miss so_far =
    so_far
    ∙ sym (ap (heard_clash test) (taken_more places i p l e) ∙ clash_push test (map heard_of_held (take i places)) (heard_of_held p)
    ∙ ap (λ b. cond b (Some (lesser_of (heard_clash test (map heard_of_held (take i places))) (clash_naming (heard_of_held p)))) (heard_clash test (map heard_of_held (take i places)))) miss)
