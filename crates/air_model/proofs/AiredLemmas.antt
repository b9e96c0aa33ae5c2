-- The buckets of a history are those that fit and are the history's; they are in range, and their bytes are read back.
use Rattle.std.proofs.Common.{◌≡◌, ℕ, zero, suc, ◌+◌, ◌-◌, ◌<◌, ◌≤◌, Bool, true, false, cond, ◌==◌, Option, Some, None, List, [], ◌∷◌, length, map, get_or, refl, sym, ◌∙◌, ap, subst, inl, inr, arith, ◌↔◌, All}
use Rattle.std.specs.Prelude.{Contains, IfSome, IsTrue}
use Rattle.std.specs.List.{flat_map, range_with_len}
use Rattle.std.proofs.lemmas.Bool.{and_from, and_parts, eq-eqb, eqb-true, le-leb, leb-true, lt-ltb, ltb-true}
use Rattle.std.proofs.lemmas.List.Elements.{Contains-append_cases, Contains-append_left, Contains-append_right}
use Rattle.std.proofs.lemmas.List.FromFn.{get_or-map-range_with_len, get_or-range_with_len, length-map-range_with_len, length-range_with_len}
use Rattle.air_base.specs.declared.verdicts.Policy.{Policy}
use Rattle.air_base.specs.declared.verdicts.Policy.TheVariants.{FMatrix, Datacycle, RMatrix}
use Rattle.air_history.specs.declared.histories.Event.{Event}
use Rattle.air_history.specs.Histories.{front, starts}
use Rattle.air_history.specs.Columns.{Scheme, aired_entries, group_column, has_groups, policy_entries}
use Rattle.air_history.specs.Tables.{values_of}
use Rattle.air_history.specs.Reads.{read_value}
use Rattle.air_model.specs.Buckets.{Bucket}
use Rattle.air_model.specs.Aired.{Air, IsAired, IsAiredBucket, aired_as, body_fits, body_of, bucket_of, buckets_of, cycle_buckets, edition_at, fits, slots_at}
use Rattle.air_model.proofs.CapLemmas.{fits_kept}

-- ---- members of lists of lists

contains_here : {X : Type 0} (x : X) (xs : List X) → Contains (x ∷ xs) x
contains_here x xs = (0, omega arith, refl)

contains_later : {X : Type 0} (y : X) (xs : List X) (x : X) → Contains xs x → Contains (y ∷ xs) x
contains_later y xs x h = (suc h.0, (let l = h.1 in omega arith), h.2)

-- Some member of the list gives x.
Gives : {X A : Type 0} (f : X → List A) (xs : List X) (a : A) → Type 0
Gives {X} {A} f xs a = (x : X) × Contains xs x × Contains (f x) a

flat_from : {X A : Type 0} (f : X → List A) (xs : List X) (a : A) → Contains (flat_map f xs) a → Gives f xs a
unfolding Gives
flat_from f [] a h = absurd (let l = h.1 in omega arith)
flat_from f (x ∷ xs) a h = elim (Contains-append_cases (f x) (flat_map f xs) a h) as (λ _. Gives f (x ∷ xs) a) [
  | inl here ↦ (x, contains_here x xs, here)
  | inr rest ↦ (let more = flat_from f xs a rest in (more.0, contains_later x xs more.0 more.1, more.2))
]

flat_to : {X A : Type 0} (f : X → List A) (xs : List X) (x : X) (a : A) → Contains xs x → Contains (f x) a → Contains (flat_map f xs) a
flat_to f [] x a (k, l, e) c = absurd (omega arith)
flat_to f (y ∷ xs) x a (zero, l, e) c = Contains-append_left (f y) (flat_map f xs) a (subst (λ z. Contains (f z) a) (sym e) c)
flat_to f (y ∷ xs) x a (suc k, l, e) c = Contains-append_right (f y) (flat_map f xs) a (flat_to f xs x a (k, omega arith, e) c)

range_from : (a n c : ℕ) → Contains (range_with_len a n) c → (a ≤ c) × (c < a + n)
range_from a n c h =
    let l : h.0 < n = omega (arith, h.1, length-range_with_len a n) in
    let at : get_or (range_with_len a n) h.0 c ≡ a + h.0 = get_or-range_with_len a n h.0 c l in
    let same : get_or (range_with_len a n) h.0 c ≡ c = h.2 in
    (omega arith, omega arith)

range_to : (a n c : ℕ) → a ≤ c → c < a + n → Contains (range_with_len a n) c
range_to a n c low high =
    let l : c - a < n = omega arith in
    let at : get_or (range_with_len a n) (c - a) c ≡ a + (c - a) = get_or-range_with_len a n (c - a) c l in
    (c - a, omega (arith, length-range_with_len a n), omega arith)

map_from : {X : Type 0} (f : ℕ → X) (n : ℕ) (x : X) → Contains (map f (range_with_len 0 n)) x → (s : ℕ) × (s < n) × (x ≡ f s)
map_from f n x h =
    let l : h.0 < n = omega (arith, h.1, length-map-range_with_len f 0 n) in
    (h.0, l, sym h.2 ∙ get_or-map-range_with_len f 0 n h.0 h.0 x l (omega arith))

map_to : {X : Type 0} (f : ℕ → X) (n s : ℕ) → s < n → Contains (map f (range_with_len 0 n)) (f s)
map_to f n s l = (s, omega (arith, length-map-range_with_len f 0 n), get_or-map-range_with_len f 0 n s s (f s) l (omega arith))

-- ---- a history's own buckets

-- The place of one of the history's buckets.
pub record IsOwn (values : List ℕ) (air : Air) (H : List Event) (b : Bucket) : Type 0 where
  pub cycle : ℕ
  pub slot : ℕ
  pub from_one : 1 ≤ cycle
  pub started : cycle ≤ starts H
  pub within : slot < length (slots_at air cycle)
  pub same : b ≡ bucket_of values air H air.version cycle slot

pub own_from : (values : List ℕ) (air : Air) (H : List Event) (b : Bucket) → Contains (buckets_of values air H) b → IsOwn values air H b
unfolding buckets_of Gives
own_from values air H b h =
    let in_cycle = flat_from (cycle_buckets values air H) (range_with_len 1 (starts H)) b h in
    let c = in_cycle.0 in
    let cycles = range_from 1 (starts H) c in_cycle.1 in
    let at = map_from (bucket_of values air H air.version c) (length (slots_at air c)) b in_cycle.2 in
    record { cycle = c; slot = at.0; from_one = cycles.0; started = (let high = cycles.1 in omega arith); within = at.1; same = at.2 }

own_to : (values : List ℕ) (air : Air) (H : List Event) (c s : ℕ) → 1 ≤ c → c ≤ starts H → s < length (slots_at air c) → Contains (buckets_of values air H) (bucket_of values air H air.version c s)
unfolding buckets_of
own_to values air H c s one started within =
    flat_to (cycle_buckets values air H) (range_with_len 1 (starts H)) c (bucket_of values air H air.version c s)
    (range_to 1 (starts H) c one (omega arith)) (map_to (bucket_of values air H air.version c) (length (slots_at air c)) s within)

pub entries_long : (p : Policy) (n : ℕ) (H : List Event) (c j : ℕ) → length (policy_entries p n H c j) ≡ n
entries_long FMatrix n H c j = length-map-range_with_len _ 0 n
entries_long Datacycle n H c j = length-map-range_with_len _ 0 n
entries_long RMatrix n H c j = length-map-range_with_len _ 0 n

pub scheme_long : (scheme : Scheme) (n : ℕ) (H : List Event) (c j : ℕ) → length (aired_entries scheme n H c j) ≡ n
scheme_long scheme n H c j = by (has_groups scheme)
  where
    by : (b : Bool) → length (cond b (group_column scheme.group n (front H c) j) (policy_entries scheme.policy n H c j)) ≡ n
    by true = length-map-range_with_len _ 0 n
    by false = entries_long scheme.policy n H c j

own_body_fits : (values : List ℕ) (air : Air) (H : List Event) (c : ℕ) (o : Option ℕ) → body_fits air o (body_of values air H c o) ≡ true
unfolding body_fits body_of
own_body_fits values air H c None = eq-eqb air.items air.items refl
own_body_fits values air H c (Some i) = by air.scheme.policy
  where
    v : ℕ
    v = read_value (values_of values) H (record { item = i; cycle = c })

    es : List ℕ
    es = aired_entries air.scheme air.items H c i

    fit : (length es == air.items) ≡ true
    fit = eq-eqb (length es) air.items (scheme_long air.scheme air.items H c i)

    by : (p : Policy) → body_fits (record air { scheme = record { policy = p; group = air.scheme.group } }) (Some i) (aired_as p i v es) ≡ true
    by FMatrix = and_from _ _ (and_from (i == i) true (eq-eqb i i refl) refl) fit
    by Datacycle = and_from _ _ (and_from (i == i) true (eq-eqb i i refl) refl) fit
    by RMatrix = and_from _ _ (and_from (i == i) true (eq-eqb i i refl) refl) fit

own_fits : (values : List ℕ) (air : Air) (H : List Event) (c s : ℕ) → s < length (slots_at air c) → fits air (bucket_of values air H air.version c s) ≡ true
unfolding fits bucket_of
own_fits values air H c s l =
    let slot = get_or (slots_at air c) s None in
    and_from _ _ (and_from _ _ (and_from _ _ (le-leb air.version air.version (omega arith)) (eq-eqb (edition_at air c) (edition_at air c) refl)) (lt-ltb s (length (slots_at air c)) l))
    (fits_kept air slot air.version c (body_of values air H c slot) ∙ own_body_fits values air H c slot)

own_aired : (values : List ℕ) (air : Air) (H : List Event) (v c s : ℕ) → 1 ≤ c → c ≤ starts H → IsAiredBucket values air H (bucket_of values air H v c s)
unfolding bucket_of
own_aired values air H v c s one started = record { from_one = one; started = started; same = refl }

own_version : (values : List ℕ) (air : Air) (H : List Event) (v c s : ℕ) → (bucket_of values air H v c s).version ≡ v
unfolding bucket_of
own_version values air H v c s = refl

-- What it means that a bucket fits.
pub record Fits (air : Air) (b : Bucket) : Type 0 where
  pub version : b.version ≤ air.version
  pub edition : b.edition ≡ edition_at air b.cycle
  pub within : b.slot < length (slots_at air b.cycle)
  pub body : body_fits air (get_or (slots_at air b.cycle) b.slot None) b.body ≡ true

pub fit_parts : (air : Air) (b : Bucket) → fits air b ≡ true → Fits air b
unfolding fits
fit_parts air b t =
    let whole = and_parts _ _ t in
    let placed = and_parts _ _ whole.0 in
    let known = and_parts _ _ placed.0 in
    record {
      version = leb-true b.version air.version known.0;
      edition = eqb-true b.edition (edition_at air b.cycle) known.1;
      within = ltb-true b.slot (length (slots_at air b.cycle)) placed.1;
      body = whole.1;
    }

pub own_buckets : (values : List ℕ) (air : Air) (H : List Event) (b : Bucket) →
    Contains (buckets_of values air H) b ↔ (IsTrue (fits air b) × IsAiredBucket values air H b × (b.version ≡ air.version))
own_buckets values air H b = (
  λ h. let own = own_from values air H b h in
      subst (λ b. IsTrue (fits air b) × IsAiredBucket values air H b × (b.version ≡ air.version)) (sym own.same)
      (own_fits values air H own.cycle own.slot own.within, own_aired values air H air.version own.cycle own.slot own.from_one own.started, own_version values air H air.version own.cycle own.slot),
  λ h. let is = h.1 in
      subst (Contains (buckets_of values air H)) (sym (is.same ∙ ap (λ v. bucket_of values air H v b.cycle b.slot) h.2))
      (own_to values air H b.cycle b.slot is.from_one is.started (fit_parts air b h.0).within),
)

pub aired : (values : List ℕ) (air : Air) (H : List Event) (heard : List (Option Bucket)) →
    All (λ o. IfSome o (Contains (buckets_of values air H))) heard → IsAired values air H heard
aired values air H heard h k d l = by (get_or heard k d) (h k d l)
  where
    by : (o : Option Bucket) → IfSome o (Contains (buckets_of values air H)) → IfSome o (λ b. IsTrue (fits air b) → IsAiredBucket values air H b)
    by None h = tt
    by (Some b) h = λ _. ((own_buckets values air H b).0 h).1
