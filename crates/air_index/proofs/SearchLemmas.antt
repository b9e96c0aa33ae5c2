-- What each step of a search makes of the record that it opens.
use Rattle.std.proofs.Common.{◌≡◌, ◌≤◌, ◌<◌, ◌+◌, ◌-◌, ◌^◌, ◌==◌, if◌then◌else◌, ℕ, zero, suc, Bool, true, false, Some, None, List, [], ◌∷◌, length, drop, get_or, slice_get, refl, sym, ◌∙◌, ap, subst, arith}
use Rattle.std.specs.Option.{option_map_or}
use Rattle.std.proofs.lemmas.Option.{slice_get-get_or}
use Rattle.air_model.specs.Buckets.{Body, Bucket, Idle, Column, Vector, item_of, kind_of, value_of}
use Rattle.air_index.specs.Indexes.{Index}
use Rattle.air_index.specs.Records.{indexed_at}
use Rattle.bucket_codec.specs.DatagramKinds.{kind_number}
use Rattle.bucket_codec.specs.declared.view.ViewKind.{ViewKind}
use Rattle.bucket_codec.specs.declared.view.ViewKind.TheVariants as kind
use Rattle.air_index.specs.Searches.{IsReached, told_after, told_from}
use Rattle.air_index.specs.Seeks.{first_told, has_item, index_told, item_told, sought_first, sought_index, sought_item}
use Rattle.air_index.specs.declared.records.Indexed.TheVariants as variant
use Rattle.air_index.specs.declared.searches.Search.{Search}
use Rattle.air_index.specs.declared.searches.SearchStage.{SearchStage}
use Rattle.air_index.specs.declared.searches.SearchStage.TheVariants as stage
use Rattle.air_index.specs.declared.sought.Sought.{Sought}
use Rattle.air_index.specs.declared.sought.Sought.TheVariants.{Found, Lost}

-- ---- an item of a body

pub none_idle : (i : ℕ) (b : Body) → 0 ≡ kind_of b → false ≡ has_item i b
unfolding has_item kind_of
none_idle i (Idle count) e = refl
none_idle i (Column item value entries) e = absurd (omega arith)
none_idle i (Vector item value entries) e = absurd (omega arith)

pub some_busy : (i x : ℕ) (b : Body) → 1 ≤ kind_of b → x ≡ item_of b → (x == i) ≡ has_item i b
unfolding has_item kind_of item_of
some_busy i x (Idle count) busy e = absurd (omega arith)
some_busy i x (Column item value entries) busy e = ap (λ n. n == i) e
some_busy i x (Vector item value entries) busy e = ap (λ n. n == i) e

-- ---- where a search goes on

drop_next : (skip e : ℕ) (r : List ℕ) (records : List (List ℕ)) → skip + 1 ≡ e → drop e (r ∷ records) ≡ drop skip records
drop_next skip e r records is = let next : e ≡ suc skip = omega arith in ap (λ k. drop k (r ∷ records)) next

pub none_below : (i : ℕ) (es : List ℕ) → length es ≤ i → slice_get es i ≡ None
none_below i [] h = refl
none_below zero (e ∷ es) h = absurd (omega arith)
none_below (suc i) (e ∷ es) h = none_below i es (omega arith)

-- An index without the item.
pub index_lost : (i opens q : ℕ) (index : Index) (records : List (List ℕ)) → length index.entries ≤ i → Lost opens ≡ index_told i opens q records (Some (variant.Index index))
unfolding index_told
index_lost i opens q index records h = sym (ap (λ o. option_map_or (λ e. sought_item i opens (q + e) (drop e records)) o (Lost opens)) (none_below i index.entries h))

-- A search that waits for the item.
pub item_next : (i opens q e : ℕ) (s : Search) (index : Index) (r : List ℕ) (records : List (List ℕ)) → s.stage ≡ stage.Item opens → s.place ≡ q + e → s.skip + 1 ≡ e
    → e ≡ get_or index.entries i 0 → i < length index.entries → told_after i s records ≡ index_told i opens q (r ∷ records) (Some (variant.Index index))
unfolding told_from index_told
item_next i opens q e s index r records w p k is under =
    ap (λ w. told_from i s.place w (drop s.skip records)) w
    ∙ ap (λ p. sought_item i opens p (drop s.skip records)) p
    ∙ ap (sought_item i opens (q + e)) (sym (drop_next s.skip e r records k))
    ∙ sym (ap (λ o. option_map_or (λ e. sought_item i opens (q + e) (drop e (r ∷ records))) o (Lost opens)) (slice_get-get_or index.entries i 0 under ∙ ap Some (sym is)))

-- A search that waits for the index, where the first data record has another item.
pub index_next : (i q wait : ℕ) (s : Search) (b : Bucket) (r : List ℕ) (records : List (List ℕ)) → s.stage ≡ stage.Index → s.place ≡ q + wait → s.skip + 1 ≡ wait
    → has_item i b.body ≡ false → told_after i s records ≡ first_told i q (r ∷ records) (Some (variant.Payload wait b))
unfolding told_from first_told
index_next i q wait s b r records w p k other =
    ap (λ w. told_from i s.place w (drop s.skip records)) w
    ∙ ap (λ p. sought_index i p (drop s.skip records)) p
    ∙ ap (sought_index i (q + wait)) (sym (drop_next s.skip wait r records k))
    ∙ sym (ap (λ (b2 : Bool). if b2 then Found 1 q b.cycle (value_of b.body) else sought_index i (q + wait) (drop wait (r ∷ records))) other)

-- The first data record has the item.
pub first_found : (i q wait c v : ℕ) (b : Bucket) (records : List (List ℕ)) → has_item i b.body ≡ true → c ≡ b.cycle → v ≡ value_of b.body
    → Found 1 q c v ≡ first_told i q records (Some (variant.Payload wait b))
unfolding first_told
first_found i q wait c v b records same p w =
    ap (λ c. Found 1 q c v) p ∙ ap (λ v. Found 1 q b.cycle v) w
    ∙ sym (ap (λ (b2 : Bool). if b2 then Found 1 q b.cycle (value_of b.body) else sought_index i (q + wait) (drop wait records)) same)

-- The data record to which an index leads has the item, or another.
pub item_found : (i opens q wait c v : ℕ) (b : Bucket) → has_item i b.body ≡ true → c ≡ b.cycle → v ≡ value_of b.body → Found opens q c v ≡ item_told i opens q (Some (variant.Payload wait b))
unfolding item_told
item_found i opens q wait c v b same p w =
    ap (λ c. Found opens q c v) p ∙ ap (λ v. Found opens q b.cycle v) w
    ∙ sym (ap (λ (b2 : Bool). if b2 then Found opens q b.cycle (value_of b.body) else Lost opens) same)

pub item_other : (i opens q wait : ℕ) (b : Bucket) → has_item i b.body ≡ false → Lost opens ≡ item_told i opens q (Some (variant.Payload wait b))
unfolding item_told
item_other i opens q wait b other = sym (ap (λ (b2 : Bool). if b2 then Found opens q b.cycle (value_of b.body) else Lost opens) other)

pub item_index : (i opens q : ℕ) (index : Index) → Lost opens ≡ item_told i opens q (Some (variant.Index index))
unfolding item_told
item_index i opens q index = refl

pub item_none : (i opens q : ℕ) → Lost opens ≡ item_told i opens q None
unfolding item_told
item_none i opens q = refl

-- What has to be an index and is none.
pub index_payload : (i opens q wait : ℕ) (b : Bucket) (records : List (List ℕ)) → Lost opens ≡ index_told i opens q records (Some (variant.Payload wait b))
unfolding index_told
index_payload i opens q wait b records = refl

pub index_none : (i opens q : ℕ) (records : List (List ℕ)) → Lost opens ≡ index_told i opens q records None
unfolding index_told
index_none i opens q records = refl

pub first_none : (i q : ℕ) (records : List (List ℕ)) → Lost 1 ≡ first_told i q records None
unfolding first_told
first_none i q records = refl

pub first_index : (i q : ℕ) (records : List (List ℕ)) (index : Index) → index_told i 1 q records (Some (variant.Index index)) ≡ first_told i q records (Some (variant.Index index))
unfolding first_told
first_index i q records index = refl

-- ---- the record that is waited for

pub told_first : (i q : ℕ) (r : List ℕ) (records : List (List ℕ)) → first_told i q (r ∷ records) (indexed_at r) ≡ told_from i q stage.First (r ∷ records)
unfolding told_from sought_first
told_first i q r records = refl

pub told_index : (i q : ℕ) (r : List ℕ) (records : List (List ℕ)) → index_told i 2 q (r ∷ records) (indexed_at r) ≡ told_from i q stage.Index (r ∷ records)
unfolding told_from sought_index
told_index i q r records = refl

pub told_item : (i q opens : ℕ) (r : List ℕ) (records : List (List ℕ)) → item_told i (opens + 1) q (indexed_at r) ≡ told_from i q (stage.Item opens) (r ∷ records)
unfolding told_from sought_item
told_item i q opens r records = refl

pub told_answer : (i q p : ℕ) (answer : Sought) (l records : List (List ℕ)) → told_from i q (stage.Nothing answer) l ≡ told_from i p (stage.Nothing answer) records
unfolding told_from
told_answer i q p answer l records = refl

-- The record itself.
pub told_here : (i skip q : ℕ) (w : SearchStage) (l : List (List ℕ)) → skip ≡ 0 → told_from i q w l ≡ told_from i q w (drop skip l)
told_here i skip q w l none = sym (ap (λ k. told_from i q w (drop k l)) none)

-- A record before it.
pub told_skip : (i skip q : ℕ) (w : SearchStage) (r : List ℕ) (records : List (List ℕ)) → 0 < skip → told_from i q w (drop (skip - 1) records) ≡ told_from i q w (drop skip (r ∷ records))
told_skip i skip q w r records some = ap (told_from i q w) (sym (drop_next (skip - 1) skip r records (omega arith)))

-- ---- no record more

pub end_first : (i q skip : ℕ) → Lost 0 ≡ told_from i q stage.First (drop skip [])
unfolding told_from sought_first
end_first i q zero = refl
end_first i q (suc skip) = refl

pub end_index : (i q skip : ℕ) → Lost 1 ≡ told_from i q stage.Index (drop skip [])
unfolding told_from sought_index
end_index i q zero = refl
end_index i q (suc skip) = refl

pub end_item : (i q skip opens : ℕ) → Lost opens ≡ told_from i q (stage.Item opens) (drop skip [])
unfolding told_from sought_item
end_item i q zero opens = refl
end_item i q (suc skip) opens = refl

pub end_answer : (i q skip : ℕ) (answer : Sought) → answer ≡ told_from i q (stage.Nothing answer) (drop skip [])
unfolding told_from
end_answer i q skip answer = refl

-- ---- how far a search reaches

pub reach_first : (q : ℕ) → q < 2 ^ 32 → IsReached q stage.First
unfolding IsReached
reach_first q h = h

pub reach_index : (q wait : ℕ) (s : Search) → s.stage ≡ stage.Index → s.place ≡ q + wait → q < 2 ^ 32 → wait < 2 ^ 32 → IsReached s.place s.stage
unfolding IsReached
reach_index q wait s w p a b = subst (IsReached s.place) (sym w) (omega (arith, p))

pub reach_item : (opens : ℕ) (s : Search) → s.stage ≡ stage.Item opens → opens ≤ 2 → IsReached s.place s.stage
unfolding IsReached
reach_item opens s w h = subst (IsReached s.place) (sym w) h

pub first_reached : (s : Search) → IsReached s.place s.stage → s.stage ≡ stage.First → s.place < 2 ^ 32
unfolding IsReached
first_reached s h w = subst (IsReached s.place) w h

pub index_reached : (s : Search) → IsReached s.place s.stage → s.stage ≡ stage.Index → s.place < 2 ^ 33
unfolding IsReached
index_reached s h w = subst (IsReached s.place) w h

pub item_reached : (s : Search) (opens : ℕ) → IsReached s.place s.stage → s.stage ≡ stage.Item opens → opens ≤ 2
unfolding IsReached
item_reached s opens h w = subst (IsReached s.place) w h

-- ---- the kind of a bucket that isn't idle

pub busy : (k : ViewKind) (b : Body) → (k ≡ kind.Idle → ⊥) → kind_number k ≡ kind_of b → 1 ≤ kind_of b
busy kind.Idle b other e = absurd (other refl)
busy kind.Column b other e = omega (arith, e)
busy kind.Vector b other e = omega (arith, e)
