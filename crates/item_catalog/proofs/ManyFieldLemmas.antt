-- The fields of a record, by their number and one by one: five of them, six, and seven.
use Rattle.std.proofs.Common.{◌≡◌, ◌≢◌, ◌∷◌, [], ℕ, List, Option, Some, None, length, drop, refl, arith}
use Rattle.csv.specs.Records.{field_at}
use Rattle.item_catalog.specs.RecordFields.{five_of, seven_of, six_of}

-- Lists that don't have exactly this length.
pub other_than_five : (fields : List (List ℕ)) → length fields ≢ 6 → five_of (drop 1 fields) ≡ None
other_than_five [] h = refl
other_than_five (t ∷ []) h = refl
other_than_five (t ∷ a ∷ []) h = refl
other_than_five (t ∷ a ∷ b ∷ []) h = refl
other_than_five (t ∷ a ∷ b ∷ c ∷ []) h = refl
other_than_five (t ∷ a ∷ b ∷ c ∷ d ∷ []) h = refl
other_than_five (t ∷ a ∷ b ∷ c ∷ d ∷ e ∷ []) h = absurd (h refl)
other_than_five (t ∷ a ∷ b ∷ c ∷ d ∷ e ∷ f ∷ fields) h = refl

pub other_than_six : (fields : List (List ℕ)) → length fields ≢ 7 → six_of (drop 1 fields) ≡ None
other_than_six [] h = refl
other_than_six (t ∷ []) h = refl
other_than_six (t ∷ a ∷ []) h = refl
other_than_six (t ∷ a ∷ b ∷ []) h = refl
other_than_six (t ∷ a ∷ b ∷ c ∷ []) h = refl
other_than_six (t ∷ a ∷ b ∷ c ∷ d ∷ []) h = refl
other_than_six (t ∷ a ∷ b ∷ c ∷ d ∷ e ∷ []) h = refl
other_than_six (t ∷ a ∷ b ∷ c ∷ d ∷ e ∷ f ∷ []) h = absurd (h refl)
other_than_six (t ∷ a ∷ b ∷ c ∷ d ∷ e ∷ f ∷ g ∷ fields) h = refl

pub other_than_seven : (fields : List (List ℕ)) → length fields ≢ 8 → seven_of (drop 1 fields) ≡ None
other_than_seven [] h = refl
other_than_seven (t ∷ []) h = refl
other_than_seven (t ∷ a ∷ []) h = refl
other_than_seven (t ∷ a ∷ b ∷ []) h = refl
other_than_seven (t ∷ a ∷ b ∷ c ∷ []) h = refl
other_than_seven (t ∷ a ∷ b ∷ c ∷ d ∷ []) h = refl
other_than_seven (t ∷ a ∷ b ∷ c ∷ d ∷ e ∷ []) h = refl
other_than_seven (t ∷ a ∷ b ∷ c ∷ d ∷ e ∷ f ∷ []) h = refl
other_than_seven (t ∷ a ∷ b ∷ c ∷ d ∷ e ∷ f ∷ g ∷ []) h = absurd (h refl)
other_than_seven (t ∷ a ∷ b ∷ c ∷ d ∷ e ∷ f ∷ g ∷ i ∷ fields) h = refl

-- Lists that have this length, by their fields.
pub five_fields : (fields : List (List ℕ)) (x y z v w : List ℕ) → length fields ≡ 6 → Some x ≡ field_at fields 1 → Some y ≡ field_at fields 2 → Some z ≡ field_at fields 3
    → Some v ≡ field_at fields 4 → Some w ≡ field_at fields 5 → ◌≡◌ {A = Option (List ℕ × List ℕ × List ℕ × List ℕ × List ℕ)} (five_of (drop 1 fields)) (Some (x, y, z, v, w))
unfolding field_at
five_fields [] x y z v w h e1 e2 e3 e4 e5 = absurd (omega arith)
five_fields (t ∷ []) x y z v w h e1 e2 e3 e4 e5 = absurd (omega arith)
five_fields (t ∷ a ∷ []) x y z v w h e1 e2 e3 e4 e5 = absurd (omega arith)
five_fields (t ∷ a ∷ b ∷ []) x y z v w h e1 e2 e3 e4 e5 = absurd (omega arith)
five_fields (t ∷ a ∷ b ∷ c ∷ []) x y z v w h e1 e2 e3 e4 e5 = absurd (omega arith)
five_fields (t ∷ a ∷ b ∷ c ∷ d ∷ []) x y z v w h e1 e2 e3 e4 e5 = absurd (omega arith)
five_fields (t ∷ a ∷ b ∷ c ∷ d ∷ e ∷ []) x y z v w h e1 e2 e3 e4 e5 =
    let s1 : x ≡ a = cc e1 in let s2 : y ≡ b = cc e2 in let s3 : z ≡ c = cc e3 in let s4 : v ≡ d = cc e4 in let s5 : w ≡ e = cc e5 in rw (s1, s2, s3, s4, s5) refl
five_fields (t ∷ a ∷ b ∷ c ∷ d ∷ e ∷ f ∷ fields) x y z v w h e1 e2 e3 e4 e5 = absurd (omega arith)

pub six_fields : (fields : List (List ℕ)) (x y z v w u : List ℕ) → length fields ≡ 7 → Some x ≡ field_at fields 1 → Some y ≡ field_at fields 2 → Some z ≡ field_at fields 3
    → Some v ≡ field_at fields 4 → Some w ≡ field_at fields 5 → Some u ≡ field_at fields 6
    → ◌≡◌ {A = Option (List ℕ × List ℕ × List ℕ × List ℕ × List ℕ × List ℕ)} (six_of (drop 1 fields)) (Some (x, y, z, v, w, u))
unfolding field_at
six_fields [] x y z v w u h e1 e2 e3 e4 e5 e6 = absurd (omega arith)
six_fields (t ∷ []) x y z v w u h e1 e2 e3 e4 e5 e6 = absurd (omega arith)
six_fields (t ∷ a ∷ []) x y z v w u h e1 e2 e3 e4 e5 e6 = absurd (omega arith)
six_fields (t ∷ a ∷ b ∷ []) x y z v w u h e1 e2 e3 e4 e5 e6 = absurd (omega arith)
six_fields (t ∷ a ∷ b ∷ c ∷ []) x y z v w u h e1 e2 e3 e4 e5 e6 = absurd (omega arith)
six_fields (t ∷ a ∷ b ∷ c ∷ d ∷ []) x y z v w u h e1 e2 e3 e4 e5 e6 = absurd (omega arith)
six_fields (t ∷ a ∷ b ∷ c ∷ d ∷ e ∷ []) x y z v w u h e1 e2 e3 e4 e5 e6 = absurd (omega arith)
six_fields (t ∷ a ∷ b ∷ c ∷ d ∷ e ∷ f ∷ []) x y z v w u h e1 e2 e3 e4 e5 e6 =
    let s1 : x ≡ a = cc e1 in let s2 : y ≡ b = cc e2 in let s3 : z ≡ c = cc e3 in let s4 : v ≡ d = cc e4 in let s5 : w ≡ e = cc e5 in let s6 : u ≡ f = cc e6 in
    rw (s1, s2, s3, s4, s5, s6) refl
six_fields (t ∷ a ∷ b ∷ c ∷ d ∷ e ∷ f ∷ g ∷ fields) x y z v w u h e1 e2 e3 e4 e5 e6 = absurd (omega arith)

pub seven_fields : (fields : List (List ℕ)) (x y z v w u s : List ℕ) → length fields ≡ 8 → Some x ≡ field_at fields 1 → Some y ≡ field_at fields 2 → Some z ≡ field_at fields 3
    → Some v ≡ field_at fields 4 → Some w ≡ field_at fields 5 → Some u ≡ field_at fields 6 → Some s ≡ field_at fields 7
    → ◌≡◌ {A = Option (List ℕ × List ℕ × List ℕ × List ℕ × List ℕ × List ℕ × List ℕ)} (seven_of (drop 1 fields)) (Some (x, y, z, v, w, u, s))
unfolding field_at
seven_fields [] x y z v w u s h e1 e2 e3 e4 e5 e6 e7 = absurd (omega arith)
seven_fields (t ∷ []) x y z v w u s h e1 e2 e3 e4 e5 e6 e7 = absurd (omega arith)
seven_fields (t ∷ a ∷ []) x y z v w u s h e1 e2 e3 e4 e5 e6 e7 = absurd (omega arith)
seven_fields (t ∷ a ∷ b ∷ []) x y z v w u s h e1 e2 e3 e4 e5 e6 e7 = absurd (omega arith)
seven_fields (t ∷ a ∷ b ∷ c ∷ []) x y z v w u s h e1 e2 e3 e4 e5 e6 e7 = absurd (omega arith)
seven_fields (t ∷ a ∷ b ∷ c ∷ d ∷ []) x y z v w u s h e1 e2 e3 e4 e5 e6 e7 = absurd (omega arith)
seven_fields (t ∷ a ∷ b ∷ c ∷ d ∷ e ∷ []) x y z v w u s h e1 e2 e3 e4 e5 e6 e7 = absurd (omega arith)
seven_fields (t ∷ a ∷ b ∷ c ∷ d ∷ e ∷ f ∷ []) x y z v w u s h e1 e2 e3 e4 e5 e6 e7 = absurd (omega arith)
seven_fields (t ∷ a ∷ b ∷ c ∷ d ∷ e ∷ f ∷ g ∷ []) x y z v w u s h e1 e2 e3 e4 e5 e6 e7 =
    let s1 : x ≡ a = cc e1 in let s2 : y ≡ b = cc e2 in let s3 : z ≡ c = cc e3 in let s4 : v ≡ d = cc e4 in let s5 : w ≡ e = cc e5 in let s6 : u ≡ f = cc e6 in let s7 : s ≡ g = cc e7 in
    rw (s1, s2, s3, s4, s5, s6, s7) refl
seven_fields (t ∷ a ∷ b ∷ c ∷ d ∷ e ∷ f ∷ g ∷ i ∷ fields) x y z v w u s h e1 e2 e3 e4 e5 e6 e7 = absurd (omega arith)
