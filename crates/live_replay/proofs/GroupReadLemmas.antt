-- The reads of a group, one item after another.
use Rattle.std.proofs.Common.{◌≡◌, ℕ, ◌+◌, Bool, true, false, cond, ◌||◌, ◌==◌, nat_lt, List, [], ◌∷◌, ◌++◌, map, refl, sym, ◌∙◌, ap}
use Rattle.std.specs.List.{filter, range_with_len}
use Rattle.std.proofs.lemmas.List.{append-nil, map-append, map_push}
use Rattle.std.proofs.lemmas.List.Elements.{filter-append}
use Rattle.std.proofs.lemmas.List.FromFn.{map-range_with_len_more}
use Rattle.air_base.specs.declared.verdicts.ReadOf.{ReadOf}
use Rattle.air_history.specs.Reads.{ReadAt}
use Rattle.live_replay.specs.Findings.{place_of_line, places_read, read_in_cycle}

-- The items of a group among the first k numbers from its first item on.
abbrev pub first_items : ℕ → ℕ → ℕ → ℕ → List ℕ
first_items n j start k = filter (λ q. nat_lt q n || (q == j)) (range_with_len start k)

each_itself : (xs : List ℕ) → map (λ x. x) xs ≡ xs
each_itself [] = refl
each_itself (x ∷ xs) = ap (λ ys. x ∷ ys) (each_itself xs)

range_more : (start k : ℕ) → range_with_len start (k + 1) ≡ range_with_len start k ++ (start + k) ∷ []
range_more start k =
    sym (each_itself (range_with_len start (k + 1))) ∙ map-range_with_len_more (λ x. x) start k (start + k) refl ∙ ap (λ xs. xs ++ (start + k) ∷ []) (each_itself (range_with_len start k))

filter_one : (t : ℕ → Bool) (x : ℕ) → filter t (x ∷ []) ≡ cond (t x) (x ∷ []) []
filter_one t x = refl

map_cond : (f : ℕ → ReadAt) (b : Bool) (x : ℕ) → map f (cond b (x ∷ []) []) ≡ cond b (f x ∷ []) []
map_cond f true x = refl
map_cond f false x = refl

-- The reads of one more.
pub group_more : (n j c start k q : ℕ) (b : Bool) → start + k ≡ q → (nat_lt q n || (q == j)) ≡ b →
    map (λ q. read_in_cycle q c) (first_items n j start (k + 1)) ≡ map (λ q. read_in_cycle q c) (first_items n j start k) ++ cond b (read_in_cycle q c ∷ []) []
group_more n j c start k q b same test =
    let t : ℕ → Bool = λ q. nat_lt q n || (q == j) in
    let f : ℕ → ReadAt = λ q. read_in_cycle q c in
    ap (λ xs. map f (filter t xs)) (range_more start k)
    ∙ ap (map f) (filter-append t (range_with_len start k) ((start + k) ∷ []))
    ∙ map-append f (filter t (range_with_len start k)) (filter t ((start + k) ∷ []))
    ∙ ap (λ ys. map f (filter t (range_with_len start k)) ++ ys) (map_cond f (t (start + k)) (start + k))
    ∙ ap (λ p. map f (filter t (range_with_len start k)) ++ cond (t p) (f p ∷ []) []) same
    ∙ ap (λ b. map f (filter t (range_with_len start k)) ++ cond b (f q ∷ []) []) test

-- A number that is an item of the group is read, and another one isn't.
module _ (n j c start k q m : ℕ) (same : start + k ≡ q) (next : m ≡ k + 1) (old : List ReadOf) (so_far : places_read old ≡ map (λ q. read_in_cycle q c) (first_items n j start k)) where
  pub read_more : (new : List ReadOf) (x : ReadOf) → (nat_lt q n || (q == j)) ≡ true → place_of_line x ≡ read_in_cycle q c → new ≡ old ++ x ∷ [] →
      places_read new ≡ map (λ q. read_in_cycle q c) (first_items n j start m)
  read_more new x test is e =
      ap places_read e ∙ map_push place_of_line old x ∙ ap (λ r. places_read old ++ r ∷ []) is ∙ ap (λ rs. rs ++ read_in_cycle q c ∷ []) so_far
      ∙ sym (group_more n j c start k q true same test) ∙ ap (λ m. map (λ q. read_in_cycle q c) (first_items n j start m)) (sym next)

  pub read_same : (new : List ReadOf) → (nat_lt q n || (q == j)) ≡ false → new ≡ old → places_read new ≡ map (λ q. read_in_cycle q c) (first_items n j start m)
  read_same new test e =
      ap places_read e ∙ so_far ∙ sym (append-nil (map (λ q. read_in_cycle q c) (first_items n j start k)))
      ∙ sym (group_more n j c start k q false same test) ∙ ap (λ m. map (λ q. read_in_cycle q c) (first_items n j start m)) (sym next)
