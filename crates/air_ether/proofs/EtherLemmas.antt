-- What an ether says of its pushed list, before and after each call.
use Rattle.std.proofs.Common.{◌≡◌, ℕ, zero, suc, ◌+◌, ◌-◌, ◌*◌, ◌<◌, ◌≤◌, Bool, true, false, ◌==◌, ◌++◌, if◌then◌else◌, List, [], ◌∷◌, All, length, map, replicate, Some, refl, sym, ◌∙◌, ap, subst, arith, length-append}
use Rattle.std.specs.Prelude.{slice_index_or}
use Rattle.std.specs.List.{flat_map, range_with_len, slice_get}
use Rattle.std.proofs.lemmas.List.{get_or_append_left, get_or-replicate, length-replicate, map-append}
use Rattle.std.proofs.lemmas.List.Elements.{All-head, All-tail}
use Rattle.std.proofs.lemmas.Grind.{flat_map-append}
use Rattle.std.proofs.lemmas.Option.{slice_get-map}
use Rattle.std.specs.Option.{option_map}
use Rattle.air_model.specs.Draws.{generator, words_of}
use Rattle.air_model.proofs.Elements.{get_left}
use Rattle.air_model.specs.Ethers.{Odds, due_at, due_number, heard_by, heard_list, heard_places, places_due, times_heard}
use Rattle.air_ether.specs.declared.cursor.Cursor.{Cursor}
use Rattle.air_ether.specs.HeardPositions.{InWindow, before, heard_at, of_push, position, times_heard_at}
use Rattle.air_ether.specs.HeardPlaces.{places_of}
use Rattle.air_ether.specs.HeardSoFar.{Ether, IsEtherAfter, due_of, limit_of}
use Rattle.air_ether.specs.PushWords.{due_in, times_in}
use Rattle.air_ether.proofs.HeardListLemmas.{all_over, before_grown, flat_same, heard_start, range_join, stands_at}
use Rattle.air_ether.proofs.CursorLemmas.{kept}
use Rattle.air_ether.proofs.WordLemmas.{due_high, due_low, due_told, times_told}

-- ---- the definitions' places, by the words of each push
pub places_told : (odds : Odds) (seed number n bound : ℕ) →
    places_due odds (words_of seed number (3 * n)) n bound ≡ before (due_in seed number odds) (times_in seed number odds) n bound
unfolding places_due due_at before heard_at
places_told odds seed number n bound =
    flat_same (due_at odds (words_of seed number (3 * n)) n) (λ d. heard_at (due_in seed number odds) (times_in seed number odds) d n) 0 bound (λ d a b.
    flat_same (of_push (due_number odds (words_of seed number (3 * n))) (times_heard odds (words_of seed number (3 * n))) d) (of_push (due_in seed number odds) (times_in seed number odds) d) 0 n (λ p low high.
    ap (λ u. of_push (λ _. u) (times_heard odds (words_of seed number (3 * n))) d p) (due_told odds seed number n p (omega arith))
    ∙ ap (λ t. of_push (due_in seed number odds) (λ _. t) d p) (times_told odds seed number n p (omega arith))))

module _ (seed number given : ℕ) (pushed : List (List ℕ)) (e : Ether) where
  abbrev dues : ℕ → ℕ
  dues = due_in seed number e.odds

  abbrev times : ℕ → ℕ
  times = times_in seed number e.odds

  pub places_listed : e.pushes ≡ length pushed →
      places_of seed number e.odds (length pushed) e.ended ≡ before dues times e.pushes (limit_of e.ended e.pushes)
  unfolding places_of
  places_listed same =
      places_told e.odds seed number (length pushed) (limit_of e.ended (length pushed)) ∙ ap (λ n. before dues times n (limit_of e.ended n)) (sym same)

  -- ---- the place that is given next
  pub gives : (c : Cursor) → IsEtherAfter seed number pushed given e → InWindow e.pushes (limit_of e.ended e.pushes) e.queue c →
      position dues times e.pushes c ≡ position dues times e.pushes e.cursor → c.number < limit_of e.ended e.pushes → c.place < e.pushes → c.given < times_heard_at e.queue c →
      slice_get (places_of seed number e.odds (length pushed) e.ended) given ≡ Some c.place
  gives c f w same below within left =
      let at : position dues times e.pushes c ≡ given = same ∙ sym f.counted in
      let size = kept dues times e.pushes (limit_of e.ended e.pushes) e.queue c f.waits w within in
      ap (λ xs. slice_get xs given) (places_listed f.pushes)
      ∙ ap (slice_get (before dues times e.pushes (limit_of e.ended e.pushes))) (sym at)
      ∙ stands_at dues times e.pushes (limit_of e.ended e.pushes) c.number c.place c.given below within (omega arith)

  -- the cursor moved, and its position is as before
  pub moved : (c : Cursor) → IsEtherAfter seed number pushed given e → position dues times e.pushes c ≡ position dues times e.pushes e.cursor →
      IsEtherAfter seed number pushed given (record e { cursor = c })
  moved c f same = record { drawn = f.drawn; pushes = f.pushes; waits = f.waits; bytes = f.bytes; counted = f.counted ∙ sym same }

  -- the cursor moved forward by a bucket
  pub gave : (c : Cursor) → IsEtherAfter seed number pushed given e → position dues times e.pushes c ≡ position dues times e.pushes e.cursor →
      IsEtherAfter seed number pushed (given + 1) (record e { cursor = record { number = c.number; place = c.place; given = c.given + 1 } })
  gave c f same = record { drawn = f.drawn; pushes = f.pushes; waits = f.waits; bytes = f.bytes; counted = (let k = f.counted in omega arith) }

  -- at the limit all that is due was given
  pub all_given : (c : Cursor) → IsEtherAfter seed number pushed given e → InWindow e.pushes (limit_of e.ended e.pushes) e.queue c →
      position dues times e.pushes c ≡ position dues times e.pushes e.cursor → c.number ≡ limit_of e.ended e.pushes → given ≡ length (places_of seed number e.odds (length pushed) e.ended)
  all_given c f w same at =
      let limit = limit_of e.ended e.pushes in
      let none = ap length (heard_start dues times c.number c.place f.waits.high (w.at_start at)) in
      let first = w.first at in
      let there = ap (λ n. length (before dues times e.pushes n)) at in
      let counted = f.counted in
      let listed = ap length (places_listed f.pushes) in
      omega arith

-- ---- a new ether
pub begun : (seed number : ℕ) (e : Ether) → e.generator ≡ generator seed number → e.pushes ≡ 0 → e.cursor ≡ record { number = 0; place = 0; given = 0 } → IsEtherAfter seed number [] 0 e
unfolding before heard_at
begun seed number e drawn none at = record {
  drawn = drawn;
  pushes = none;
  waits = record {
    low = due_low e.odds seed number;
    high = due_high e.odds seed number;
    due_kept = λ p l _. absurd (omega arith);
    times_kept = λ p l _. absurd (omega arith);
  };
  bytes = λ p l _. absurd (omega arith);
  counted = ap (position (due_in seed number e.odds) (times_in seed number e.odds) e.pushes) (sym at);
}

-- ---- the laws
pub heard_is : (seed number : ℕ) (odds : Odds) (pushed : List (List ℕ)) → due_of seed number odds pushed true ≡ heard_by seed number odds pushed
unfolding due_of places_due heard_by heard_list heard_places
heard_is seed number odds pushed = refl

-- All places that are due among the first pushes are below their number.
places_below : (due times : ℕ → ℕ) (n number : ℕ) → All (λ p. p < n) (before due times n number)
unfolding before heard_at
places_below due times n number = all_over (λ p. p < n) (λ d. heard_at due times d n) 0 number (λ d low high. all_over (λ p. p < n) (of_push due times d) 0 n (λ place from to. by (due place == d) place (omega arith)))
  where
    by : (b : Bool) (place : ℕ) → place < n → All (λ p. p < n) (if b then replicate (times place) place else [])
    by true place l = λ k d m. subst (λ p. p < n) (sym (get_or-replicate (times place) k place d (omega (arith, length-replicate (times place) place)))) l
    by false place l = λ k d m. absurd (omega arith)

-- Later pushes change none of the members that are due.
same_members : (pushed later : List (List ℕ)) (places : List ℕ) → All (λ p. p < length pushed) places →
    map (λ place. slice_index_or (pushed ++ later) place []) places ≡ map (λ place. slice_index_or pushed place []) places
same_members pushed later [] h = refl
same_members pushed later (p ∷ ps) h =
    ap (λ x. x ∷ map (λ place. slice_index_or (pushed ++ later) place []) ps) (get_or_append_left pushed later [] p (All-head (λ q. q < length pushed) p ps h))
    ∙ ap (λ xs. slice_index_or pushed p [] ∷ xs) (same_members pushed later ps (All-tail (λ q. q < length pushed) p ps h))

before_later : (due times : ℕ → ℕ) (n more number : ℕ) → ((p : ℕ) → p ≤ due p) → number ≤ n → before due times (n + more) number ≡ before due times n number
before_later due times n zero number low l = ap (λ m. before due times m number) (let e : n + 0 ≡ n = omega arith in e)
before_later due times n (suc more) number low l =
    ap (λ m. before due times m number) (let e : n + suc more ≡ n + more + 1 = omega arith in e)
    ∙ before_grown due times (n + more) number low (omega arith) ∙ before_later due times n more number low l

before_cut : (due times : ℕ → ℕ) (all n m : ℕ) → before due times all (n + m) ≡ before due times all n ++ flat_map (λ d. heard_at due times d all) (range_with_len (0 + n) m)
unfolding before
before_cut due times all n m = ap (flat_map (λ d. heard_at due times d all)) (range_join 0 n m) ∙ flat_map-append (λ d. heard_at due times d all) (range_with_len 0 n) (range_with_len (0 + n) m)

-- The bytes of what is due are those at its places.
pub due_is : (seed number : ℕ) (odds : Odds) (pushed : List (List ℕ)) (ended : Bool) →
    due_of seed number odds pushed ended ≡ map (λ place. slice_index_or pushed place []) (places_of seed number odds (length pushed) ended)
unfolding due_of places_of
due_is seed number odds pushed ended = refl

-- They were pushed.
pub places_pushed : (seed number : ℕ) (odds : Odds) (n : ℕ) (ended : Bool) → All (λ p. p < n) (places_of seed number odds n ended)
unfolding places_of
places_pushed seed number odds n ended =
    subst (All (λ p. p < n)) (sym (places_told odds seed number n (limit_of ended n))) (places_below (due_in seed number odds) (times_in seed number odds) n (limit_of ended n))

-- The places that are due are the first of those that are due after further pushes.
pub places_stay : (seed number : ℕ) (odds : Odds) (n all : ℕ) (ended : Bool) → n ≤ all →
    (rest : List ℕ) × (places_of seed number odds all ended ≡ places_of seed number odds n false ++ rest)
unfolding places_of
places_stay seed number odds n all ended within =
    let due = due_in seed number odds in
    let times = times_in seed number odds in
    let longer : all ≡ n + (all - n) = omega arith in
    let limit = limit_of ended all in
    let far : n ≤ limit = by ended all within in
    let rest = flat_map (λ d. heard_at due times d all) (range_with_len (0 + n) (limit - n)) in (
      rest,
      places_told odds seed number all limit ∙ ap (before due times all) (let e : limit ≡ n + (limit - n) = omega arith in e) ∙ before_cut due times all n (limit - n)
          ∙ ap (λ xs. xs ++ rest) (
          ap (λ m. before due times m n) longer ∙ before_later due times n (all - n) n (due_low odds seed number) (omega arith)
          ∙ sym (places_told odds seed number n n)),
    )
  where
    by : (b : Bool) (m : ℕ) → n ≤ m → n ≤ limit_of b m
    by true m l = omega arith
    by false m l = l

-- What is given of them is still given then.
pub places_get : (seed number : ℕ) (odds : Odds) (n all given p : ℕ) (ended : Bool) → n ≤ all → slice_get (places_of seed number odds n false) given ≡ Some p →
    slice_get (places_of seed number odds all ended) given ≡ Some p
places_get seed number odds n all given p ended within at =
    let stays = places_stay seed number odds n all ended within in
    ap (λ xs. slice_get xs given) stays.1 ∙ get_left (places_of seed number odds n false) stays.0 given p at

-- The bytes of the place that is given.
pub given_bytes : (seed number given : ℕ) (odds : Odds) (pushed : List (List ℕ)) (ended : Bool) (p : ℕ) (bytes : List ℕ) →
    slice_get (places_of seed number odds (length pushed) ended) given ≡ Some p → slice_index_or pushed p [] ≡ bytes → slice_get (due_of seed number odds pushed ended) given ≡ Some bytes
given_bytes seed number given odds pushed ended p bytes at is =
    let f : ℕ → List ℕ = λ place. slice_index_or pushed place [] in
    ap (λ xs. slice_get xs given) (due_is seed number odds pushed ended) ∙ slice_get-map f (places_of seed number odds (length pushed) ended) given
    ∙ ap (option_map f) at ∙ ap Some is

-- So are the bytes of what is due.
pub due_stays : (seed number : ℕ) (odds : Odds) (pushed later : List (List ℕ)) (ended : Bool) →
    (rest : List (List ℕ)) × (due_of seed number odds (pushed ++ later) ended ≡ due_of seed number odds pushed false ++ rest)
due_stays seed number odds pushed later ended =
    let n = length pushed in
    let all = length (pushed ++ later) in
    let longer : all ≡ n + length later = length-append pushed later in
    let f : ℕ → List ℕ = λ place. slice_index_or (pushed ++ later) place [] in
    let places = places_of seed number odds n false in
    let stays = places_stay seed number odds n all ended (omega arith) in (
      map f stays.0,
      due_is seed number odds (pushed ++ later) ended ∙ ap (map f) stays.1 ∙ map-append f places stays.0
          ∙ ap (λ xs. xs ++ map f stays.0) (same_members pushed later places (places_pushed seed number odds n false) ∙ sym (due_is seed number odds pushed false)),
    )
