-- One more event in a core: its values and counts, and the reply to a commit.
use Rattle.std.proofs.Common.{◌≡◌, ℕ, suc, ◌+◌, ◌<◌, List, [], ◌∷◌, ◌++◌, length, get_or, set, take, map, All, refl, sym, ◌∙◌, ap, inl, inr, arith, length-append}
use Rattle.std.proofs.lemmas.Bool.{cases_eq}
use Rattle.std.proofs.lemmas.List.{get_or-set_same, get_or-set_other, get_or_push, take-append-le, take_all}
use Rattle.std.proofs.lemmas.List.Elements.{All-nil}
use Rattle.air_history.specs.declared.updates.Write.{Write}
use Rattle.air_history.specs.declared.histories.Event.{Event}
use Rattle.air_history.specs.declared.histories.Event.TheVariants.{Commit, Start}
use Rattle.air_history.specs.UpdateLists.{UpdateLists}
use Rattle.air_history.specs.UpdateRules.{UpdateFits, written_item}
use Rattle.air_history.specs.Histories.{reads, writes_of, starts, cycle_at, ItemsFit, EventFits}
use Rattle.air_history.specs.Tables.{table, values_of, value_after, write_of}
use Rattle.air_history.specs.Boards.{Reply, reply_of}
use Rattle.air_history.proofs.ScanLemmas.{cycle_all}
use Rattle.air_history.proofs.TableLemmas.{table_push, value_after_same}
use Rattle.air_history.proofs.StepLemmas.{cycle_append}
use Rattle.air_model.specs.Decks.{count_made}
use Rattle.update_commit.proofs.EventLemmas.{made_own, made_other}

-- ---- lists of values

-- A list that has f of each element at the element's place is the map.
pub map_by_all : {X Y : Type 0} (f : X → Y) (xs : List X) (ys : List Y) (e : Y) → length ys ≡ length xs → ((k : ℕ) (d : X) → k < length xs → get_or ys k e ≡ f (get_or xs k d)) → ys ≡ map f xs
map_by_all f [] [] e n h = refl
map_by_all f [] (y ∷ ys) e n h = absurd (omega arith)
map_by_all f (x ∷ xs) [] e n h = absurd (omega arith)
map_by_all f (x ∷ xs) (y ∷ ys) e n h =
    let here : y ≡ f x = h 0 x (omega arith) in
    let rest : ys ≡ map f xs = map_by_all f xs ys e (omega arith) (λ k d l. h (suc k) d (omega arith)) in cc

-- Functions that agree on each element of a list give the same list.
pub map_same : {X Y : Type 0} (f g : X → Y) (xs : List X) → ((x : X) → f x ≡ g x) → map f xs ≡ map g xs
map_same f g [] same = refl
map_same f g (x ∷ xs) same = let here : f x ≡ g x = same x in let rest : map f xs ≡ map g xs = map_same f g xs same in cc

-- ---- values and counts

-- The values after one more event.
pub values_push : (first now next : List ℕ) (G : List Event) (e : Event) → ((i : ℕ) → get_or now i 0 ≡ table (values_of first) G i) → ((i : ℕ) → get_or next i 0 ≡ value_after (values_of now) e i) →
    (i : ℕ) → get_or next i 0 ≡ table (values_of first) (G ++ e ∷ []) i
values_push first now next G e was one i = one i ∙ value_after_same (values_of now) (table (values_of first) G) e i was ∙ sym (table_push (values_of first) G e i)

-- A start changes no value.
pub values_start : (first now : List ℕ) (G : List Event) → ((i : ℕ) → get_or now i 0 ≡ table (values_of first) G i) → (i : ℕ) → get_or now i 0 ≡ table (values_of first) (G ++ Start ∷ []) i
unfolding value_after write_of
values_start first now G was i = was i ∙ sym (table_push (values_of first) G Start i)

-- The counts after one more commit.
pub counts_commit : (made : List ℕ) (G : List Event) (by seq count : ℕ) (u : UpdateLists) → by < length made → count ≡ get_or made by 0 →
    ((k : ℕ) → k < length made → get_or made k 0 ≡ count_made k G) →
    (k : ℕ) → k < length made → get_or (set made by (count + 1)) k 0 ≡ count_made k (G ++ Commit by seq u ∷ [])
counts_commit made G by seq count u within is h k l = elim (cases_eq k by) as (λ _. get_or (set made by (count + 1)) k 0 ≡ count_made k (G ++ Commit by seq u ∷ [])) [
  | inl same ↦ ap (λ j. get_or (set made by (count + 1)) j 0) same ∙ get_or-set_same made by (count + 1) 0 within
      ∙ ap (λ n. n + 1) (is ∙ h by within) ∙ sym (made_own by seq u G) ∙ ap (λ j. count_made j (G ++ Commit by seq u ∷ [])) (sym same)
  | inr other ↦ get_or-set_other made by k (count + 1) 0 other ∙ h k l ∙ sym (made_other k by seq u G other)
]

-- ---- events that fit

pub commit_fits : (updaters n by seq : ℕ) (u : UpdateLists) → by < updaters → UpdateFits n u → EventFits updaters n (Commit by seq u)
unfolding EventFits
commit_fits updaters n by seq u within fits = (within, fits)

pub start_fits : (updaters n : ℕ) → EventFits updaters n Start
unfolding EventFits
start_fits updaters n = tt

pub items_fit : (n by seq : ℕ) (u : UpdateLists) → UpdateFits n u → ItemsFit n (Commit by seq u)
unfolding ItemsFit
items_fit n by seq u fits = fits

pub reads_within : (n : ℕ) (e : Event) → ItemsFit n e → All (λ i. i < n) (reads e)
unfolding ItemsFit reads
reads_within n (Commit by seq u) fits = fits.reads
reads_within n Start fits = All-nil (λ i. i < n)

pub writes_within : (n : ℕ) (e : Event) → ItemsFit n e → All (λ (w : Write). w.item < n) (writes_of e)
unfolding ItemsFit writes_of
writes_within n (Commit by seq u) fits = fits.writes
writes_within n Start fits = All-nil (λ (w : Write). w.item < n)

-- ---- the reply

-- The parts of the reply to the last event.
pub reply_last : (first : List ℕ) (G : List Event) (e : Event) (number cycle : ℕ) (read written : List ℕ) → number ≡ length G → cycle ≡ starts G →
    read ≡ map (table (values_of first) G) (reads e) → written ≡ map (table (values_of first) (G ++ e ∷ [])) (map written_item (writes_of e)) →
    record { number = number; cycle = cycle; read = read; written = written } ≡ reply_of first (G ++ e ∷ []) (length G)
reply_last first G e number cycle read written n c r w =
    let here : get_or (G ++ e ∷ []) (length G) Start ≡ e = get_or_push G e Start (length G) refl in
    let front : take (length G) (G ++ e ∷ []) ≡ G = take-append-le (length G) G (e ∷ []) (omega arith) ∙ take_all (length G) G (omega arith) in
    let whole : take (length G + 1) (G ++ e ∷ []) ≡ G ++ e ∷ [] = take_all (length G + 1) (G ++ e ∷ []) (omega (arith, length-append G (e ∷ []))) in
    let at : cycle_at (G ++ e ∷ []) (length G) ≡ starts G = cycle_append G (e ∷ []) (length G) (omega arith) ∙ cycle_all G (length G) (omega arith) in
    same_reply number (length G) cycle (cycle_at (G ++ e ∷ []) (length G)) read _ written _ n (c ∙ sym at)
    (r ∙ ap (λ (F : List Event). map (table (values_of first) F) (reads e)) (sym front) ∙ ap (λ f. map (table (values_of first) (take (length G) (G ++ e ∷ []))) (reads f)) (sym here))
    (w ∙ ap (λ (F : List Event). map (table (values_of first) F) (map written_item (writes_of e))) (sym whole) ∙ ap (λ f. map (table (values_of first) (take (length G + 1) (G ++ e ∷ []))) (map written_item (writes_of f))) (sym here))
  where
    same_reply : (a b c d : ℕ) (p q r s : List ℕ) → a ≡ b → c ≡ d → p ≡ q → r ≡ s →
        ◌≡◌ {A = Reply} (record { number = a; cycle = c; read = p; written = r }) (record { number = b; cycle = d; read = q; written = s })
    same_reply a b c d p q r s e f g h = cc
