-- The rows of a legal history determine it: a row has the numbers of an updater and of its update, and the deck has one update
-- there.
use Rattle.std.proofs.Common.{◌≡◌, ℕ, ◌<◌, ◌^◌, Some, List, [], ◌∷◌, length, map, get_or, All, refl, sym, ◌∙◌, ap, subst, inl, inr, arith}
use Rattle.std.specs.Prelude.{codes}
use Rattle.std.specs.List.{slice_get}
use Rattle.std.proofs.lemmas.Bool.{cases_lt}
use Rattle.std.proofs.lemmas.Option.{slice_get-get_or, slice_get_within}
use Rattle.std.proofs.lemmas.List.{get_or_past}
use Rattle.std.proofs.lemmas.List.Elements.{All-head, All-tail}
use Rattle.air_base.specs.Numbers.{number_of, number_text}
use Rattle.air_base.proofs.NumberLemmas.{text_spells}
use Rattle.air_history.specs.declared.histories.Event.{Event}
use Rattle.air_history.specs.declared.histories.Event.TheVariants.{Commit, Start}
use Rattle.air_history.specs.UpdateLists.{UpdateLists}
use Rattle.air_model.specs.Decks.{Deck, IsLegal, updates_by}
use Rattle.air_model.specs.Reports.{event_row}
use Rattle.air_model.specs.DeckLaws.{HasNumbers}

-- The event is a start, or the deck's update of its number.
IsGiven : Deck → Event → Type 0
IsGiven deck (Commit by seq u) = slice_get (updates_by deck by) seq ≡ Some u
IsGiven deck Start = Unit {0}

legal_given : (deck : Deck) (H : List Event) → IsLegal deck H → All (IsGiven deck) H
unfolding IsGiven
legal_given deck H is p d l = given (get_or H p d) (slice_get-get_or H p d l)
  where
    given : (e : Event) → slice_get H p ≡ Some e → IsGiven deck e
    given Start at = tt
    given (Commit by seq u) at = (is p by seq u at).given

some_same : {X : Type 0} (x y : X) → Some x ≡ Some y → x ≡ y
some_same x y e = cc

number_same : (m n : ℕ) → m < 2 ^ 64 → n < 2 ^ 64 → number_text m ≡ number_text n → m ≡ n
number_same m n a b e = some_same m n (sym (text_spells m a) ∙ ap number_of e ∙ text_spells n b)

-- An update's updater and its number have texts.
in_numbers : (deck : Deck) → HasNumbers deck → (by seq : ℕ) (u : UpdateLists) → slice_get (updates_by deck by) seq ≡ Some u → (by < 2 ^ 64) × (seq < 2 ^ 64)
in_numbers deck has by seq u at = (
  elim (cases_lt by (length deck.updates)) as (λ _. by < 2 ^ 64) [
    | inl l ↦ let most = has.updaters in omega arith
    | inr past ↦ absurd (let within = slice_get_within (updates_by deck by) seq u at in let none = ap length (get_or_past deck.updates by [] past) in omega (arith, within, none))
  ],
  (let within = slice_get_within (updates_by deck by) seq u at in let most = has.updates by in omega arith),
)

first_same : (a b c x y z : List ℕ) → a ∷ b ∷ c ∷ [] ≡ x ∷ y ∷ z ∷ [] → (b ≡ y) × (c ≡ z)
first_same a b c x y z e = (cc, cc)

event_same : (deck : Deck) → HasNumbers deck → (e f : Event) → IsGiven deck e → IsGiven deck f → event_row e ≡ event_row f → e ≡ f
unfolding IsGiven
event_same deck has Start Start g h same = refl
event_same deck has Start (Commit by seq u) g h same = absurd (let n = ap length same in omega (arith, n))
event_same deck has (Commit by seq u) Start g h same = absurd (let n = ap length same in omega (arith, n))
event_same deck has (Commit by seq u) (Commit who num v) g h same =
    let fields = first_same (codes "commit") (number_text by) (number_text seq) (codes "commit") (number_text who) (number_text num) same in
    let a = in_numbers deck has by seq u g in
    let b = in_numbers deck has who num v h in
    let one : by ≡ who = number_same by who a.0 b.0 fields.0 in
    let two : seq ≡ num = number_same seq num a.1 b.1 fields.1 in
    let there : slice_get (updates_by deck who) num ≡ Some u = subst (λ n. slice_get (updates_by deck who) n ≡ Some u) two (subst (λ w. slice_get (updates_by deck w) seq ≡ Some u) one g) in
    let update : u ≡ v = some_same u v (sym there ∙ h) in
    ap (λ w. Commit w seq u) one ∙ ap (λ n. Commit who n u) two ∙ ap (λ x. Commit who num x) update

rows_same : (deck : Deck) → HasNumbers deck → (H G : List Event) → All (IsGiven deck) H → All (IsGiven deck) G → map event_row H ≡ map event_row G → H ≡ G
rows_same deck has [] [] h g e = refl
rows_same deck has [] (x ∷ G) h g e = absurd (let n = ap length e in omega (arith, n))
rows_same deck has (x ∷ H) [] h g e = absurd (let n = ap length e in omega (arith, n))
rows_same deck has (x ∷ H) (y ∷ G) h g e =
    let one : event_row x ≡ event_row y = cc in
    let more : map event_row H ≡ map event_row G = cc in
    ap (λ z. z ∷ H) (event_same deck has x y (All-head (IsGiven deck) x H h) (All-head (IsGiven deck) y G g) one)
    ∙ ap (λ l. y ∷ l) (rows_same deck has H G (All-tail (IsGiven deck) x H h) (All-tail (IsGiven deck) y G g) more)

pub one_rows : (deck : Deck) (H G : List Event) → HasNumbers deck → IsLegal deck H → IsLegal deck G → map event_row H ≡ map event_row G → H ≡ G
one_rows deck H G has h g e = rows_same deck has H G (legal_given deck H h) (legal_given deck G g) e
