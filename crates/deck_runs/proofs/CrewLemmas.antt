-- What a deck's updater commits, from nothing on.
use Rattle.std.proofs.Common.{◌≡◌, ℕ, zero, suc, ◌+◌, ◌<◌, ◌≤◌, List, [], ◌∷◌, ◌++◌, length, take, get_or, All, sym, ◌∙◌, ap, subst, arith}
use Rattle.std.specs.Prelude.{sum_by}
use Rattle.std.proofs.lemmas.List.Sums.{sum_by-cons}
use Rattle.air_history.specs.declared.histories.Event.{Event}
use Rattle.air_history.specs.UpdateLists.{UpdateLists}
use Rattle.air_history.specs.UpdateRules.{UpdateFits}
use Rattle.air_model.specs.Decks.{Deck, IsDeck, count_made, updates_by, values_in}
use Rattle.air_model.specs.DeckLaws.{commits_from, made_by}
use Rattle.item_catalog.specs.DeckLimits.{WithinLimits}
use Rattle.station.specs.PassStates.{PassState, new_pass}
use Rattle.turnstile.specs.Passes.{TurnstileId}
use Rattle.std.specs.Prelude.{Some, slice_get}
use Rattle.std.proofs.lemmas.Option.{slice_get-get_or}
use Rattle.std.proofs.lemmas.List.{get_or-map, length-map}
use Rattle.deck_runs.specs.declared.jobs.crews.UpdaterRun.{UpdaterRun}
use Rattle.deck_runs.specs.Private.Crews.{HasNewPass, passes_of}
use Rattle.deck_runs.specs.Commits.{Makes, MakesSome}

part_of_sum : {A : Type 0} (xss : List (List A)) (k : ℕ) → length (get_or xss k []) ≤ sum_by length xss
part_of_sum [] k = omega arith
part_of_sum (xs ∷ xss) zero = let s = sum_by-cons length xs xss in omega arith
part_of_sum (xs ∷ xss) (suc k) = let s = sum_by-cons length xs xss in let rest = part_of_sum xss k in omega arith

-- An updater has no more updates than the deck.
few_updates : (deck : Deck) (by : ℕ) → WithinLimits deck → length (updates_by deck by) < 4294967296
few_updates deck by within = let part = part_of_sum deck.updates by in let most = within.updates in omega arith

-- The updates of a deck fit.
pub updates_fit : (deck : Deck) (by : ℕ) (us : List UpdateLists) (values : List ℕ) → IsDeck deck → by < length deck.updates → us ≡ updates_by deck by → values ≡ values_in deck → All (UpdateFits (length values)) us
updates_fit deck by us values made l is first =
    let sized : length values ≡ length deck.items = ap length first ∙ length-map deck.items (λ i. i.value) in
    subst (All (UpdateFits (length values))) (sym is) (subst (λ n. All (UpdateFits n) (updates_by deck by)) (sym sized) (λ k d below. (made.updates by [] l k d below).fits))

-- A new pass made nothing.
none_made : (by : ℕ) (seen : List Event) → seen ≡ [] → (made_by by seen ≡ []) × (count_made by seen ≡ 0)
unfolding made_by
none_made by seen is = (ap (made_by by) is, ap (count_made by) is)

pub few_at : (deck : Deck) (by : ℕ) (us : List UpdateLists) (seen : List Event) → WithinLimits deck → us ≡ updates_by deck by → seen ≡ [] → count_made by seen + length us < 4294967296
few_at deck by us seen within is new = let few = few_updates deck by within in let same = ap length is in let none = (none_made by seen new).1 in omega arith

-- So after its job it made exactly these.
pub makes_from : (us vs : List UpdateLists) (p q : PassState) → p.seen ≡ [] → us ≡ vs → Makes us p q → made_by p.number q.seen ≡ commits_from p.number 0 vs
makes_from us vs p q new is m =
    let none = none_made p.number p.seen new in
    m.made ∙ ap (λ l. l ++ commits_from p.number (count_made p.number p.seen) us) none.0 ∙ ap (λ n. commits_from p.number n us) none.1 ∙ ap (commits_from p.number 0) is

pub makes_some_from : (us vs : List UpdateLists) (p q : PassState) → p.seen ≡ [] → us ≡ vs → MakesSome us p q → (n : ℕ) × (n < length vs) × (made_by p.number q.seen ≡ commits_from p.number 0 (take n vs))
makes_some_from us vs p q new is m = (m.0, subst (λ l. m.0 < length l) is m.1, makes_from (take m.0 us) (take m.0 vs) p q new (ap (take m.0) is) m.2)

-- New passes, in the order of their numbers, make ready updaters.
pub ready_all : (station : TurnstileId) (deck : Deck) (runs : List UpdaterRun) (ps : List PassState) → passes_of runs ≡ ps → length ps ≡ length deck.updates → ((by : ℕ) (p : PassState) → slice_get ps by ≡ Some p → p ≡ new_pass station deck by)
    → All (HasNewPass station deck) runs
unfolding HasNewPass
ready_all station deck runs ps same count each k d l =
    let pass : UpdaterRun → PassState = λ run. run.pass in
    let r = get_or runs k d in
    let many = length-map runs pass in
    let sized = ap length same in
    let below : k < length ps = omega arith in
    let p = get_or ps k r.pass in
    let new : r.pass ≡ new_pass station deck k = sym (get_or-map pass runs k d r.pass l) ∙ ap (λ (xs : List PassState). get_or xs k r.pass) same ∙ each k p (slice_get-get_or ps k r.pass below) in
    let number : r.pass.number ≡ k = ap (λ (p : PassState). p.number) new in
    (new ∙ ap (new_pass station deck) (sym number), omega arith)
