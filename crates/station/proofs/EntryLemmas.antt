-- Events as entries, and what a list of entries that continues a seen one says of the events.
use Rattle.std.proofs.Common.{◌≡◌, ℕ, Bool, true, false, cond, List, [], ◌∷◌, ◌++◌, length, take, drop, All, refl, sym, ◌∙◌, ap, subst, inl, inr, arith}
use Rattle.std.specs.Prelude.{count_by, Contains}
use Rattle.std.specs.List.{list_any}
use Rattle.std.proofs.Math.Seq.{take-append_seam, drop-append_seam}
use Rattle.std.proofs.lemmas.Bool.{cases_Bool, cond-false, eqb-true}
use Rattle.std.proofs.lemmas.List.{append-nil, map-append, take-map, drop-map, take-append-drop}
use Rattle.std.proofs.lemmas.List.Elements.{All-head, All-tail, All-map, All-push}
use Rattle.std.proofs.lemmas.List.Sums.{sum_by-append, sum_by-cons}
use Rattle.turnstile.specs.PassEntries.{Foreign, Continues, Lengthens}
use Rattle.air_history.specs.declared.histories.Event.{Event}
use Rattle.air_history.specs.declared.histories.Event.TheVariants.{Commit, Start}
use Rattle.air_history.specs.Histories.{is_start, since_start, EventFits}
use Rattle.air_model.specs.Decks.{is_by}
use Rattle.air_model.specs.Closings.{GoesOnWithout}
use Rattle.update_commit.proofs.StepLemmas.{start_fits}
use Rattle.station.specs.EventEntries.{maker, event_entry, event_entries, events_of}

-- ---- entries

pub events_back : (m : ℕ) (G : List Event) → events_of (event_entries m G) ≡ G
events_back m [] = refl
events_back m (e ∷ G) = ap (λ l. e ∷ l) (events_back m G)

-- A commit is made by its updater's pass.
pub commits_make : (m by : ℕ) (e : Event) → is_by by e ≡ true → maker m e ≡ by
unfolding is_by maker
commits_make m by (Commit who seq u) own = eqb-true who by own
commits_make m by Start own = absurd (cc (own))

-- A start is made by the conductor's.
pub starts_make : (m : ℕ) (e : Event) → is_start e ≡ true → maker m e ≡ m
unfolding is_start maker
starts_make m (Commit who seq u) own = absurd (cc (own))
starts_make m Start own = refl

pub maker_commit : (m by seq : ℕ) (u : _) → maker m (Commit by seq u) ≡ by
unfolding maker
maker_commit m by seq u = refl

pub maker_start : (m : ℕ) → maker m Start ≡ m
unfolding maker
maker_start m = refl

-- ---- continuing a list

-- Entries of others have no event that the number's pass makes.
foreign_count : (m number : ℕ) (own : Event → Bool) → ((e : Event) → own e ≡ true → maker m e ≡ number) → (F : List Event) → Foreign (number ∷ []) (event_entries m F) → count_by own F ≡ 0
foreign_count m number own makes [] h = refl
foreign_count m number own makes (e ∷ F) h =
    let rest = foreign_count m number own makes F (All-tail (λ (x : ℕ × Event). ¬ Contains (number ∷ []) x.0) (event_entry m e) (event_entries m F) h) in
    let here = All-head (λ (x : ℕ × Event). ¬ Contains (number ∷ []) x.0) (event_entry m e) (event_entries m F) h in
    elim (cases_Bool (own e)) as (λ _. count_by own (e ∷ F) ≡ 0) [
      | inl made ↦ absurd (here (0, omega arith, sym (makes e made)))
      | inr other ↦ (let none = cond-false {A = ℕ} (own e) 1 0 other in omega (arith, sum_by-cons (λ x. cond (own x) 1 0) e F))
    ]

-- A list that continues the seen entries by those of others continues without events that the pass makes.
pub goes_on : (m number : ℕ) (own : Event → Bool) → ((e : Event) → own e ≡ true → maker m e ≡ number) → (seen : List (ℕ × Event)) (G : List Event) →
    Continues (number ∷ []) seen (event_entries m G) → GoesOnWithout own (events_of seen) G
goes_on m number own makes seen G c =
    let front : events_of seen ≡ take (length seen) G = ap events_of (sym (take-append_seam seen c.0) ∙ ap (take (length seen)) (sym c.1) ∙ take-map (event_entry m) (length seen) G) ∙ events_back m (take (length seen) G) in
    let rest : c.0 ≡ event_entries m (drop (length seen) G) = sym (drop-append_seam seen c.0) ∙ ap (drop (length seen)) (sym c.1) ∙ drop-map (event_entry m) (length seen) G in (
      drop (length seen) G,
      sym (take-append-drop (length seen) G) ∙ ap (λ l. l ++ drop (length seen) G) (sym front),
      foreign_count m number own makes (drop (length seen) G) (subst (Foreign (number ∷ [])) rest c.2),
    )

pub goes_nowhere : (own : Event → Bool) (G : List Event) → GoesOnWithout own G G
goes_nowhere own G = ([], sym (append-nil G), refl)

-- A history that continues without an updater's commits has the same number of them.
pub count_same : (own : Event → Bool) (seen later : List Event) → GoesOnWithout own seen later → count_by own later ≡ count_by own seen
count_same own seen later g = ap (count_by own) g.1 ∙ (let both = sum_by-append (λ x. cond (own x) 1 0) seen g.0 in let none = g.2 in omega arith)

-- More events that the pass makes lengthen the list of entries by its own.
pub lengthens : (numbers : List ℕ) (m n : ℕ) (old new more : List Event) → n ≡ m → new ≡ old ++ more → All (λ e. Contains numbers (maker m e)) more →
    Lengthens numbers (event_entries m old) (event_entries n new)
lengthens numbers m n old new more same is own = (
  event_entries m more,
  ap (λ k. event_entries k new) same ∙ ap (event_entries m) is ∙ map-append (event_entry m) old more,
  All-map (λ (e : ℕ × Event). Contains numbers e.0) (event_entry m) more own,
)

-- ---- the events after the last start

cond_all : {X : Type 0} (P : X → Type 0) (b : Bool) (xs ys : List X) → All P xs → All P ys → All P (cond b xs ys)
cond_all P true xs ys p q = p
cond_all P false xs ys p q = q

pub since_all : (P : Event → Type 0) (G : List Event) → All P G → All P (since_start G)
unfolding since_start
since_all P [] h = h
since_all P (e ∷ G) h = cond_all P (list_any is_start (e ∷ G)) (since_start G) (e ∷ G) (since_all P G (All-tail P e G h)) h

-- What comes after the last start, with one more start, fits.
pub fresh_fits : (updaters : ℕ) (values : List ℕ) (G fresh : List Event) → fresh ≡ since_start G ++ Start ∷ [] → All (EventFits updaters (length values)) G → All (EventFits updaters (length values)) fresh
fresh_fits updaters values G fresh is fits = let fit = EventFits updaters (length values) in
    subst (All fit) (sym is) (All-push fit (since_start G) Start (since_all fit G fits) (start_fits updaters (length values)))
