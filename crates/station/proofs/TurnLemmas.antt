-- One turn of a pass: what is known of the pass after it, and how the history continued.
use Rattle.std.proofs.Common.{rules, ◌≡◌, ℕ, ◌+◌, List, [], ◌∷◌, length, All, refl, sym, ◌∙◌, ap, subst}
use Rattle.std.specs.Prelude.{Result, Ok, Err, IsErr, MatchResult, Some}
use Rattle.turnstile.specs.PassEntries.{Continues}
use Rattle.std.proofs.lemmas.List.Elements.{All-nil}
use Rattle.turnstile.specs.Passes.{TurnstileId, after_enter, after_leave, newcomer}
use Rattle.air_history.specs.declared.histories.Event.{Event}
use Rattle.air_history.specs.Histories.{is_start, EventFits}
use Rattle.air_model.specs.Decks.{Deck, is_by, values_in}
use Rattle.air_model.specs.Closings.{GoesOnWithout}
use Rattle.update_commit.specs.CoreStates.{CoreState}
use Rattle.station.specs.EventEntries.{event_entries, events_of}
use Rattle.station.specs.PassStates.{PassState, new_pass}
use Rattle.station.specs.PassFields.{Base, Inner, base_or, base_in, pass_in, IsPass}
use Rattle.station.proofs.EntryLemmas.{events_back, commits_make, starts_make, goes_on}

-- The pass before a turn and after it, and the core that the turn took and the one that it gave back.
pub record Turned (before after : Inner) (old new : CoreState) : Type 0 where
  pub base : before.base ≡ Some (old.values, old.updaters)
  pub list : Continues before.numbers before.seen (event_entries old.updaters old.events)
  pub kept : (new.values ≡ old.values) × (new.updaters ≡ old.updaters)
  pub fits : All (EventFits new.updaters (length new.values)) new.events
  pub back : after ≡ after_leave (after_enter before (event_entries old.updaters old.events)) (event_entries new.updaters new.events)

pub base_is : (pass : Inner) (core : CoreState) → pass.base ≡ Some (core.values, core.updaters) → base_in pass ≡ (core.values, core.updaters)
base_is pass core is = ap base_or is

-- The pass keeps what it keeps, and has seen the new core's events.
pub after_turn : (number : ℕ) (before after : Inner) (old new : CoreState) → IsPass before number → Turned before after old new →
    IsPass after number × (base_in after ≡ base_in before) × (events_of after.seen ≡ new.events)
after_turn number before after old new h t =
    let based : after.base ≡ before.base = ap (λ p. p.base) t.back in
    let is : base_in after ≡ (new.values, new.updaters) = ap base_or based ∙ base_is before old t.base ∙ (λ i. (sym t.kept.0 i, sym t.kept.1 i)) in
    let seen : events_of after.seen ≡ new.events = ap (λ p. events_of p.seen) t.back ∙ events_back new.updaters new.events in (
      record {
        outside = ap (λ p. p.turn) t.back;
        numbers = ap (λ p. p.numbers) t.back ∙ h.numbers;
        based = subst (λ b. b ≡ Some (base_or b)) (sym based) h.based;
        passes = ap (λ p. p.passes) t.back ∙ h.passes ∙ ap (λ b. (base_or b).1 + 1) (sym based);
        fits = subst (λ (b : Base). All (EventFits b.1 (length b.0)) (events_of after.seen)) (sym is) (subst (All (EventFits new.updaters (length new.values))) (sym seen) t.fits);
      },
      ap base_or based,
      seen,
    )

-- The core of an updater's turn has no commit of that updater that its pass hasn't seen.
pub no_commit : (by : ℕ) (pass : Inner) (core : CoreState) → IsPass pass by → Continues pass.numbers pass.seen (event_entries core.updaters core.events) →
    GoesOnWithout (is_by by) (events_of pass.seen) core.events
no_commit by pass core h list = goes_on core.updaters by (is_by by) (commits_make core.updaters by) pass.seen core.events
    (subst (λ ns. Continues ns pass.seen (event_entries core.updaters core.events)) h.numbers list)

-- The core of the conductor's turn has no start that its pass hasn't seen.
pub no_start : (pass : Inner) (core : CoreState) → IsPass pass (base_in pass).1 → pass.base ≡ Some (core.values, core.updaters) →
    Continues pass.numbers pass.seen (event_entries core.updaters core.events) → GoesOnWithout is_start (events_of pass.seen) core.events
no_start pass core h is list = goes_on core.updaters core.updaters is_start (starts_make core.updaters) pass.seen core.events
    (subst (λ ns. Continues ns pass.seen (event_entries core.updaters core.events)) (h.numbers ∙ ap (λ (b : Base). b.1 ∷ []) (base_is pass core is)) list)

-- What holds regardless of how a call ended.
pub either_way : {T E : Type 0} (R : Type 0) (P : T → Type 0) (Q : E → Type 0) (r : Result T E) → ((x : T) → P x → R) → ((e : E) → Q e → R) → MatchResult r P Q → R
either_way R P Q (Ok x) f g h = f x h
either_way R P Q (Err e) f g h = g e h

-- What is said of a refusal holds of an answer that is one.
pub refused : {T E : Type 0} (P : T → Type 0) (Q : Type 0) (r : Result T E) → IsErr r → Q → MatchResult r P (λ _. Q)
refused P Q (Ok x) h q = absurd (search rules)
refused P Q (Err e) h q = q

-- ---- new passes

-- A pass of a new turnstile round an empty core keeps what a pass keeps, and has seen nothing.
pub fresh : (turnstile : TurnstileId) (n k : ℕ) (core : CoreState) (pass : Inner) → core.events ≡ [] → n ≡ core.updaters + 1 →
    pass ≡ newcomer turnstile n (core.values, core.updaters) (event_entries core.updaters core.events) k →
    IsPass pass k × (base_in pass ≡ (core.values, core.updaters)) × (events_of pass.seen ≡ [])
fresh turnstile n k core pass none count e =
    let is : base_in pass ≡ (core.values, core.updaters) = ap base_in e in
    let seen : events_of pass.seen ≡ [] = ap (λ p. events_of p.seen) e ∙ events_back core.updaters core.events ∙ none in (
      record {
        outside = ap (λ p. p.turn) e;
        numbers = ap (λ p. p.numbers) e;
        based = subst (λ p. p.base ≡ Some (base_in p)) (sym e) refl;
        passes = ap (λ p. p.passes) e ∙ count ∙ ap (λ (b : Base). b.1 + 1) (sym is);
        fits = subst (All (EventFits (base_in pass).1 (length (base_in pass).0))) (sym seen) (All-nil (EventFits (base_in pass).1 (length (base_in pass).0)));
      },
      is,
      seen,
    )

same_state : (g : TurnstileId) (v w : List ℕ) (m n k : ℕ) (F G : List Event) → v ≡ w → m ≡ n → F ≡ G →
    ◌≡◌ {A = PassState} (record { station = g; values = v; updaters = m; number = k; seen = F }) (record { station = g; values = w; updaters = n; number = k; seen = G })
same_state g v w m n k F G p q r = cc

-- As contracts see it, a new pass is the deck's new pass.
pub as_new : (turnstile : TurnstileId) (deck : Deck) (n k : ℕ) (core : CoreState) (pass : Inner) → core.events ≡ [] → core.values ≡ values_in deck → core.updaters ≡ length deck.updates →
    pass ≡ newcomer turnstile n (core.values, core.updaters) (event_entries core.updaters core.events) k → pass_in pass k ≡ new_pass turnstile deck k
as_new turnstile deck n k core pass none values count e =
    ap (λ p. pass_in p k) e ∙ same_state turnstile core.values (values_in deck) core.updaters (length deck.updates) k (events_of (event_entries core.updaters core.events)) [] values count
    (events_back core.updaters core.events ∙ none)
