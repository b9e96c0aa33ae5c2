-- Batches that are made event by event.
use Rattle.std.proofs.Common.{◌≡◌, ℕ, false, cond, List, [], ◌∷◌, ◌++◌, refl, length, All, ap, arith}
use Rattle.std.proofs.lemmas.Bool.{cond-false}
use Rattle.std.proofs.lemmas.List.Sums.{sum_by-cons}
use Rattle.std.proofs.lemmas.List.Elements.{All-push}
use Rattle.air_history.specs.declared.histories.Event.{Event}
use Rattle.air_history.specs.declared.histories.Event.TheVariants.{Start}
use Rattle.air_history.specs.Histories.{is_start, starts, ItemsFit}
use Rattle.cycle_snapshot.specs.Batches.{IsBatch}
use Rattle.cycle_snapshot.proofs.BatchLemmas.{starts_append}

starts_one : (e : Event) → is_start e ≡ false → starts (e ∷ []) ≡ 0
unfolding starts
starts_one e commit = let none = cond-false {A = ℕ} (is_start e) 1 0 commit in omega (arith, sum_by-cons (λ e. cond (is_start e) 1 0) e [], none)

-- One more commit is no start.
pub no_start : (G : List Event) (e : Event) → starts G ≡ 0 → is_start e ≡ false → starts (G ++ e ∷ []) ≡ 0
no_start G e none commit = let a = starts_append G (e ∷ []) in let one = starts_one e commit in omega arith

-- A property of all elements holds of an empty list.
pub all_none : {A : Type 0} (P : A → Type 0) (xs : List A) → xs ≡ [] → All P xs
all_none P xs e = let n = ap length e in λ k d l. absurd (omega arith)

-- A list without events has no start.
pub none_yet : (G : List Event) → G ≡ [] → starts G ≡ 0
unfolding starts
none_yet G e = ap starts e

start_fits : (n : ℕ) → ItemsFit n Start
unfolding ItemsFit
start_fits n = tt

-- Fitting commits followed by a start are a batch.
pub batch_ends : (n : ℕ) (G : List Event) → All (ItemsFit n) G → starts G ≡ 0 → IsBatch n (G ++ Start ∷ [])
batch_ends n G fits none = record { fits = All-push (ItemsFit n) G Start fits (start_fits n); ends = (G, refl, none) }
