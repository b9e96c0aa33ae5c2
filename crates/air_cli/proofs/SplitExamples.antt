-- The split of the told deck: what `split` gives of a small deck, and causes that don't hold of it.
use Rattle.std.proofs.Common.{◌≡◌, ◌≤◌, ℕ, true, false, List, [], ◌∷◌, length, sum, refl, ap, subst, sym, arith}
use Rattle.std.specs.Prelude.{codes}
use Rattle.std.proofs.lemmas.List.Sums.{sum_by-cons}
use Rattle.air_model.specs.Disks.{cut, order, order_with}
use Rattle.air_model.specs.Programs.{chunk_len, least_common_multiple, minor_len, num_chunks, num_minors}
use Rattle.air_report.specs.declared.status.Status.TheVariants as status
use Rattle.disk_split.specs.SplitAnswers.{AreAllTooLong, search_size}
use Rattle.disk_split.specs.Splits.{IsBest, IsShortSplit, IsSplit, cost, is_before, minor_of, resized, slots_of}
use Rattle.disk_split.proofs.CostLemmas.{own_split}
use Rattle.live_replay.proofs.AuditExamples.{small, small_is_deck}
use Rattle.air_cli.specs.ReportsAndTapes.{ReportAndTape}
use Rattle.air_cli.specs.Split.{CanBeSplit, SplitCause, SplitGives, UnsplitCause, split_meaning}
use Rattle.air_cli.specs.Private.GivenTexts.{split_given}
use Rattle.air_cli.proofs.CommandExamples.{the_deck}
use Rattle.air_cli.proofs.ToldExamples.{shelf, small_made, spells_deck}

-- ---- the one split of the deck

two_slots : slots_of small (2 ∷ []) ≡ 2
unfolding order order_with cut least_common_multiple num_minors num_chunks chunk_len minor_len resized minor_of slots_of
two_slots = refl

short : IsShortSplit small (2 ∷ [])
short = record { split = own_split small small_is_deck; short = omega (arith, two_slots) }

one_size : (n : ℕ) (sizes : List ℕ) → length sizes ≡ 1 → sum sizes ≡ n → sizes ≡ n ∷ []
one_size n [] long all = absurd (omega arith)
one_size n (size ∷ []) long all = let is : size ≡ n = omega (arith, sum_by-cons (λ (x : ℕ). x) size []) in ap (λ x. x ∷ []) is
one_size n (size ∷ next ∷ sizes) long all = absurd (omega arith)

only : (sizes : List ℕ) → IsSplit small sizes → sizes ≡ 2 ∷ []
only sizes split = one_size 2 sizes split.disks split.all

best : IsBest small (2 ∷ [])
best = record {
  short = short;
  least = λ other short. subst (λ sizes. cost small (2 ∷ []) ≤ cost small sizes) (sym (only other short.split)) (omega arith);
  first = λ other short same. subst (λ sizes. is_before sizes (2 ∷ []) ≡ false) (sym (only other short.split)) refl;
}

-- ---- what suits, and what is given

pub can_be_split : CanBeSplit small
can_be_split = record { few = omega arith; short = (2 ∷ [], short) }

split_suits : (split_meaning (codes "d")).Suits shelf
split_suits = (small, spells_deck, small_made, can_be_split)

split_gives : SplitGives (codes "d") shelf (split_given small (2 ∷ []))
unfolding SplitGives
split_gives = (refl, (small, spells_deck, small_made, (omega arith, (2 ∷ [], best, refl))))

-- A split has no tape, and nothing in it differs.
no_tape : SplitGives (codes "d") shelf (record (split_given small (2 ∷ [])) { tape = 1 ∷ [] }) → ⊥
unfolding SplitGives
no_tape (same, (d, is, made, (few, (sizes, best, gave)))) = let tape : ◌≡◌ {A = List ℕ} (1 ∷ []) [] = ap (λ (g : ReportAndTape). g.tape) gave in cc

not_different : SplitGives (codes "d") shelf (record (split_given small (2 ∷ [])) { differs = true }) → ⊥
unfolding SplitGives
not_different (same, more) = let differs : true ≡ false = same in cc

-- ---- why it is refused

-- The told deck isn't refused, with any number.
not_much : (product : ℕ) → SplitCause (codes "d") shelf shelf (status.TooMuch product) → ⊥
unfolding SplitCause UnsplitCause
not_much product (d, is, made, (counted, above)) = let same : product ≡ search_size small = subst (λ d. product ≡ search_size d) (the_deck d is) counted in omega arith

not_long : (slots : ℕ) → SplitCause (codes "d") shelf shelf (status.PlanTooLong slots) → ⊥
unfolding SplitCause UnsplitCause
not_long slots (d, is, made, (few, all)) =
    let long : AreAllTooLong small slots = subst (λ d. AreAllTooLong d slots) (the_deck d is) all in
    let low = long.least (2 ∷ []) short.split in let above = long.above in omega (arith, two_slots)

-- A deck is unsplit out of memory, and with no status of a command that was done.
unsplit : UnsplitCause small status.NoMemory × (UnsplitCause small status.Ok → ⊥) × (UnsplitCause small (status.TooMuch 4) → ⊥)
unfolding UnsplitCause
unsplit = (tt, λ h. h, λ h. let above = h.1 in omega arith)
