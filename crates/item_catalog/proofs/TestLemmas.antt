-- Tests that don't hold, one by one and as the kinds of a record.
use Rattle.std.proofs.Common.{◌≡◌, ◌<◌, ◌≤◌, ◌∷◌, [], ℕ, List, None, Bool, false, refl, get_or, nat_le, nat_lt, arith}
use Rattle.std.specs.Prelude.{◌||◌, All}
use Rattle.std.proofs.lemmas.Bool.Decides.{nat_tests}
use Rattle.std.proofs.lemmas.List.Folds.{list_any_none}
use Rattle.item_catalog.specs.ListTests.{reaches}
use Rattle.item_catalog.specs.RecordKinds.{first_of}
use Rattle.item_catalog.specs.Ranges.{outside}
use Rattle.item_catalog.specs.declared.faults.FaultKind.{FaultKind}

pub none_one : (k : FaultKind) (p : Bool) → p ≡ false → first_of ((k, p) ∷ []) ≡ None
none_one k p e = rw e refl

pub none_two : (k l : FaultKind) (p q : Bool) → p ≡ false → q ≡ false → first_of ((k, p) ∷ (l, q) ∷ []) ≡ None
none_two k l p q e f = rw (e, f) refl

pub none_three : (k l m : FaultKind) (p q r : Bool) → p ≡ false → q ≡ false → r ≡ false → first_of ((k, p) ∷ (l, q) ∷ (m, r) ∷ []) ≡ None
none_three k l m p q r e f g = rw (e, f, g) refl

pub none_four : (k l m o : FaultKind) (p q r s : Bool) → p ≡ false → q ≡ false → r ≡ false → s ≡ false → first_of ((k, p) ∷ (l, q) ∷ (m, r) ∷ (o, s) ∷ []) ≡ None
none_four k l m o p q r s e f g h = rw (e, f, g, h) refl

pub neither : (a b : Bool) → a ≡ false → b ≡ false → (a || b) ≡ false
neither a b e f = rw (e, f) refl

pub not_less : (a b : ℕ) → b ≤ a → nat_lt a b ≡ false
not_less a b l = grind (arith, nat_tests)

pub not_reached : (a b : ℕ) → b < a → nat_le a b ≡ false
not_reached a b l = grind (arith, nat_tests)

pub not_outside : (least most k : ℕ) → least ≤ k → k ≤ most → outside least most k ≡ false
not_outside least most k low high = neither (nat_lt k least) (nat_lt most k) (not_less k least low) (not_less most k high)

pub all_reached : (n : ℕ) (xs : List ℕ) → All (λ x. x < n) xs → reaches n xs ≡ false
all_reached n xs all = list_any_none (nat_le n) xs (λ k d below. not_reached n (get_or xs k d) (all k d below))
