-- Lists of items and of writes while they are read: one more, and what is left of a whole list.
use Rattle.std.proofs.Common.{◌≡◌, ◌++◌, ◌∷◌, [], ℕ, List, Option, Some, None, Bool, true, false, refl, sym, ap, ◌∙◌, fold, append_assoc, cond, nat_le}
use Rattle.std.specs.Prelude.{◌||◌}
use Rattle.std.proofs.lemmas.List.{append-nil}
use Rattle.std.proofs.lemmas.List.Folds.{list_any-append}
use Rattle.air_history.specs.UpdateRules.{has_repeat}
use Rattle.item_catalog.specs.ListTests.{reaches}
use Rattle.item_catalog.proofs.RepeatLemmas.{or_false, repeat_push}
use Rattle.std.proofs.lemmas.List.Sums.{fold-append}
use Rattle.air_history.specs.declared.updates.Write.{Write}
use Rattle.item_catalog.specs.KeptLists.{ItemsSeen, ReadIs, among, items_seen, no_items, no_writes, see_item, see_write, writes_seen}

pub read_some : {A : Type 0} (list : Option A) (x : A) (Holds : A → Type 0) → list ≡ Some x → Holds x → ReadIs true list Holds
read_some list x Holds e h = rw e (refl, h)

pub read_none : {A : Type 0} (list : Option A) (Holds : A → Type 0) → list ≡ None → ReadIs false list Holds
read_none list Holds e = rw e refl

pub items_more : (n : ℕ) (items : List ℕ) (x : ℕ) → items_seen n (items ++ x ∷ []) ≡ see_item n (items_seen n items) x
unfolding items_seen
items_more n items x = fold-append (see_item n) no_items items (x ∷ [])

pub writes_more : (n : ℕ) (reads : List ℕ) (writes : List Write) (w : Write) → writes_seen n reads (writes ++ w ∷ []) ≡ see_write n reads (writes_seen n reads writes) w
unfolding writes_seen
writes_more n reads writes w = fold-append (see_write n reads) no_writes writes (w ∷ [])

-- What is known of a list of items that was seen whole.
pub record AllSeen (n : ℕ) (items : List ℕ) (seen : ItemsSeen) : Type 0 where
  pub undeclared : seen.undeclared ≡ reaches n items
  pub repeated : reaches n items ≡ false → seen.repeated ≡ has_repeat items
  pub kept : reaches n items ≡ false → has_repeat items ≡ false → seen.items ≡ items

reaches_push : (n : ℕ) (items : List ℕ) (x : ℕ) → reaches n (items ++ x ∷ []) ≡ (reaches n items || nat_le n x)
reaches_push n items x = list_any-append (nat_le n) items (x ∷ []) ∙ ap (λ b. reaches n items || b) (or_false (nat_le n x))

pub or_true : (b : Bool) → (b || true) ≡ true
or_true true = refl
or_true false = refl

pub left_false : (a b : Bool) → (a || b) ≡ false → a ≡ false
left_false true b h = h
left_false false b h = refl

pub right_false : (a b : Bool) → (a || b) ≡ false → b ≡ false
right_false true b h = cc h
right_false false b h = h

module _ (n : ℕ) (items : List ℕ) (seen : ItemsSeen) (x : ℕ) (known : AllSeen n items seen) where
  past : nat_le n x ≡ true → AllSeen n (items ++ x ∷ []) (record seen { undeclared = true })
  past e =
      let all : reaches n (items ++ x ∷ []) ≡ true = reaches_push n items x ∙ rw e (or_true (reaches n items)) in
      record { undeclared = sym all; repeated = λ none. cc (all, none); kept = λ none. λ once. cc (all, none) }

  module _ (below : nat_le n x ≡ false) where
    still : reaches n (items ++ x ∷ []) ≡ reaches n items
    still = reaches_push n items x ∙ rw below (or_false (reaches n items))

    again : among seen.items x ≡ true → AllSeen n (items ++ x ∷ []) (record seen { repeated = true })
    again there = record { undeclared = known.undeclared ∙ sym still; repeated = λ none. sym (twice (sym still ∙ none)); kept = λ none. λ once. cc (twice (sym still ∙ none), once) }
      where
        by : (b : Bool) → has_repeat items ≡ b → reaches n items ≡ false → (b || among items x) ≡ true
        by true e none = refl
        by false e none = ap (λ l. among l x) (sym (known.kept none e)) ∙ there

        twice : reaches n items ≡ false → has_repeat (items ++ x ∷ []) ≡ true
        twice none = repeat_push items x ∙ by (has_repeat items) refl none

    new : among seen.items x ≡ false → AllSeen n (items ++ x ∷ []) (record seen { items = seen.items ++ x ∷ [] })
    new absent = record {
      undeclared = known.undeclared ∙ sym still;
      repeated = λ none. known.repeated (sym still ∙ none) ∙ sym (repeat_push items x ∙ by (has_repeat items) refl (sym still ∙ none));
      kept = λ none. λ once. ap (λ l. l ++ x ∷ []) (known.kept (sym still ∙ none) (left_false (has_repeat items) (among items x) (sym (repeat_push items x) ∙ once)));
    }
      where
        by : (b : Bool) → has_repeat items ≡ b → reaches n items ≡ false → (b || among items x) ≡ b
        by true e none = refl
        by false e none = ap (λ l. among l x) (sym (known.kept none e)) ∙ absent

  pub see_more : AllSeen n (items ++ x ∷ []) (see_item n seen x)
  see_more = by (nat_le n x) (among seen.items x) refl refl
    where
      by : (a b : Bool) → nat_le n x ≡ a → among seen.items x ≡ b → AllSeen n (items ++ x ∷ []) (cond a (record seen { undeclared = true }) (cond b (record seen { repeated = true }) (record seen { items = seen.items ++ x ∷ [] })))
      by true b e f = past e
      by false true e f = again e f
      by false false e f = new e f

all_from : (n : ℕ) (done items : List ℕ) (seen : ItemsSeen) → AllSeen n done seen → AllSeen n (done ++ items) (fold (see_item n) seen items)
all_from n done [] seen known = rw (append-nil done) known
all_from n done (x ∷ items) seen known = rw (← append_assoc done (x ∷ []) items) (all_from n (done ++ x ∷ []) items (see_item n seen x) (see_more n done seen x known))

pub all_seen : (n : ℕ) (items : List ℕ) → AllSeen n items (items_seen n items)
unfolding items_seen has_repeat
all_seen n items = all_from n [] items no_items (record { undeclared = refl; repeated = λ none. refl; kept = λ none. λ once. refl })
