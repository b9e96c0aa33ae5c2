-- A step that shows a later side keeps the rule of the two sides.
use Rattle.std.proofs.Common.{◌≡◌, ◌≢◌, ℕ, zero, suc, ◌<◌, List, [], ◌∷◌, ◌++◌, length, Option, Some, None, All, set, refl, sym, ap, ◌∙◌, subst, ⊎_elim, arith, length-append}
use Rattle.std.proofs.lemmas.List.Elements.{All-push}
use mathlib.Core.Option.{some, some-injective, some-ne-none}
use lib.ListN.{get_elem?}
use Rattle.left_right.specs.Register.{TurnsAt, Admits, Forks, Merges}
use Rattle.atomic_table.proofs.Lists.{at_set, at_snoc}
use Rattle.air_history.specs.declared.histories.Event.{Event}
use Rattle.air_history.specs.Boards.{board_of}
use Rattle.cycle_snapshot.specs.declared.board_sides.BoardSide.{BoardSide}
use Rattle.cycle_snapshot.specs.declared.board_sides.News.{News}
use Rattle.air_history.specs.Histories.{events_in}
use Rattle.cycle_snapshot.specs.Batches.{IsBatch}
use Rattle.cycle_snapshot.specs.Beginnings.{Beginning}
use Rattle.control_matrix.specs.BoardSteps.{step_all}
use Rattle.cycle_snapshot.specs.Private.BoardRuns.{after_news}
use Rattle.cycle_snapshot.specs.SideRule.{IsPublished, Follows, Agrees, Keeps, Sees, IsNextNews}
use Rattle.cycle_snapshot.proofs.PrefixLemmas.{prefix_self, prefix_trans}
use Rattle.cycle_snapshot.proofs.BatchLemmas.{events_more, starts_events, board_values, board_all, batch_taken}

-- ---- which side follows which

pub follows_self : (x : BoardSide) → Follows x x
follows_self x = record { values = refl; most = refl; publisher = refl; batches = prefix_self x.list.batches }

follows_on : (w x y : BoardSide) → Follows w x → Follows x y → Follows w y
follows_on w x y a f = record {
  values = f.values ∙ a.values;
  most = f.most ∙ a.most;
  publisher = f.publisher ∙ a.publisher;
  batches = prefix_trans w.list.batches x.list.batches y.list.batches a.batches f.batches;
}

agrees_on : (v : Option BoardSide) (x y : BoardSide) → Agrees v x → Follows x y → Agrees v y
agrees_on None x y a f = tt
agrees_on (Some w) x y a f = follows_on w x y a f

-- A step from a side to one that follows it keeps the rule, and its seat sees the later side.
pub sees : (seat : ℕ) (v : Option BoardSide) (x y : BoardSide) → Follows x y → (IsPublished x → IsPublished y) → TurnsAt Keeps seat v x y Sees
sees seat v x y f is views h at = (
  Some y,
  (is h.0, λ j u e. ⊎_elim (λ (t : (j ≡ seat) × (Some y ≡ u)). subst (λ z. Agrees z y) t.1 (follows_self y)) (λ (t : (j ≢ seat) × (get_elem? views j ≡ some u)). agrees_on u x y (h.1 j u t.1) f) (at_set views seat j (Some y) u e)),
  (refl, agrees_on v x y (h.1 seat v at) f, is h.0),
)

-- ---- seats

-- A new seat, which saw nothing.
pub admits : Admits Keeps None
admits x views h = (h.0, λ j u e. ⊎_elim (h.1 j u) (λ (t : None ≡ u). subst (λ z. Agrees z x) t tt) (at_snoc views None u j e))

agree_set : (x : BoardSide) (views : List (Option BoardSide)) (seat : ℕ) (w : Option BoardSide) → ((j : ℕ) (v : Option BoardSide) → get_elem? views j ≡ some v → Agrees v x) → Agrees w x → (j : ℕ) (v : Option BoardSide) → get_elem? (set views seat w) j ≡ some v → Agrees v x
agree_set x views seat w h a j u e = ⊎_elim (λ (t : (j ≡ seat) × (w ≡ u)). subst (λ z. Agrees z x) t.1 a) (λ (t : (j ≢ seat) × (get_elem? views j ≡ some u)). h j u t.1) (at_set views seat j w u e)

-- A seat may tell what it saw.
pub forks : (seat : ℕ) (v : Option BoardSide) → Forks Keeps seat v v v
forks seat v x views h at = let a = h.1 seat v at in (h.0, λ j u e. ⊎_elim (agree_set x views seat v h.1 a j u) (λ (t : v ≡ u). subst (λ z. Agrees z x) t a) (at_snoc (set views seat v) v u j e))

-- A seat takes over what it was told.
pub merges : (seat : ℕ) (v : Option BoardSide) (other : ℕ) (w : Option BoardSide) → Merges Keeps seat v other w w None
merges seat v other w x views h at apart there = let a = ⊎_elim (λ (t : (other ≡ seat) × (w ≡ w)). absurd (apart t.0)) (λ (t : (other ≢ seat) × (get_elem? views other ≡ some w)). h.1 other w t.1) (at_set views seat other w w there) in
    (h.0, agree_set x (set views seat w) other None (agree_set x views seat w h.1 a) tt)

only_none : (x : BoardSide) (j : ℕ) (v : Option BoardSide) → get_elem? (None ∷ []) j ≡ some v → Agrees v x
only_none x zero v e = subst (λ z. Agrees z x) (some-injective None v e) tt
only_none x (suc j) v e = absurd (some-ne-none v (sym e))

-- The rule holds of a first side.
pub opens_rule : (x : BoardSide) → IsPublished x → Keeps x (None ∷ [])
opens_rule x h = (h, only_none x)

-- ---- sides

-- The board of a side has as many values as it started from.
pub shown_values : (x : BoardSide) → IsPublished x → length x.board.values ≡ length x.values
shown_values x h = ap (λ b. length b.values) h.board ∙ board_values x.values (events_in x.list.batches)

-- The side that took in the news that is next follows the old one, and is valid.
pub news_follow : (x next : BoardSide) (n : News) → next ≡ after_news x n → IsNextNews x n → Follows x next × (IsPublished x → IsPublished next)
news_follow x next n is k =
    let log : next.list.batches ≡ x.list.batches ++ n.batch ∷ [] = ap (λ y. y.list.batches) is ∙ ap (λ l. l.batches) k.list in
    let values = ap (λ y. y.values) is in
    let most = ap (λ y. y.most) is in (
      record { values = values; most = most; publisher = ap (λ y. y.list.publisher) is ∙ ap (λ l. l.publisher) k.list; batches = (n.batch ∷ [], sym log) },
      λ h.
          let cycle : x.board.cycle ≡ length x.list.batches = ap (λ b. b.cycle) h.board ∙ starts_events (length x.values) x.list.batches h.batches in
          let width : n.items ≡ length x.board.values = k.items ∙ sym (shown_values x h) in
          let small = h.most in
          let room = k.room in
          let board : next.board ≡ board_of x.values (events_in (x.list.batches ++ n.batch ∷ [])) =
          ap (λ y. y.board) is
          ∙ batch_taken x.board n.items n.batch width (omega arith)
          ∙ ap (λ b. step_all b n.batch) h.board
          ∙ board_all x.values (events_in x.list.batches) n.batch k.batch.fits k.bases
          ∙ ap (board_of x.values) (sym (events_more x.list.batches n.batch)) in
          record {
            board = board ∙ (λ i. board_of (sym values i) (events_in (sym log i)));
            few = let a = ap length log ∙ length-append x.list.batches (n.batch ∷ []) in omega arith;
            most = omega arith;
            batches = subst (λ v. All (IsBatch (length v)) next.list.batches) (sym values) (subst (All (IsBatch (length x.values))) (sym log) (All-push (IsBatch (length x.values)) x.list.batches n.batch h.batches k.batch));
          },
    )

none_good : (n : ℕ) (bs : List (List Event)) → bs ≡ [] → All (IsBatch n) bs
none_good n [] e = λ k d l. absurd (omega arith)
none_good n (b ∷ bs) e = absurd (cc (e))

-- The side of the empty list is valid.
pub first_is : (x : BoardSide) (values : List ℕ) (most : ℕ) (list : Beginning) → x ≡ record { board = board_of values []; values = values; most = most; list = list } → list.batches ≡ [] → most < 4294967295 → IsPublished x
first_is x values most list e none small = subst IsPublished (sym e) record {
  board = ap (board_of values) (ap events_in (sym none));
  few = let h = ap length none in omega arith;
  most = small;
  batches = none_good (length values) list.batches none;
}

-- What a function gives for a value that is there.
pub at_some : {X Y : Type 0} (F : X → Option Y) (o : Option X) (r : X) (y : Y) → o ≡ Some r → (elim o as (λ _. Option Y) [ None ↦ None | Some x ↦ F x ]) ≡ Some y → F r ≡ Some y
at_some F o r y e h = subst (λ p. (elim p as (λ _. Option _) [ None ↦ None | Some x ↦ F x ]) ≡ Some y) e h
