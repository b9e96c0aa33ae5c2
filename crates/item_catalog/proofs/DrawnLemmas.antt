-- An update of a drill keeps the rules of updates, and a query of a drill those of queries.
use Rattle.std.proofs.Common.{◌≡◌, ◌<◌, ◌≤◌, ◌+◌, ◌*◌, ◌^◌, ◌%◌, ℕ, List, Some, None, Bool, true, false, length, map, get_or, refl, sym, ap, ◌∙◌, arith, cond}
use Rattle.std.specs.Prelude.{◌==◌, All}
use Rattle.std.specs.List.{list_all, range_with_len}
use Rattle.std.proofs.Math.Nat.{mod-lt}
use Rattle.std.proofs.lemmas.Bool.{eq-eqb, eqb-false, le-leb}
use Rattle.std.proofs.lemmas.List.Elements.{All-weaker}
use Rattle.std.proofs.lemmas.List.Folds.{list_any_at}
use Rattle.std.proofs.lemmas.List.FromFn.{get_or-map-range_with_len}
use Rattle.std.proofs.lemmas.List.Sums.{list_all-from_AllPass}
use Rattle.rand_pcg.specs.Lcg.{Lcg}
use Rattle.air_history.specs.declared.updates.Write.{Write}
use Rattle.air_history.specs.UpdateLists.{UpdateLists}
use Rattle.air_history.specs.UpdateRules.{base_holds, base_is_read, has_repeat, update_fault, written_item}
use Rattle.air_model.specs.Decks.{IsQuery, IsUpdate}
use Rattle.air_model.specs.Draws.{Draw, ◌>>=◌, draw, draw_each, gives, go_on}
use Rattle.air_model.specs.Drills.{around, base_in_turn, draw_query, draw_update, draw_write}
use Rattle.item_catalog.proofs.AroundLemmas.{around_within, length-around, no_neighbour_around, no_neighbour_twice, no_seventh_twice}
use Rattle.item_catalog.proofs.DrawLemmas.{draw_below, drawn_all, drawn_parts, length-draw_each}

-- A write of an update that reads these items.
record WriteMade (n : ℕ) (reads : List ℕ) (w : Write) : Type 0 where
  item : w.item < n
  base : base_is_read reads w ≡ true
  amount : w.amount < 2 ^ 64

based : (n k a t : ℕ) → base_holds (around n a 1 k) false (base_in_turn n k a t) ≡ true
based n k a t = by (k == 0) refl
  where
    by : (none : Bool) → (k == 0) ≡ none → base_holds (around n a 1 k) false (cond none None (Some ((a + t % k) % n))) ≡ true
    by true e = refl
    by false e =
        let some : 0 < k = omega (arith, eqb-false k 0 e) in
        let turn : t % k < k = mod-lt t some in
        let one : 1 * (t % k) ≡ t % k = omega arith in
        let item = get_or-map-range_with_len (λ t. (a + 1 * t) % n) 0 k (t % k) (t % k) 0 turn (omega arith) ∙ ap (λ x. (a + x) % n) one in
        list_any_at (λ r. r == (a + t % k) % n) (around n a 1 k) (t % k) 0 (omega (arith, length-around n a 1 k)) (eq-eqb (get_or (around n a 1 k) (t % k) 0) ((a + t % k) % n) item)

write_made : (n k a b t : ℕ) (g : Lcg) → 0 < n → WriteMade n (around n a 1 k) (draw_write n k a b t g).0
write_made n k a b t g some = record { item = mod-lt (b + t) some; base = based n k a t; amount = omega (arith, draw_below 100 g) }

rules : (reads : List ℕ) (writes : List Write) → length reads ≤ 16 → 1 ≤ length writes → length writes ≤ 16 → has_repeat reads ≡ false → has_repeat (map written_item writes) ≡ false
    → list_all (base_is_read reads) writes ≡ true → update_fault reads writes ≡ None
unfolding update_fault
rules reads writes few some most a b c = rw (le-leb _ _ few, le-leb _ _ some, le-leb _ _ most, a, b, c) refl

-- An update from what was drawn for it.
update_by : (n k a more b : ℕ) (g : Lcg) → 4 < n → k < 3 → a < n → more < 2 → b < n →
    IsUpdate n (record { reads = around n a 1 k; writes = (draw_each (1 + more) (draw_write n k a b) g).0 })
update_by n k a more b g wide few_reads first few_writes first_write =
    let reads = around n a 1 k in let one = draw_write n k a b in let writes = (draw_each (1 + more) one g).0 in
    let made : All (WriteMade n reads) writes = drawn_all (WriteMade n reads) one (λ t h. write_made n k a b t h (omega arith)) (1 + more) g in
    let items : map written_item writes ≡ map (λ t. (b + t) % n) (range_with_len 0 (1 + more)) = drawn_parts written_item (λ t. (b + t) % n) one (λ t h. refl) (1 + more) g in
    let count = length-draw_each one (1 + more) g in
    record {
      rules = rules reads writes (omega (arith, length-around n a 1 k)) (omega (arith, count)) (omega (arith, count))
          (no_neighbour_around n a k first wide (omega arith))
          (ap has_repeat items ∙ no_neighbour_twice n b (1 + more) first_write wide (omega arith))
          (list_all-from_AllPass (base_is_read reads) writes (All-weaker (WriteMade n reads) (λ w. base_is_read reads w ≡ true) (λ w m. m.base) writes made));
      fits = record {
        reads = around_within n a 1 k (omega arith);
        writes = All-weaker (WriteMade n reads) (λ w. w.item < n) (λ w m. m.item) writes made;
      };
      amounts = All-weaker (WriteMade n reads) (λ w. w.amount < 2 ^ 64) (λ w m. m.amount) writes made;
    }

pub update_drawn : (n : ℕ) (g : Lcg) → 4 < n → IsUpdate n (draw_update n g).0
unfolding draw_update
update_drawn n g wide =
    let k = draw 3 g in let a = draw n k.1 in let more = draw 2 a.1 in let b = draw n more.1 in
    update_by n k.0 a.0 more.0 b.0 b.1 wide (draw_below 3 g (omega arith)) (draw_below n k.1 (omega arith)) (draw_below 2 a.1 (omega arith)) (draw_below n more.1 (omega arith))

pub query_drawn : (size : ℕ) (g : Lcg) → 1 ≤ size → IsQuery (16 + 2 * size) (draw_query (16 + 2 * size) g).0
unfolding draw_query
query_drawn size g some =
    let n = 16 + 2 * size in
    let more = draw 4 g in let q = draw n more.1 in
    let few : more.0 < 4 = draw_below 4 g (omega arith) in
    record {
      filled = omega (arith, length-around n q.0 7 (1 + more.0));
      distinct = no_seventh_twice size q.0 (1 + more.0) (draw_below n more.1 (omega arith)) some (omega arith);
      within = around_within n q.0 7 (1 + more.0) (omega arith);
    }

pub query_short : (n : ℕ) (g : Lcg) → length (draw_query n g).0 ≤ 16
unfolding draw_query
query_short n g = let more = draw 4 g in omega (arith, draw_below 4 g, length-around n (draw n more.1).0 7 (1 + more.0))

-- ---- one draw after another

pub query_told : (n more q : ℕ) (g second last : Lcg) → draw 4 g ≡ (more, second) → draw n second ≡ (q, last) → draw_query n g ≡ (around n q 7 (1 + more), last)
unfolding draw_query
query_told n more q g second last e f =
    let asked : ℕ → ℕ → Draw (List ℕ) = λ more q. gives (around n q 7 (1 + more)) in
    let rest : ℕ → Draw (List ℕ) = λ more. (draw n >>= asked more) in
    ap (λ p. go_on p rest) e ∙ ap (λ p. go_on p (asked more)) f

pub update_told : (n k a more b : ℕ) (writes : List Write) (g g1 g2 g3 g4 last : Lcg) → draw 3 g ≡ (k, g1) → draw n g1 ≡ (a, g2) → draw 2 g2 ≡ (more, g3) → draw n g3 ≡ (b, g4) →
    draw_each (1 + more) (draw_write n k a b) g4 ≡ (writes, last) → draw_update n g ≡ (record { reads = around n a 1 k; writes = writes }, last)
unfolding draw_update
update_told n k a more b writes g g1 g2 g3 g4 last e1 e2 e3 e4 e5 =
    let done : ℕ → ℕ → List Write → Draw UpdateLists = λ k a writes. gives (record { reads = around n a 1 k; writes = writes }) in
    let fourth : ℕ → ℕ → ℕ → ℕ → Draw UpdateLists = λ k a more b. (draw_each (1 + more) (draw_write n k a b) >>= done k a) in
    let third : ℕ → ℕ → ℕ → Draw UpdateLists = λ k a more. (draw n >>= fourth k a more) in
    let second : ℕ → ℕ → Draw UpdateLists = λ k a. (draw 2 >>= third k a) in
    let first : ℕ → Draw UpdateLists = λ k. (draw n >>= second k) in
    ap (λ p. go_on p first) e1 ∙ ap (λ p. go_on p (second k)) e2 ∙ ap (λ p. go_on p (third k a)) e3 ∙ ap (λ p. go_on p (fourth k a more)) e4 ∙ ap (λ p. go_on p (done k a)) e5

-- An update from what was drawn for it keeps the rules.
pub drawn_keeps : (n : ℕ) (reads : List ℕ) (writes : List Write) (g last : Lcg) → 4 < n → draw_update n g ≡ (record { reads = reads; writes = writes }, last) → update_fault reads writes ≡ None
drawn_keeps n reads writes g last wide told = ap (λ (p : UpdateLists × Lcg). update_fault p.0.reads p.0.writes) (sym told) ∙ (update_drawn n g wide).rules
