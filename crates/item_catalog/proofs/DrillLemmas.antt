-- The deck of a drill is well made and within the limits, for sizes from 1 to 100.
use Rattle.std.proofs.Common.{◌≡◌, ◌<◌, ◌≤◌, ◌-◌, ◌*◌, ◌/◌, ◌^◌, ◌∷◌, [], ℕ, List, Option, length, map, sym, ap, subst, ◌∙◌, arith, inl, refl}
use Rattle.std.specs.Prelude.{All, sum_by}
use Rattle.std.specs.List.{range_with_len}
use Rattle.std.proofs.lemmas.List.Elements.{All-cons, All-map, All-nil, All-replicate, All-weaker}
use Rattle.std.proofs.lemmas.List.FromFn.{length-map-range_with_len}
use Rattle.std.proofs.lemmas.List.Sums.{count_by-le-length, sum_by-le}
use Rattle.rand_pcg.specs.Lcg.{Lcg}
use Rattle.air_base.specs.declared.limits.TheConstants.{MOST_CYCLES}
use Rattle.air_history.specs.UpdateLists.{UpdateLists}
use Rattle.air_model.specs.declared.deck.ReaderPlan.{ReaderPlan}
use Rattle.air_model.specs.declared.deck.Settings.{Settings}
use Rattle.air_model.specs.Disks.{DiskSpec}
use Rattle.air_model.specs.Decks.{Deck, IsDeck, IsQuery, IsUpdate, Item}
use Rattle.air_model.specs.Draws.{Draw, ◌>>=◌, draw, draw_each, generator, gives, go_on}
use Rattle.air_model.specs.Drills.{dealt_to, draw_item, draw_query, draw_update, drill_deck, drill_disks, drill_items, drill_of, drill_script}
use Rattle.item_catalog.specs.DeckLimits.{DiskWithin, ReaderWithin, ReplanWithin, WithinLimits, is_scripted_start}
use Rattle.air_model.proofs.DeckLemmas.{each_edition}
use Rattle.item_catalog.proofs.AroundLemmas.{range_all}
use Rattle.item_catalog.proofs.DealLemmas.{dealt_all, dealt_few, script_fits, script_short}
use Rattle.item_catalog.proofs.DrawLemmas.{draw_below, drawn_all, length-draw_each}
use Rattle.item_catalog.proofs.DrawnLemmas.{query_drawn, query_short, update_drawn}

-- A deck of its parts.
abbrev pub deck_by : List Item → List DiskSpec → List (List UpdateLists) → List ReaderPlan → List (List (List ℕ)) → List (Option ℕ) → Settings → Deck
deck_by items disks updates readers queries script settings = record { items = items; disks = disks; replans = []; updates = updates; readers = readers; queries = queries; script = script; settings = settings }

-- There are as many items, updates and queries of a drill as there must be, and each is within its limits.
pub record AreDrawn (size : ℕ) (items : List Item) (updates : List UpdateLists) (queries : List (List (List ℕ))) : Type 0 where
  pub count : length items ≡ drill_items size
  pub values : All (λ i. i.value < 2 ^ 64) items
  pub rates : All (λ i. i.rate ≤ 1000000) items
  pub update_count : length updates ≡ 10 * size
  pub updates_made : All (IsUpdate (drill_items size)) updates
  pub query_count : length queries ≡ 8
  pub each_count : All (λ asked. length asked ≤ size) queries
  pub queries_made : All (All (IsQuery (drill_items size))) queries
  pub short : All (All (λ items. length items ≤ 16)) queries

three_all : {A : Type 0} (P : A → Type 0) (x y z : A) → P x → P y → P z → All P (x ∷ y ∷ z ∷ [])
three_all P x y z a b c = All-cons P x (y ∷ z ∷ []) a (All-cons P y (z ∷ []) b (All-cons P z [] c (All-nil P)))

disks_all : (P : DiskSpec → Type 0) (n : ℕ) → P (record { size = n / 8; freq = 4 }) → P (record { size = n / 4; freq = 2 }) → P (record { size = n - n / 8 - n / 4; freq = 1 }) → All P (drill_disks n)
disks_all P n a b c = three_all P (record { size = n / 8; freq = 4 }) (record { size = n / 4; freq = 2 }) (record { size = n - n / 8 - n / 4; freq = 1 }) a b c

pub made : (seed size : ℕ) (items : List Item) (updates : List UpdateLists) (queries : List (List (List ℕ))) →
    1 ≤ size → size ≤ 100 → AreDrawn size items updates queries → IsDeck (drill_of seed size items updates queries)
made seed size items updates queries some few d =
    let n = drill_items size in let deck = drill_of seed size items updates queries in
    let each = λ (P : UpdateLists → Type 0) (all : All P updates). All-map (All P) (dealt_to updates) (range_with_len 0 4) (range_all (λ by. All P (dealt_to updates by)) 0 4 (λ by low high. dealt_all P updates by all)) in
    record {
      some = omega (arith, d.count);
      most = omega (arith, d.count);
      values = d.values;
      version = inl refl;
      sizes = each_edition (λ specs. sum_by (λ d. d.size) specs ≡ length items) deck refl (omega (arith, d.count));
      aired = each_edition (All (λ d. (0 < d.size) × (0 < d.freq))) deck refl (disks_all (λ d. (0 < d.size) × (0 < d.freq)) n (omega arith, omega arith) (omega arith, omega arith) (omega arith, omega arith));
      few = omega arith;
      from_two = All-nil (λ r. 2 ≤ r.cycle);
      within_a_run = All-nil (λ r. r.cycle ≤ MOST_CYCLES);
      group = omega arith;
      grouped = inl refl;
      rising = λ i j x less within. absurd (omega arith);
      updates = each (IsUpdate (length items)) (subst (λ m. All (IsUpdate m) updates) (sym d.count) d.updates_made);
      readers = d.query_count;
      tries = All-replicate (λ (r : ReaderPlan). 1 ≤ r.tries) 8 (record { room = 4; age = 8; tries = 3 }) (omega arith);
      queries = subst (λ m. All (All (IsQuery m)) queries) (sym d.count) d.queries_made;
      script = λ by. script_fits updates (10 * size) by d.update_count;
    }

pub within : (seed size : ℕ) (items : List Item) (updates : List UpdateLists) (queries : List (List (List ℕ))) →
    seed < 2 ^ 64 → size ≤ 100 → AreDrawn size items updates queries → WithinLimits (drill_of seed size items updates queries)
within seed size items updates queries seeded few d =
    let n = drill_items size in
    let dealt = map (dealt_to updates) (range_with_len 0 4) in
    let dealers : length dealt ≡ 4 = length-map-range_with_len (dealt_to updates) 0 4 in
    let script = drill_script (10 * size) in
    record {
      rates = d.rates;
      disks = omega arith;
      disk = disks_all DiskWithin n (record { size = omega arith; freq = omega arith }) (record { size = omega arith; freq = omega arith }) (record { size = omega arith; freq = omega arith });
      replans = All-nil ReplanWithin;
      updaters = omega (arith, dealers);
      updates = omega (
        arith,
        dealers,
        d.update_count,
        sum_by-le (λ (own : List UpdateLists). length own) 1000 dealt
            (All-map (λ own. length own ≤ 1000) (dealt_to updates) (range_with_len 0 4) (range_all (λ by. length (dealt_to updates by) ≤ 1000) 0 4 (λ by low high. omega (arith, dealt_few updates by, d.update_count)))),
      );
      readers = omega arith;
      reader = All-replicate ReaderWithin 8 (record { room = 4; age = 8; tries = 3 }) (record { room = omega arith; age = omega arith; tries = omega arith });
      queries = omega (arith, d.query_count, sum_by-le (λ (asked : List (List ℕ)). length asked) 100 queries (All-weaker (λ asked. length asked ≤ size) (λ asked. length asked ≤ 100) (λ asked l. omega arith) queries d.each_count));
      query = d.short;
      script = omega (arith, script_short (10 * size));
      starts = omega (arith, count_by-le-length is_scripted_start script, script_short (10 * size));
      settings = record { group = omega arith; cycles = omega arith; seed = seeded; loss = omega arith; again = omega arith; late = omega arith; monitors = omega arith; some_hears = omega arith; hears = omega arith };
    }

-- What is drawn is like this.
pub drawn : (size : ℕ) (g h k : Lcg) → 1 ≤ size →
    AreDrawn size (draw_each (drill_items size) (λ i. draw_item) g).0 (draw_each (10 * size) (λ u. draw_update (drill_items size)) h).0
    (draw_each 8 (λ r. draw_each size (λ q. draw_query (drill_items size))) k).0
drawn size g h k some =
    let n = drill_items size in
    let queries = λ (r : ℕ). draw_each size (λ (q : ℕ). draw_query n) in
    record {
      count = length-draw_each (λ i. draw_item) n g;
      values = drawn_all (λ i. i.value < 2 ^ 64) (λ i. draw_item) (λ i g. omega (arith, draw_below 1000 g)) n g;
      rates = drawn_all (λ i. i.rate ≤ 1000000) (λ i. draw_item) (λ i g. omega (arith, draw_below 100 (draw 1000 g).1)) n g;
      update_count = length-draw_each (λ u. draw_update n) (10 * size) h;
      updates_made = drawn_all (IsUpdate n) (λ u. draw_update n) (λ u g. update_drawn n g (omega arith)) (10 * size) h;
      query_count = length-draw_each queries 8 k;
      each_count = drawn_all (λ asked. length asked ≤ size) queries (λ r g. omega (arith, length-draw_each (λ q. draw_query n) size g)) 8 k;
      queries_made = drawn_all (All (IsQuery n)) queries (λ r g. drawn_all (IsQuery n) (λ q. draw_query n) (λ q g. query_drawn size g some) size g) 8 k;
      short = drawn_all (All (λ items. length items ≤ 16)) queries (λ r g. drawn_all (λ items. length items ≤ 16) (λ q. draw_query n) (λ q g. query_short n g) size g) 8 k;
    }

-- The deck by the draws one after another.
pub deck_drawn : (seed size : ℕ) (items : List Item) (updates : List UpdateLists) (queries : List (List (List ℕ))) (first second last : Lcg) →
    draw_each (drill_items size) (λ i. draw_item) (generator seed 1) ≡ (items, first) →
    draw_each (10 * size) (λ u. draw_update (drill_items size)) first ≡ (updates, second) →
    draw_each 8 (λ r. draw_each size (λ q. draw_query (drill_items size))) second ≡ (queries, last) →
    drill_deck seed size ≡ drill_of seed size items updates queries
unfolding drill_deck
deck_drawn seed size items updates queries first second last e f h =
    let n = drill_items size in
    let asked : List Item → List UpdateLists → Draw Deck = λ items updates. (draw_each 8 (λ r. draw_each size (λ q. draw_query n)) >>= (λ queries. gives (drill_of seed size items updates queries))) in
    let rest : List Item → Draw Deck = λ items. (draw_each (10 * size) (λ u. draw_update n) >>= asked items) in
    ap (λ p. (go_on p rest).0) e ∙ ap (λ p. (go_on p (asked items)).0) f ∙ ap (λ p. (go_on p (λ queries. gives (drill_of seed size items updates queries))).0) h

pub drill_made : (seed size : ℕ) → seed < 2 ^ 64 → 1 ≤ size → size ≤ 100 → IsDeck (drill_deck seed size) × WithinLimits (drill_deck seed size)
unfolding drill_deck
drill_made seed size seeded some few =
    let first = draw_each (drill_items size) (λ (i : ℕ). draw_item) (generator seed 1) in
    let second = draw_each (10 * size) (λ (u : ℕ). draw_update (drill_items size)) first.1 in
    let third = draw_each 8 (λ (r : ℕ). draw_each size (λ (q : ℕ). draw_query (drill_items size))) second.1 in
    let d = drawn size (generator seed 1) first.1 second.1 some in
    (made seed size first.0 second.0 third.0 some few d, within seed size first.0 second.0 third.0 seeded few d)

-- Two decks whose parts are equal.
pub same_parts : {items : List Item} {disks other_disks : List DiskSpec} {updates other_updates : List (List UpdateLists)} {readers other_readers : List ReaderPlan}
    {queries : List (List (List ℕ))} {script other_script : List (Option ℕ)} {settings other_settings : Settings} →
    disks ≡ other_disks → updates ≡ other_updates → readers ≡ other_readers → script ≡ other_script → settings ≡ other_settings →
    deck_by items disks updates readers queries script settings ≡ deck_by items other_disks other_updates other_readers queries other_script other_settings
same_parts {items} {queries = queries} a b c d e = cc
