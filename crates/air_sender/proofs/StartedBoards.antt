-- The board of a history that ends with a start: it is the board of what came before, in the next cycle.
-- `own_cycle` and `below` are the two laws that the sender depends on.
use Rattle.std.proofs.Common.{◌≡◌, ℕ, zero, suc, ◌+◌, ◌<◌, Bool, true, false, cond, Option, Some, None, List, [], ◌∷◌, ◌++◌, length, map, get_or, refl, sym, ◌∙◌, ap, subst, arith}
use Rattle.std.specs.Prelude.{All, IfSome}
use Rattle.std.specs.List.{range_with_len}
use Rattle.std.specs.Option.{option_map_or}
use Rattle.std.proofs.lemmas.Bool.{ltb-true}
use Rattle.std.proofs.lemmas.List.Elements.{All-nil}
use Rattle.std.proofs.lemmas.List.Sums.{sum_by-cons}
use Rattle.std.proofs.lemmas.List.FromFn.{fill_by_all, get_or-map-range_with_len, length-map-range_with_len}
use Rattle.air_base.specs.declared.verdicts.Policy.{Policy}
use Rattle.air_base.specs.declared.verdicts.Policy.TheVariants.{FMatrix, Datacycle, RMatrix}
use Rattle.air_history.specs.UpdateLists.{UpdateLists}
use Rattle.air_history.specs.declared.histories.Event.{Event}
use Rattle.air_history.specs.declared.histories.Event.TheVariants.{Commit, Start}
use Rattle.air_history.specs.Histories.{ItemsFit, cycle_at, front, is_start, starts, writer}
use Rattle.air_history.specs.Columns.{Scheme, airs_groups, column, column_entry, group_column, group_entry, group_of, has_groups, policy_entries, vector, vector_entry}
use Rattle.air_history.specs.Reads.{read_value}
use Rattle.air_history.specs.Tables.{BasesRead, table, table_list, values_of}
use Rattle.air_history.specs.Boards.{Board, board_of, columns}
use Rattle.air_history.proofs.GroupLemmas.{greatest_of_below}
use Rattle.air_history.proofs.PlaceLemmas.{greatest_below}
use Rattle.air_history.proofs.HistoryLemmas.{front_cycle, front_cycle_same, writer_before_some}
use Rattle.control_matrix.proofs.BoardLemmas.{board_push, start_board}
use Rattle.group_matrix.specs.GroupBoards.{grouped, item_column}
use Rattle.group_matrix.proofs.GroupLemmas.{of_events}
use Rattle.air_model.specs.Buckets.{Body, Bucket, capped_bucket}
use Rattle.air_model.specs.Aired.{Air, SlotsFit, aired_as, body_of, bucket_of, edition_at, slots_at}
use Rattle.air_model.proofs.CapLemmas.{at_or_none}
use Rattle.air_sender.specs.BoardBuckets.{EntriesBelow, aired_board, spread, board_buckets, body_on, bucket_on, entries_on, form_of}

-- ---- the front of the last cycle

starts_start : (G : List Event) → starts (Start ∷ G) ≡ 1 + starts G
unfolding starts is_start
starts_start G = sum_by-cons (λ e. cond (is_start e) 1 0) Start G

starts_commit : (G : List Event) (by seq : ℕ) (update : UpdateLists) → starts (Commit by seq update ∷ G) ≡ 0 + starts G
unfolding starts is_start
starts_commit G by seq update = sum_by-cons (λ e. cond (is_start e) 1 0) (Commit by seq update) G

no_starts : starts [] ≡ 0
unfolding starts
no_starts = refl

front_at : (G : List Event) (c : ℕ) → c ≡ starts G → front (G ++ Start ∷ []) (suc c) ≡ G
unfolding front
front_at [] zero e = refl
front_at [] (suc c) e = absurd (omega (arith, no_starts))
front_at (Start ∷ G) zero e = absurd (omega (arith, starts_start G))
front_at (Start ∷ G) (suc c) e = ap (λ t. Start ∷ t) (front_at G c (omega (arith, starts_start G)))
front_at (Commit by seq update ∷ G) c e = ap (λ t. Commit by seq update ∷ t) (front_at G c (omega (arith, starts_commit G by seq update)))

-- The front of the cycle that a start begins is what came before it.
pub front_started : (G : List Event) → front (G ++ Start ∷ []) (starts G + 1) ≡ G
front_started G = ap (front (G ++ Start ∷ [])) (let e : starts G + 1 ≡ suc (starts G) = omega arith in e) ∙ front_at G (starts G) refl

-- ---- the board

-- The board of a list of events, in the next cycle.
abbrev pub next_cycle : List ℕ → List Event → Board
next_cycle values G = record { cycle = starts G + 1; values = table_list values G; columns = columns (length values) G; vector = vector (length values) G }

pub started : (values : List ℕ) (G : List Event) → board_of values (G ++ Start ∷ []) ≡ next_cycle values G
unfolding ItemsFit BasesRead is_start
started values G =
    let n = length values in
    let sized : length (table_list values G) ≡ n = length-map-range_with_len (table (values_of values) G) 0 n in
    sym (board_push values G Start tt tt)
    ∙ start_board (board_of values G) Start refl
    (length-map-range_with_len (column n G) 0 n ∙ sym sized)
    (length-map-range_with_len (vector_entry G) 0 n ∙ sym sized)

pub starts_push : (values : List ℕ) (G : List Event) → starts (G ++ Start ∷ []) ≡ starts G + 1
starts_push values G = ap (λ (b : Board). b.cycle) (started values G)

-- ---- what the board airs is what the history airs

-- An item's body, by a list of events that comes before the cycle.
body_by : Policy → List ℕ → ℕ → List Event → ℕ → Body
body_by FMatrix values n G item = aired_as FMatrix item (table (values_of values) G item) (column n G item)
body_by Datacycle values n G item = aired_as Datacycle item (table (values_of values) G item) (vector n G)
body_by RMatrix values n G item = aired_as RMatrix item (table (values_of values) G item) (vector n G)

history_body : (p : Policy) (values : List ℕ) (n : ℕ) (H : List Event) (c item : ℕ) →
    aired_as p item (read_value (values_of values) H (record { item = item; cycle = c })) (policy_entries p n H c item) ≡ body_by p values n (front H c) item
unfolding body_by
history_body FMatrix values n H c item = refl
history_body Datacycle values n H c item = refl
history_body RMatrix values n H c item = refl

board_body : (p : Policy) (values : List ℕ) (G : List Event) (item : ℕ) → item < length values →
    body_on p (next_cycle values G) (Some item) ≡ body_by p values (length values) G item
unfolding body_on body_by
board_body p values G item l = ap (λ v. aired_as p item v (entries_on p (next_cycle values G) item)) (get_or-map-range_with_len (table (values_of values) G) 0 (length values) item item 0 l (omega arith)) ∙ by p
  where
    by : (p : Policy) → aired_as p item (table (values_of values) G item) (entries_on p (next_cycle values G) item) ≡ body_by p values (length values) G item
    by FMatrix = ap (aired_as FMatrix item (table (values_of values) G item)) (get_or-map-range_with_len (column (length values) G) 0 (length values) item item [] l (omega arith))
    by Datacycle = refl
    by RMatrix = refl

-- The body of a slot with an item, where the scheme airs by groups or not.
told_body : Bool → List ℕ → Air → List Event → ℕ → ℕ → Body
told_body b values air H c item = aired_as air.scheme.policy item (read_value (values_of values) H (record { item = item; cycle = c }))
    (cond b (group_column air.scheme.group air.items (front H c) item) (policy_entries air.scheme.policy air.items H c item))

plain_body : (values : List ℕ) (air : Air) (G : List Event) (item : ℕ) → air.items ≡ length values → item < air.items →
    body_on air.scheme.policy (next_cycle values G) (Some item) ≡ told_body false values air (G ++ Start ∷ []) (starts G + 1) item
unfolding told_body
plain_body values air G item n h =
    board_body air.scheme.policy values G item (omega arith)
    ∙ ap (λ k. body_by air.scheme.policy values k G item) (sym n)
    ∙ ap (λ F. body_by air.scheme.policy values air.items F item) (sym (front_started G))
    ∙ sym (history_body air.scheme.policy values air.items (G ++ Start ∷ []) (starts G + 1) item)

-- Groups come under F-Matrix.
grouped_policy : (p : Policy) (g : ℕ) → airs_groups p g ≡ true → (p ≡ FMatrix) × (0 < g)
grouped_policy FMatrix g e = (refl, ltb-true 0 g e)
grouped_policy Datacycle g e = cc
grouped_policy RMatrix g e = cc

-- By groups an item is aired with its group column.
spread_column : (values : List ℕ) (G : List Event) (g item : ℕ) → 0 < g → item < length values →
    get_or (spread (grouped g (next_cycle values G))).columns item [] ≡ group_column g (length values) G item
spread_column values G g item pos inside =
    let sized : length (table_list values G) ≡ length values = length-map-range_with_len (table (values_of values) G) 0 (length values) in
    get_or-map-range_with_len (item_column (grouped g (next_cycle values G))) 0 (length (table_list values G)) item item [] (omega arith) (omega arith)
    ∙ (of_events g values G pos).columns item inside

group_body : (values : List ℕ) (air : Air) (G : List Event) (item : ℕ) → has_groups air.scheme ≡ true → air.items ≡ length values → item < air.items →
    body_on air.scheme.policy (spread (grouped air.scheme.group (next_cycle values G))) (Some item) ≡ told_body true values air (G ++ Start ∷ []) (starts G + 1) item
unfolding body_on told_body
group_body values air G item groups n h =
    let g = air.scheme.group in
    let p = grouped_policy air.scheme.policy g groups in
    let board = spread (grouped g (next_cycle values G)) in
    ap (λ v. aired_as air.scheme.policy item v (entries_on air.scheme.policy board item)) (get_or-map-range_with_len (table (values_of values) G) 0 (length values) item item 0 (omega arith) (omega arith))
    ∙ ap (λ F. aired_as air.scheme.policy item (table (values_of values) F item) (entries_on air.scheme.policy board item)) (sym (front_started G))
    ∙ ap (aired_as air.scheme.policy item (table (values_of values) (front (G ++ Start ∷ []) (starts G + 1)) item))
    (ap (λ q. entries_on q board item) p.0 ∙ spread_column values G g item p.1 (omega arith) ∙ ap (λ k. group_column g k G item) (sym n)
    ∙ ap (λ F. group_column g air.items F item) (sym (front_started G)))

-- What is aired from, as a choice.
chosen : Bool → Scheme → Board → Board
chosen b scheme board = cond b (spread (grouped scheme.group board)) board

chosen_cycle : (b : Bool) (scheme : Scheme) (board : Board) → (chosen b scheme board).cycle ≡ board.cycle
unfolding chosen
chosen_cycle true scheme board = refl
chosen_cycle false scheme board = refl

slot_body : (b : Bool) (values : List ℕ) (air : Air) (G : List Event) (o : Option ℕ) → has_groups air.scheme ≡ b → air.items ≡ length values → IfSome o (λ i. i < air.items) →
    body_on air.scheme.policy (chosen b air.scheme (next_cycle values G)) o ≡ body_of values air (G ++ Start ∷ []) (starts G + 1) o
unfolding body_on body_of told_body chosen
slot_body true values air G None groups n h = ap (λ k. let y : Body = Rattle.air_model.specs.Buckets.Idle k in y) (length-map-range_with_len (table (values_of values) G) 0 (length values) ∙ sym n)
slot_body false values air G None groups n h = ap (λ k. let y : Body = Rattle.air_model.specs.Buckets.Idle k in y) (length-map-range_with_len (table (values_of values) G) 0 (length values) ∙ sym n)
slot_body true values air G (Some item) groups n h = group_body values air G item groups n h ∙ ap (λ b. told_body b values air (G ++ Start ∷ []) (starts G + 1) item) (sym groups)
slot_body false values air G (Some item) groups n h = plain_body values air G item n h ∙ ap (λ b. told_body b values air (G ++ Start ∷ []) (starts G + 1) item) (sym groups)

slot_bucket : (b : Bool) (values : List ℕ) (air : Air) (G : List Event) (e s : ℕ) (slots : List (Option ℕ)) → has_groups air.scheme ≡ b → air.items ≡ length values → e ≡ edition_at air (starts G + 1)
    → slots ≡ slots_at air (starts G + 1) → IfSome (get_or slots s None) (λ i. i < air.items)
    → bucket_on (form_of air) e slots (chosen b air.scheme (next_cycle values G)) s ≡ bucket_of values air (G ++ Start ∷ []) air.version (starts G + 1) s
unfolding bucket_on bucket_of
slot_bucket b values air G e s slots groups n edition own h =
    let c = starts G + 1 in
    ap (λ k. capped_bucket (record { version = air.version; edition = e; cycle = k; slot = s; body = body_on air.scheme.policy (chosen b air.scheme (next_cycle values G)) (get_or slots s None) })) (chosen_cycle b air.scheme (next_cycle values G))
    ∙ ap (λ y. capped_bucket (record { version = air.version; edition = e; cycle = c; slot = s; body = y })) (slot_body b values air G (get_or slots s None) groups n h
    ∙ ap (λ xs. body_of values air (G ++ Start ∷ []) c (get_or xs s None)) own)
    ∙ ap (λ k. capped_bucket (record { version = air.version; edition = k; cycle = c; slot = s; body = body_of values air (G ++ Start ∷ []) c (get_or (slots_at air c) s None) })) edition

-- The statement of `own_cycle_law`, for those who take it from there.
abbrev pub OwnCycleLaw : Type 0
OwnCycleLaw = (values : List ℕ) (air : Air) (G : List Event) → air.items ≡ length values → SlotsFit air →
    board_buckets (form_of air) (edition_at air (starts (G ++ Start ∷ []))) (slots_at air (starts (G ++ Start ∷ []))) (aired_board air.scheme (board_of values (G ++ Start ∷ [])))
    ≡ map (bucket_of values air (G ++ Start ∷ []) air.version (starts (G ++ Start ∷ []))) (range_with_len 0 (length (slots_at air (starts (G ++ Start ∷ [])))))

-- A cycle's slots have items of the catalog.
slots_fit : (air : Air) (c : ℕ) → SlotsFit air → All (λ o. IfSome o (λ i. i < air.items)) (slots_at air c)
slots_fit air c fit = at_or_none (All (λ o. IfSome o (λ i. i < air.items))) air.slots (edition_at air c) fit (All-nil _)

-- The bucket of a slot of what is aired from.
told_slot : (values : List ℕ) (air : Air) (G : List Event) (e s : ℕ) (slots : List (Option ℕ)) → air.items ≡ length values → e ≡ edition_at air (starts G + 1)
    → slots ≡ slots_at air (starts G + 1) → IfSome (get_or slots s None) (λ i. i < air.items)
    → bucket_on (form_of air) e slots (aired_board air.scheme (next_cycle values G)) s ≡ bucket_of values air (G ++ Start ∷ []) air.version (starts G + 1) s
unfolding chosen
told_slot values air G e s slots n edition own h = slot_bucket (has_groups air.scheme) values air G e s slots refl n edition own h

-- The same, if the slots of this one cycle have items of the catalog.
pub last_cycle : (values : List ℕ) (air : Air) (G : List Event) → air.items ≡ length values → All (λ o. IfSome o (λ i. i < air.items)) (slots_at air (starts (G ++ Start ∷ []))) →
    board_buckets (form_of air) (edition_at air (starts (G ++ Start ∷ []))) (slots_at air (starts (G ++ Start ∷ []))) (aired_board air.scheme (board_of values (G ++ Start ∷ [])))
    ≡ map (bucket_of values air (G ++ Start ∷ []) air.version (starts (G ++ Start ∷ []))) (range_with_len 0 (length (slots_at air (starts (G ++ Start ∷ [])))))
last_cycle values air G n fit =
    let H = G ++ Start ∷ [] in
    let c = starts H in
    let e = edition_at air c in
    let slots = slots_at air c in
    let now = aired_board air.scheme (next_cycle values G) in
    let on : ℕ → Bucket = bucket_on (form_of air) e slots now in
    let push : c ≡ starts G + 1 = starts_push values G in
    ap (λ b. board_buckets (form_of air) e slots (aired_board air.scheme b)) (started values G)
    ∙ fill_by_all (bucket_of values air H air.version (starts G + 1)) (map on (range_with_len 0 (length slots))) (length slots) (on 0)
    (length-map-range_with_len on 0 (length slots))
    (λ s l. get_or-map-range_with_len on 0 (length slots) s s _ l (omega arith)
    ∙ told_slot values air G e s slots n (ap (edition_at air) push) (ap (slots_at air) push) (fit s None l))
    ∙ ap (λ c. map (bucket_of values air H air.version c) (range_with_len 0 (length slots))) (sym push)

pub own_cycle : OwnCycleLaw
own_cycle values air G n fit = last_cycle values air G n (slots_fit air (starts (G ++ Start ∷ [])) fit)

-- ---- its entries are below the cycle

place_below : (G : List Event) (p : ℕ) → p < length G → cycle_at G p < starts G + 1
place_below G p l =
    let H = G ++ Start ∷ [] in
    let whole : length (front H (starts G + 1)) ≡ length G = ap length (front_started G) in
    let low : cycle_at H p < starts G + 1 = front_cycle H (starts G + 1) p (omega arith) in
    let same : cycle_at (front H (starts G + 1)) p ≡ cycle_at H p = front_cycle_same H (starts G + 1) p (omega arith) in
    subst (λ F. cycle_at F p < starts G + 1) (front_started G) (omega arith)

column_below : (G : List Event) (j i : ℕ) → column_entry G j i < starts G + 1
unfolding column_entry
column_below G j i = greatest_below (length G) _ (cycle_at G) (starts G + 1) (omega arith) (λ p l e. place_below G p l)

vector_below : (G : List Event) (i : ℕ) → vector_entry G i < starts G + 1
unfolding vector_entry writer
vector_below G i = by (writer G i) refl
  where
    by : (o : Option ℕ) → writer G i ≡ o → option_map_or (cycle_at G) o 0 < starts G + 1
    by None e = omega arith
    by (Some w) e = place_below G w ((writer_before_some G (length G) i w e).0)

group_below : (g n : ℕ) (G : List Event) (j i : ℕ) → group_entry g n G j i < starts G + 1
unfolding group_entry
group_below g n G j i = greatest_of_below (λ q. column_entry G q i) (starts G + 1) (group_of g n j) (omega arith) (λ q. column_below G q i)

row_below : {X : Type 0} (P : X → Type 0) (f : ℕ → X) (n : ℕ) → ((i : ℕ) → P (f i)) → All P (map f (range_with_len 0 n))
row_below P f n h k d l =
    let within : k < n = omega (arith, length-map-range_with_len f 0 n) in
    subst P (sym (get_or-map-range_with_len f 0 n k k d within (omega arith))) (h k)

pub below : (values : List ℕ) (G : List Event) → EntriesBelow (board_of values (G ++ Start ∷ []))
below values G = subst EntriesBelow (sym (started values G)) (record {
  columns = row_below (All (λ e. e < starts G + 1)) (column (length values) G) (length values) (λ j. row_below (λ e. e < starts G + 1) (column_entry G j) (length values) (column_below G j));
  vector = row_below (λ e. e < starts G + 1) (vector_entry G) (length values) (vector_below G);
})

-- So are those by groups.
pub groups_below : (g : ℕ) (values : List ℕ) (G : List Event) → 0 < g → EntriesBelow (spread (grouped g (board_of values (G ++ Start ∷ []))))
groups_below g values G pos = subst (λ b. EntriesBelow (spread (grouped g b))) (sym (started values G)) (record {
  columns = λ j d l.
      let n = length values in
      let many : length (table_list values G) ≡ n = length-map-range_with_len (table (values_of values) G) 0 n in
      let each = length-map-range_with_len (item_column (grouped g (next_cycle values G))) 0 (length (table_list values G)) in
      let inside : j < n = omega arith in
      let at : get_or (spread (grouped g (next_cycle values G))).columns j d ≡ group_column g n G j =
      get_or-map-range_with_len (item_column (grouped g (next_cycle values G))) 0 (length (table_list values G)) j j d (omega arith) (omega arith)
      ∙ (of_events g values G pos).columns j inside in
      subst (All (λ e. e < starts G + 1)) (sym at) (row_below (λ e. e < starts G + 1) (group_entry g n G j) n (group_below g n G j));
  vector = All-nil (λ e. e < starts G + 1);
})
