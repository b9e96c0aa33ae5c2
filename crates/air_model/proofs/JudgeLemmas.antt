-- A list that a history aired has one session, by either judge. On reads of the history the judges' clashes are equal; then
-- each rule gives equal states.
use Rattle.std.proofs.Common.{◌≡◌, ℕ, zero, suc, ◌-◌, ◌<◌, ◌≤◌, max, Bool, true, false, cond, ◌||◌, nat_lt, Option, Some, None, List, [], ◌∷◌, ◌++◌, length, map, get_or, All, refl, sym, ◌∙◌, ap, subst, arith}
use Rattle.std.specs.Prelude.{AllPairs, IfSome, IsTrue, sum_by}
use Rattle.std.specs.Option.{is_some}
use Rattle.std.specs.Fn.{iterate}
use Rattle.std.proofs.lemmas.Bool.{leb-false, lt-leb, ltb-false}
use Rattle.std.proofs.lemmas.Simd.{map-map}
use Rattle.std.proofs.lemmas.List.{map-append}
use Rattle.std.proofs.lemmas.List.Elements.{All-head, All-tail, All-push, All-nil, All-map}
use Rattle.std.proofs.lemmas.List.Quantifiers.{all_pairs_push}
use Rattle.air_base.specs.declared.verdicts.Policy.{Policy}
use Rattle.air_base.specs.declared.verdicts.Policy.TheVariants.{FMatrix, Datacycle, RMatrix}
use Rattle.air_base.specs.declared.verdicts.Clash.{Clash}
use Rattle.air_base.specs.declared.verdicts.VerdictKind.{VerdictKind}
use Rattle.air_base.specs.declared.verdicts.VerdictKind.TheVariants.{Accept, Abort, Aged, Unfinished}
use Rattle.air_base.specs.declared.verdicts.ReadOf.{ReadOf}
use Rattle.air_history.specs.declared.histories.Event.{Event}
use Rattle.air_history.specs.Columns.{aired_entries}
use Rattle.air_history.specs.Tables.{values_of}
use Rattle.air_history.specs.Reads.{ReadAt, read_value, last_cycle}
use Rattle.air_history.specs.Clashes.{read_at, is_late, clash_by_entries, clash_of}
use Rattle.air_history.specs.ClashLaws.{IsAllowed}
use Rattle.air_history.proofs.ClashLemmas.{clash_told, cond_same}
use Rattle.air_model.specs.Buckets.{Bucket, capped_body, has_ages}
use Rattle.air_model.specs.Reads.{Read}
use Rattle.air_model.specs.Aired.{Air, fits, body_of, aired_as, bucket_of, edition_at, slots_at, IsAiredBucket, SlotsFit, IsAired}
use Rattle.air_model.specs.Judges.{place_of, heard_of, by_history, by_entries}
use Rattle.air_model.specs.Sessions.{Reader, SessionLine, State, start, read_in, is_wanted, wanted, comes_aged, comes_late, query_of, next_query, next_attempt, copy_of, drop_copy, offer, line_of, with_line, count_copied, count_opened, accept_if_whole, hold, abort, is_unusable, turn_with, turn, settle, decide, end_aged, judge_read, open_bucket, hear_read, hear, hear_all, end_query, end, session}
use Rattle.air_model.specs.SessionLaws.{QueriesFilled, are_far}
use Rattle.air_model.proofs.AiredLemmas.{fit_parts}
use Rattle.air_model.proofs.CapLemmas.{at_or_none}
use Rattle.air_model.proofs.HeardLemmas.{MayBeHeard, has_capped, has_full, have_aired, told_by}
use Rattle.air_model.proofs.MomentLemmas.{Good, Keeps, Gives, lies_far, turn_good, settle_good, hear_good, hear_all_good, end_query_good, start_good, copy_of_is}

-- The read is one of H: it has H's value, and the entries that were aired with it, in full or, if the air has ages, as ages
-- give them.
pub record IsReadOf (values : List ℕ) (air : Air) (H : List Event) (x : Read) : Type 0 where
  pub value : x.value ≡ read_value (values_of values) H (place_of x)
  pub heard : MayBeHeard air.scheme air.version air.items H (heard_of x)

-- ---- the clashes

at_most_last : (R : List ReadAt) → AllPairs (λ r s. r.cycle ≤ s.cycle) R → All (λ r. r.cycle ≤ last_cycle R) R
at_most_last [] h k d l = absurd (omega arith)
at_most_last (r ∷ []) h zero d l = omega arith
at_most_last (r ∷ []) h (suc k) d l = absurd (omega arith)
at_most_last (r ∷ s ∷ R) h zero d l =
    let a : r.cycle ≤ s.cycle = h 0 1 d (omega arith) (omega arith) in
    let b : s.cycle ≤ last_cycle (s ∷ R) = at_most_last (s ∷ R) (λ i j d a b. h (suc i) (suc j) d (omega arith) (omega arith)) 0 d (omega arith) in
    omega arith
at_most_last (r ∷ s ∷ R) h (suc k) d l = at_most_last (s ∷ R) (λ i j d a b. h (suc i) (suc j) d (omega arith) (omega arith)) k d (omega arith)

allowed_more : (p : Policy) (R : List ReadAt) (x : ReadAt) → IsAllowed p R → is_late p R x ≡ false → IsAllowed p (R ++ x ∷ [])
unfolding is_late
allowed_more FMatrix R x h late = tt
allowed_more Datacycle R x h late = tt
allowed_more RMatrix R x h late =
    let le = ltb-false x.cycle (last_cycle R) late in
    all_pairs_push (λ r s. r.cycle ≤ s.cycle) R x h (λ k d l. let last = at_most_last R h k d l in omega arith)

allowed_none : (p : Policy) → IsAllowed p []
allowed_none FMatrix = tt
allowed_none Datacycle = tt
allowed_none RMatrix = λ i j d a b. absurd (omega arith)

iterate_same : (P : State → Type 0) (f g : State → State) → ((s : State) → P s → P (f s)) → ((s : State) → P s → f s ≡ g s) → (n : ℕ) (s : State) → P s → iterate f n s ≡ iterate g n s
iterate_same P f g step same zero s p = refl
iterate_same P f g step same (suc n) s p = iterate_same P f g step same n (f s) (step s p) ∙ ap (iterate g n) (same s p)

map_same : {Y : Type 0} (f g : Read → Y) (R : List Read) → All (λ r. f r ≡ g r) R → map f R ≡ map g R
map_same f g [] h = refl
map_same f g (r ∷ R) h =
    let here : f r ≡ g r = All-head (λ r. f r ≡ g r) r R h in
    let rest : map f R ≡ map g R = map_same f g R (All-tail (λ r. f r ≡ g r) r R h) in
    cc

or_same : (a l f : Bool) (b c : Bool) → (l ≡ false → f ≡ false → b ≡ c) → (a || l || f || b) ≡ (a || l || f || c)
or_same true l f b c h = refl
or_same false true f b c h = refl
or_same false false true b c h = refl
or_same false false false b c h = h refl refl

module _ (V : List ℕ) (air : Air) (H : List Event) (reader : Reader) (filled : QueriesFilled reader) where
  -- what holds of the held reads
  abbrev K : ℕ → ℕ → List Read → Type 0
  K q a R = All (IsReadOf V air H) R × IsAllowed air.scheme.policy (map place_of R)

  abbrev ok : State → Type 0
  ok = Good reader (IsReadOf V air H) K (λ l. Unit {0})

  clash_is : (R : List Read) (x : Read) → K 0 0 R → IsReadOf V air H x → is_late air.scheme.policy (map place_of R) (place_of x) ≡ false → lies_far air R x ≡ false →
      (by_history air.scheme air.items V H).clash R x ≡ (by_entries air.scheme).clash R x
  unfolding by_history by_entries
  clash_is R x k r late near =
      let same : map read_at (map heard_of R) ≡ map place_of R = map-map read_at heard_of R in
      subst (λ S. clash_of air.scheme air.items H S (place_of x) ≡ clash_by_entries air.scheme.policy (map heard_of R) (heard_of x)) same
      (clash_told air.scheme air.items H (map heard_of R) (heard_of x)
      (have_aired air.scheme air.version air.items H (map heard_of R) (heard_of x)
      (All-map (MayBeHeard air.scheme air.version air.items H) heard_of R (λ i d l. (k.0 i d l).heard)) r.heard
      (subst (λ S. are_far air.version (S ++ place_of x ∷ []) ≡ false) (sym same) near))
      (subst (λ S. IsAllowed air.scheme.policy (S ++ place_of x ∷ [])) (sym same) (allowed_more air.scheme.policy (map place_of R) (place_of x) k.1 late)))

  rules : Keeps (by_history air.scheme air.items V H) air reader (IsReadOf V air H) K (λ l. Unit {0})
  rules = record {
    first = λ q. (All-nil (IsReadOf V air H), allowed_none air.scheme.policy);
    again = λ q a R k l. (All-nil (IsReadOf V air H), allowed_none air.scheme.policy);
    more = λ q a R x k r judged near none. (
      All-push (IsReadOf V air H) R x k.0 r,
      subst (IsAllowed air.scheme.policy) (sym (map-append place_of R (x ∷ []))) (allowed_more air.scheme.policy (map place_of R) (place_of x) k.1 judged.in_time),
    );
    accepted = λ q a R k l e. tt;
    aborted = λ q a R x c k r judged near e. tt;
    aged = λ q a R x k r judged far. tt;
    unfinished = λ q a R k e. tt;
  }

  -- ---- lines

  line_same : (q a : ℕ) (kind : VerdictKind) (R : List Read) → All (IsReadOf V air H) R → line_of (by_history air.scheme air.items V H) q a kind R ≡ line_of (by_entries air.scheme) q a kind R
  unfolding line_of by_history by_entries
  line_same q a kind R k = ap (λ rs. let l : SessionLine = record { verdict = record { query = q; attempt = a; kind = kind }; reads = rs } in l)
      (map_same (λ r. let x : ReadOf = record { item = r.item; cycle = r.cycle; value = read_value (values_of V) H (place_of r) } in x) (λ r. record { item = r.item; cycle = r.cycle; value = r.value }) R
      (λ i d l. ap (λ v. let x : ReadOf = record { item = (get_or R i d).item; cycle = (get_or R i d).cycle; value = v } in x) (sym (k i d l).value)))

  with_line_same : (kind : VerdictKind) (s : State) → All (IsReadOf V air H) s.held → with_line (by_history air.scheme air.items V H) kind s ≡ with_line (by_entries air.scheme) kind s
  unfolding with_line
  with_line_same kind s k = ap (λ l. let t : State = record s { lines = s.lines ++ l ∷ [] } in t) (line_same s.query s.attempt kind s.held k)

  hold_same : (x : Read) (s : State) → All (IsReadOf V air H) s.held → IsReadOf V air H x → hold (by_history air.scheme air.items V H) air reader x s ≡ hold (by_entries air.scheme) air reader x s
  unfolding hold accept_if_whole
  hold_same x s k r = ap (λ t. cond (is_some (wanted reader (record s { held = s.held ++ x ∷ [] }))) (record s { held = s.held ++ x ∷ [] }) (next_query t))
      (with_line_same Accept (record s { held = s.held ++ x ∷ [] }) (All-push (IsReadOf V air H) s.held x k r))

  abort_same : (x : Read) (i : ℕ) (s : State) → All (IsReadOf V air H) s.held → abort (by_history air.scheme air.items V H) air reader x i s ≡ abort (by_entries air.scheme) air reader x i s
  unfolding abort
  abort_same x i s k = ap (λ t. next_attempt reader (drop_copy i t)) (with_line_same (Abort x.item x.cycle i) s k)

  aged_same : (x : Read) (s : State) → All (IsReadOf V air H) s.held → end_aged (by_history air.scheme air.items V H) air reader x s ≡ end_aged (by_entries air.scheme) air reader x s
  unfolding end_aged
  aged_same x s k = ap (next_attempt reader) (with_line_same (Aged x.item x.cycle) s k)

  -- ---- settling

  turn_with_same : (o : Option Read) (s : State) → ok s → IfSome o (IsReadOf V air H) → turn_with (by_history air.scheme air.items V H) air reader o s ≡ turn_with (by_entries air.scheme) air reader o s
  unfolding turn_with is_unusable count_copied
  turn_with_same None s g h = refl
  turn_with_same (Some x) s g h =
      ap (λ b. cond b (drop_copy x.item s) (hold (by_history air.scheme air.items V H) air reader x (count_copied s)))
      (or_same (nat_lt reader.plan.age (s.now - x.cycle)) (comes_late air s x) (comes_aged air s x) _ _ (λ late near. ap is_some (clash_is s.held x g.held h late near)))
      ∙ ap (cond (is_unusable (by_entries air.scheme) air reader x s) (drop_copy x.item s)) (hold_same x (count_copied s) g.held.0 h)

  turn_same : (s : State) → ok s → turn (by_history air.scheme air.items V H) air reader s ≡ turn (by_entries air.scheme) air reader s
  unfolding turn
  turn_same s g = turn_with_same (copy_of (wanted reader s) s) s g (weak (copy_of (wanted reader s) s) (copy_of_is (by_history air.scheme air.items V H) air reader (IsReadOf V air H) K (λ l. Unit {0}) filled rules (wanted reader s) s g.copies))
    where
      weak : (o : Option Read) → IfSome o (λ x. IsReadOf V air H x × (wanted reader s ≡ Some x.item)) → IfSome o (IsReadOf V air H)
      weak None h = tt
      weak (Some x) h = h.0

  settle_same : (s : State) → ok s → settle (by_history air.scheme air.items V H) air reader s ≡ settle (by_entries air.scheme) air reader s
  unfolding settle
  settle_same s g = iterate_same ok (turn (by_history air.scheme air.items V H) air reader) (turn (by_entries air.scheme) air reader)
      (turn_good (by_history air.scheme air.items V H) air reader (IsReadOf V air H) K (λ l. Unit {0}) filled rules) turn_same (sum_by length reader.queries) s g

  -- ---- a heard member

  decide_same : (x : Read) (o : Option Clash) (s : State) → All (IsReadOf V air H) s.held → IsReadOf V air H x → decide (by_history air.scheme air.items V H) air reader x o s ≡ decide (by_entries air.scheme) air reader x o s
  unfolding decide
  decide_same x None s k r = hold_same x s k r
  decide_same x (Some c) s k r = abort_same x c.item s k

  judge_read_same : (x : Read) (s : State) → ok s → IsReadOf V air H x → comes_late air s x ≡ false → judge_read (by_history air.scheme air.items V H) air reader x s ≡ judge_read (by_entries air.scheme) air reader x s
  unfolding judge_read
  judge_read_same x s g r late = cond_same (comes_aged air s x) _ _ _ _
      (λ far. aged_same x s g.held.0)
      (λ near. ap (λ o. decide (by_history air.scheme air.items V H) air reader x o s) (clash_is s.held x g.held r late near)
      ∙ decide_same x ((by_entries air.scheme).clash s.held x) s g.held.0 r)

  open_same : (x : Read) (s : State) → ok s → IsReadOf V air H x → comes_late air s x ≡ false → open_bucket (by_history air.scheme air.items V H) air reader x s ≡ open_bucket (by_entries air.scheme) air reader x s
  unfolding open_bucket count_opened wanted query_of
  open_same x s g r late = ap (offer air reader x)
      (judge_read_same x (count_opened s) (record { held = g.held; copies = g.copies; lines = g.lines; unread = g.unread }) r late)

  hear_read_same : (o : Option Read) (s : State) → ok s → IfSome o (IsReadOf V air H) → hear_read (by_history air.scheme air.items V H) air reader o s ≡ hear_read (by_entries air.scheme) air reader o s
  unfolding hear_read
  hear_read_same None s g h = refl
  hear_read_same (Some x) s g h = cond_same (is_wanted (wanted reader s) x.item) _ _ _ _
      (λ w. cond_same (comes_late air s x) _ _ _ _ (λ l. refl) (λ late. open_same x s g h late))
      (λ w. refl)

  hear_same : (o : Option Bucket) (s : State) → ok s → Gives air (IsReadOf V air H) o → hear (by_history air.scheme air.items V H) air reader o s ≡ hear (by_entries air.scheme) air reader o s
  unfolding hear wanted query_of
  hear_same None s g h = refl
  hear_same (Some b) s g h = cond_same (fits air b) _ _ _ _
      (λ t. hear_read_same (read_in b.cycle b.body) (record s { now = max s.now b.cycle }) (record { held = g.held; copies = g.copies; lines = g.lines; unread = g.unread }) (h t))
      (λ f. refl)

  hear_all_same : (heard : List (Option Bucket)) (s : State) → ok s → All (Gives air (IsReadOf V air H)) heard → hear_all (by_history air.scheme air.items V H) air reader heard s ≡ hear_all (by_entries air.scheme) air reader heard s
  unfolding hear_all
  hear_all_same [] s g h = settle_same s g
  hear_all_same (o ∷ heard) s g h =
      let settled = settle_good (by_history air.scheme air.items V H) air reader (IsReadOf V air H) K (λ l. Unit {0}) filled rules s g in
      hear_all_same heard (hear (by_history air.scheme air.items V H) air reader o (settle (by_history air.scheme air.items V H) air reader s))
      (hear_good (by_history air.scheme air.items V H) air reader (IsReadOf V air H) K (λ l. Unit {0}) filled rules o _ settled (All-head (Gives air (IsReadOf V air H)) o heard h))
      (All-tail (Gives air (IsReadOf V air H)) o heard h)
      ∙ ap (hear_all (by_entries air.scheme) air reader heard)
      (hear_same o (settle (by_history air.scheme air.items V H) air reader s) settled (All-head (Gives air (IsReadOf V air H)) o heard h)
      ∙ ap (hear (by_entries air.scheme) air reader o) (settle_same s g))

  end_query_same : (s : State) → ok s → end_query (by_history air.scheme air.items V H) air reader s ≡ end_query (by_entries air.scheme) air reader s
  unfolding end_query
  end_query_same s g = ap (λ t. let u : State = record (cond (nat_lt s.query (length reader.queries)) (next_query t) s) { copies = [] } in u) (with_line_same Unfinished s g.held.0)

  session_same : (heard : List (Option Bucket)) → All (Gives air (IsReadOf V air H)) heard → session (by_history air.scheme air.items V H) air reader heard ≡ session (by_entries air.scheme) air reader heard
  unfolding session end
  session_same heard h =
      let begun = start_good (by_history air.scheme air.items V H) air reader (IsReadOf V air H) K (λ l. Unit {0}) filled rules in
      iterate_same ok (end_query (by_history air.scheme air.items V H) air reader) (end_query (by_entries air.scheme) air reader)
      (end_query_good (by_history air.scheme air.items V H) air reader (IsReadOf V air H) K (λ l. Unit {0}) filled rules) end_query_same (length reader.queries) _
      (hear_all_good (by_history air.scheme air.items V H) air reader (IsReadOf V air H) K (λ l. Unit {0}) filled rules heard start begun h)
      ∙ ap (iterate (end_query (by_entries air.scheme) air reader) (length reader.queries)) (hear_all_same heard start begun h)

-- ---- what an aired bucket gives

-- A version that isn't newer than one without ages has no ages.
older_full : (v w : ℕ) → v ≤ w → has_ages w ≡ false → has_ages v ≡ false
older_full v w l full = let less = leb-false 2 w full in lt-leb 2 v (omega arith)

body_gives : (V : List ℕ) (air : Air) (H : List Event) (v c : ℕ) → v ≤ air.version → 1 ≤ c → (o : Option ℕ) → IfSome o (λ i. i < air.items) →
    IfSome (read_in c (capped_body v c (body_of V air H c o))) (IsReadOf V air H)
unfolding body_of capped_body
body_gives V air H v c old pos None h = tt
body_gives V air H v c old pos (Some i) h = by air.scheme.policy
  where
    heard : MayBeHeard air.scheme air.version air.items H (told_by air.scheme air.items H v c i)
    heard = (has_capped air.scheme air.items H v c i pos h, λ full. has_full air.scheme air.items H v c i pos h (older_full v air.version old full))

    by : (p : Policy) → IfSome (read_in c (capped_body v c (aired_as p i (read_value (values_of V) H (record { item = i; cycle = c })) (aired_entries air.scheme air.items H c i)))) (IsReadOf V air H)
    by FMatrix = record { value = refl; heard = heard }
    by Datacycle = record { value = refl; heard = heard }
    by RMatrix = record { value = refl; heard = heard }

aired_gives : (V : List ℕ) (air : Air) (H : List Event) → SlotsFit air → (o : Option Bucket) → IfSome o (λ b. IsTrue (fits air b) → IsAiredBucket V air H b) → Gives air (IsReadOf V air H) o
unfolding bucket_of
aired_gives V air H slots None h = tt
aired_gives V air H slots (Some b) h = λ t.
    let is = h t in
    let f = fit_parts air b t in
    let items : All (λ o. IfSome o (λ i. i < air.items)) (slots_at air b.cycle) = at_or_none (All (λ o. IfSome o (λ i. i < air.items))) air.slots (edition_at air b.cycle) slots (All-nil _) in
    subst (λ y. IfSome (read_in b.cycle y) (IsReadOf V air H)) (sym (ap (λ (b : Bucket). b.body) is.same))
    (body_gives V air H b.version b.cycle f.version is.from_one (get_or (slots_at air b.cycle) b.slot None) (items b.slot None f.within))

pub judges : (values : List ℕ) (air : Air) (H : List Event) (reader : Reader) (heard : List (Option Bucket)) → SlotsFit air → QueriesFilled reader → IsAired values air H heard →
    session (by_history air.scheme air.items values H) air reader heard ≡ session (by_entries air.scheme) air reader heard
judges V air H reader heard slots filled aired = session_same V air H reader filled heard (λ k d l. aired_gives V air H slots (get_or heard k d) (aired k d l))
