-- What holds at every moment of a session: one induction over its rules, from which the laws on lines follow. `Keeps` says what
-- is to be shown of reads, held reads and lines; `kept` says that all lines then have it.
use Rattle.std.proofs.Common.{◌≡◌, ℕ, zero, suc, ◌+◌, ◌-◌, ◌<◌, Bool, true, false, cond, ◌||◌, ◌==◌, nat_lt, Option, Some, None, List, [], ◌∷◌, ◌++◌, length, map, get_or, All, refl, sym, ap, subst, arith, max}
use Rattle.std.specs.Prelude.{IfSome, IsTrue, sum_by}
use Rattle.std.specs.List.{find, slice_get}
use Rattle.std.specs.Option.{is_some}
use Rattle.std.specs.Fn.{iterate}
use Rattle.std.proofs.lemmas.Bool.{eqb-true, ltb-true}
use Rattle.std.proofs.lemmas.List.{length_push}
use Rattle.std.proofs.lemmas.List.Elements.{All-head, All-tail, All-push, All-filter, All-nil, All-append, All-cons}
use Rattle.air_base.specs.declared.verdicts.Clash.{Clash}
use Rattle.air_base.specs.declared.verdicts.VerdictKind.TheVariants.{Accept, Abort, Aged, Unfinished}
use Rattle.air_history.specs.Clashes.{is_late}
use Rattle.air_model.specs.Buckets.{Bucket}
use Rattle.air_model.specs.Reads.{Read}
use Rattle.air_model.specs.Copies.{keep, without_item, with_copy}
use Rattle.air_model.specs.Aired.{Air, fits}
use Rattle.air_model.specs.Judges.{Judge, place_of}
use Rattle.air_model.specs.SessionLaws.{are_far}
use Rattle.air_model.specs.Sessions.{Reader, SessionLine, State, start, read_in, is_wanted, query_of, wanted, comes_aged, comes_late, next_query, next_attempt, copy_of, drop_copy, offer, line_of, with_line, count_copied, count_opened, count_dozed, count_late, count_refused, count_foreign, accept_if_whole, hold, abort, is_unusable, turn_with, turn, settle, decide, end_aged, judge_read, open_bucket, hear_read, hear, hear_all, end_query, end, session}

-- The item that the query q wants after the reads R.
abbrev pub item_after : Reader → ℕ → List Read → Option ℕ
item_after reader q R = slice_get (get_or reader.queries q []) (length R)

-- The new read x is judged after the held reads R of query q.
pub record IsJudged (air : Air) (reader : Reader) (q : ℕ) (R : List Read) (x : Read) : Type 0 where
  pub wanted : item_after reader q R ≡ Some x.item
  pub in_time : is_late air.scheme.policy (map place_of R) (place_of x) ≡ false

-- Whether the new read x and the held ones R are too far apart for the air's version.
abbrev pub lies_far : Air → List Read → Read → Bool
lies_far air R x = are_far air.version (map place_of R ++ place_of x ∷ [])

-- Q of each read that was heard, K of the query, the attempt and its held reads, and L of each line hold at every moment.
pub record Keeps (judge : Judge) (air : Air) (reader : Reader) (Q : Read → Type 0) (K : ℕ → ℕ → List Read → Type 0) (L : SessionLine → Type 0) : Type 0 where
  pub first : (q : ℕ) → K q 1 []
  pub again : (q a : ℕ) (R : List Read) → K q a R → a < reader.plan.tries → K q (a + 1) []
  pub more : (q a : ℕ) (R : List Read) (x : Read) → K q a R → Q x → IsJudged air reader q R x → lies_far air R x ≡ false → judge.clash R x ≡ None → K q a (R ++ x ∷ [])
  pub accepted : (q a : ℕ) (R : List Read) → K q a R → 0 < length R → item_after reader q R ≡ None → L (line_of judge q a Accept R)
  pub aborted : (q a : ℕ) (R : List Read) (x : Read) (c : Clash) → K q a R → Q x → IsJudged air reader q R x → lies_far air R x ≡ false → judge.clash R x ≡ Some c → L (line_of judge q a (Abort x.item x.cycle c.item) R)
  pub aged : (q a : ℕ) (R : List Read) (x : Read) → K q a R → Q x → IsJudged air reader q R x → lies_far air R x ≡ true → L (line_of judge q a (Aged x.item x.cycle) R)
  pub unfinished : (q a : ℕ) (R : List Read) → K q a R → is_some (item_after reader q R) ≡ true → L (line_of judge q a Unfinished R)

-- Q of the read that a heard member gives, if it fits.
abbrev pub Gives : Air → (Read → Type 0) → Option Bucket → Type 0
Gives air Q None = Unit {0}
Gives air Q (Some b) = IsTrue (fits air b) → IfSome (read_in b.cycle b.body) Q

pub cond_keeps : (P : State → Type 0) (b : Bool) (x y : State) → (b ≡ true → P x) → (b ≡ false → P y) → P (cond b x y)
cond_keeps P true x y f g = f refl
cond_keeps P false x y f g = g refl

pub iterate_keeps : (P : State → Type 0) (f : State → State) → ((s : State) → P s → P (f s)) → (n : ℕ) (s : State) → P s → P (iterate f n s)
iterate_keeps P f step zero s p = p
iterate_keeps P f step (suc n) s p = iterate_keeps P f step n (f s) (step s p)

pub none_from : {X : Type 0} (o : Option X) → is_some o ≡ false → o ≡ None
none_from None e = refl
none_from (Some x) e = cc

pub or_false : (a b : Bool) → (a || b) ≡ false → (a ≡ false) × (b ≡ false)
or_false true b e = cc
or_false false b e = (refl, e)

pub wanted_from : (o : Option ℕ) (i : ℕ) → is_wanted o i ≡ true → o ≡ Some i
wanted_from None i e = cc
wanted_from (Some j) i e = ap Some (eqb-true j i e)

pub find_is : (Q : Read → Type 0) (p : Read → Bool) (xs : List Read) → All Q xs → (o : Option Read) → find p xs ≡ o → IfSome o (λ x. Q x × (p x ≡ true))
find_is Q p [] h None e = tt
find_is Q p [] h (Some x) e = cc
find_is Q p (x ∷ xs) h o e = by (p x) refl e (find_is Q p xs (All-tail Q x xs h) o)
  where
    by : (b : Bool) → p x ≡ b → cond b (Some x) (find p xs) ≡ o → (find p xs ≡ o → IfSome o (λ x. Q x × (p x ≡ true))) → IfSome o (λ x. Q x × (p x ≡ true))
    by true t e rest = subst (λ o. IfSome o (λ x. Q x × (p x ≡ true))) e (All-head Q x xs h, t)
    by false f e rest = rest e

first_some : (xs : List ℕ) → 0 < length xs → is_some (slice_get xs 0) ≡ true
first_some [] h = absurd (omega arith)
first_some (x ∷ xs) h = refl

pub record Good (reader : Reader) (Q : Read → Type 0) (K : ℕ → ℕ → List Read → Type 0) (L : SessionLine → Type 0) (s : State) : Type 0 where
  pub held : K s.query s.attempt s.held
  pub copies : All Q s.copies
  pub lines : All L s.lines
  pub unread : s.query < length reader.queries → is_some (wanted reader s) ≡ true

module _ (judge : Judge) (air : Air) (reader : Reader) (Q : Read → Type 0) (K : ℕ → ℕ → List Read → Type 0) (L : SessionLine → Type 0)
    (filled : All (λ q. 0 < length q) reader.queries) (rules : Keeps judge air reader Q K L) where
  pub next_query_good : (s : State) → All Q s.copies → All L s.lines → Good reader Q K L (next_query s)
  unfolding next_query wanted query_of
  next_query_good s cs ls = record { held = rules.first (s.query + 1); copies = cs; lines = ls; unread = λ l. first_some (get_or reader.queries (s.query + 1) []) (filled (s.query + 1) [] l) }

  next_attempt_good : (s : State) → K s.query s.attempt s.held → All Q s.copies → All L s.lines → Good reader Q K L (next_attempt reader s)
  unfolding next_attempt wanted query_of
  next_attempt_good s k cs ls = cond_keeps (Good reader Q K L) (nat_lt s.attempt reader.plan.tries) _ _
      (λ t. record { held = rules.again s.query s.attempt s.held k (ltb-true s.attempt reader.plan.tries t); copies = cs; lines = ls; unread = λ l. first_some (get_or reader.queries s.query []) (filled s.query [] l) })
      (λ _. next_query_good s cs ls)

  pub hold_good : (x : Read) (s : State) → Good reader Q K L s → Q x → wanted reader s ≡ Some x.item → comes_late air s x ≡ false → comes_aged air s x ≡ false → judge.clash s.held x ≡ None → Good reader Q K L (hold judge air reader x s)
  unfolding hold accept_if_whole with_line wanted query_of
  hold_good x s g qx w late near none =
      let more = rules.more s.query s.attempt s.held x g.held qx (record { wanted = w; in_time = late }) near none in
      cond_keeps (Good reader Q K L) (is_some (item_after reader s.query (s.held ++ x ∷ []))) _ _
      (λ t. record { held = more; copies = g.copies; lines = g.lines; unread = λ _. t })
      (λ f. next_query_good _ g.copies (All-push L s.lines _ g.lines (rules.accepted s.query s.attempt (s.held ++ x ∷ []) more (omega (arith, length_push s.held x)) (none_from _ f))))

  abort_good : (x : Read) (i : Clash) (s : State) → Good reader Q K L s → Q x → wanted reader s ≡ Some x.item → comes_late air s x ≡ false → comes_aged air s x ≡ false → judge.clash s.held x ≡ Some i → Good reader Q K L (abort judge air reader x i.item s)
  unfolding abort with_line drop_copy without_item wanted query_of
  abort_good x i s g qx w late near some = next_attempt_good _ g.held (All-filter _ Q s.copies g.copies)
      (All-push L s.lines _ g.lines (rules.aborted s.query s.attempt s.held x i g.held qx (record { wanted = w; in_time = late }) near some))

  aged_good : (x : Read) (s : State) → Good reader Q K L s → Q x → wanted reader s ≡ Some x.item → comes_late air s x ≡ false → comes_aged air s x ≡ true → Good reader Q K L (end_aged judge air reader x s)
  unfolding end_aged with_line wanted query_of
  aged_good x s g qx w late far = next_attempt_good _ g.held g.copies
      (All-push L s.lines _ g.lines (rules.aged s.query s.attempt s.held x g.held qx (record { wanted = w; in_time = late }) far))

  turn_with_good : (o : Option Read) (s : State) → Good reader Q K L s → IfSome o (λ x. Q x × (wanted reader s ≡ Some x.item)) → Good reader Q K L (turn_with judge air reader o s)
  unfolding turn_with is_unusable drop_copy without_item count_copied wanted query_of
  turn_with_good None s g h = g
  turn_with_good (Some x) s g h = cond_keeps (Good reader Q K L) (nat_lt reader.plan.age (s.now - x.cycle) || comes_late air s x || comes_aged air s x || is_some (judge.clash s.held x)) _ _
      (λ _. record { held = g.held; copies = All-filter _ Q s.copies g.copies; lines = g.lines; unread = g.unread })
      (λ f. let whole = or_false _ _ f in
      let near = or_false _ _ whole.0 in
      let late = or_false _ _ near.0 in
      hold_good x (count_copied s) (record { held = g.held; copies = g.copies; lines = g.lines; unread = g.unread }) h.0 h.1 late.1 near.1 (none_from _ whole.1))

  pub copy_of_is : (w : Option ℕ) (s : State) → All Q s.copies → IfSome (copy_of w s) (λ x. Q x × (w ≡ Some x.item))
  unfolding copy_of
  copy_of_is None s h = tt
  copy_of_is (Some i) s h = by (find (λ r. r.item == i) s.copies) (find_is Q (λ r. r.item == i) s.copies h _ refl)
    where
      by : (o : Option Read) → IfSome o (λ x. Q x × ((x.item == i) ≡ true)) → IfSome o (λ x. Q x × (Some i ≡ Some x.item))
      by None h = tt
      by (Some x) h = (h.0, ap Some (sym (eqb-true x.item i h.1)))

  pub turn_good : (s : State) → Good reader Q K L s → Good reader Q K L (turn judge air reader s)
  unfolding turn
  turn_good s g = turn_with_good (copy_of (wanted reader s) s) s g (copy_of_is (wanted reader s) s g.copies)

  pub settle_good : (s : State) → Good reader Q K L s → Good reader Q K L (settle judge air reader s)
  unfolding settle
  settle_good s g = iterate_keeps (Good reader Q K L) (turn judge air reader) turn_good (sum_by length reader.queries) s g

  decide_good : (x : Read) (o : Option Clash) (s : State) → Good reader Q K L s → Q x → wanted reader s ≡ Some x.item → comes_late air s x ≡ false → comes_aged air s x ≡ false → judge.clash s.held x ≡ o → Good reader Q K L (decide judge air reader x o s)
  unfolding decide
  decide_good x None s g qx w late near e = hold_good x s g qx w late near e
  decide_good x (Some i) s g qx w late near e = abort_good x i s g qx w late near e

  judge_read_good : (x : Read) (s : State) → Good reader Q K L s → Q x → wanted reader s ≡ Some x.item → comes_late air s x ≡ false → Good reader Q K L (judge_read judge air reader x s)
  unfolding judge_read
  judge_read_good x s g qx w late = cond_keeps (Good reader Q K L) (comes_aged air s x) _ _
      (λ far. aged_good x s g qx w late far)
      (λ near. decide_good x (judge.clash s.held x) s g qx w late near refl)

  offer_good : (x : Read) (s : State) → Good reader Q K L s → Q x → Good reader Q K L (offer air reader x s)
  unfolding offer keep with_copy wanted query_of
  offer_good x s g qx = record { held = g.held; copies = All-filter _ Q _ (All-append Q _ (x ∷ _) (All-filter _ Q s.copies g.copies) (All-cons Q x _ qx (All-filter _ Q s.copies g.copies))); lines = g.lines; unread = g.unread }

  open_good : (x : Read) (s : State) → Good reader Q K L s → Q x → wanted reader s ≡ Some x.item → comes_late air s x ≡ false → Good reader Q K L (open_bucket judge air reader x s)
  unfolding open_bucket count_opened wanted query_of
  open_good x s g qx w late = offer_good x _ (judge_read_good x (count_opened s) (record { held = g.held; copies = g.copies; lines = g.lines; unread = g.unread }) qx w late) qx

  hear_read_good : (o : Option Read) (s : State) → Good reader Q K L s → IfSome o Q → Good reader Q K L (hear_read judge air reader o s)
  unfolding hear_read count_dozed count_late wanted query_of
  hear_read_good None s g h = record { held = g.held; copies = g.copies; lines = g.lines; unread = g.unread }
  hear_read_good (Some x) s g h = cond_keeps (Good reader Q K L) (is_wanted (wanted reader s) x.item) _ _
      (λ w. cond_keeps (Good reader Q K L) (comes_late air s x) _ _
      (λ _. record { held = g.held; copies = g.copies; lines = g.lines; unread = g.unread })
      (λ late. open_good x s g h (wanted_from _ x.item w) late))
      (λ _. record { held = g.held; copies = g.copies; lines = g.lines; unread = g.unread })

  pub hear_good : (o : Option Bucket) (s : State) → Good reader Q K L s → Gives air Q o → Good reader Q K L (hear judge air reader o s)
  unfolding hear count_refused count_foreign wanted query_of
  hear_good None s g h = record { held = g.held; copies = g.copies; lines = g.lines; unread = g.unread }
  hear_good (Some b) s g h = cond_keeps (Good reader Q K L) (fits air b) _ _
      (λ t. hear_read_good (read_in b.cycle b.body) (record s { now = max s.now b.cycle }) (record { held = g.held; copies = g.copies; lines = g.lines; unread = g.unread }) (h t))
      (λ _. record { held = g.held; copies = g.copies; lines = g.lines; unread = g.unread })

  pub hear_all_good : (heard : List (Option Bucket)) (s : State) → Good reader Q K L s → All (Gives air Q) heard → Good reader Q K L (hear_all judge air reader heard s)
  unfolding hear_all
  hear_all_good [] s g h = settle_good s g
  hear_all_good (o ∷ heard) s g h = hear_all_good heard _ (hear_good o _ (settle_good s g) (All-head (Gives air Q) o heard h)) (All-tail (Gives air Q) o heard h)

  pub end_query_good : (s : State) → Good reader Q K L s → Good reader Q K L (end_query judge air reader s)
  unfolding end_query with_line wanted query_of
  end_query_good s g = drop_all _ (cond_keeps (Good reader Q K L) (nat_lt s.query (length reader.queries)) _ _
      (λ t. next_query_good _ g.copies (All-push L s.lines _ g.lines (rules.unfinished s.query s.attempt s.held g.held (g.unread (ltb-true s.query (length reader.queries) t)))))
      (λ _. g))
    where
      drop_all : (t : State) → Good reader Q K L t → Good reader Q K L (record t { copies = [] })
      drop_all t g = record { held = g.held; copies = All-nil Q; lines = g.lines; unread = g.unread }

  pub end_good : (s : State) → Good reader Q K L s → Good reader Q K L (end judge air reader s)
  unfolding end
  end_good s g = iterate_keeps (Good reader Q K L) (end_query judge air reader) end_query_good (length reader.queries) s g

  pub start_good : Good reader Q K L start
  unfolding wanted query_of
  start_good = record { held = rules.first 0; copies = All-nil Q; lines = All-nil L; unread = λ l. first_some (get_or reader.queries 0 []) (filled 0 [] l) }

-- If the rules keep Q, K and L, and each heard member that fits gives Q, all lines have L.
pub kept : (judge : Judge) (air : Air) (reader : Reader) (Q : Read → Type 0) (K : ℕ → ℕ → List Read → Type 0) (L : SessionLine → Type 0) →
    All (λ q. 0 < length q) reader.queries → Keeps judge air reader Q K L → (heard : List (Option Bucket)) → All (Gives air Q) heard →
    All L (session judge air reader heard).lines
unfolding session
kept judge air reader Q K L filled rules heard h =
    (end_good judge air reader Q K L filled rules _ (hear_all_good judge air reader Q K L filled rules heard start (start_good judge air reader Q K L filled rules) h)).lines
