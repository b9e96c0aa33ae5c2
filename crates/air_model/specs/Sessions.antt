-- The session of a receiver: the verdict lines and the counts that a heard list gives, by a judge. Each rule is a definition of
-- its own: `settle` and `turn` use kept copies, `hear` takes one heard member, and `end_query` ends one query. The laws of
-- `sessions` say that both judges give one session, and what each line tells.
use Rattle.std.specs.Prelude.{ℕ, ◌+◌, ◌-◌, max, Bool, false, cond, ◌&&◌, ◌||◌, ◌==◌, nat_lt, List, [], ◌∷◌, ◌++◌, length, map, get_or, sum_by, Option, Some, None}
use Rattle.std.specs.List.{find, slice_get}
use Rattle.std.specs.Option.{is_some}
use Rattle.std.specs.Fn.{iterate}
use Rattle.air_base.specs.declared.verdicts.ReadOf.{ReadOf}
use Rattle.air_base.specs.declared.verdicts.Clash.{Clash}
use Rattle.air_base.specs.declared.verdicts.Counts.{Counts}
use Rattle.air_base.specs.declared.verdicts.Verdict.{Verdict}
use Rattle.air_base.specs.declared.verdicts.VerdictKind.{VerdictKind}
use Rattle.air_base.specs.declared.verdicts.VerdictKind.TheVariants.{Accept, Abort, Aged, Unfinished}
use Rattle.air_history.specs.Ages.{spans_too_far}
use Rattle.air_history.specs.Clashes.{is_late}
use Rattle.air_model.specs.declared.deck.ReaderPlan.{ReaderPlan}
use Rattle.air_model.specs.Buckets.{Bucket, Body, Idle, Column, Vector, has_ages}
use Rattle.air_model.specs.Reads.{Read}
use Rattle.air_model.specs.Copies.{keep, without_item, with_copy}
use Rattle.air_model.specs.Decks.{Deck}
use Rattle.air_model.specs.Aired.{Air, fits, pix_at}
use Rattle.air_model.specs.Judges.{Judge, place_of}

-- A reader: its plan and its queries, each a list of items.
pub record Reader : Type 0 where
  pub plan : ReaderPlan
  pub queries : List (List ℕ)

-- The deck's reader with a number, for a number that the deck has.
abbrev pub reader_of : Deck → ℕ → Reader
reader_of deck r = record {
  plan = get_or deck.readers r (record { room = 0; age = 0; tries = 0 });
  queries = get_or deck.queries r [];
}

-- A verdict line: the verdict, and the reads of its attempt in the order of reading.
pub record SessionLine : Type 0 where
  pub verdict : Verdict
  pub reads : List ReadOf

-- The state of a receiver: its query and attempt, the reads that it holds, the copies that it keeps, the newest cycle that it
-- heard, the counts, and the lines that were not yet handed out.
pub record State : Type 0 where
  pub query : ℕ
  pub attempt : ℕ
  pub held : List Read
  pub copies : List Read
  pub now : ℕ
  pub counts : Counts
  pub lines : List SessionLine

-- The counts at first, which are all 0.
abbrev pub no_counts : Counts
no_counts = record { opened = 0; dozed = 0; late = 0; refused = 0; foreign = 0; copied = 0 }

-- The state at first: the first query at attempt 1, and nothing else.
abbrev pub start : State
start = record { query = 0; attempt = 1; held = []; copies = []; now = 0; counts = no_counts; lines = [] }

-- The read that a bucket gives; None in an idle slot.
abbrev pub read_in : ℕ → Body → Option Read
read_in c (Idle count) = None
read_in c (Column item value entries) = Some (record { item = item; cycle = c; value = value; entries = entries })
read_in c (Vector item value entries) = Some (record { item = item; cycle = c; value = value; entries = entries })

-- The items of the current query; no items if no query is left.
unfoldable pub query_of : Reader → State → List ℕ
query_of reader s = get_or reader.queries s.query []

-- The wanted item: the first of the query that isn't held.
unfoldable pub wanted : Reader → State → Option ℕ
wanted reader s = slice_get (query_of reader s) (length s.held)

-- Whether the wanted item is this one.
abbrev pub is_wanted : Option ℕ → ℕ → Bool
is_wanted None item = false
is_wanted (Some i) item = i == item

-- Whether the new read comes too late after the held ones.
abbrev pub comes_late : Air → State → Read → Bool
comes_late air s x = is_late air.scheme.policy (map place_of s.held) (place_of x)

-- Whether the new read and the held ones are too far apart to be judged by ages, if the air's buckets have ages.
abbrev pub comes_aged : Air → State → Read → Bool
comes_aged air s x = has_ages air.version && spans_too_far (map place_of s.held ++ place_of x ∷ [])

-- The next query begins at attempt 1 with nothing held.
unfoldable pub next_query : State → State
next_query s = record s { query = s.query + 1; attempt = 1; held = [] }

-- Another attempt begins with nothing held; after the last try the next query begins.
unfoldable pub next_attempt : Reader → State → State
next_attempt reader s = cond (nat_lt s.attempt reader.plan.tries) (record s { attempt = s.attempt + 1; held = [] }) (next_query s)

-- The kept copy of an item.
unfoldable pub copy_of : Option ℕ → State → Option Read
copy_of None s = None
copy_of (Some item) s = find (λ r. r.item == item) s.copies

-- The copy of the item is dropped.
unfoldable pub drop_copy : ℕ → State → State
drop_copy item s = record s { copies = without_item item s.copies }

-- The read is offered to the copies, which are worth what the newest heard cycle says.
unfoldable pub offer : Air → Reader → Read → State → State
offer air reader x s = record s { copies = keep reader.plan.room (pix_at air s.now) (with_copy x s.copies) }

-- The line of an attempt of a query: the verdict, and the reads with the judge's values.
unfoldable pub line_of : Judge → ℕ → ℕ → VerdictKind → List Read → SessionLine
line_of judge q a kind R = record {
  verdict = record { query = q; attempt = a; kind = kind };
  reads = map (λ r. record { item = r.item; cycle = r.cycle; value = judge.value r }) R;
}

-- The current attempt has this verdict.
unfoldable pub with_line : Judge → VerdictKind → State → State
with_line judge kind s = record s { lines = s.lines ++ line_of judge s.query s.attempt kind s.held ∷ [] }

-- One more read was taken from a copy.
unfoldable pub count_copied : State → State
count_copied s = record s { counts = record s.counts { copied = s.counts.copied + 1 } }

-- One more bucket was opened.
unfoldable pub count_opened : State → State
count_opened s = record s { counts = record s.counts { opened = s.counts.opened + 1 } }

-- One more bucket was not wanted.
unfoldable pub count_dozed : State → State
count_dozed s = record s { counts = record s.counts { dozed = s.counts.dozed + 1 } }

-- One more bucket was late.
unfoldable pub count_late : State → State
count_late s = record s { counts = record s.counts { late = s.counts.late + 1 } }

-- One more member was no bucket.
unfoldable pub count_refused : State → State
count_refused s = record s { counts = record s.counts { refused = s.counts.refused + 1 } }

-- One more bucket didn't fit.
unfoldable pub count_foreign : State → State
count_foreign s = record s { counts = record s.counts { foreign = s.counts.foreign + 1 } }

module _ (judge : Judge) (air : Air) (reader : Reader) where
  -- If all items of the query are held, it is accepted, and the next query begins.
  unfoldable pub accept_if_whole : State → State
  accept_if_whole s = cond (is_some (wanted reader s)) s (next_query (with_line judge Accept s))

  -- The read joins the held ones.
  unfoldable pub hold : Read → State → State
  hold x s = accept_if_whole (record s { held = s.held ++ x ∷ [] })

  -- The attempt ends because the read clashes with the held one of an item; that item's copy is dropped.
  unfoldable pub abort : Read → ℕ → State → State
  abort x item s = next_attempt reader (drop_copy item (with_line judge (Abort x.item x.cycle item) s))

  -- The attempt ends because the read and the held ones are too far apart; all copies stay.
  unfoldable pub end_aged : Read → State → State
  end_aged x s = next_attempt reader (with_line judge (Aged x.item x.cycle) s)

  -- ---- settling

  -- Whether a copy can't be used as a read: it is too old, comes late, is too far from the held reads, or clashes.
  unfoldable pub is_unusable : Read → State → Bool
  is_unusable x s = nat_lt reader.plan.age (s.now - x.cycle) || comes_late air s x || comes_aged air s x || is_some (judge.clash s.held x)

  -- A copy that can't be used is dropped; otherwise it becomes a read.
  unfoldable pub turn_with : Option Read → State → State
  turn_with None s = s
  turn_with (Some x) s = cond (is_unusable x s) (drop_copy x.item s) (hold x (count_copied s))

  -- One turn of settling: the copy of the wanted item is used or dropped. Without a copy nothing changes.
  unfoldable pub turn : State → State
  turn s = turn_with (copy_of (wanted reader s) s) s

  -- A receiver settles by as many turns as its queries have items; after these the wanted item has no copy.
  unfoldable pub settle : State → State
  settle s = iterate turn (sum_by length reader.queries) s

  -- ---- a heard member

  -- The read joins the held ones, or it ends the attempt.
  unfoldable pub decide : Read → Option Clash → State → State
  decide x None s = hold x s
  decide x (Some clash) s = abort x clash.item s

  -- An opened bucket's read ends the attempt if it comes aged; only otherwise is it tested for a clash.
  unfoldable pub judge_read : Read → State → State
  judge_read x s = cond (comes_aged air s x) (end_aged x s) (decide x (judge.clash s.held x) s)

  -- An opened bucket's read is judged, and then offered to the copies.
  unfoldable pub open_bucket : Read → State → State
  open_bucket x s = offer air reader x (judge_read x (count_opened s))

  -- The read of a bucket that fits is opened if it is wanted and not late; an idle bucket gives no read.
  unfoldable pub hear_read : Option Read → State → State
  hear_read None s = count_dozed s
  hear_read (Some x) s = cond (is_wanted (wanted reader s) x.item) (cond (comes_late air s x) (count_late s) (open_bucket x s)) (count_dozed s)

  -- What one heard member does to a settled receiver. Only a bucket that fits can make the newest cycle newer.
  unfoldable pub hear : Option Bucket → State → State
  hear None s = count_refused s
  hear (Some b) s = cond (fits air b) (hear_read (read_in b.cycle b.body) (record s { now = max s.now b.cycle })) (count_foreign s)

  -- The receiver settles before each heard member and after the last.
  unfoldable pub hear_all : List (Option Bucket) → State → State
  hear_all [] s = settle s
  hear_all (o ∷ heard) s = hear_all heard (hear o (settle s))

  -- ---- the end

  -- The current query stays unfinished, and the next one begins; all copies are dropped.
  unfoldable pub end_query : State → State
  end_query s = record (cond (nat_lt s.query (length reader.queries)) (next_query (with_line judge Unfinished s)) s) { copies = [] }

  -- All queries that are left end.
  unfoldable pub end : State → State
  end s = iterate end_query (length reader.queries) s

  -- The session over a heard list.
  unfoldable pub session : List (Option Bucket) → State
  session heard = end (hear_all heard start)
