-- The single rules of a session, each computed alone on a small state.
use Rattle.std.specs.Prelude.{◌≡◌, ◌+◌, ℕ, [], ◌∷◌, Option, Some, None, true, false, refl}
use Rattle.air_base.specs.declared.verdicts.Clash.{Clash}
use Rattle.air_base.specs.declared.verdicts.Policy.{Policy}
use Rattle.air_base.specs.declared.verdicts.Policy.TheVariants.{FMatrix, RMatrix}
use Rattle.air_base.specs.declared.verdicts.VerdictKind.TheVariants.{Accept, Abort, Aged}
use Rattle.air_history.specs.Ages.{span, spans_too_far}
use Rattle.air_history.specs.Clashes.{is_late}
use Rattle.air_history.specs.Columns.{scheme_of}
use Rattle.air_model.specs.Aired.{Air}
use Rattle.air_model.specs.Copies.{keep, with_copy, without_item}
use Rattle.air_model.specs.Judges.{Judge}
use Rattle.air_model.specs.Reads.{Read}
use Rattle.air_model.specs.Sessions.{Reader, SessionLine, State, accept_if_whole, copy_of, count_copied, count_dozed, count_foreign, count_late, count_opened, count_refused, decide, drop_copy, end_aged, hear, hear_all, hear_read, hold, abort, is_unusable, judge_read, line_of, next_attempt, next_query, no_counts, offer, open_bucket, query_of, settle, start, turn, turn_with, wanted, with_line}
use Rattle.air_model.proofs.SessionExamples.{line, read}

-- The air of two items in this version, of which item 0 has the greater PIX number.
abbrev air : ℕ → Policy → Air
air version policy = record { scheme = scheme_of policy; version = version; items = 2; replans = []; slots = (Some 0 ∷ Some 1 ∷ []) ∷ []; pix = (40 ∷ 10 ∷ []) ∷ [] }

abbrev plain : Air
plain = air 1 FMatrix

-- A reader with room for one copy, for nine cycles, and with two tries; it asks for items 0 and 1, and then for item 1.
abbrev reader : Reader
reader = record { plan = record { room = 1; age = 9; tries = 2 }; queries = (0 ∷ 1 ∷ []) ∷ (1 ∷ []) ∷ [] }

-- A judge for whom each read clashes so, and has its heard value and 100.
abbrev judge : Option Clash → Judge
judge clash = record { value = λ r. 100 + r.value; clash = λ R x. clash }

abbrev none : Judge
none = judge None

-- The judge for whom each read clashes with item 0 of cycle 1.
abbrev clashing : Judge
clashing = judge (Some (record { item = 0; cycle = 1 }))

-- What was heard of an item in a cycle.
abbrev taken : ℕ → ℕ → Read
taken item cycle = record { item = item; cycle = cycle; value = 10; entries = [] }

-- Item 0 of a cycle is held, and that is the newest cycle.
abbrev held : ℕ → State
held cycle = record start { held = taken 0 cycle ∷ []; now = cycle }

-- Item 0 of cycle 1 is kept as a copy; the newest cycle is this one.
abbrev kept : ℕ → State
kept now = record start { copies = taken 0 1 ∷ []; now = now }

-- The line of the first attempt of the first query.
abbrev first_line : SessionLine
first_line = line 0 1 Accept (read 0 1 110 ∷ read 1 1 110 ∷ [])

-- ---- queries, lines and counts

pub record Rules : Type 0 where
  -- the next query begins at attempt 1 with nothing held; what was kept and heard stays
  query_ends : next_query (record start { query = 3; attempt = 2; held = taken 0 1 ∷ []; copies = taken 1 1 ∷ []; now = 5 }) ≡ record start { query = 4; copies = taken 1 1 ∷ []; now = 5 }
  -- after the first of two tries there is another attempt, after the second the next query
  tried_once : next_attempt reader (held 1) ≡ record start { attempt = 2; now = 1 }
  tried_twice : next_attempt reader (record start { attempt = 2; held = taken 0 1 ∷ [] }) ≡ record start { query = 1 }
  a_line : line_of none 3 2 (Abort 1 2 0) (taken 0 1 ∷ []) ≡ line 3 2 (Abort 1 2 0) (read 0 1 110 ∷ [])
  one_more_line : with_line none Accept (record start { query = 1; held = taken 1 2 ∷ []; lines = first_line ∷ [] })
      ≡ record start { query = 1; held = taken 1 2 ∷ []; lines = first_line ∷ line 1 1 Accept (read 1 2 110 ∷ []) ∷ [] }
  -- each count is its own
  opened : (count_opened start).counts ≡ record no_counts { opened = 1 }
  dozed : (count_dozed start).counts ≡ record no_counts { dozed = 1 }
  late : (count_late start).counts ≡ record no_counts { late = 1 }
  refused : (count_refused start).counts ≡ record no_counts { refused = 1 }
  foreign : (count_foreign start).counts ≡ record no_counts { foreign = 1 }
  copied : (count_copied start).counts ≡ record no_counts { copied = 1 }
  -- the copy of one item is dropped; with room for one, the copy with the greater PIX number stays
  dropped : (drop_copy 1 (record start { copies = taken 0 1 ∷ taken 1 2 ∷ [] })).copies ≡ taken 0 1 ∷ []
  offered : (offer plain reader (taken 0 2) (record start { copies = taken 1 1 ∷ [] })).copies ≡ taken 0 2 ∷ []
  declined : (offer plain reader (taken 1 2) (record start { copies = taken 0 1 ∷ [] })).copies ≡ taken 0 1 ∷ []

rules : Rules
unfolding next_query next_attempt line_of with_line count_opened count_dozed count_late count_refused count_foreign count_copied drop_copy offer keep with_copy without_item
rules = record {
  query_ends = refl;
  tried_once = refl;
  tried_twice = refl;
  a_line = refl;
  one_more_line = refl;
  opened = refl;
  dozed = refl;
  late = refl;
  refused = refl;
  foreign = refl;
  copied = refl;
  dropped = refl;
  offered = refl;
  declined = refl;
}

-- ---- reads

pub record ReadsTaken : Type 0 where
  -- with one of two items held nothing is accepted yet; with both the query is, and the next one begins
  half : accept_if_whole none plain reader (held 1) ≡ held 1
  whole : accept_if_whole none plain reader (record start { held = taken 0 1 ∷ taken 1 1 ∷ [] }) ≡ record start { query = 1; lines = first_line ∷ [] }
  first_held : hold none plain reader (taken 0 1) start ≡ record start { held = taken 0 1 ∷ [] }
  last_held : hold none plain reader (taken 1 1) (held 1) ≡ record start { query = 1; now = 1; lines = first_line ∷ [] }
  -- an aged attempt ends with the read that it names, and all copies stay
  aged : end_aged none plain reader (taken 1 300) (record (held 1) { copies = taken 0 1 ∷ [] })
      ≡ record start { attempt = 2; copies = taken 0 1 ∷ []; now = 1; lines = line 0 1 (Aged 1 300) (read 0 1 110 ∷ []) ∷ [] }
  -- a copy of nine cycles ago can be used, and one of ten can't; nor one that clashes, comes late, or is too far from what is held
  usable : is_unusable none plain reader (taken 0 1) (kept 10) ≡ false
  too_old : is_unusable none plain reader (taken 0 1) (kept 11) ≡ true
  it_clashes : is_unusable clashing plain reader (taken 0 1) (kept 10) ≡ true
  it_is_late : is_unusable none (air 1 RMatrix) reader (taken 1 2) (held 3) ≡ true
  it_is_far : is_unusable none (air 2 FMatrix) reader (taken 1 1) (record (held 256) { now = 1 }) ≡ true
  -- a usable copy becomes a read, another is dropped
  used : turn_with none plain reader (Some (taken 0 1)) (kept 1) ≡ record (kept 1) { held = taken 0 1 ∷ []; counts = record no_counts { copied = 1 } }
  not_used : turn_with none plain reader (Some (taken 0 1)) (kept 11) ≡ record (kept 11) { copies = [] }
  no_copy : turn_with none plain reader None (kept 11) ≡ kept 11
  -- without a clash the read is held; with one the attempt ends, and the copy of the item with which it clashes is dropped
  no_clash : decide none plain reader (taken 0 1) None start ≡ record start { held = taken 0 1 ∷ [] }
  a_clash : decide none plain reader (taken 1 2) (Some (record { item = 0; cycle = 1 })) (record (held 1) { copies = taken 0 1 ∷ [] })
      ≡ record start { attempt = 2; now = 1; lines = line 0 1 (Abort 1 2 0) (read 0 1 110 ∷ []) ∷ [] }
  -- what comes aged ends the attempt so, even if it clashes too
  judged : judge_read clashing plain reader (taken 1 2) (held 1) ≡ record start { attempt = 2; now = 1; lines = line 0 1 (Abort 1 2 0) (read 0 1 110 ∷ []) ∷ [] }
  judged_aged : judge_read clashing (air 2 FMatrix) reader (taken 1 256) (held 1) ≡ record start { attempt = 2; now = 1; lines = line 0 1 (Aged 1 256) (read 0 1 110 ∷ []) ∷ [] }

reads_taken : ReadsTaken
unfolding accept_if_whole hold end_aged is_unusable turn_with decide judge_read abort wanted query_of next_query next_attempt line_of with_line count_copied drop_copy without_item is_late spans_too_far span
reads_taken = record {
  half = refl;
  whole = refl;
  first_held = refl;
  last_held = refl;
  aged = refl;
  usable = refl;
  too_old = refl;
  it_clashes = refl;
  it_is_late = refl;
  it_is_far = refl;
  used = refl;
  not_used = refl;
  no_copy = refl;
  no_clash = refl;
  a_clash = refl;
  judged = refl;
  judged_aged = refl;
}

-- ---- heard members

pub record Heard : Type 0 where
  -- an opened bucket is counted, its read is held, and it is kept as a copy
  opened : open_bucket none plain reader (taken 0 1) (record start { now = 1 })
      ≡ record start { held = taken 0 1 ∷ []; copies = taken 0 1 ∷ []; now = 1; counts = record no_counts { opened = 1 } }
  -- the wanted item is opened; another and an idle slot are dozed through; under R-Matrix an older cycle is late
  wanted_read : (hear_read none plain reader (Some (taken 0 1)) start).counts ≡ record no_counts { opened = 1 }
  other_read : hear_read none plain reader (Some (taken 1 1)) start ≡ record start { counts = record no_counts { dozed = 1 } }
  no_read : hear_read none plain reader None start ≡ record start { counts = record no_counts { dozed = 1 } }
  late_read : hear_read none (air 1 RMatrix) reader (Some (taken 1 2)) (held 3) ≡ record (held 3) { counts = record no_counts { late = 1 } }
  -- two members that are no bucket; and if nothing is heard, a copy of the wanted item is used all the same
  two_refused : hear_all none plain reader (None ∷ None ∷ []) start ≡ record start { counts = record no_counts { refused = 2 } }
  settled : hear_all none plain reader [] (kept 1) ≡ record (kept 1) { held = taken 0 1 ∷ []; counts = record no_counts { copied = 1 } }

heard : Heard
unfolding open_bucket hear_read hear_all hear settle turn copy_of turn_with is_unusable judge_read decide hold accept_if_whole abort end_aged wanted query_of next_query next_attempt line_of with_line count_opened count_dozed count_late count_refused count_copied drop_copy offer keep with_copy without_item is_late spans_too_far span
heard = record { opened = refl; wanted_read = refl; other_read = refl; no_read = refl; late_read = refl; two_refused = refl; settled = refl }
