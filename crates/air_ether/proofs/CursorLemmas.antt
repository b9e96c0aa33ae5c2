-- The two steps of the cursor: past a place at which nothing is left, and past a number for which no place is left.
use Rattle.std.proofs.Common.{◌≡◌, ℕ, ◌+◌, ◌-◌, ◌%◌, ◌<◌, ◌≤◌, Bool, true, false, ◌==◌, if◌then◌else◌, List, All, length, get_or, map, refl, sym, ◌∙◌, ap, arith, ◌⊎◌, inl, inr}
use Rattle.std.proofs.Math.Nat.{mod-lt}
use Rattle.std.proofs.lemmas.Bool.{ne_eqb, cases_lt}
use Rattle.std.proofs.lemmas.List.{get_or-map, length-map}
use Rattle.std.proofs.lemmas.List.Elements.{All-map}
use Rattle.air_ether.specs.declared.waiting.QueuedPush.{QueuedPush}
use Rattle.air_ether.specs.declared.cursor.Cursor.{Cursor}
use Rattle.air_ether.specs.HeardPositions.{InWindow, of_push, position, times_heard_at}
use Rattle.air_ether.specs.KeptPushes.{Push, Waits, nothing, push_in, push_of}
use Rattle.air_ether.proofs.HeardListLemmas.{length_push, number_passed, place_passed}

-- The room of a place, as it is read.
pub queued_read : (queue : List QueuedPush) (place : ℕ) (w : QueuedPush) → length queue ≡ 9 → w ≡ get_or queue (place % 9) w →
    push_in (map push_of queue) place ≡ push_of w
queued_read queue place w nine e =
    let small : place % 9 < 9 = mod-lt place (omega arith) in
    get_or-map push_of queue (place % 9) w nothing (omega arith) ∙ ap push_of (sym e)

-- No push is heard more than twice.
pub times_few : (queue : List QueuedPush) (c : Cursor) → length queue ≡ 9 → All (λ w. w.times ≤ 2) queue → times_heard_at (map push_of queue) c ≤ 2
times_few queue c nine few =
    let small : c.place % 9 < 9 = mod-lt c.place (omega arith) in
    by ((push_in (map push_of queue) c.place).due == c.number) (All-map (λ w. w.times ≤ 2) push_of queue few (c.place % 9) nothing (omega (arith, length-map queue push_of)))
  where
    by : (b : Bool) → (push_in (map push_of queue) c.place).times ≤ 2 → (if b then (push_in (map push_of queue) c.place).times else 0) ≤ 2
    by true l = l
    by false l = omega arith

-- The cursor before its push was given.
abbrev pub before_first : Cursor → Cursor
before_first c = record { number = c.number; place = c.place; given = 0 }

abbrev pub past_place : Cursor → Cursor
past_place c = record { number = c.number; place = c.place + 1; given = 0 }

abbrev pub past_number : Cursor → Cursor
past_number c = record { number = c.number + 1; place = c.number + 1 - 8; given = 0 }

pub next_place : (pushes limit : ℕ) (queue : List Push) (c : Cursor) → InWindow pushes limit queue c → c.number < limit → c.place < pushes → c.place ≤ c.number →
    InWindow pushes limit queue (past_place c)
next_place pushes limit queue c w below within upto = record {
  number = w.number;
  new = w.new;
  from = omega (arith, w.from);
  to = omega arith;
  place = omega arith;
  given = λ _. omega arith;
  none = λ _. refl;
  at_start = λ e. absurd (omega arith);
  first = λ _. refl;
}

pub next_number : (pushes limit : ℕ) (queue : List Push) (c : Cursor) → InWindow pushes limit queue c → c.number < limit → limit ≤ pushes + 8 →
    InWindow pushes limit queue (past_number c)
next_number pushes limit queue c w below far = record {
  number = omega arith;
  new = omega (arith, w.new);
  from = omega arith;
  to = omega arith;
  place = omega arith;
  given = λ _. omega arith;
  none = λ _. refl;
  at_start = λ _. refl;
  first = λ _. refl;
}

-- What is kept of a push in the window is the push.
pub kept : (due times : ℕ → ℕ) (pushes limit : ℕ) (queue : List Push) (c : Cursor) → Waits due times pushes queue → InWindow pushes limit queue c → c.place < pushes →
    length (of_push due times c.number c.place) ≡ times_heard_at queue c
kept due times pushes limit queue c all w within =
    let last : pushes ≤ c.place + 9 = omega (arith, w.new, w.from) in
    length_push due times c.number c.place
    ∙ sym (ap (λ d. if d == c.number then (push_in queue c.place).times else 0) (all.due_kept c.place within last)
    ∙ ap (λ t. if due c.place == c.number then t else 0) (all.times_kept c.place within last))

pub same_place : (due times : ℕ → ℕ) (pushes limit : ℕ) (queue : List Push) (c : Cursor) → Waits due times pushes queue → InWindow pushes limit queue c → c.place < pushes →
    times_heard_at queue c ≤ c.given → position due times pushes (past_place c) ≡ position due times pushes c
same_place due times pushes limit queue c all w within passed =
    place_passed due times pushes c.number c.place c.given
    (let e = kept due times pushes limit queue c all w within in let most = w.given within in omega arith)

-- A place past its number, or past all pushes, was not given.
none_given : (due times : ℕ → ℕ) (pushes limit : ℕ) (queue : List Push) (c : Cursor) → Waits due times pushes queue → InWindow pushes limit queue c →
    c.number < c.place ⊎ pushes ≤ c.place → c.given ≡ 0
none_given due times pushes limit queue c all w (inr past) = w.none past
none_given due times pushes limit queue c all w (inl above) = by (cases_lt c.place pushes)
  where
    by : (c.place < pushes) ⊎ (pushes ≤ c.place) → c.given ≡ 0
    by (inr past) = w.none past
    by (inl within) =
        let low = all.low c.place in
        let most = w.given within in
        let e = kept due times pushes limit queue c all w within in
        let f = length_push due times c.number c.place in
        let none : ◌≡◌ {A = ℕ} (if due c.place == c.number then times c.place else 0) 0 =
        ap (λ (b : Bool). if b then times c.place else 0) (ne_eqb (due c.place) c.number (λ same. absurd (omega arith))) in
        omega arith

pub same_number : (due times : ℕ → ℕ) (pushes limit : ℕ) (queue : List Push) (c : Cursor) → Waits due times pushes queue → InWindow pushes limit queue c →
    c.number < c.place ⊎ pushes ≤ c.place → position due times pushes (past_number c) ≡ position due times pushes c
same_number due times pushes limit queue c all w past =
    number_passed due times pushes c.number c.place c.given all.low all.high w.place past (none_given due times pushes limit queue c all w past)
