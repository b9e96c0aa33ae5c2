-- A backward pass over the commits that run alone for some reads: what is known at each place.
use Rattle.std.proofs.Common.{◌≡◌, ℕ, ◌+◌, ◌<◌, ◌≤◌, Bool, true, false, not, ◌==◌, ◌⊎◌, Option, Some, None, IfSome, List, length, get_or, map, All, refl, sym, ◌∙◌, ap, subst, inl, inr, arith, IsTrue}
use Rattle.std.specs.List.{list_any}
use Rattle.std.proofs.lemmas.Bool.{and_from, and_parts, both_ways, cases_Bool, cases_eq, cases_lt, eq-eqb, false_from_ne_true, or_cases, or_left, or_parts, or_right}
use Rattle.std.proofs.lemmas.List.{get_or-map, length-map}
use Rattle.std.proofs.lemmas.List.Folds.{list_any_at}
use Rattle.air_history.specs.declared.histories.Event.{Event}
use Rattle.air_history.specs.Histories.{event_at, reads, writer_before, writes, writes_of}
use Rattle.air_history.specs.Places.{same_place}
use Rattle.air_history.specs.DescentLaws.{ReadsFrom}
use Rattle.air_history.specs.Reads.{ReadAt, origin}
use Rattle.air_history.specs.Consistency.{consistent, runs_alone}
use Rattle.air_history.proofs.ConsistencyLemmas.{same_place_decides}
use Rattle.air_history.proofs.HistoryLemmas.{writer_before_some}
use Rattle.air_history.proofs.MarkLemmas.{Forgets, IsOpen, Seeks, writes_some}
use Rattle.air_history.proofs.PlaceLemmas.{any_at}
use Rattle.air_history.proofs.ScanLemmas.{before_more}
use Rattle.live_replay.specs.Findings.{read_in_cycle}
use Rattle.live_replay.specs.Private.Alone.{overwrites_read, is_met}
use Rattle.live_replay.proofs.AloneLemmas.{alone_below, alone_closed, alone_origin, alone_step, consistent_from}
use Rattle.live_replay.proofs.SoughtLemmas.{not_written, read_sought, sought_read, writes_are, written_one}

-- A commit that runs alone reads the item, and its last writer before that commit is the last one before `at`.
pub record IsAwaited (H : List Event) (R : List ReadAt) (at item : ℕ) : Type 0 where
  pub reader : ℕ
  pub alone : IsTrue (runs_alone H R reader)
  pub nth : ℕ
  pub within : nth < length (reads (event_at H reader))
  pub is : get_or (reads (event_at H reader)) nth 0 ≡ item
  pub same : writer_before H reader item ≡ writer_before H at item

-- The item's last writer before p is at `at` or later.
abbrev pub IsMet : List Event → ℕ → ℕ → ℕ → Type 0
IsMet H at p item = (w : ℕ) × (writer_before H p item ≡ Some w) × (at ≤ w)

-- The item is looked for, or its last writer before p is at `at` or later.
abbrev pub IsOpenOrMet : List Event → ℕ → List Bool → ℕ → ℕ → Type 0
IsOpenOrMet H at sought p item = IsOpen H at sought p item ⊎ IsMet H at p item

-- The pass has come down to `at`: what is looked for is awaited, and what the commits from `at` on read is looked for or met.
pub record IsWalked (H : List Event) (R : List ReadAt) (at : ℕ) (sought : List Bool) : Type 0 where
  pub just : (item : ℕ) → IsTrue (get_or sought item false) → IsAwaited H R at item
  pub settled : (p n : ℕ) → at ≤ p → IsTrue (runs_alone H R p) → n < length (reads (event_at H p)) → IsOpenOrMet H at sought p (get_or (reads (event_at H p)) n 0)

-- The pass has come down to `at`, and none of the commits that run alone comes late.
pub record IsPassed (H : List Event) (R : List ReadAt) (at : ℕ) (sought : List Bool) : Type 0 where
  pub walked : IsWalked H R at sought
  pub none_late : (q : ℕ) → at ≤ q → IsTrue (runs_alone H R q) → overwrites_read H R q ≡ false

one_writer : (o : Option ℕ) (v w : ℕ) → o ≡ Some v → o ≡ Some w → v ≡ w
one_writer o v w e f = cc

module _ (H : List Event) (R : List ReadAt) where
  -- Nothing runs alone after the last origin.
  pub walked_none : (end : ℕ) (clear : List Bool) → ((i : ℕ) → get_or clear i false ≡ false) → All (λ o. IfSome o (λ w. w < end)) (map (origin H) R) → IsWalked H R end clear
  walked_none end clear none all = record {
    just = λ item h. absurd (both_ways (get_or clear item false) (none item) h);
    settled = λ p n above a l. absurd (let below = alone_below H R end p all a in omega arith);
  }

  pub passed_none : (end : ℕ) (clear : List Bool) → ((i : ℕ) → get_or clear i false ≡ false) → All (λ o. IfSome o (λ w. w < end)) (map (origin H) R) → IsPassed H R end clear
  passed_none end clear none all = record {
    walked = walked_none end clear none all;
    none_late = λ q above a. absurd (let below = alone_below H R end q all a in omega arith);
  }

  -- A place that is met runs alone.
  pub met_alone : (at : ℕ) (sought : List Bool) → is_met H (map (origin H) R) at sought ≡ true → IsWalked H R (at + 1) sought → runs_alone H R at ≡ true
  met_alone at sought met m = elim (or_cases (list_any (λ o. same_place o (Some at)) (map (origin H) R)) _ met) as (λ _. runs_alone H R at ≡ true) [
    | inl an_origin ↦ (let f = any_at (λ o. same_place o (Some at)) (map (origin H) R) None an_origin in
        let l : f.0 < length R = omega (arith, f.1, length-map R (origin H)) in
        let d : ReadAt = read_in_cycle 0 0 in
        alone_origin H R at f.0 d l (sym (get_or-map (origin H) R f.0 d None l) ∙ (same_place_decides (get_or (map (origin H) R) f.0 None) (Some at)).0 f.2))
    | inr writer ↦ (let one = written_one (event_at H at) sought writer in
        let s = m.just one.0 one.1 in
        let wrote : writer_before H s.reader one.0 ≡ Some at = s.same ∙ before_more H one.0 at true one.2 in
        alone_closed H R s.reader at s.alone (record { nth = s.nth; within = s.within; wrote = ap (writer_before H s.reader) s.is ∙ wrote }))
  ]

  -- A place that isn't met doesn't.
  pub unmet : (at : ℕ) (sought : List Bool) → is_met H (map (origin H) R) at sought ≡ false → IsWalked H R (at + 1) sought → runs_alone H R at ≡ true → ⊥
  unmet at sought miss m a = elim (alone_step H R at a) as (λ _. ⊥) [
    | inl o ↦ (let d : ReadAt = read_in_cycle 0 0 in
        both_ways (list_any (λ o. same_place o (Some at)) (map (origin H) R)) neither.0
        (list_any_at (λ o. same_place o (Some at)) (map (origin H) R) o.0 None (omega (arith, o.1, length-map R (origin H)))
        (ap (λ x. same_place x (Some at)) (get_or-map (origin H) R o.0 d None o.1 ∙ o.2) ∙ eq-eqb at at refl)))
    | inr t ↦ by t.0 t.1 t.2 (m.settled t.0 t.2.nth (let lt = (writer_before_some H t.0 (get_or (reads (event_at H t.0)) t.2.nth 0) at t.2.wrote).0 in omega arith) t.1 t.2.within)
  ]
    where
      neither : (list_any (λ o. same_place o (Some at)) (map (origin H) R) ≡ false) × (writes_some (event_at H at) sought ≡ false)
      neither = or_parts (list_any (λ o. same_place o (Some at)) (map (origin H) R)) (writes_some (event_at H at) sought) miss

      by : (p : ℕ) → IsTrue (runs_alone H R p) → (f : ReadsFrom H p at) → IsOpenOrMet H (at + 1) sought p (get_or (reads (event_at H p)) f.nth 0) → ⊥
      by p b f (inl o) =
          let item = get_or (reads (event_at H p)) f.nth 0 in
          let wrote : writer_before H (at + 1) item ≡ Some at = sym o.same ∙ f.wrote in
          both_ways (writes (event_at H at) item) (not_written (event_at H at) sought item neither.1 o.looked) (writer_before_some H (at + 1) item at wrote).1
      by p b f (inr w) = let e : w.0 ≡ at = one_writer (writer_before H p (get_or (reads (event_at H p)) f.nth 0)) w.0 at w.1 f.wrote in let far = w.2 in omega arith

  -- So what is known there is known of the places from it on.
  later : (at : ℕ) (sought : List Bool) → is_met H (map (origin H) R) at sought ≡ false → IsWalked H R (at + 1) sought → (p : ℕ) → at ≤ p → IsTrue (runs_alone H R p) → at + 1 ≤ p
  later at sought miss m p above a = elim (cases_eq p at) as (λ _. at + 1 ≤ p) [
    | inl same ↦ absurd (unmet at sought miss m (subst (λ q. runs_alone H R q ≡ true) same a))
    | inr other ↦ omega arith
  ]

  pub walked_skip : (at : ℕ) (sought : List Bool) → is_met H (map (origin H) R) at sought ≡ false → IsWalked H R (at + 1) sought → IsWalked H R at sought
  walked_skip at sought miss m = record {
    just = λ item h. let s = m.just item h in record { reader = s.reader; alone = s.alone; nth = s.nth; within = s.within; is = s.is; same = s.same ∙ down item h };
    settled = λ p n above a l. elim (m.settled p n (later at sought miss m p above a) a l) as (λ _. IsOpenOrMet H at sought p (get_or (reads (event_at H p)) n 0)) [
      | inl o ↦ inl (record { looked = o.looked; same = o.same ∙ down (get_or (reads (event_at H p)) n 0) o.looked })
      | inr w ↦ inr (w.0, w.1, (let far = w.2 in omega arith))
    ];
  }
    where
      down : (item : ℕ) → IsTrue (get_or sought item false) → writer_before H (at + 1) item ≡ writer_before H at item
      down item h = before_more H item at false (not_written (event_at H at) sought item (or_parts (list_any (λ o. same_place o (Some at)) (map (origin H) R)) (writes_some (event_at H at) sought) miss).1 h)

  pub passed_skip : (at : ℕ) (sought : List Bool) → is_met H (map (origin H) R) at sought ≡ false → IsPassed H R (at + 1) sought → IsPassed H R at sought
  passed_skip at sought miss m = record {
    walked = walked_skip at sought miss m.walked;
    none_late = λ q above a. m.none_late q (later at sought miss m.walked q above a) a;
  }

  pub walked_more : (at : ℕ) (old mid new : List Bool) → runs_alone H R at ≡ true → Forgets (event_at H at) old mid → Seeks (event_at H at) mid new →
      IsWalked H R (at + 1) old → IsWalked H R at new
  walked_more at old mid new alone forgets seeks m = record {
    just = λ item h. elim (or_cases (get_or mid item false) _ (sym (seeks item) ∙ h)) as (λ _. IsAwaited H R at item) [
      | inl was ↦ (let both = and_parts (get_or old item false) _ (sym (forgets item) ∙ was) in
          let s = m.just item both.0 in
          let unwritten : writes (event_at H at) item ≡ false = writes_are (event_at H at) item ∙ false_from_ne_true _ (λ w. both_ways (not (list_any (λ w. w.item == item) (writes_of (event_at H at)))) (ap not w) both.1) in
          record { reader = s.reader; alone = s.alone; nth = s.nth; within = s.within; is = s.is; same = s.same ∙ before_more H item at false unwritten })
      | inr now ↦ (let f = sought_read (event_at H at) item now in record { reader = at; alone = alone; nth = f.0; within = f.1; is = f.2; same = refl })
    ];
    settled = λ p n above a l. elim (cases_eq p at) as (λ _. IsOpenOrMet H at new p (get_or (reads (event_at H p)) n 0)) [
      | inl same ↦ inl (record {
        looked = seeks (get_or (reads (event_at H p)) n 0) ∙ or_right _ _ (ap (λ q. list_any (λ r. r == get_or (reads (event_at H p)) n 0) (reads (event_at H q))) (sym same) ∙ read_sought (event_at H p) n l);
        same = ap (λ q. writer_before H q (get_or (reads (event_at H p)) n 0)) same;
      })
      | inr other ↦ elim (m.settled p n (omega arith) a l) as (λ _. IsOpenOrMet H at new p (get_or (reads (event_at H p)) n 0)) [
        | inl o ↦ still p (get_or (reads (event_at H p)) n 0) o (cases_Bool (writes (event_at H at) (get_or (reads (event_at H p)) n 0)))
        | inr w ↦ inr (w.0, w.1, (let far = w.2 in omega arith))
      ]
    ];
  }
    where
      still : (p item : ℕ) → IsOpen H (at + 1) old p item → (writes (event_at H at) item ≡ true) ⊎ (writes (event_at H at) item ≡ false) → IsOpenOrMet H at new p item
      still p item o (inl w) = inr (at, o.same ∙ before_more H item at true w, omega arith)
      still p item o (inr w) = inl (record {
        looked = seeks item ∙ or_left _ _ (forgets item ∙ and_from _ _ o.looked (ap not (sym (writes_are (event_at H at) item) ∙ w)));
        same = o.same ∙ before_more H item at false w;
      })

  pub passed_more : (at : ℕ) (old mid new : List Bool) → runs_alone H R at ≡ true → overwrites_read H R at ≡ false → Forgets (event_at H at) old mid → Seeks (event_at H at) mid new →
      IsPassed H R (at + 1) old → IsPassed H R at new
  passed_more at old mid new alone on_time forgets seeks m = record {
    walked = walked_more at old mid new alone forgets seeks m.walked;
    none_late = λ q above a. elim (cases_eq q at) as (λ _. overwrites_read H R q ≡ false) [
      | inl same ↦ ap (overwrites_read H R) same ∙ on_time
      | inr other ↦ m.none_late q (omega arith) a
    ];
  }

  -- Before the first place nothing comes late, so the reads are consistent.
  pub passed_all : (first at : ℕ) (sought : List Bool) → at ≤ first → ((q : ℕ) → overwrites_read H R q ≡ true → first ≤ q) → IsPassed H R at sought → consistent H R ≡ true
  passed_all first at sought low all m = consistent_from H R (λ q a. elim (cases_lt q first) as (λ _. overwrites_read H R q ≡ false) [
    | inl before ↦ false_from_ne_true _ (λ late. absurd (let far = all q late in omega arith))
    | inr beyond ↦ m.none_late q (omega arith) a
  ])
