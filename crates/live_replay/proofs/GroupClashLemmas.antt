-- The clash by groups, by the commits from which the origins of a group's reads descend.
use Rattle.std.proofs.Common.{◌≡◌, ℕ, ◌+◌, ◌-◌, ◌<◌, ◌≤◌, Bool, true, false, nat_le, List, [], ◌∷◌, ◌++◌, length, get_or, take, All, refl, sym, ◌∙◌, ap, subst, inl, inr, arith}
use Rattle.std.specs.List.{list_any}
use Rattle.std.proofs.lemmas.Bool.{and_from, and_parts, cases_lt, false_from_ne_true, false≢true, le-leb, leb-true}
use Rattle.std.proofs.lemmas.List.{get_or-map, get_or-take, get_or_append_left, get_or_default, get_or_push, length-map, length-take-le, length_push, take_all}
use Rattle.std.proofs.lemmas.List.Elements.{All-cons, All-nil, All-take}
use Rattle.std.proofs.lemmas.List.Folds.{list_any_at}
use Rattle.air_base.specs.declared.verdicts.ReadOf.{ReadOf}
use Rattle.air_history.specs.declared.histories.Event.{Event}
use Rattle.air_history.specs.Columns.{column_entry, entry_at, group_entry, group_of}
use Rattle.air_history.specs.Consistency.{descends_from, runs_alone}
use Rattle.air_history.specs.Clashes.{group_clash}
use Rattle.air_history.specs.Histories.{writes, event_at, cycle_at, front}
use Rattle.air_history.specs.Reads.{ReadAt}
use Rattle.air_history.proofs.ConsistencyLemmas.{alone_at, alone_from, entry_below, entry_says}
use Rattle.air_history.proofs.GroupLemmas.{greatest_of_reaches, group_by_held, group_by_new}
use Rattle.air_history.proofs.HistoryLemmas.{front_cycle}
use Rattle.air_history.proofs.OriginLemmas.{descends_from_front}
use Rattle.air_history.proofs.PlaceLemmas.{any_at}
use Rattle.air_model.specs.Decks.{values_in}
use Rattle.live_replay.specs.declared.groups.GroupMarks.{GroupMarks}
use Rattle.live_replay.specs.declared.writes.ItemWrite.{ItemWrite}
use Rattle.live_replay.specs.Findings.{place_of_line, read_in_cycle}
use Rattle.live_replay.specs.Private.Groups.{AreMarksOf, HaveMarks, group_reads, is_marked, writes_between}
use Rattle.live_replay.specs.Private.Replays.{DeckAndHistory}
use Rattle.live_replay.proofs.BetweenLemmas.{IsBetween, between_any, between_are, between_each}

-- From the place the reads of a group descend, and its commit writes the item in cycle c or later.
pub record IsHit (H : List Event) (g n : ℕ) (x : ReadAt) (i c p : ℕ) : Type 0 where
  pub alone : runs_alone H (group_reads g n x) p ≡ true
  pub writes : writes (event_at H p) i ≡ true
  pub from : c ≤ cycle_at H p

module _ (H : List Event) (g n : ℕ) where
  -- A test that passes if and only if there is such a place says whether the group's column has the item at cycle c or later.
  group_told : (x : ReadAt) (i c : ℕ) (b : Bool) → 1 ≤ c → (b ≡ true → (p : ℕ) × IsHit H g n x i c p) → ((p : ℕ) → IsHit H g n x i c p → b ≡ true) →
      nat_le c (group_entry g n (front H x.cycle) x.item i) ≡ b
  unfolding group_entry
  group_told x i c true pos some all =
      let hit = some refl in
      let items = group_of g n x.item in
      let none : ReadAt = read_in_cycle 0 0 in
      let s = alone_at H (group_reads g n x) hit.0 none hit.1.alone in
      let within : s.0 < length items = omega (arith, s.1, length-map items (λ q. read_in_cycle q x.cycle)) in
      let q : ℕ = get_or items s.0 0 in
      let its : descends_from H (read_in_cycle q x.cycle) hit.0 ≡ true = ap (λ r. descends_from H r hit.0) (sym (get_or-map (λ q. read_in_cycle q x.cycle) items s.0 0 none within)) ∙ s.2 in
      let reaches : c ≤ entry_at H x.cycle q i = elim (cases_lt (entry_at H x.cycle q i) c) as (λ _. c ≤ entry_at H x.cycle q i) [
        | inl low ↦ absurd (let under = entry_says H (read_in_cycle q x.cycle) i c hit.0 low its hit.1.writes in let from = hit.1.from in omega arith)
        | inr high ↦ high
      ] in
      greatest_of_reaches (λ q. column_entry (front H x.cycle) q i) c items pos
      ∙ list_any_at (λ q. nat_le c (column_entry (front H x.cycle) q i)) items s.0 0 within (le-leb c (entry_at H x.cycle q i) reaches)
  group_told x i c false pos some all =
      let items = group_of g n x.item in
      let none : ReadAt = read_in_cycle 0 0 in
      greatest_of_reaches (λ q. column_entry (front H x.cycle) q i) c items pos
      ∙ false_from_ne_true _ (λ told.
      let r = any_at (λ q. nat_le c (column_entry (front H x.cycle) q i)) items 0 told in
      let q : ℕ = get_or items r.0 0 in
      let reaches : c ≤ entry_at H x.cycle q i = leb-true c (entry_at H x.cycle q i) r.2 in
      let below : entry_at H x.cycle q i < c = entry_below H (read_in_cycle q x.cycle) i c pos (λ p its wrote. elim (cases_lt (cycle_at H p) c) as (λ _. cycle_at H p < c) [
        | inl low ↦ low
        | inr high ↦ absurd (false≢true (all p (record {
          alone = alone_from H (group_reads g n x) p r.0 none (omega (arith, r.1, length-map items (λ q. read_in_cycle q x.cycle)))
              (ap (λ s. descends_from H s p) (get_or-map (λ q. read_in_cycle q x.cycle) items r.0 0 none r.1) ∙ its);
          writes = wrote;
          from = high;
        })))
      ]) in
      absurd (omega arith))

  pub clash_by_new : (r x : ReadAt) (b : Bool) → 1 ≤ r.cycle → r.cycle ≤ x.cycle → (b ≡ true → (p : ℕ) × IsHit H g n x r.item r.cycle p) → ((p : ℕ) → IsHit H g n x r.item r.cycle p → b ≡ true) →
      group_clash H g n r x ≡ b
  clash_by_new r x b pos le some all = group_by_new H g n r x pos le ∙ group_told x r.item r.cycle b pos some all

  pub clash_by_held : (r x : ReadAt) (b : Bool) → 1 ≤ x.cycle → x.cycle < r.cycle → (b ≡ true → (p : ℕ) × IsHit H g n r x.item x.cycle p) → ((p : ℕ) → IsHit H g n r x.item x.cycle p → b ≡ true) →
      group_clash H g n r x ≡ b
  clash_by_held r x b pos lt some all = group_by_held H g n r x pos lt ∙ group_told r x.item x.cycle b pos some all

  -- What runs alone for a group's reads is before their cycle.
  alone_before : (x : ReadAt) (p : ℕ) → runs_alone H (group_reads g n x) p ≡ true → cycle_at H p < x.cycle
  alone_before x p a =
      let items = group_of g n x.item in
      let none : ReadAt = read_in_cycle 0 0 in
      let s = alone_at H (group_reads g n x) p none a in
      let within : s.0 < length items = omega (arith, s.1, length-map items (λ q. read_in_cycle q x.cycle)) in
      let its : descends_from H (read_in_cycle (get_or items s.0 0) x.cycle) p ≡ true = ap (λ r. descends_from H r p) (sym (get_or-map (λ q. read_in_cycle q x.cycle) items s.0 0 none within)) ∙ s.2 in
      front_cycle H x.cycle p (descends_from_front H (read_in_cycle (get_or items s.0 0) x.cycle) p its)

-- ---- by the marks

module _ (r : DeckAndHistory) (other read : ReadOf) (m : GroupMarks) (are : AreMarksOf r (other ∷ []) read m) where
  abbrev V : List ℕ
  V = values_in r.deck

  abbrev H : List Event
  H = r.history

  abbrev Hits : ℕ → Type 0
  Hits p = IsHit r.history r.deck.settings.group (length r.deck.items) (place_of_line read) other.item other.cycle p

  -- A marked write of the other read's item is such a place, and such a place is a marked write.
  pub marked_hits : list_any (λ w. is_marked m w.place) (writes_between (values_in r.deck) r.history other.item other.cycle read.cycle) ≡ true → (p : ℕ) × Hits p
  marked_hits any =
      let none : ItemWrite = record { place = 0; cycle = 0; value = 0 } in
      let ws = writes_between V H other.item other.cycle read.cycle in
      let f = any_at (λ (w : ItemWrite). is_marked m w.place) ws none any in
      let p : ℕ = (get_or ws f.0 none).place in
      let both = and_parts (nat_le m.first p) (get_or m.marks.items (p - m.first) false) f.2 in
      let low : m.first ≤ p = leb-true m.first p both.0 in
      let at : m.first + (p - m.first) ≡ p = omega arith in
      let is = between_are V H other.item other.cycle read.cycle f.0 none f.1 in (
        p,
        record {
          alone = ap (runs_alone H (group_reads r.deck.settings.group (length r.deck.items) (place_of_line read))) (sym at) ∙ sym (are.alone (p - m.first)) ∙ both.1;
          writes = is.writes;
          from = is.from;
        },
      )

  pub hits_marked : (p : ℕ) → Hits p → list_any (λ w. is_marked m w.place) (writes_between (values_in r.deck) r.history other.item other.cycle read.cycle) ≡ true
  hits_marked p hit =
      let is : IsBetween H other.item other.cycle read.cycle p = record {
        writes = hit.writes;
        from = hit.from;
        before = alone_before H r.deck.settings.group (length r.deck.items) (place_of_line read) p hit.alone;
      } in
      let low : m.first ≤ p = between_each V H other.item other.cycle read.cycle (λ q. m.first ≤ q) p is (are.low 0 other (omega arith)) in
      let at : m.first + (p - m.first) ≡ p = omega arith in
      between_any V H other.item other.cycle read.cycle (is_marked m) p is
      (and_from _ _ (le-leb m.first p low)
      (are.alone (p - m.first) ∙ ap (runs_alone H (group_reads r.deck.settings.group (length r.deck.items) (place_of_line read))) at ∙ hit.alone))

-- The marks of a read as far back as one of the others needs them.
pub marks_for : (r : DeckAndHistory) (others : List ReadOf) (read : ReadOf) (m : GroupMarks) (k : ℕ) (d : ReadOf) → k < length others → AreMarksOf r others read m → AreMarksOf r (get_or others k d ∷ []) read m
marks_for r others read m k d l are = record { alone = are.alone; low = All-cons (λ (o : ReadOf). All (λ w. m.first ≤ w.place) (writes_between (values_in r.deck) r.history o.item o.cycle read.cycle)) (get_or others k d) [] (are.low k d l) (All-nil _) }

-- ---- the marks of several reads

pub have_none : (r : DeckAndHistory) (others : List ReadOf) → HaveMarks r others [] []
have_none r others = record { sized = refl; each = λ k d e l. absurd (omega arith) }

-- One more read with its marks.
pub have_more : (r : DeckAndHistory) (others reads : List ReadOf) (marks : List GroupMarks) (n : ℕ) (d : ReadOf) (m : GroupMarks) → n < length reads →
    AreMarksOf r others (get_or reads n d) m → HaveMarks r others (take n reads) marks → HaveMarks r others (take (n + 1) reads) (marks ++ m ∷ [])
have_more r others reads marks n d m l are have =
    let long : length (take n reads) ≡ n = length-take-le n reads (omega arith) in
    let more : length (take (n + 1) reads) ≡ n + 1 = length-take-le (n + 1) reads (omega arith) in
    let sized : length marks ≡ n = have.sized ∙ long in
    record {
      sized = length_push marks m ∙ ap (λ k. k + 1) sized ∙ sym more;
      each = λ k d' e lt. elim (cases_lt k n) as (λ _. AreMarksOf r others (get_or (take (n + 1) reads) k d') (get_or (marks ++ m ∷ []) k e)) [
        | inl low ↦ subst (λ x. AreMarksOf r others x (get_or (marks ++ m ∷ []) k e)) (get_or-take n reads k d' low ∙ sym (get_or-take (n + 1) reads k d' (omega arith)))
            (subst (AreMarksOf r others (get_or (take n reads) k d')) (sym (get_or_append_left marks (m ∷ []) e k (omega arith))) (have.each k d' e (omega arith)))
        | inr high ↦ (let same : k ≡ n = omega arith in
            subst (λ x. AreMarksOf r others x (get_or (marks ++ m ∷ []) k e)) (get_or_default reads n d d' l ∙ ap (λ j. get_or reads j d') (sym same) ∙ sym (get_or-take (n + 1) reads k d' (omega arith)))
            (subst (AreMarksOf r others (get_or reads n d)) (sym (get_or_push marks m e k (omega arith))) are))
      ];
    }

pub have_all : (r : DeckAndHistory) (others reads : List ReadOf) (marks : List GroupMarks) (n : ℕ) → length reads ≤ n → HaveMarks r others (take n reads) marks → HaveMarks r others reads marks
have_all r others reads marks n all have = subst (λ rs. HaveMarks r others rs marks) (take_all n reads all) have

-- The first reads have the first marks, as far back as one of the others needs them.
pub have_front : (r : DeckAndHistory) (others reads : List ReadOf) (marks : List GroupMarks) (k n : ℕ) (d : ReadOf) → n < length others → k ≤ length reads →
    HaveMarks r others reads marks → HaveMarks r (get_or others n d ∷ []) (take k reads) (take k marks)
have_front r others reads marks k n d l few have =
    let long : length (take k reads) ≡ k = length-take-le k reads few in
    let sized = have.sized in
    record {
      sized = length-take-le k marks (omega arith) ∙ sym long;
      each = λ j d' e lt. subst (λ x. AreMarksOf r (get_or others n d ∷ []) x (get_or (take k marks) j e)) (sym (get_or-take k reads j d' (omega arith)))
          (subst (AreMarksOf r (get_or others n d ∷ []) (get_or reads j d')) (sym (get_or-take k marks j e (omega arith)))
          (marks_for r others (get_or reads j d') (get_or marks j e) n d l (have.each j d' e (omega arith))));
    }

-- Marks as far back as some reads need them are so for the first of these.
pub marks_front : (r : DeckAndHistory) (others : List ReadOf) (read : ReadOf) (m : GroupMarks) (k : ℕ) → AreMarksOf r others read m → AreMarksOf r (take k others) read m
marks_front r others read m k are = record {
  alone = are.alone;
  low = All-take (λ (o : ReadOf). All (λ w. m.first ≤ w.place) (writes_between (values_in r.deck) r.history o.item o.cycle read.cycle)) k others are.low;
}
