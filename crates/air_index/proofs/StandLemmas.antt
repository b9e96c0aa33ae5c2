-- The records of the indexed tape of a history stand for the marks of its cycles.
use Rattle.std.proofs.Common.{◌≡◌, ◌≤◌, ◌<◌, inl, inr, ◌+◌, ◌-◌, ◌^◌, ◌++◌, ◌==◌, ℕ, zero, suc, true, Option, Some, None, List, [], ◌∷◌, All, drop, get_or, length, length-append, map, slice_get, refl, sym, subst, ◌∙◌, ap, arith}
use Rattle.std.specs.Prelude.{⊤}
use Rattle.std.specs.List.{flat_map, position_or_len, range_with_len}
use Rattle.std.proofs.lemmas.Grind.{flat_map-append}
use Rattle.std.proofs.lemmas.List.{append-nil, drop-drop, drop-map, drop_at, get_or-drop}
use Rattle.std.proofs.lemmas.List.Elements.{All-append, All-cons, All-drop, All-head, All-nil, All-tail}
use Rattle.std.proofs.lemmas.List.FromFn.{get_or-map-range_with_len, length-map-range_with_len}
use Rattle.std.proofs.lemmas.Option.{slice_get-get_or}
use Rattle.air_base.specs.declared.verdicts.Policy.{Policy}
use Rattle.air_base.specs.declared.verdicts.Policy.TheVariants.{FMatrix, Datacycle, RMatrix}
use Rattle.air_history.specs.declared.histories.Event.{Event}
use Rattle.air_history.specs.Reads.{read_value}
use Rattle.air_history.specs.Tables.{values_of}
use Rattle.air_model.specs.Aired.{aired_as, air_of, body_of, bucket_of, cycle_buckets, slots_at}
use Rattle.air_model.specs.Airings.{carries}
use Rattle.air_model.specs.Buckets.{Bucket, IsInRange, capped_body, spelling, value_of}
use Rattle.air_model.specs.Decks.{Deck, IsDeck, disks_in, edition, values_in}
use Rattle.air_model.specs.Disks.{Disk}
use Rattle.air_model.specs.Programs.{minor_cycle, num_minors, program}
use Rattle.air_model.proofs.EditionLemmas.{edition_within, slots_are}
use Rattle.item_catalog.specs.DeckLimits.{WithinLimits}
use Rattle.chunk_program.specs.Editions.{planned_slots, plans_in}
use Rattle.chunk_program.specs.Plans.{AreShort}
use Rattle.chunk_program.proofs.CutLemmas.{deck_items, deck_limits}
use Rattle.chunk_program.proofs.EditionSteps.{slots_of_cycle}
use Rattle.air_index.specs.Indexes.{index_bytes}
use Rattle.air_index.specs.IndexedTapes.{entries_for, records_at_marks, records_from}
use Rattle.air_index.specs.OnAir.{IsIndex, IsSlot, Mark, ahead, entry_for, marks_at, marks_index, marks_item, marks_of, wait_for}
use Rattle.air_index.specs.Records.{data_bytes}
use Rattle.air_index.specs.SeekLaws.{IsInCycle, marks_on}
use Rattle.air_index.specs.Seeks.{has_item}
use Rattle.air_index.proofs.AheadLemmas.{deck_marks, item_comes, item_marked}
use Rattle.air_index.proofs.BackLemmas.{deck_data_back, deck_index_back}
use Rattle.air_index.proofs.FollowLemmas.{IsLater, LeadsTo, StandFor, StandsFor, StandsForIndex, StandsForSlot, leads}
use Rattle.air_index.proofs.MarkLemmas.{begins_with_index, some_parts, with_index}
use Rattle.air_index.proofs.SizeLemmas.{minors_within, range_more}

-- ---- the slots among marks

unfoldable pub slots_in : List Mark → List (Option ℕ)
slots_in [] = []
slots_in (IsIndex m ∷ marks) = slots_in marks
slots_in (IsSlot o ∷ marks) = o ∷ slots_in marks

slots_append : (os : List (Option ℕ)) (marks : List Mark) → slots_in (map IsSlot os ++ marks) ≡ os ++ slots_in marks
unfolding slots_in
slots_append [] marks = refl
slots_append (o ∷ os) marks = ap (λ l. o ∷ l) (slots_append os marks)

slots_of_minors : (minor : ℕ → List (Option ℕ)) (ns : List ℕ) → slots_in (flat_map (with_index minor) ns) ≡ flat_map minor ns
unfolding slots_in with_index
slots_of_minors minor [] = refl
slots_of_minors minor (n ∷ ns) = slots_append (minor n) (flat_map (with_index minor) ns) ∙ ap (λ l. minor n ++ l) (slots_of_minors minor ns)

slots_of_marks : (disks : List Disk) → slots_in (marks_of disks) ≡ program disks
unfolding marks_of program with_index
slots_of_marks disks = slots_of_minors (minor_cycle (num_minors disks) disks) (range_with_len 0 (num_minors disks))

-- ---- the minor cycles of marks

unfoldable pub IsNumbered : ℕ → Mark → Type 0
IsNumbered n (IsIndex m) = m < n
IsNumbered n (IsSlot o) = ⊤

numbered_slots : (n : ℕ) (os : List (Option ℕ)) → All (IsNumbered n) (map IsSlot os)
unfolding IsNumbered
numbered_slots n [] = All-nil (IsNumbered n)
numbered_slots n (o ∷ os) = All-cons (IsNumbered n) (IsSlot o) (map IsSlot os) tt (numbered_slots n os)

numbered_minors : (minor : ℕ → List (Option ℕ)) (a k n : ℕ) → a + k ≤ n → All (IsNumbered n) (flat_map (with_index minor) (range_with_len a k))
unfolding IsNumbered with_index
numbered_minors minor a zero n few = All-nil (IsNumbered n)
numbered_minors minor a (suc k) n few =
    All-append (IsNumbered n) (IsIndex a ∷ map IsSlot (minor a)) (flat_map (with_index minor) (range_with_len (a + 1) k)) (All-cons (IsNumbered n) (IsIndex a) (map IsSlot (minor a)) (omega arith) (numbered_slots n (minor a)))
    (numbered_minors minor (a + 1) k n (omega arith))

numbered_marks : (disks : List Disk) (n : ℕ) → num_minors disks ≤ n → All (IsNumbered n) (marks_of disks)
unfolding marks_of with_index
numbered_marks disks n few = numbered_minors (minor_cycle (num_minors disks) disks) 0 (num_minors disks) n (omega arith)

-- ---- what a slot's bucket tells

aired_item : (i j : ℕ) (policy : Policy) (version c value : ℕ) (es : List ℕ) → has_item i (capped_body version c (aired_as policy j value es)) ≡ (j == i)
unfolding has_item capped_body
aired_item i j FMatrix version c value es = refl
aired_item i j Datacycle version c value es = refl
aired_item i j RMatrix version c value es = refl

aired_value : (policy : Policy) (version c j value : ℕ) (es : List ℕ) → value_of (capped_body version c (aired_as policy j value es)) ≡ value
unfolding value_of capped_body
aired_value FMatrix version c j value es = refl
aired_value Datacycle version c j value es = refl
aired_value RMatrix version c j value es = refl

slot_item_told : (values : List ℕ) (deck : Deck) (H : List Event) (c i : ℕ) (o : Option ℕ) (version : ℕ) → has_item i (capped_body version c (body_of values (air_of deck) H c o)) ≡ carries i o
unfolding body_of has_item capped_body
slot_item_told values deck H c i None version = refl
slot_item_told values deck H c i (Some j) version = aired_item i j deck.settings.policy version c _ _

slot_value_told : (values : List ℕ) (deck : Deck) (H : List Event) (c i : ℕ) (o : Option ℕ) (version : ℕ) → carries i o ≡ true
    → value_of (capped_body version c (body_of values (air_of deck) H c o)) ≡ read_value (values_of values) H (record { item = i; cycle = c })
unfolding body_of
slot_value_told values deck H c i None version e = cc e
slot_value_told values deck H c i (Some j) version e =
    let same : j ≡ i = grind arith in
    aired_value deck.settings.policy version c j _ _ ∙ ap (λ k. read_value (values_of values) H (record { item = k; cycle = c })) same

-- The bucket of slot s of cycle c.
abbrev pub aired : Deck → List Event → ℕ → ℕ → Bucket
aired deck H c s = bucket_of (values_in deck) (air_of deck) H (air_of deck).version c s

pub buckets_left : (deck : Deck) (H : List Event) (c : ℕ) (rest : List Bucket) → drop (length (planned_slots (plans_in deck) c)) (map spelling (cycle_buckets (values_in deck) (air_of deck) H c ++ rest)) ≡ map spelling rest
buckets_left deck H c rest =
    let bs = cycle_buckets (values_in deck) (air_of deck) H c in
    let long : length bs ≡ length (planned_slots (plans_in deck) c) =
    length-map-range_with_len (aired deck H c) 0 (length (slots_at (air_of deck) c)) ∙ ap length (slots_are deck c ∙ sym (slots_of_cycle deck (plans_in deck) c refl)) in
    drop-map spelling (length (planned_slots (plans_in deck) c)) (bs ++ rest) ∙ ap (map spelling) (drop_at bs rest (length (planned_slots (plans_in deck) c)) long)

-- ---- a cycle's marks

pub numbered : (deck : Deck) → IsDeck deck → WithinLimits deck → AreShort deck → (c : ℕ) → All (IsNumbered 16384) (marks_at (plans_in deck) c)
numbered deck made within short c =
    let e = edition deck c in
    let disks = disks_in deck e in
    let there = edition_within deck c in
    let few = short e there in
    let are = deck_limits deck e made within there in
    let held = are.some in
    let some = item_comes disks 0 are held in
    let minors = minors_within disks (length (program disks)) refl (omega arith) in
    subst (All (IsNumbered 16384)) (sym (deck_marks deck c)) (numbered_marks disks 16384 (omega arith))

pub slots_here : (deck : Deck) (c : ℕ) → slots_in (marks_at (plans_in deck) c) ≡ slots_at (air_of deck) c
slots_here deck c = ap slots_in (deck_marks deck c) ∙ slots_of_marks (disks_in deck (edition deck c)) ∙ sym (slots_are deck c)

pub drop_next : {X : Type 0} (xs : List X) (q : ℕ) (x : X) (rest : List X) → drop q xs ≡ x ∷ rest → drop (q + 1) xs ≡ rest
drop_next xs q x rest at = sym (drop-drop 1 q xs) ∙ ap (drop 1) at

pub slot_there : (slots : List (Option ℕ)) (s : ℕ) (o : Option ℕ) (rest : List (Option ℕ)) → drop s slots ≡ o ∷ rest → get_or slots s None ≡ o
slot_there slots s o rest at = let here : get_or (drop s slots) 0 None ≡ o = ap (λ l. get_or l 0 None) at in sym (get_or-drop s slots 0 None ∙ ap (λ k. get_or slots k None) (omega arith)) ∙ here

-- What is to be told of item i at a place: the place's cycle, and the item's value at that cycle's start.
pub record IsToldAt (deck : Deck) (H : List Event) (i place cycle value : ℕ) : Type 0 where
  pub in_cycle : IsInCycle (plans_in deck) place cycle
  pub its_value : value ≡ read_value (values_of (values_in deck)) H (record { item = i; cycle = cycle })

-- ---- a deck's history

module _ (deck : Deck) (H : List Event) (made : IsDeck deck) (within : WithinLimits deck) (short : AreShort deck) (i : ℕ) (below : i < length deck.items) where
  -- the item and an index come in each cycle
  pub comes : (c : ℕ) → (position_or_len (marks_item i) (marks_at (plans_in deck) c) < length (marks_at (plans_in deck) c)) × (position_or_len marks_index (marks_at (plans_in deck) c) < length (marks_at (plans_in deck) c))
  comes c =
      let e = edition deck c in
      let disks = disks_in deck e in
      let there = edition_within deck c in
      let are = deck_limits deck e made within there in
      let items = deck_items deck e made within there in
      let some = item_comes disks i are (omega arith) in
      let marked = item_marked disks i some in
      let first = begins_with_index disks (some_parts disks (omega arith)).0 in
      subst (λ (l : List Mark). (position_or_len (marks_item i) l < length l) × (position_or_len marks_index l < length l)) (sym (deck_marks deck c)) (marked, omega arith)

  entry_listed : (c q : ℕ) → slice_get (entries_for (plans_in deck) (length deck.items) c q) i ≡ Some (entry_for (plans_in deck) c q i)
  unfolding entries_for
  entry_listed c q =
      let n = length deck.items in
      let long = length-map-range_with_len (entry_for (plans_in deck) c q) 0 n in
      slice_get-get_or (map (entry_for (plans_in deck) c q) (range_with_len 0 n)) i 0 (omega arith)
      ∙ ap Some (get_or-map-range_with_len (entry_for (plans_in deck) c q) 0 n i i 0 below (omega arith))

  -- the index at place q of cycle c
  index_stands : (c q m : ℕ) (marks later : List Mark) → 1 ≤ c → c < 2 ^ 32 → m < 16384 → drop (q + 1) (marks_at (plans_in deck) c) ≡ marks → IsLater (marks_at (plans_in deck) (c + 1)) later
      → StandsForIndex i (marks ++ later) (index_bytes c m (entries_for (plans_in deck) (length deck.items) c q))
  unfolding entry_for ahead
  index_stands c q m marks later started few minor rest follows = record {
    index = record { cycle = c; minor = m; entries = entries_for (plans_in deck) (length deck.items) c q };
    reads = deck_index_back deck c q made within short m started few (omega arith);
    entry = entry_for (plans_in deck) c q i;
    listed = entry_listed c q;
    leads = subst (λ l. LeadsTo (marks_item i) (position_or_len (marks_item i) (l ++ marks_at (plans_in deck) (c + 1)) + 1) (marks ++ later)) (sym rest)
        (leads (marks_item i) marks (marks_at (plans_in deck) (c + 1)) later (comes (c + 1)).0 follows);
  }

  -- the slot s of cycle c, at place q
  slot_stands : (c q s k : ℕ) (o : Option ℕ) (marks later : List Mark) → IsInCycle (plans_in deck) k c → get_or (slots_at (air_of deck) c) s None ≡ o → IsInRange (aired deck H c s)
      → drop (q + 1) (marks_at (plans_in deck) c) ≡ marks → IsLater (marks_at (plans_in deck) (c + 1)) later
      → StandsForSlot (IsToldAt deck H i) i k o (marks ++ later) (data_bytes (wait_for (plans_in deck) c q) (spelling (aired deck H c s)))
  unfolding wait_for ahead bucket_of
  slot_stands c q s k o marks later placed slot range rest follows =
      let item : has_item i (aired deck H c s).body ≡ carries i o = slot_item_told (values_in deck) deck H c i (get_or (slots_at (air_of deck) c) s None) (air_of deck).version ∙ ap (carries i) slot in
      record {
        wait = wait_for (plans_in deck) c q;
        bucket = aired deck H c s;
        reads = deck_data_back deck c q made within short (aired deck H c s) range;
        item = item;
        leads = subst (λ l. LeadsTo marks_index (position_or_len marks_index (l ++ marks_at (plans_in deck) (c + 1)) + 1) (marks ++ later)) (sym rest)
            (leads marks_index marks (marks_at (plans_in deck) (c + 1)) later (comes (c + 1)).1 follows);
        told = λ has. record {
          in_cycle = placed;
          its_value =
              slot_value_told (values_in deck) deck H c i (get_or (slots_at (air_of deck) c) s None) (air_of deck).version
              (sym (slot_item_told (values_in deck) deck H c i (get_or (slots_at (air_of deck) c) s None) (air_of deck).version) ∙ has);
        };
      }

  -- ---- a cycle

  -- the records of the marks of cycle c from place q on, and those that follow, where first is the place at which the cycle begins
  cycle_stands : (c first q s : ℕ) (marks later : List Mark) (bs : List Bucket) (rs : List (List ℕ)) → 1 ≤ c → c < 2 ^ 32 → IsLater (marks_at (plans_in deck) (c + 1)) later
      → length (marks_on (plans_in deck) (c - 1)) ≤ first → first + q + length marks ≤ length (marks_on (plans_in deck) c) → drop q (marks_at (plans_in deck) c) ≡ marks → All (IsNumbered 16384) marks
      → drop s (slots_at (air_of deck) c) ≡ slots_in marks → All IsInRange (map (aired deck H c) (range_with_len s (length (slots_in marks))) ++ bs) → StandFor (IsToldAt deck H i) i (first + q + length marks) later rs
      → StandFor (IsToldAt deck H i) i (first + q) (marks ++ later)
      (records_at_marks (plans_in deck) (length deck.items) c q marks (map spelling (map (aired deck H c) (range_with_len s (length (slots_in marks))) ++ bs)) ++ rs)
  unfolding StandFor StandsFor records_at_marks slots_in IsNumbered
  cycle_stands c first q s [] later bs rs started few follows begins ends at minors slots range stand = let none : first + q + 0 ≡ first + q = omega arith in subst (λ k. StandFor (IsToldAt deck H i) i k later rs) none stand
  cycle_stands c first q s (IsIndex m ∷ marks) later bs rs started few follows begins ends at minors slots range stand =
      let on : first + (q + 1) ≡ first + q + 1 = omega arith in
      let last : first + q + suc (length marks) ≡ first + (q + 1) + length marks = omega arith in (
        index_stands c q m marks later started few (All-head (IsNumbered 16384) (IsIndex m) marks minors) (drop_next (marks_at (plans_in deck) c) q (IsIndex m) marks at) follows,
        subst
            (λ k. StandFor (IsToldAt deck H i) i k (marks ++ later)
            (records_at_marks (plans_in deck) (length deck.items) c (q + 1) marks (map spelling (map (aired deck H c) (range_with_len s (length (slots_in marks))) ++ bs)) ++ rs)) on
            (cycle_stands c first (q + 1) s marks later bs rs started few follows begins (omega arith) (drop_next (marks_at (plans_in deck) c) q (IsIndex m) marks at)
            (All-tail (IsNumbered 16384) (IsIndex m) marks minors) slots range (subst (λ k. StandFor (IsToldAt deck H i) i k later rs) last stand)),
      )
  cycle_stands c first q s (IsSlot o ∷ marks) later bs rs started few follows begins ends at minors slots range stand =
      let on : first + (q + 1) ≡ first + q + 1 = omega arith in
      let last : first + q + suc (length marks) ≡ first + (q + 1) + length marks = omega arith in
      let rest = map (aired deck H c) (range_with_len (s + 1) (length (slots_in marks))) ++ bs in (
        slot_stands c q s (first + q) o marks later (record { from_one = started; after = omega arith; within = omega arith }) (slot_there (slots_at (air_of deck) c) s o (slots_in marks) slots)
            (All-head IsInRange (aired deck H c s) rest range) (drop_next (marks_at (plans_in deck) c) q (IsSlot o) marks at) follows,
        subst (λ k. StandFor (IsToldAt deck H i) i k (marks ++ later) (records_at_marks (plans_in deck) (length deck.items) c (q + 1) marks (map spelling rest) ++ rs)) on
            (cycle_stands c first (q + 1) (s + 1) marks later bs rs started few follows begins (omega arith) (drop_next (marks_at (plans_in deck) c) q (IsSlot o) marks at)
            (All-tail (IsNumbered 16384) (IsSlot o) marks minors) (drop_next (slots_at (air_of deck) c) s o (slots_in marks) slots) (All-tail IsInRange (aired deck H c s) rest range)
            (subst (λ k. StandFor (IsToldAt deck H i) i k later rs) last stand)),
      )

  -- ---- all cycles

  marks_more : (c d : ℕ) → d + 1 ≡ c → length (marks_on (plans_in deck) c) ≡ length (marks_on (plans_in deck) d) + length (marks_at (plans_in deck) c)
  marks_more c d next =
      let f = marks_at (plans_in deck) in
      let up : c ≡ suc d = omega arith in
      let this : 1 + d ≡ c = omega arith in
      ap length
      (ap (λ k. flat_map f (range_with_len 1 k)) up ∙ ap (flat_map f) (range_more 1 d) ∙ flat_map-append f (range_with_len 1 d) ((1 + d) ∷ [])
      ∙ ap (λ l. flat_map f (range_with_len 1 d) ++ l) (append-nil (f (1 + d)) ∙ ap f this))
      ∙ length-append (flat_map f (range_with_len 1 d)) (f c)

  is_later : (c k : ℕ) → IsLater (marks_at (plans_in deck) c) (flat_map (marks_at (plans_in deck)) (range_with_len c k))
  is_later c zero = inl refl
  is_later c (suc k) = inr (flat_map (marks_at (plans_in deck)) (range_with_len (c + 1) k), refl)

  pub cycles_stand : (c d k : ℕ) → d + 1 ≡ c → c + k ≤ 2 ^ 32 → All IsInRange (flat_map (cycle_buckets (values_in deck) (air_of deck) H) (range_with_len c k))
      → StandFor (IsToldAt deck H i) i (length (marks_on (plans_in deck) d)) (flat_map (marks_at (plans_in deck)) (range_with_len c k))
      (records_from (plans_in deck) (length deck.items) c k (map spelling (flat_map (cycle_buckets (values_in deck) (air_of deck) H) (range_with_len c k))))
  unfolding StandFor records_from
  cycles_stand c d zero next few range = tt
  cycles_stand c d (suc k) next few range =
      let plans = plans_in deck in
      let n = length deck.items in
      let marks = marks_at plans c in
      let later = flat_map (marks_at plans) (range_with_len (c + 1) k) in
      let bs = flat_map (cycle_buckets (values_in deck) (air_of deck) H) (range_with_len (c + 1) k) in
      let rs = records_from plans n (c + 1) k (drop (length (planned_slots plans c)) (map spelling (cycle_buckets (values_in deck) (air_of deck) H c ++ bs))) in
      let first = length (marks_on plans d) in
      let before : c - 1 ≡ d = omega arith in
      let whole = marks_more c d next in
      let begin : length (marks_on plans (c - 1)) ≡ first = ap (λ k. length (marks_on plans k)) before in
      let rest : StandFor (IsToldAt deck H i) i (length (marks_on plans c)) later rs =
      subst (λ l. StandFor (IsToldAt deck H i) i (length (marks_on plans c)) later (records_from plans n (c + 1) k l)) (sym (buckets_left deck H c bs))
      (cycles_stand (c + 1) c k refl (omega arith) (range_right c bs range)) in
      let here : All IsInRange (map (aired deck H c) (range_with_len 0 (length (slots_in marks))) ++ bs) =
      subst (λ (l : List (Option ℕ)). All IsInRange (map (aired deck H c) (range_with_len 0 (length l)) ++ bs)) (sym (slots_here deck c)) range in
      subst (λ (l : List (Option ℕ)). StandFor (IsToldAt deck H i) i first (marks ++ later) (records_at_marks plans n c 0 marks (map spelling (map (aired deck H c) (range_with_len 0 (length l)) ++ bs)) ++ rs)) (slots_here deck c)
      (subst (λ k. StandFor (IsToldAt deck H i) i k (marks ++ later) (records_at_marks plans n c 0 marks (map spelling (map (aired deck H c) (range_with_len 0 (length (slots_in marks))) ++ bs)) ++ rs)) (add_none first)
      (cycle_stands c first 0 0 marks later bs rs (omega arith) (omega arith) (is_later (c + 1) k) (omega arith) (omega arith) refl (numbered deck made within short c) (sym (slots_here deck c)) here
      (subst (λ k. StandFor (IsToldAt deck H i) i k later rs) (whole ∙ ap (λ j. j + length marks) (sym (add_none first))) rest)))
    where
      add_none : (m : ℕ) → m + 0 ≡ m
      add_none m = omega arith

      range_right : (c : ℕ) (bs : List Bucket) → All IsInRange (cycle_buckets (values_in deck) (air_of deck) H c ++ bs) → All IsInRange bs
      range_right c bs all = subst (All IsInRange) (drop_at (cycle_buckets (values_in deck) (air_of deck) H c) bs _ refl) (All-drop IsInRange (length (cycle_buckets (values_in deck) (air_of deck) H c)) (cycle_buckets (values_in deck) (air_of deck) H c ++ bs) all)
