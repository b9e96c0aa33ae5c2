-- How the buckets of a history grow with it: by none with a commit, and by those of the new cycle with a start.
--
-- What comes later changes no bucket of a started cycle, so the buckets that were sent stay those of the history. The board of
-- a deck has as many values as the deck has items. The steps of a run cite these.
use Rattle.std.proofs.Common.{◌≡◌, ℕ, zero, suc, ◌+◌, ◌<◌, ◌≤◌, true, false, cond, nat_lt, List, [], ◌∷◌, ◌++◌, Some, length, map, get_or, refl, sym, ◌∙◌, ap, subst, inl, inr, arith, length-append}
use Rattle.std.specs.Prelude.{IsTrue, sum_by}
use Rattle.std.specs.Result.{result_ok}
use Rattle.std.specs.List.{flat_map, range_with_len}
use Rattle.std.proofs.lemmas.Grind.{flat_map-append}
use Rattle.std.proofs.lemmas.Bool.{cases_Bool}
use Rattle.std.proofs.lemmas.List.{append-nil, append_assoc, get_or-append-add, length-map, map-append}
use Rattle.std.proofs.lemmas.List.Elements.{Contains-get_or}
use Rattle.std.proofs.lemmas.List.FromFn.{get_or-map-range_with_len, length-map-range_with_len}
use Rattle.std.proofs.lemmas.List.Sums.{sum_by-append}
use Rattle.air_history.specs.declared.histories.Event.{Event}
use Rattle.air_history.specs.declared.histories.Event.TheVariants.{Commit, Start}
use Rattle.air_history.specs.Histories.{is_start, starts}
use Rattle.air_base.specs.declared.verdicts.Policy.{Policy}
use Rattle.air_base.specs.declared.verdicts.Policy.TheVariants.{FMatrix, Datacycle, RMatrix}
use Rattle.air_history.specs.Columns.{Scheme}
use Rattle.air_history.specs.Boards.{Board, board_of}
use Rattle.group_matrix.specs.GroupBoards.{grouped}
use Rattle.air_history.specs.Tables.{table, values_of}
use Rattle.air_base.specs.declared.verdicts.Form.{Form}
use Rattle.air_model.specs.Buckets.{Bucket, IsInRange, bucket_in, most_count, spelling}
use Rattle.air_model.specs.Aired.{scheme_in, Air, air_of, bucket_of, buckets_of, edition_at, fits, slots_at}
use Rattle.air_model.specs.AiredLaws.{CanAir}
use Rattle.air_model.specs.Decks.{Deck, IsDeck, disks_in, edition, values_in}
use Rattle.air_model.specs.Disks.{Disk}
use Rattle.air_model.specs.Programs.{program}
use Rattle.air_sender.specs.BoardBuckets.{aired_board, spread, board_buckets, board_bytes, bucket_on, form_of}
use Rattle.air_sender.proofs.StartedBoards.{OwnCycleLaw}
use Rattle.air_devices.specs.Masts.{SentBuckets}
use Rattle.air_sender.specs.AiredBytes.{aired_bytes}
use Rattle.air_model.proofs.AiredLemmas.{own_buckets}
use Rattle.air_model.proofs.BucketLemmas.{ok_from_whole, whole_from_bucket}
use Rattle.air_model.proofs.DeckLemmas.{air}
use Rattle.air_model.proofs.EditionLemmas.{edition_is, slots_are}
use Rattle.chunk_program.specs.Editions.{EditionDisks, edition_disks}
use Rattle.air_model.proofs.LaterLemmas.{later}
use Rattle.air_model.proofs.RangeLemmas.{range}

-- ---- histories

-- An event is a start if and only if the test says so.
pub start_event : (e : Event) → is_start e ≡ true → e ≡ Start
unfolding is_start
start_event (Commit by seq update) e = cc
start_event Start e = refl

pub starts_more : (G : List Event) (e : Event) → starts (G ++ e ∷ []) ≡ starts G + cond (is_start e) 1 0
unfolding starts
starts_more G e =
    let weight : Event → ℕ = λ x. cond (is_start x) 1 0 in
    let one : sum_by weight (e ∷ []) ≡ cond (is_start e) 1 0 = omega arith in
    sum_by-append weight G (e ∷ []) ∙ ap (λ n. sum_by weight G + n) one

-- A start is one more, a commit none.
pub starts_start : (G : List Event) → starts (G ++ Start ∷ []) ≡ starts G + 1
unfolding is_start
starts_start G = starts_more G Start

-- One number more at the end of a range.
pub range_more : (a n : ℕ) → range_with_len a (suc n) ≡ range_with_len a n ++ (a + n) ∷ []
range_more a zero = let same : a ≡ a + 0 = omega arith in ap (λ k. k ∷ []) same
range_more a (suc n) = let same : a + 1 + n ≡ a + suc n = omega arith in ap (λ l. a ∷ l) (range_more (a + 1) n ∙ ap (λ k. range_with_len (a + 1) n ++ k ∷ []) same)

-- ---- buckets

-- What agrees at each element gives one list.
pub map_same : {X Y : Type 0} (f g : X → Y) (xs : List X) → ((x : X) → f x ≡ g x) → map f xs ≡ map g xs
map_same f g [] same = refl
map_same f g (x ∷ xs) same = ap (λ y. y ∷ map f xs) (same x) ∙ ap (λ l. g x ∷ l) (map_same f g xs same)

module _ (values : List ℕ) (air : Air) where
  -- the buckets of a cycle, slot by slot
  abbrev pub buckets_in : List Event → ℕ → List Bucket
  buckets_in H c = map (bucket_of values air H air.version c) (range_with_len 0 (length (slots_at air c)))

  cycles_later : (H more : List Event) (a n : ℕ) → a + n ≤ starts H + 1 → flat_map (buckets_in (H ++ more)) (range_with_len a n) ≡ flat_map (buckets_in H) (range_with_len a n)
  cycles_later H more a zero within = refl
  cycles_later H more a (suc n) within =
      let started : a ≤ starts H = omega arith in
      ap (λ l. l ++ flat_map (buckets_in (H ++ more)) (range_with_len (a + 1) n)) (map_same (bucket_of values air (H ++ more) air.version a) (bucket_of values air H air.version a) (range_with_len 0 (length (slots_at air a))) (λ s. later values air H more air.version a s started))
      ∙ ap (λ l. buckets_in H a ++ l) (cycles_later H more (a + 1) n (omega arith))

  -- a history without events airs nothing
  pub buckets_none : buckets_of values air [] ≡ []
  unfolding buckets_of starts
  buckets_none = refl

  -- a commit airs nothing
  pub buckets_commit : (H : List Event) (e : Event) → is_start e ≡ false → buckets_of values air (H ++ e ∷ []) ≡ buckets_of values air H
  unfolding buckets_of
  buckets_commit H e commit =
      let same : starts (H ++ e ∷ []) ≡ starts H = starts_more H e ∙ ap (λ b. starts H + cond b 1 0) commit ∙ omega arith in
      ap (λ n. flat_map (buckets_in (H ++ e ∷ [])) (range_with_len 1 n)) same ∙ cycles_later H (e ∷ []) 1 (starts H) (omega arith)

  -- a start airs its cycle
  pub buckets_start : (H : List Event) → buckets_of values air (H ++ Start ∷ []) ≡ buckets_of values air H ++ buckets_in (H ++ Start ∷ []) (starts (H ++ Start ∷ []))
  unfolding buckets_of
  buckets_start H =
      let after = H ++ Start ∷ [] in
      let n = starts H in
      let more : starts after ≡ suc n = starts_start H ∙ omega arith in
      let last : 1 + n ≡ starts after = omega arith in
      ap (λ k. flat_map (buckets_in after) (range_with_len 1 k)) more ∙ ap (flat_map (buckets_in after)) (range_more 1 n) ∙ flat_map-append (buckets_in after) (range_with_len 1 n) ((1 + n) ∷ [])
      ∙ ap (λ l. l ++ (buckets_in after (1 + n) ++ [])) (cycles_later H (Start ∷ []) 1 n (omega arith))
      ∙ ap (λ l. flat_map (buckets_in H) (range_with_len 1 n) ++ l) (append-nil (buckets_in after (1 + n)) ∙ ap (buckets_in after) last)

-- ---- a deck's boards

-- Two values that a mast tells are equal if their options are.
pub told_alike : {s t : SentBuckets} → Some s ≡ Some t → s ≡ t
told_alike e = cc

-- Without groups a cycle is aired from the board itself.
pub plain_board : (scheme : Scheme) (board : Board) → scheme.group ≡ 0 → board ≡ aired_board scheme board
plain_board scheme board none = by scheme.policy scheme.group none
  where
    by : (p : Policy) (g : ℕ) → g ≡ 0 → board ≡ aired_board (record { policy = p; group = g }) board
    by FMatrix g none = sym (ap (λ g. cond (nat_lt 0 g) (spread (grouped g board)) board) none)
    by Datacycle g none = refl
    by RMatrix g none = refl

-- A board has a value for each item.
pub values_kept : (deck : Deck) (board : Board) (H : List Event) → board ≡ board_of (values_in deck) H → length board.values ≡ length deck.items
values_kept deck board H is =
    let values = values_in deck in
    ap (λ (b : Board). length b.values) is ∙ length-map-range_with_len (table (values_of values) H) 0 (length values) ∙ length-map deck.items (λ i. i.value)

-- A deck of version 1 has at most as many items as a bucket in full has entries.
pub few_full : (deck : Deck) → IsDeck deck → (v : ℕ) → v ≡ deck.settings.version → v ≡ 1 → length deck.items ≤ 256
few_full deck made v own one = subst (λ v. length deck.items ≤ most_count v) (sym own ∙ one) made.most

module _ (deck : Deck) (G : List Event) (e : Event) (board : Board) (is : board ≡ board_of (values_in deck) (G ++ e ∷ [])) where
  -- after a start the board is that of the history with the start
  pub started_board : is_start e ≡ true → board ≡ board_of (values_in deck) (G ++ Start ∷ [])
  started_board start = is ∙ ap (λ e. board_of (values_in deck) (G ++ e ∷ [])) (start_event e start)

  pub board_started : is_start e ≡ true → 1 ≤ board.cycle
  board_started start = let cycle : board.cycle ≡ starts G + 1 = ap (λ (b : Board). b.cycle) (started_board start) ∙ starts_start G in omega arith

  -- the edition in force in the board's cycle, and its slots
  own_edition : (e c : ℕ) → e ≡ edition deck c → e ≡ edition_at (air_of deck) c
  own_edition e c is = is ∙ sym (edition_is deck c)

  own_slots : (disks : List Disk) (c : ℕ) → disks ≡ disks_in deck (edition deck c) → program disks ≡ slots_at (air_of deck) c
  own_slots disks c d = ap program d ∙ sym (slots_are deck c)

  -- the buckets that are aired from the board are those of the new cycle of the history
  pub start_buckets : OwnCycleLaw → IsDeck deck → is_start e ≡ true → (source : Board) → source ≡ aired_board (scheme_in deck) board → (form : Form) (p : EditionDisks) → form ≡ form_of (air_of deck) → p ≡ edition_disks deck (edition deck board.cycle)
      → board_buckets form p.edition (program p.disks) source ≡ buckets_in (values_in deck) (air_of deck) (G ++ Start ∷ []) (starts (G ++ Start ∷ []))
  start_buckets own made start source from form p f d =
      let a = air_of deck in
      let c = starts (G ++ Start ∷ []) in
      let slots = program p.disks in
      let now : board.cycle ≡ c = ap (λ (b : Board). b.cycle) (started_board start) in
      let disks : p.disks ≡ disks_in deck (edition deck c) = ap (λ (p : EditionDisks). p.disks) d ∙ ap (λ n. disks_in deck (edition deck n)) now in
      let number : p.edition ≡ edition deck c = ap (λ (p : EditionDisks). p.edition) d ∙ ap (edition deck) now in
      ap (λ form. board_buckets form p.edition slots source) f ∙ ap (λ e. board_buckets (form_of a) e slots source) (own_edition p.edition c number)
      ∙ ap (λ xs. board_buckets (form_of a) (edition_at a c) xs source) (own_slots p.disks c disks)
      ∙ ap (board_buckets (form_of a) (edition_at a c) (slots_at a c)) (from ∙ ap (aired_board (scheme_in deck)) (started_board start))
      ∙ own (values_in deck) a G (sym (length-map deck.items (λ i. i.value))) ((air deck made).0)

  -- what is aired from the board is the new cycle of the history
  pub start_aired : OwnCycleLaw → IsDeck deck → is_start e ≡ true → (source : Board) → source ≡ aired_board (scheme_in deck) board → (form : Form) (p : EditionDisks) (before after : List (List ℕ)) → form ≡ form_of (air_of deck) → p ≡ edition_disks deck (edition deck board.cycle)
      → before ≡ aired_bytes deck G → after ≡ before ++ board_bytes form p.edition (program p.disks) source → after ≡ aired_bytes deck (G ++ e ∷ [])
  start_aired own made start source from form p before after f d so_far grew =
      let values = values_in deck in
      let a = air_of deck in
      let new = G ++ Start ∷ [] in
      let slots = program p.disks in
      grew ∙ ap (λ l. l ++ board_bytes form p.edition slots source) so_far ∙ ap (λ l. aired_bytes deck G ++ map spelling l) (start_buckets own made start source from form p f d)
      ∙ sym (map-append spelling (buckets_of values a G) (buckets_in values a new (starts new))) ∙ ap (map spelling) (sym (buckets_start values a G))
      ∙ ap (λ e. aired_bytes deck (G ++ e ∷ [])) (sym (start_event e start))

  -- if the history with the start can be aired, each of these buckets fits, and is what its bytes spell
  pub start_heard : OwnCycleLaw → CanAir deck (G ++ e ∷ []) → is_start e ≡ true → (source : Board) → source ≡ aired_board (scheme_in deck) board → (form : Form) (p : EditionDisks) → form ≡ form_of (air_of deck) → p ≡ edition_disks deck (edition deck board.cycle)
      → (s : ℕ) → s < length (program p.disks)
      → (let b = bucket_on form p.edition (program p.disks) source s in IsTrue (fits (air_of deck) b) × (bucket_in (spelling b) ≡ Some b))
  start_heard own can start source from form p f d s l =
      let values = values_in deck in
      let a = air_of deck in
      let new = G ++ Start ∷ [] in
      let slots = program p.disks in
      let on : ℕ → Bucket = bucket_on form p.edition slots source in
      let all = buckets_of values a new in
      let first = buckets_of values a G in
      let can_new : CanAir deck new = subst (λ e. CanAir deck (G ++ e ∷ [])) (start_event e start) can in
      let whole : all ≡ first ++ map on (range_with_len 0 (length slots)) = buckets_start values a G ∙ ap (λ l. first ++ l) (sym (start_buckets own can.made start source from form p f d)) in
      let size = length-map-range_with_len on 0 (length slots) in
      let place : length first + s < length all = omega (arith, l, size, ap length whole, length-append first (map on (range_with_len 0 (length slots)))) in
      let is : get_or all (length first + s) (on s) ≡ on s =
      ap (λ l. get_or l (length first + s) (on s)) whole ∙ get_or-append-add first (map on (range_with_len 0 (length slots))) s (on s) ∙ get_or-map-range_with_len on 0 (length slots) s s (on s) l (omega arith) in
      let in_range : IsInRange (on s) = subst IsInRange is (range deck new can_new (length first + s) (on s) place) in
      let owned : IsTrue (fits a (on s)) = subst (λ b. IsTrue (fits a b)) is ((own_buckets values a new (get_or all (length first + s) (on s))).0 (Contains-get_or all (length first + s) (on s) place)).0 in
      let bytes = whole_from_bucket (spelling (on s)) (on s) (in_range, refl) in
      (owned, ap result_ok (ok_from_whole (spelling (on s)) bytes.0) ∙ ap Some bytes.1)

-- A commit airs nothing.
pub commit_aired : (deck : Deck) (G : List Event) (e : Event) (sent : List (List ℕ)) → is_start e ≡ false → sent ≡ aired_bytes deck G → sent ≡ aired_bytes deck (G ++ e ∷ [])
commit_aired deck G e sent commit so_far = so_far ∙ ap (map spelling) (sym (buckets_commit (values_in deck) (air_of deck) G e commit))

one_aired : (deck : Deck) (H : List Event) (e : Event) → (rest : List (List ℕ)) × (aired_bytes deck (H ++ e ∷ []) ≡ aired_bytes deck H ++ rest)
one_aired deck H e = elim (cases_Bool (is_start e)) as (λ _. (rest : List (List ℕ)) × (aired_bytes deck (H ++ e ∷ []) ≡ aired_bytes deck H ++ rest)) [
  | inl start ↦ (
    map spelling (buckets_in (values_in deck) (air_of deck) (H ++ Start ∷ []) (starts (H ++ Start ∷ []))),
    ap (λ e. aired_bytes deck (H ++ e ∷ [])) (start_event e start) ∙ ap (map spelling) (buckets_start (values_in deck) (air_of deck) H)
        ∙ map-append spelling (buckets_of (values_in deck) (air_of deck) H) (buckets_in (values_in deck) (air_of deck) (H ++ Start ∷ []) (starts (H ++ Start ∷ []))),
  )
  | inr commit ↦ ([], sym (commit_aired deck H e (aired_bytes deck H) commit refl) ∙ sym (append-nil (aired_bytes deck H)))
]

-- What the first events of a history air is at the beginning of what all of them air.
pub beginning_aired : (deck : Deck) (H more : List Event) → (rest : List (List ℕ)) × (aired_bytes deck (H ++ more) ≡ aired_bytes deck H ++ rest)
beginning_aired deck H [] = ([], ap (aired_bytes deck) (append-nil H) ∙ sym (append-nil (aired_bytes deck H)))
beginning_aired deck H (e ∷ more) =
    let one = one_aired deck H e in
    let later = beginning_aired deck (H ++ e ∷ []) more in
    (one.0 ++ later.0, ap (aired_bytes deck) (sym (append_assoc H (e ∷ []) more)) ∙ later.1 ∙ ap (λ l. l ++ later.0) one.1 ∙ append_assoc (aired_bytes deck H) one.0 later.0)
