-- Buckets that were sent one after the other: what the mast tells then.
-- `sent_none`, `sent_more` and `sent_all` are the loop over the slots. `last_bytes_are` says of which history the buckets are, and `sent_up_to` what
-- was sent if the mast failed.
use Rattle.std.proofs.Common.{◌≡◌, ◌<◌, ◌+◌, ◌++◌, ◌∙◌, ℕ, Bool, true, false, cond, refl, Option, Some, None, List, [], ◌∷◌, length, map, take, get_or, sym, ap, subst, arith, append_assoc}
use Rattle.std.specs.Prelude.{Result, Ok, Err, OnErr, OnOk}
use Rattle.std.specs.Result.{is_err}
use Rattle.std.proofs.lemmas.Bool.{false≢true}
use Rattle.std.specs.Prelude.{All, IfSome}
use Rattle.std.proofs.lemmas.List.{append-nil, get_or-map, length-map, take_all, take_at, take_more}
use Rattle.std.proofs.lemmas.List.FromFn.{get_or-map-range_with_len, length-map-range_with_len}
use Rattle.air_base.specs.declared.verdicts.Form.{Form}
use Rattle.air_history.specs.declared.histories.Event.{Event}
use Rattle.air_history.specs.declared.histories.Event.TheVariants.{Start}
use Rattle.air_history.specs.Columns.{Scheme, has_groups}
use Rattle.air_history.specs.Boards.{Board, board_of}
use Rattle.group_matrix.specs.GroupBoards.{grouped}
use Rattle.air_history.specs.Tables.{table, values_of}
use Rattle.air_history.specs.Histories.{starts}
use Rattle.air_model.specs.Buckets.{Body, Bucket, capped_bucket, spelling}
use Rattle.air_model.specs.Aired.{Air, edition_at, slots_at}
use Rattle.air_devices.specs.Masts.{Changes, MastState, SentBuckets, with_buckets}
use Rattle.air_sender.specs.AirFaults.{IsAirAnswer, failed_slot}
use Rattle.air_sender.specs.declared.airing.AirFault.{AirFault}
use Rattle.air_sender.specs.declared.airing.AirFault.TheVariants as fault
use Rattle.air_sender.specs.BoardBuckets.{IsLastBoard, aired_board, spread, board_buckets, board_bytes, body_on, bucket_on, form_of, last_bytes}
use Rattle.air_sender.proofs.RangeLemmas.{told_spelling}
use Rattle.air_sender.proofs.StartedBoards.{last_cycle}

-- ---- the buckets of a cycle

pub length_cycle : (form : Form) (e : ℕ) (slots : List (Option ℕ)) (board : Board) → length (board_bytes form e slots board) ≡ length slots
length_cycle form e slots board = length-map (board_buckets form e slots board) spelling ∙ length-map-range_with_len (bucket_on form e slots board) 0 (length slots)

pub slot_bytes : (form : Form) (e : ℕ) (slots : List (Option ℕ)) (board : Board) (s : ℕ) → s < length slots
    → get_or (board_bytes form e slots board) s (spelling (bucket_on form e slots board s)) ≡ spelling (bucket_on form e slots board s)
slot_bytes form e slots board s l =
    let on : ℕ → Bucket = bucket_on form e slots board in
    get_or-map spelling (board_buckets form e slots board) s (on s) (spelling (on s)) (omega (arith, length-map-range_with_len on 0 (length slots)))
    ∙ ap spelling (get_or-map-range_with_len on 0 (length slots) s s (on s) l (omega arith))

-- ---- what the mast tells

same_sent : (s : SentBuckets) (xs ys : List (List ℕ)) → xs ≡ ys → ◌≡◌ {A = Option SentBuckets} (Some (record { buckets = xs; ended = s.ended })) (Some (record { buckets = ys; ended = s.ended }))
same_sent s xs ys e = ap (λ (l : List (List ℕ)). let t : SentBuckets = record { buckets = l; ended = s.ended } in Some t) e

pub sent_none : (o : Option SentBuckets) → Changes (with_buckets []) o o
sent_none None = tt
sent_none (Some s) = same_sent s s.buckets (s.buckets ++ []) (sym (append-nil s.buckets))

pub sent_more : (bs : List (List ℕ)) (b : List ℕ) (i : ℕ) (o p q : Option SentBuckets) → i < length bs → get_or bs i b ≡ b
    → Changes (with_buckets (take i bs)) o p → Changes (with_buckets (b ∷ [])) p q → Changes (with_buckets (take (i + 1) bs)) o q
sent_more bs b i None p q l e first next = tt
sent_more bs b i (Some s) p q l e first next =
    let both : q ≡ Some (record { buckets = s.buckets ++ take i bs ++ b ∷ []; ended = s.ended }) = subst (λ p. Changes (with_buckets (b ∷ [])) p q) first next in
    both ∙ same_sent s (s.buckets ++ take i bs ++ b ∷ []) (s.buckets ++ take (i + 1) bs)
    (append_assoc s.buckets (take i bs) (b ∷ []) ∙ ap (λ l. s.buckets ++ l) (sym (take_more bs i b l ∙ ap (λ x. take i bs ++ x ∷ []) e)))

pub sent_all : (bs : List (List ℕ)) (n : ℕ) (o p : Option SentBuckets) → n ≡ length bs → Changes (with_buckets (take n bs)) o p → Changes (with_buckets bs) o p
sent_all bs n o p e h = subst (λ xs. Changes (with_buckets xs) o p) (take_all n bs (omega arith)) h

-- ---- one bucket

-- The bucket of a slot, by the item that the slot has.
pub bucket_is : (form : Form) (e : ℕ) (slots : List (Option ℕ)) (board : Board) (s : ℕ) (o : Option ℕ) (b : Bucket) → o ≡ get_or slots s None
    → b ≡ record { version = form.version; edition = e; cycle = board.cycle; slot = s; body = body_on form.policy board o } → capped_bucket b ≡ bucket_on form e slots board s
unfolding bucket_on
bucket_is form e slots board s o b at is =
    ap capped_bucket (is ∙ ap (λ (o : Option ℕ). let b : Bucket = record { version = form.version; edition = e; cycle = board.cycle; slot = s; body = body_on form.policy board o } in b) at)

-- A bucket's edition by what is equal to it.
pub bucket_edition : (version e own cycle slot : ℕ) (y : Body) (b : Bucket) → e ≡ own → b ≡ record { version = version; edition = e; cycle = cycle; slot = slot; body = y }
    → b ≡ record { version = version; edition = own; cycle = cycle; slot = slot; body = y }
bucket_edition version e own cycle slot y b same is = is ∙ ap (λ k. let b : Bucket = record { version = version; edition = k; cycle = cycle; slot = slot; body = y } in b) same

-- The bytes that were written at the beginning of the buffer.
pub written_is : (b : Bucket) (n : ℕ) (out rest : List ℕ) → n ≡ length (spelling b) → out ≡ spelling (capped_bucket b) ++ rest → take n out ≡ spelling (capped_bucket b)
written_is b n out rest size wrote = ap (take n) wrote ∙ take_at (spelling (capped_bucket b)) rest n (told_spelling b ∙ sym size)

-- What holds if a call succeeds holds of a call that did.
pub well : {T E P : Type 0} (r : Result T E) (failed : Bool) → failed ≡ is_err r → failed ≡ false → OnOk r P → P
well (Ok x) failed told is h = h
well (Err y) failed told is h = absurd (false≢true (sym is ∙ told))

pub refused : {T E P : Type 0} (r : Result T E) (failed : Bool) → failed ≡ is_err r → failed ≡ true → OnErr r P → P
refused (Err y) failed told is h = h
refused (Ok x) failed told is h = absurd (false≢true (sym told ∙ is))

-- ---- of which history they are

-- By groups a board has the same values.
aired_values : (scheme : Scheme) (board : Board) → length (aired_board scheme board).values ≡ length board.values
aired_values scheme board = by (has_groups scheme)
  where
    by : (b : Bool) → length (cond b (spread (grouped scheme.group board)) board).values ≡ length board.values
    by true = refl
    by false = refl

last_is : (values : List ℕ) (air : Air) (G : List Event) (form : Form) (e : ℕ) (slots : List (Option ℕ)) (board : Board) → IsLastBoard values air G form e slots board
    → All (λ o. IfSome o (λ i. i < length board.values)) slots → board_bytes form e slots board ≡ last_bytes values air G
last_is values air G form e slots board is fit =
    let now = aired_board air.scheme (board_of values (G ++ Start ∷ [])) in
    let sized : length board.values ≡ air.items = ap (λ (b : Board). length b.values) is.board ∙ aired_values air.scheme (board_of values (G ++ Start ∷ [])) ∙ length-map-range_with_len (table (values_of values) (G ++ Start ∷ [])) 0 (length values) ∙ sym is.items in
    let fits : All (λ o. IfSome o (λ i. i < air.items)) (slots_at air (starts (G ++ Start ∷ []))) =
    subst (λ xs. All (λ o. IfSome o (λ i. i < air.items)) xs) (sym is.slots) (subst (λ n. All (λ o. IfSome o (λ i. i < n)) slots) sized fit) in
    ap (λ (b : Board). board_bytes form e slots b) is.board
    ∙ ap (λ (f : Form). board_bytes f e slots now) (sym (ap (λ p. let f : Form = record { policy = p; version = air.version } in f) is.policy ∙ ap (λ v. let f : Form = record { policy = form.policy; version = v } in f) is.version))
    ∙ ap (λ (k : ℕ). board_bytes (form_of air) k slots now) (sym is.edition)
    ∙ ap (λ (xs : List (Option ℕ)). board_bytes (form_of air) (edition_at air (starts (G ++ Start ∷ []))) xs now) (sym is.slots)
    ∙ ap (map spelling) (last_cycle values air G is.items fits)

pub last_bytes_are : (values : List ℕ) (air : Air) (G : List Event) (form : Form) (e : ℕ) (slots : List (Option ℕ)) (board : Board) (n : ℕ) → IsLastBoard values air G form e slots board
    → n ≡ length board.values → All (λ o. IfSome o (λ i. i < n)) slots → board_bytes form e slots board ≡ last_bytes values air G
last_bytes_are values air G form e slots board n is same fit = last_is values air G form e slots board is (subst (λ n. All (λ (o : Option ℕ). IfSome o (λ i. i < n)) slots) same fit)

-- ---- a fault

-- The buckets of the slots before that of the fault were sent, and no more.
pub sent_up_to : {M : Type 0} (state : M → MastState) (xs ys : List (List ℕ)) (before now : M) (e : AirFault) → xs ≡ ys → IsAirAnswer state xs before now e
    → Changes (with_buckets (take (failed_slot e) ys)) (state before).told (state now).told
sent_up_to state xs ys before now (fault.Mast slot) same failed =
    subst (λ bs. Changes (with_buckets (take slot bs)) (state before).told (state now).told) same
    (subst (λ told. Changes (with_buckets (take slot xs)) (state before).told told) (sym failed.kept) failed.sent)
