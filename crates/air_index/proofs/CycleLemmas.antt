-- The buckets that are left of a tape, minor cycle by minor cycle and cycle by cycle.
use Rattle.std.proofs.Common.{◌≡◌, ◌≤◌, ◌<◌, ◌+◌, ◌-◌, ◌*◌, ◌++◌, ℕ, zero, suc, zero-add, Option, Some, List, [], drop, length, refl, sym, subst, ◌∙◌, ap, arith}
use Rattle.std.specs.List.{range_with_len}
use Rattle.std.proofs.Math.Nat.{suc-mul}
use Rattle.std.proofs.lemmas.List.{append-nil, drop-drop, length-drop}
use Rattle.std.proofs.lemmas.List.Elements.{All-drop}
use Rattle.std.proofs.lemmas.List.Sums.{sum_by-cons}
use Rattle.air_model.specs.Buckets.{Bucket, bucket_in}
use Rattle.air_model.specs.Disks.{Disk}
use Rattle.air_model.specs.Programs.{minor_len, num_minors, program}
use Rattle.air_model.specs.Tapes.{tape_of}
use Rattle.air_model.proofs.ProgramLemmas.{length_program}
use Rattle.chunk_program.specs.Editions.{Plans, planned_slots}
use Rattle.air_index.specs.IndexedTapes.{AreBuckets, records_at_marks, records_from}
use Rattle.air_index.specs.OnAir.{marks_at}
use Rattle.air_index.proofs.BeamLemmas.{cycle_written, slots_from}

abbrev IsRead : List ℕ → Type 0
IsRead r = (b : Bucket) × (bucket_in r ≡ Some b)

pub left_read : (bs left : List (List ℕ)) (k : ℕ) → AreBuckets bs → left ≡ drop k bs → AreBuckets left
left_read bs left k are is = subst AreBuckets (sym is) (All-drop IsRead k bs are)

-- ---- minor cycles

-- The buckets of one minor cycle more are there.
pub enough_for_minor : (disks : List Disk) (m len : ℕ) (bs left : List (List ℕ)) → m < num_minors disks → len ≡ minor_len (num_minors disks) disks → length (program disks) ≤ length bs
    → left ≡ drop (m * minor_len (num_minors disks) disks) bs → len ≤ length left
enough_for_minor disks m len bs left within is enough told =
    let l = minor_len (num_minors disks) disks in
    let long = length_program disks in
    let rows = more_rows m (num_minors disks) l within in
    let count : length left ≡ length bs - m * l = ap length told ∙ length-drop (m * l) bs in
    omega arith
  where
    more_rows : (a b l : ℕ) → a < b → a * l + l ≤ b * l
    more_rows a zero l h = absurd (omega arith)
    more_rows zero (suc b) l h = let up = suc-mul b l in omega arith
    more_rows (suc a) (suc b) l h = let rest = more_rows a b l (omega arith) in let up = suc-mul a l in let next = suc-mul b l in omega arith

pub left_after_minor : (m len l : ℕ) (bs left new : List (List ℕ)) → len ≡ l → left ≡ drop (m * l) bs → new ≡ drop len left → new ≡ drop ((m + 1) * l) bs
left_after_minor m len l bs left new is told cut =
    let next : m * l + l ≡ (m + 1) * l = (let up = suc-mul m l in let one : m + 1 ≡ suc m = omega arith in let same : (m + 1) * l ≡ suc m * l = ap (λ k. k * l) one in omega arith) in
    cut ∙ ap (λ k. drop k left) is ∙ ap (drop l) told ∙ drop-drop l (m * l) bs ∙ ap (λ k. drop k bs) next

-- ---- cycles

slots_sum : (plans : Plans) (c a b : ℕ) → slots_from plans c (a + b) ≡ slots_from plans c a + slots_from plans (c + a) b
slots_sum plans c zero b = let none : c ≡ c + 0 = omega arith in ap (slots_from plans c) (zero-add b) ∙ ap (λ k. slots_from plans k b) none ∙ sym (zero-add (slots_from plans (c + 0) b))
slots_sum plans c (suc a) b =
    let f : ℕ → ℕ = λ c. length (planned_slots plans c) in
    let whole : suc a + b ≡ suc (a + b) = omega arith in
    let on : c + 1 + a ≡ c + suc a = omega arith in
    let first = sum_by-cons f c (range_with_len (c + 1) (a + b)) in
    let second = sum_by-cons f c (range_with_len (c + 1) a) in
    let rest = slots_sum plans (c + 1) a b ∙ ap (λ k. slots_from plans (c + 1) a + slots_from plans k b) on in
    ap (slots_from plans c) whole ∙ omega arith

-- The buckets of one cycle more are there.
pub enough_for_cycle : (plans : Plans) (first done cycles : ℕ) (bs left : List (List ℕ)) → done < cycles → length bs ≡ slots_from plans (first + 1) cycles → left ≡ drop (slots_from plans (first + 1) done) bs
    → length (planned_slots plans (first + done + 1)) ≤ length left
enough_for_cycle plans first done cycles bs left more counted told =
    let f : ℕ → ℕ = λ c. length (planned_slots plans c) in
    let rest = cycles - (done + 1) in
    let split : cycles ≡ done + suc rest = omega arith in
    let all = ap (slots_from plans (first + 1)) split ∙ slots_sum plans (first + 1) done (suc rest) in
    let one = sum_by-cons f (first + 1 + done) (range_with_len (first + 1 + done + 1) rest) in
    let at : first + 1 + done ≡ first + done + 1 = omega arith in
    let here : f (first + 1 + done) ≡ f (first + done + 1) = ap f at in
    let count : length left ≡ length bs - slots_from plans (first + 1) done = ap length told ∙ length-drop (slots_from plans (first + 1) done) bs in
    omega arith

pub left_after_cycle : (plans : Plans) (first done : ℕ) (bs left new : List (List ℕ)) → left ≡ drop (slots_from plans (first + 1) done) bs → new ≡ drop (length (planned_slots plans (first + done + 1))) left
    → new ≡ drop (slots_from plans (first + 1) (done + 1)) bs
left_after_cycle plans first done bs left new told cut =
    let here = length (planned_slots plans (first + done + 1)) in
    let at : first + 1 + done ≡ first + done + 1 = omega arith in
    let one = sum_by-cons (λ c. length (planned_slots plans c)) (first + 1 + done) [] in
    let same : length (planned_slots plans (first + 1 + done)) ≡ here = ap (λ k. length (planned_slots plans k)) at in
    let sum : slots_from plans (first + 1) done + here ≡ slots_from plans (first + 1) (done + 1) = (let all = slots_sum plans (first + 1) done 1 in omega arith) in
    cut ∙ ap (drop here) told ∙ drop-drop here (slots_from plans (first + 1) done) bs ∙ ap (λ k. drop k bs) sum

pub written_after_cycle : (plans : Plans) (n first done : ℕ) (bs left : List (List ℕ)) (old out one : List ℕ) → out ≡ old ++ tape_of (records_from plans n (first + 1) done bs)
    → left ≡ drop (slots_from plans (first + 1) done) bs → one ≡ out ++ tape_of (records_at_marks plans n (first + done + 1) 0 (marks_at plans (first + done + 1)) left)
    → one ≡ old ++ tape_of (records_from plans n (first + 1) (done + 1) bs)
written_after_cycle plans n first done bs left old out one so_far told more =
    let at : first + done + 1 ≡ first + 1 + done = omega arith in
    cycle_written plans n (first + 1) done bs left old out one so_far told (more ∙ ap (λ c. out ++ tape_of (records_at_marks plans n c 0 (marks_at plans c) left)) at)

pub nothing_written : (plans : Plans) (n c : ℕ) (bs : List (List ℕ)) (old : List ℕ) → old ≡ old ++ tape_of (records_from plans n c 0 bs)
unfolding records_from tape_of
nothing_written plans n c bs old = sym (append-nil old)

pub nothing_left_out : (l : ℕ) (bs : List (List ℕ)) → bs ≡ drop (0 * l) bs
nothing_left_out l bs = let none : 0 ≡ 0 * l = omega arith in ap (λ k. drop k bs) none

pub left_after_cycle_of : {slots : List (Option ℕ)} (disks : List Disk) → slots ≡ program disks → (bs : List (List ℕ)) → drop (num_minors disks * minor_len (num_minors disks) disks) bs ≡ drop (length slots) bs
left_after_cycle_of disks is bs = ap (λ k. drop k bs) (sym (length_program disks) ∙ sym (ap length is))

pub none_left_out : (plans : Plans) (c : ℕ) (bs : List (List ℕ)) → bs ≡ drop (slots_from plans c 0) bs
none_left_out plans c bs = refl
