-- The best splits of small decks of two disks, by their costs; and the slots of the splits of larger ones.
use Rattle.std.proofs.Common.{◌≡◌, ◌≤◌, ◌<◌, ◌⊎◌, ◌+◌, ◌-◌, ◌*◌, ◌/◌, ℕ, zero, suc, true, List, [], ◌∷◌, All, length, map, refl, sym, ap, ◌∙◌, subst, inl, inr, arith}
use Rattle.std.specs.Prelude.{Result, Ok, Err, IfErr, IfOk, IsErr}
use Rattle.std.proofs.Math.Nat.{div-add-mod'}
use Rattle.std.proofs.lemmas.Nat.{mod_below}
use Rattle.std.proofs.lemmas.List.Elements.{All-cons, All-head, All-nil, All-tail}
use Rattle.std.proofs.lemmas.List.Sums.{sum_by-cons}
use Rattle.air_model.specs.Airings.{chunks_of, disk_number, gap_of}
use Rattle.air_model.specs.Decks.{Deck}
use Rattle.air_model.specs.Disks.{DiskSpec, cut, order, order_with}
use Rattle.air_model.specs.Programs.{chunk_len, least_common_multiple, minor_len, num_chunks, num_minors}
use Rattle.disk_split.specs.SplitAnswers.{SaysTooLong, SaysTooMuch, search_size}
use Rattle.disk_split.specs.Splits.{IsBest, IsShortSplit, IsSplit, cost, is_before, minor_of, resized, slots_of}
use Rattle.disk_split.specs.Numbers.{chunks_in, minors_in}
use Rattle.disk_split.specs.Rests.{minor_from}
use Rattle.disk_split.specs.declared.splits.SplitFault.{SplitFault}
use Rattle.disk_split.specs.declared.splits.SplitFault.TheVariants.{TooMuch, TooLong, NoMemory}
use Rattle.disk_split.proofs.DeckLemmas.{slots_walk}
use Rattle.disk_split.proofs.MinorLemmas.{common_of}
use Rattle.air_pins.specs.SmallPrograms.{spec}
use Rattle.air_pins.specs.SmallSplits.{five, six, unrated}

-- ---- results

pub both_err : {T E : Type 0} (r : Result T E) (P Q R : E → Type 0) → ((e : E) → P e → Q e → R e) → IfErr r P → IfErr r Q → IfErr r R
both_err (Ok x) P Q R so p q = tt
both_err (Err e) P Q R so p q = so e p q

pub none_ok : {T E : Type 0} (r : Result T E) (P : T → Type 0) → ((x : T) → P x → ⊥) → IfOk r P → IsErr r
none_ok (Ok x) P bad h = absurd (bad x h)
none_ok (Err e) P bad h = refl

-- ---- splits of two disks

-- Two sizes of 1 or more that sum to this.
abbrev ArePair : ℕ → List ℕ → Type 0
ArePair n sizes = (a : ℕ) × (b : ℕ) × (sizes ≡ a ∷ b ∷ []) × (1 ≤ a) × (1 ≤ b) × (a + b ≡ n)

pair : (deck : Deck) (sizes : List ℕ) → length deck.disks ≡ 2 → IsSplit deck sizes → ArePair (length deck.items) sizes
pair deck [] two split = absurd (omega (arith, split.disks))
pair deck (a ∷ []) two split = absurd (omega (arith, split.disks))
pair deck (a ∷ b ∷ []) two split =
    let one = All-head (λ size. 1 ≤ size) a (b ∷ []) split.filled in
    let next = All-head (λ size. 1 ≤ size) b [] (All-tail (λ size. 1 ≤ size) a (b ∷ []) split.filled) in
    (a, b, refl, one, next, omega (arith, split.all, sum_by-cons (λ (x : ℕ). x) a (b ∷ []), sum_by-cons (λ (x : ℕ). x) b []))
pair deck (a ∷ b ∷ c ∷ sizes) two split = absurd (omega (arith, split.disks))

both_some : (a b : ℕ) → 1 ≤ a → 1 ≤ b → All (λ n. 1 ≤ n) (a ∷ b ∷ [])
both_some a b one two = All-cons (λ n. 1 ≤ n) a (b ∷ []) one (All-cons (λ n. 1 ≤ n) b [] two (All-nil (λ n. 1 ≤ n)))

-- The first split costs less than the other, or it costs as much and comes first.
abbrev IsBeaten : Deck → List ℕ → List ℕ → Type 0
IsBeaten deck first other = (cost deck first < cost deck other) ⊎ ((cost deck first ≡ cost deck other) × (is_before first other ≡ true))

-- If the first split is short, the other isn't the best.
beaten : (deck : Deck) (first other : List ℕ) → IsShortSplit deck first → IsBeaten deck first other → IsBest deck other → ⊥
beaten deck first other short (inl less) best = let low = best.least first short in omega arith
beaten deck first other short (inr (same, before)) best = let not = best.first first short same in cc

-- ---- five items

five_14 : cost five (1 ∷ 4 ∷ []) ≡ 81
unfolding order order_with cut least_common_multiple num_minors num_chunks chunk_len minor_len disk_number chunks_of gap_of resized minor_of cost
five_14 = refl

five_23 : cost five (2 ∷ 3 ∷ []) ≡ 92
unfolding order order_with cut least_common_multiple num_minors num_chunks chunk_len minor_len disk_number chunks_of gap_of resized minor_of cost
five_23 = refl

pub five_32 : cost five (3 ∷ 2 ∷ []) ≡ 80
unfolding order order_with cut least_common_multiple num_minors num_chunks chunk_len minor_len disk_number chunks_of gap_of resized minor_of cost
five_32 = refl

pub five_41 : cost five (4 ∷ 1 ∷ []) ≡ 95
unfolding order order_with cut least_common_multiple num_minors num_chunks chunk_len minor_len disk_number chunks_of gap_of resized minor_of cost
five_41 = refl

five_slots : slots_of five (3 ∷ 2 ∷ []) ≡ 8
unfolding order order_with cut least_common_multiple num_minors num_chunks chunk_len minor_len resized minor_of slots_of
five_slots = refl

five_short : IsShortSplit five (3 ∷ 2 ∷ [])
five_short = record { split = record { disks = refl; filled = both_some 3 2 (omega arith) (omega arith); all = refl }; short = omega (arith, five_slots) }

pub five_best : (sizes : List ℕ) → IsBest five sizes → sizes ≡ 3 ∷ 2 ∷ []
five_best sizes best = let p = pair five sizes refl best.short.split in by p.0 p.1 p.2 p.3 p.4 p.5
  where
    not : (other : List ℕ) → IsBeaten five (3 ∷ 2 ∷ []) other → sizes ≡ other → sizes ≡ 3 ∷ 2 ∷ []
    not other worse same = absurd (beaten five (3 ∷ 2 ∷ []) other five_short worse (subst (IsBest five) same best))

    by : (a b : ℕ) → sizes ≡ a ∷ b ∷ [] → 1 ≤ a → 1 ≤ b → a + b ≡ 5 → sizes ≡ 3 ∷ 2 ∷ []
    by zero b is one next all = absurd (omega arith)
    by (suc zero) b is one next all = let rest : b ≡ 4 = omega arith in not (1 ∷ 4 ∷ []) (inl (omega (arith, five_32, five_14))) (is ∙ ap (λ n. 1 ∷ n ∷ []) rest)
    by (suc (suc zero)) b is one next all = let rest : b ≡ 3 = omega arith in not (2 ∷ 3 ∷ []) (inl (omega (arith, five_32, five_23))) (is ∙ ap (λ n. 2 ∷ n ∷ []) rest)
    by (suc (suc (suc zero))) b is one next all = let rest : b ≡ 2 = omega arith in is ∙ ap (λ n. 3 ∷ n ∷ []) rest
    by (suc (suc (suc (suc zero)))) b is one next all = let rest : b ≡ 1 = omega arith in not (4 ∷ 1 ∷ []) (inl (omega (arith, five_32, five_41))) (is ∙ ap (λ n. 4 ∷ n ∷ []) rest)
    by (suc (suc (suc (suc (suc a))))) b is one next all = absurd (omega arith)

-- ---- six items

pub six_15 : cost six (1 ∷ 5 ∷ []) ≡ 120
unfolding order order_with cut least_common_multiple num_minors num_chunks chunk_len minor_len disk_number chunks_of gap_of resized minor_of cost
six_15 = refl

six_24 : cost six (2 ∷ 4 ∷ []) ≡ 120
unfolding order order_with cut least_common_multiple num_minors num_chunks chunk_len minor_len disk_number chunks_of gap_of resized minor_of cost
six_24 = refl

six_33 : cost six (3 ∷ 3 ∷ []) ≡ 135
unfolding order order_with cut least_common_multiple num_minors num_chunks chunk_len minor_len disk_number chunks_of gap_of resized minor_of cost
six_33 = refl

six_42 : cost six (4 ∷ 2 ∷ []) ≡ 120
unfolding order order_with cut least_common_multiple num_minors num_chunks chunk_len minor_len disk_number chunks_of gap_of resized minor_of cost
six_42 = refl

pub six_51 : cost six (5 ∷ 1 ∷ []) ≡ 128
unfolding order order_with cut least_common_multiple num_minors num_chunks chunk_len minor_len disk_number chunks_of gap_of resized minor_of cost
six_51 = refl

six_slots : slots_of six (1 ∷ 5 ∷ []) ≡ 12
unfolding order order_with cut least_common_multiple num_minors num_chunks chunk_len minor_len resized minor_of slots_of
six_slots = refl

six_short : IsShortSplit six (1 ∷ 5 ∷ [])
six_short = record { split = record { disks = refl; filled = both_some 1 5 (omega arith) (omega arith); all = refl }; short = omega (arith, six_slots) }

pub six_best : (sizes : List ℕ) → IsBest six sizes → sizes ≡ 1 ∷ 5 ∷ []
six_best sizes best = let p = pair six sizes refl best.short.split in by p.0 p.1 p.2 p.3 p.4 p.5
  where
    not : (other : List ℕ) → IsBeaten six (1 ∷ 5 ∷ []) other → sizes ≡ other → sizes ≡ 1 ∷ 5 ∷ []
    not other worse same = absurd (beaten six (1 ∷ 5 ∷ []) other six_short worse (subst (IsBest six) same best))

    by : (a b : ℕ) → sizes ≡ a ∷ b ∷ [] → 1 ≤ a → 1 ≤ b → a + b ≡ 6 → sizes ≡ 1 ∷ 5 ∷ []
    by zero b is one next all = absurd (omega arith)
    by (suc zero) b is one next all = let rest : b ≡ 5 = omega arith in is ∙ ap (λ n. 1 ∷ n ∷ []) rest
    by (suc (suc zero)) b is one next all = let rest : b ≡ 4 = omega arith in not (2 ∷ 4 ∷ []) (inr (six_15 ∙ sym six_24, refl)) (is ∙ ap (λ n. 2 ∷ n ∷ []) rest)
    by (suc (suc (suc zero))) b is one next all = let rest : b ≡ 3 = omega arith in not (3 ∷ 3 ∷ []) (inl (omega (arith, six_15, six_33))) (is ∙ ap (λ n. 3 ∷ n ∷ []) rest)
    by (suc (suc (suc (suc zero)))) b is one next all = let rest : b ≡ 2 = omega arith in not (4 ∷ 2 ∷ []) (inr (six_15 ∙ sym six_42, refl)) (is ∙ ap (λ n. 4 ∷ n ∷ []) rest)
    by (suc (suc (suc (suc (suc zero))))) b is one next all = let rest : b ≡ 1 = omega arith in not (5 ∷ 1 ∷ []) (inl (omega (arith, six_15, six_51))) (is ∙ ap (λ n. 5 ∷ n ∷ []) rest)
    by (suc (suc (suc (suc (suc (suc a)))))) b is one next all = absurd (omega arith)

-- ---- three items that nobody asks for

pub unrated_12 : cost unrated (1 ∷ 2 ∷ []) ≡ 0
unfolding order order_with cut least_common_multiple num_minors num_chunks chunk_len minor_len disk_number chunks_of gap_of resized minor_of cost
unrated_12 = refl

pub unrated_21 : cost unrated (2 ∷ 1 ∷ []) ≡ 0
unfolding order order_with cut least_common_multiple num_minors num_chunks chunk_len minor_len disk_number chunks_of gap_of resized minor_of cost
unrated_21 = refl

unrated_slots : slots_of unrated (1 ∷ 2 ∷ []) ≡ 4
unfolding order order_with cut least_common_multiple num_minors num_chunks chunk_len minor_len resized minor_of slots_of
unrated_slots = refl

unrated_short : IsShortSplit unrated (1 ∷ 2 ∷ [])
unrated_short = record { split = record { disks = refl; filled = both_some 1 2 (omega arith) (omega arith); all = refl }; short = omega (arith, unrated_slots) }

pub unrated_best : (sizes : List ℕ) → IsBest unrated sizes → sizes ≡ 1 ∷ 2 ∷ []
unrated_best sizes best = let p = pair unrated sizes refl best.short.split in by p.0 p.1 p.2 p.3 p.4 p.5
  where
    not : (other : List ℕ) → IsBeaten unrated (1 ∷ 2 ∷ []) other → sizes ≡ other → sizes ≡ 1 ∷ 2 ∷ []
    not other worse same = absurd (beaten unrated (1 ∷ 2 ∷ []) other unrated_short worse (subst (IsBest unrated) same best))

    by : (a b : ℕ) → sizes ≡ a ∷ b ∷ [] → 1 ≤ a → 1 ≤ b → a + b ≡ 3 → sizes ≡ 1 ∷ 2 ∷ []
    by zero b is one next all = absurd (omega arith)
    by (suc zero) b is one next all = let rest : b ≡ 2 = omega arith in is ∙ ap (λ n. 1 ∷ n ∷ []) rest
    by (suc (suc zero)) b is one next all = let rest : b ≡ 1 = omega arith in not (2 ∷ 1 ∷ []) (inr (unrated_12 ∙ sym unrated_21, refl)) (is ∙ ap (λ n. 2 ∷ n ∷ []) rest)
    by (suc (suc (suc a))) b is one next all = absurd (omega arith)

-- ---- longer splits

-- The slots of a split, from only the deck's disks.
slots_by : (deck : Deck) (disks : List DiskSpec) (sizes : List ℕ) → deck.disks ≡ disks → IsSplit deck sizes
    → slots_of deck sizes ≡ common_of disks * minor_from (map (λ (d : DiskSpec). common_of disks / d.freq) disks) sizes
unfolding minors_in chunks_in
slots_by deck disks sizes same split =
    slots_walk deck sizes split ∙ ap (λ l. common_of l * minor_from (map (λ (d : DiskSpec). common_of l / d.freq) l) sizes) same

split_of : (deck : Deck) (disks : List DiskSpec) (a b : ℕ) → deck.disks ≡ disks → length disks ≡ 2 → 1 ≤ a → 1 ≤ b → a + b ≡ length deck.items → IsSplit deck (a ∷ b ∷ [])
split_of deck disks a b same two one next all = record {
  disks = sym (ap length same ∙ two);
  filled = both_some a b one next;
  all = omega (arith, sum_by-cons (λ (x : ℕ). x) a (b ∷ []), sum_by-cons (λ (x : ℕ). x) b []);
}

-- 255 items aired 64 times and one aired three times.
abbrev hot : List DiskSpec
hot = spec 255 64 ∷ spec 1 3 ∷ []

hot_slots : common_of hot * minor_from (map (λ (d : DiskSpec). common_of hot / d.freq) hot) (255 ∷ 1 ∷ []) ≡ 16512
unfolding least_common_multiple minor_from
hot_slots = refl

pub hot_is_long : (deck : Deck) (sizes : List ℕ) → deck.disks ≡ hot → IsBest deck sizes → sizes ≡ 255 ∷ 1 ∷ [] → ⊥
hot_is_long deck sizes same best is =
    let best : IsBest deck (255 ∷ 1 ∷ []) = subst (IsBest deck) is best in
    let fits = best.short.short in omega (arith, slots_by deck hot (255 ∷ 1 ∷ []) same best.short.split, hot_slots)

-- 199 items aired 64 times and one aired 63 times.
abbrev pub long : List DiskSpec
long = spec 199 64 ∷ spec 1 63 ∷ []

long_slots : common_of long * minor_from (map (λ (d : DiskSpec). common_of long / d.freq) long) (189 ∷ 11 ∷ []) ≡ 16128
unfolding least_common_multiple minor_from
long_slots = refl

-- The deck isn't refused because its own program is too long.
pub long_passes : (deck : Deck) → length deck.items ≡ 200 → deck.disks ≡ long → (e : SplitFault) → SaysTooMuch deck e → SaysTooLong deck e → e ≡ NoMemory
long_passes deck items disks (TooMuch product) much all =
    let size : search_size deck ≡ 80000 = ap (λ n. n * n * length deck.disks) items ∙ ap (λ (l : List DiskSpec). 200 * 200 * length l) disks in
    let counted = much.0 in let above = much.1 in absurd (omega arith)
long_passes deck items disks (TooLong slots) much all =
    let split = split_of deck long 189 11 disks refl (omega arith) (omega arith) (sym items) in
    let low = all.least (189 ∷ 11 ∷ []) split in let above = all.above in
    absurd (omega (arith, slots_by deck long (189 ∷ 11 ∷ []) disks split, long_slots))
long_passes deck items disks NoMemory much all = refl

-- 190 items aired 64 times and 66 aired 63 times.
abbrev pub longer : List DiskSpec
longer = spec 190 64 ∷ spec 66 63 ∷ []

-- The chunks of a disk have room for its items.
covers : (size chunks : ℕ) → 0 < chunks → size ≤ (size + chunks - 1) / chunks * chunks
covers size chunks some = let parts = div-add-mod' (size + chunks - 1) chunks in let rest = mod_below (size + chunks - 1) chunks some in omega arith

five_chunks : (a b x y : ℕ) → 1 ≤ a → a + b ≡ 256 → a ≤ x * 63 → b ≤ y * 64 → 5 ≤ x + y
five_chunks a b x y some all one next = omega arith

longer_slots : (a b : ℕ) → common_of longer * minor_from (map (λ (d : DiskSpec). common_of longer / d.freq) longer) (a ∷ b ∷ []) ≡ 4032 * ((a + 63 - 1) / 63 + ((b + 64 - 1) / 64 + 0))
unfolding least_common_multiple minor_from
longer_slots a b = refl

longer_least : (deck : Deck) (sizes : List ℕ) → length deck.items ≡ 256 → deck.disks ≡ longer → IsSplit deck sizes → 20160 ≤ slots_of deck sizes
longer_least deck sizes items disks split = let p = pair deck sizes (ap length disks) split in by p.0 p.1 p.2 p.3 p.5
  where
    by : (a b : ℕ) → sizes ≡ a ∷ b ∷ [] → 1 ≤ a → a + b ≡ length deck.items → 20160 ≤ slots_of deck sizes
    by a b is one all =
        let two = five_chunks a b ((a + 63 - 1) / 63) ((b + 64 - 1) / 64) one (all ∙ items) (covers a 63 (omega arith)) (covers b 64 (omega arith)) in
        let slots : slots_of deck sizes ≡ 4032 * ((a + 63 - 1) / 63 + ((b + 64 - 1) / 64 + 0)) =
        slots_by deck longer sizes disks split ∙ ap (λ l. common_of longer * minor_from (map (λ (d : DiskSpec). common_of longer / d.freq) longer) l) is ∙ longer_slots a b in
        omega arith

pub longer_has_none : (deck : Deck) (sizes : List ℕ) → length deck.items ≡ 256 → deck.disks ≡ longer → IsBest deck sizes → ⊥
longer_has_none deck sizes items disks best = let low = longer_least deck sizes items disks best.short.split in let fits = best.short.short in omega arith

-- It is refused with the least number of slots.
pub longer_is_refused : (deck : Deck) → length deck.items ≡ 256 → deck.disks ≡ longer → (e : SplitFault) → SaysTooMuch deck e → SaysTooLong deck e → (e ≡ TooLong 20160) ⊎ (e ≡ NoMemory)
longer_is_refused deck items disks (TooMuch product) much all =
    let size : search_size deck ≡ 131072 = ap (λ n. n * n * length deck.disks) items ∙ ap (λ (l : List DiskSpec). 256 * 256 * length l) disks in
    let counted = much.0 in let above = much.1 in absurd (omega arith)
longer_is_refused deck items disks (TooLong slots) much all =
    let split = split_of deck longer 189 67 disks refl (omega arith) (omega arith) (sym items) in
    let low = all.least (189 ∷ 67 ∷ []) split in
    let own : slots_of deck (189 ∷ 67 ∷ []) ≡ 20160 = slots_by deck longer (189 ∷ 67 ∷ []) disks split ∙ longer_slots 189 67 in
    let r = all.reached in let high = longer_least deck r.0 items disks r.1 in let is = r.2 in
    let same : slots ≡ 20160 = omega arith in inl (ap TooLong same)
longer_is_refused deck items disks NoMemory much all = inr refl
