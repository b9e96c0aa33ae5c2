-- The air of a deck by its editions: in each cycle it has what the deck says of the cycle's edition.
use Rattle.std.proofs.Common.{◌≡◌, ℕ, ◌+◌, ◌<◌, ◌≤◌, Bool, true, false, cond, nat_le, List, [], ◌∷◌, ◌++◌, length, map, get_or, refl, ◌∙◌, ap, append-nil, arith}
use Rattle.std.specs.Prelude.{count_by}
use Rattle.std.specs.List.{enumerate_from, flat_map, range_with_len}
use Rattle.std.proofs.lemmas.Bool.{leb-false, leb-true}
use Rattle.std.proofs.lemmas.List.FromFn.{get_or-map-range_with_len}
use Rattle.std.proofs.lemmas.List.Sums.{count_by-le-length, sum_by-cons}
use Rattle.air_history.specs.declared.histories.Event.{Event}
use Rattle.air_model.specs.Aired.{Air, air_of, bucket_of, edition_at, pix_at, pix_in, scheme_in, slots_at}
use Rattle.air_model.specs.Decks.{Deck, Replan, count_editions, disks_in, edition, rates_in}
use Rattle.air_model.specs.PlanTexts.{edition_rows, plan_text, replan_rows}
use Rattle.air_model.specs.Programs.{program}
use Rattle.air_model.specs.Rows.{rows_text}

count_cycles : (rs : List Replan) (c : ℕ) → count_by (λ at. nat_le at c) (map (λ r. r.cycle) rs) ≡ count_by (λ r. nat_le r.cycle c) rs
count_cycles [] c = refl
count_cycles (r ∷ rs) c =
    sum_by-cons (λ at. cond (nat_le at c) 1 0) r.cycle (map (λ r. r.cycle) rs)
    ∙ ap (λ n. cond (nat_le r.cycle c) 1 0 + n) (count_cycles rs c)
    ∙ (let whole = sum_by-cons (λ (r : Replan). cond (nat_le r.cycle c) 1 0) r rs in omega arith)

-- The air has the deck's edition in each cycle.
pub edition_is : (deck : Deck) (c : ℕ) → edition_at (air_of deck) c ≡ edition deck c
edition_is deck c = count_cycles deck.replans c

-- That edition is one of the deck's.
pub edition_within : (deck : Deck) (c : ℕ) → edition deck c < count_editions deck
edition_within deck c = let most = count_by-le-length (λ (r : Replan). nat_le r.cycle c) deck.replans in omega arith

at_edition : {X : Type 0} (f : ℕ → List X) (deck : Deck) (c : ℕ) → get_or (map f (range_with_len 0 (count_editions deck))) (edition_at (air_of deck) c) [] ≡ f (edition deck c)
at_edition f deck c =
    ap (λ e. get_or (map f (range_with_len 0 (count_editions deck))) e []) (edition_is deck c)
    ∙ get_or-map-range_with_len f 0 (count_editions deck) (edition deck c) (edition deck c) [] (edition_within deck c) (omega arith)

-- The air's slots in a cycle are those of the edition's disks.
pub slots_are : (deck : Deck) (c : ℕ) → slots_at (air_of deck) c ≡ program (disks_in deck (edition deck c))
slots_are deck c = at_edition (λ e. program (disks_in deck e)) deck c

-- Its PIX numbers in a cycle are the edition's.
pub pix_are : (deck : Deck) (c : ℕ) → pix_at (air_of deck) c ≡ pix_in deck (edition deck c)
pix_are deck c = at_edition (pix_in deck) deck c

-- ---- editions of cycles

count_rises : (rs : List Replan) (c d : ℕ) → c ≤ d → count_by (λ r. nat_le r.cycle c) rs ≤ count_by (λ r. nat_le r.cycle d) rs
count_rises [] c d l = omega arith
count_rises (r ∷ rs) c d l =
    let here = sum_by-cons (λ (r : Replan). cond (nat_le r.cycle c) 1 0) r rs in
    let there = sum_by-cons (λ (r : Replan). cond (nat_le r.cycle d) 1 0) r rs in
    let rest = count_rises rs c d l in
    let one : cond (nat_le r.cycle c) 1 0 ≤ cond (nat_le r.cycle d) 1 0 = by (nat_le r.cycle c) (nat_le r.cycle d) refl refl in
    omega arith
  where
    by : (b e : Bool) → nat_le r.cycle c ≡ b → nat_le r.cycle d ≡ e → cond b 1 0 ≤ cond e 1 0
    by true true t f = omega arith
    by true false t f = absurd (let low = leb-true r.cycle c t in let high = leb-false r.cycle d f in omega arith)
    by false e t f = omega arith

-- Editions never fall from cycle to cycle.
pub edition_rises : (deck : Deck) (c d : ℕ) → c ≤ d → edition deck c ≤ edition deck d
edition_rises deck c d l = count_rises deck.replans c d l

-- Without replans there is one edition.
pub one_edition : (deck : Deck) (c : ℕ) → deck.replans ≡ [] → edition deck c ≡ 0
one_edition deck c none = ap (count_by (λ r. nat_le r.cycle c)) none

-- Without replans each bucket has the number of that edition,
pub plain_bucket : (deck : Deck) (values : List ℕ) (H : List Event) (version c s : ℕ) → deck.replans ≡ [] → (bucket_of values (air_of deck) H version c s).edition ≡ 0
unfolding bucket_of
plain_bucket deck values H version c s none = edition_is deck c ∙ one_edition deck c none

-- the text of the plan has the rows of that edition alone,
pub plain_plan : (deck : Deck) → deck.replans ≡ [] → plan_text (rates_in deck) deck.disks deck.replans ≡ rows_text (edition_rows (rates_in deck) deck.disks)
unfolding plan_text
plain_plan deck none =
    let rows = edition_rows (rates_in deck) deck.disks in
    ap (λ rs. rows_text (rows ++ flat_map (replan_rows (rates_in deck)) (enumerate_from 1 rs))) none ∙ ap rows_text (append-nil rows)

-- the air has the PIX numbers by the deck's own disks in each cycle,
pub plain_pix : (deck : Deck) (c : ℕ) → deck.replans ≡ [] → pix_at (air_of deck) c ≡ pix_in deck 0
plain_pix deck c none = pix_are deck c ∙ ap (pix_in deck) (one_edition deck c none)

-- and their program.
pub plain_slots : (deck : Deck) (c : ℕ) → deck.replans ≡ [] → slots_at (air_of deck) c ≡ program (disks_in deck 0)
plain_slots deck c none = slots_are deck c ∙ ap (λ e. program (disks_in deck e)) (one_edition deck c none)

abbrev air_with : Deck → List Replan → ℕ → Air
air_with deck replans editions = record {
  scheme = scheme_in deck;
  version = deck.settings.version;
  items = length deck.items;
  replans = map (λ r. r.cycle) replans;
  slots = map (λ e. program (disks_in deck e)) (range_with_len 0 editions);
  pix = map (pix_in deck) (range_with_len 0 editions);
}

-- The air of a deck without replans has one list of slots and one of PIX numbers.
pub plain_air : (deck : Deck) → deck.replans ≡ [] → air_of deck ≡ record {
  scheme = scheme_in deck;
  version = deck.settings.version;
  items = length deck.items;
  replans = [];
  slots = program (disks_in deck 0) ∷ [];
  pix = pix_in deck 0 ∷ [];
}
plain_air deck none = ap (λ rs. air_with deck rs (length rs + 1)) none
