-- What receivers of a deck know, from its plans.
use Rattle.std.proofs.Common.{◌≡◌, ℕ, List, [], length, get_or, map, Option, Some, sym, ◌∙◌, ap}
use Rattle.std.specs.List.{enumerate_from, range_with_len, slice_get}
use Rattle.std.proofs.lemmas.List.{get_or-map, length-map}
use Rattle.std.proofs.lemmas.List.FromFn.{length-enumerate_from}
use Rattle.std.proofs.lemmas.Option.{get_or_from_slice_get, slice_get_within}
use Rattle.std.proofs.lemmas.Simd.{map-map}
use Rattle.air_base.specs.declared.verdicts.Policy.{Policy}
use Rattle.air_history.specs.Columns.{Scheme}
use Rattle.air_model.specs.Aired.{scheme_in, Air, air_of, edition_at, pix_at, slots_at}
use Rattle.air_model.specs.Airings.{pix_number}
use Rattle.air_model.specs.Buckets.{Bucket}
use Rattle.air_model.specs.Decks.{Deck, count_editions, disks_in, edition, rates_in}
use Rattle.air_model.specs.Programs.{program}
use Rattle.air_model.proofs.EditionLemmas.{pix_are}
use Rattle.chunk_program.specs.Editions.{EditionDisks, Plans, edition_disks, planned_edition, plans_in, program_pix}
use Rattle.receiver_core.specs.declared.airs.Air.TheInside.{Inside}
use Rattle.receiver_core.specs.AirFields.{air_in}

-- What receivers know, by its parts.
abbrev air_with : Scheme → ℕ → ℕ → List ℕ → List (List (Option ℕ)) → List (List ℕ) → Air
air_with scheme version items replans slots pix = record { scheme = scheme; version = version; items = items; replans = replans; slots = slots; pix = pix }

abbrev air_by : Scheme → ℕ → ℕ → Plans → Air
air_by scheme version items plans = air_with scheme version items plans.replans (map (λ (p : EditionDisks). program p.disks) plans.programs) plans.pix

pub air_is : (deck : Deck) (policy : Policy) (group version items : ℕ) (plans : Plans) → policy ≡ deck.settings.policy → group ≡ deck.settings.group → version ≡ deck.settings.version → items ≡ length deck.items → plans ≡ plans_in deck →
    air_by (record { policy = policy; group = group }) version items plans ≡ air_of deck
air_is deck policy group version items plans p g v i are =
    let editions = range_with_len 0 (count_editions deck) in
    let own = scheme_in deck in
    let known = air_with own deck.settings.version (length deck.items) (map (λ r. r.cycle) deck.replans) in
    ap (λ p. air_by (record { policy = p; group = group }) version items plans) p ∙ ap (λ g. air_by (record { policy = deck.settings.policy; group = g }) version items plans) g
    ∙ ap (λ v. air_by own v items plans) v ∙ ap (λ n. air_by own deck.settings.version n plans) i ∙ ap (air_by own deck.settings.version (length deck.items)) are
    ∙ ap (λ slots. known slots (plans_in deck).pix) (map-map (λ (p : EditionDisks). program p.disks) (edition_disks deck) editions)
    ∙ ap (known (map (λ e. program (disks_in deck e)) editions)) (map-map (program_pix deck) (edition_disks deck) editions)

-- In each cycle each item has a PIX number.
pub pix_counted : (deck : Deck) (air : Air) (c : ℕ) → air ≡ air_of deck → length (pix_at air c) ≡ air.items
pix_counted deck air c is =
    ap (λ (a : Air). length (pix_at a c)) is ∙ ap length (pix_are deck c)
    ∙ length-map (enumerate_from 0 (rates_in deck)) (λ p. pix_number (disks_in deck (edition deck c)) p.0 p.1) ∙ length-enumerate_from 0 (rates_in deck)
    ∙ length-map deck.items (λ i. i.rate) ∙ sym (ap (λ (a : Air). a.items) is)

-- ---- at the fields

-- The edition of a bucket's cycle is that of the plans,
pub edition_told : (a : Inside) (b : Bucket) (e cycle : ℕ) → e ≡ planned_edition a.plans cycle → cycle ≡ b.cycle → e ≡ edition_at (air_in a) b.cycle
edition_told a b e cycle told at = told ∙ ap (planned_edition a.plans) at

slots_of_program : (programs : List EditionDisks) (e : ℕ) (p : EditionDisks) → slice_get programs e ≡ Some p → get_or (map (λ (p : EditionDisks). program p.disks) programs) e [] ≡ program p.disks
slots_of_program programs e p at =
    get_or-map (λ (q : EditionDisks). program q.disks) programs e p [] (slice_get_within programs e p at) ∙ ap (λ (q : EditionDisks). program q.disks) (get_or_from_slice_get programs e p p at)

-- and the slots of its cycle are those of the edition's program.
pub slots_told : (a : Inside) (b : Bucket) (e cycle : ℕ) (p : EditionDisks) → e ≡ planned_edition a.plans cycle → cycle ≡ b.cycle → slice_get a.plans.programs e ≡ Some p → slots_at (air_in a) b.cycle ≡ program p.disks
slots_told a b e cycle p told at here =
    ap (λ i. get_or (map (λ (p : EditionDisks). program p.disks) a.plans.programs) i []) (sym (edition_told a b e cycle told at)) ∙ slots_of_program a.plans.programs e p here
