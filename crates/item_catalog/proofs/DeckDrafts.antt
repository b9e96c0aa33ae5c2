-- The draft of a deck's declarations is that of its parts.
use Rattle.std.proofs.Common.{◌≡◌, ◌≤◌, ◌+◌, ◌-◌, ◌++◌, ◌∷◌, [], ℕ, List, Option, Some, refl, sym, ap, ◌∙◌, length, map, max, replicate, take, arith}
use Rattle.std.specs.Prelude.{sum_by}
use Rattle.std.specs.List.{enumerate_from}
use Rattle.std.proofs.lemmas.List.{take-append-le, take_all}
use Rattle.air_base.specs.declared.limits.TheConstants.{MOST_READERS, MOST_UPDATERS}
use Rattle.air_history.specs.UpdateLists.{UpdateLists}
use Rattle.air_model.specs.declared.deck.ReaderPlan.{ReaderPlan}
use Rattle.air_model.specs.declared.deck.Settings.{Settings}
use Rattle.air_model.specs.Disks.{DiskSpec}
use Rattle.air_model.specs.Decks.{Deck, Item, Replan}
use Rattle.item_catalog.specs.Declarations as e
use Rattle.item_catalog.specs.Decks.{plain_item, plain_replan, with_freqs}
use Rattle.item_catalog.specs.Settings.{settings_in}
use Rattle.item_catalog.specs.Parts.{ReplanSaid, disks_said, last_replan_cycle}
use Rattle.item_catalog.specs.Private.Drafts.{DraftValue, deck_from, draft_of, with_declaration}
use Rattle.item_catalog.specs.declared.parts.ItemPart.{ItemPart}
use Rattle.item_catalog.specs.declared.parts.DiskPart.{DiskPart}
use Rattle.item_catalog.specs.DeckTexts.{all_set, deck_declarations, disk_declaration, item_declaration, query_declarations, reader_declaration, replan_declaration, update_declarations}
use Rattle.item_catalog.proofs.DraftLemmas.{last_more}
use Rattle.item_catalog.proofs.DraftSections.{added, all_named, at_queries, at_updates, draft_by, no_lists, queries_added, updates_added}
use Rattle.item_catalog.proofs.DraftSteps.{drafted, with_all, with_both}

-- ---- the whole deck

abbrev pub item_part : ℕ × Item → ItemPart
item_part item = record { value = item.1.value; rate = item.1.rate }

abbrev pub disk_part : DiskSpec → DiskPart
disk_part disk = record { size = disk.size; freq = Some disk.freq }

abbrev pub item_parts : Deck → List ItemPart
item_parts deck = map item_part (enumerate_from 0 deck.items)

abbrev pub disk_parts : Deck → List DiskPart
disk_parts deck = map disk_part deck.disks

abbrev pub replan_part : Replan → ReplanSaid
replan_part replan = record { cycle = replan.cycle; disks = map disk_part replan.disks }

abbrev pub replan_parts : Deck → List ReplanSaid
replan_parts deck = map replan_part deck.replans

-- The lists of the updaters and the readers that there could be in addition.
abbrev pub more_updaters : Deck → List (List UpdateLists)
more_updaters deck = replicate (MOST_UPDATERS - length deck.updates) []

abbrev pub more_readers : Deck → List (List (List ℕ))
more_readers deck = replicate (MOST_READERS - length deck.queries) []

same_readers : (readers : List ReaderPlan) → map (λ (r : ReaderPlan). r) readers ≡ readers
same_readers [] = refl
same_readers (r ∷ readers) = ap (λ l. r ∷ l) (same_readers readers)

-- The drafts of the sections so far.
abbrev pub after_items : Deck → DraftValue
after_items deck = draft_by (item_parts deck) [] [] (replicate MOST_UPDATERS []) 0 0 [] (replicate MOST_READERS []) 0 [] []

abbrev pub after_disks : Deck → DraftValue
after_disks deck = draft_by (item_parts deck) (disk_parts deck) [] (replicate MOST_UPDATERS []) 0 0 [] (replicate MOST_READERS []) 0 [] []

abbrev pub after_replans : Deck → DraftValue
after_replans deck = draft_by (item_parts deck) (disk_parts deck) (replan_parts deck) (replicate MOST_UPDATERS []) 0 0 [] (replicate MOST_READERS []) 0 [] []

abbrev pub after_updates : Deck → DraftValue
after_updates deck =
    draft_by (item_parts deck) (disk_parts deck) (replan_parts deck) (deck.updates ++ more_updaters deck) (max 0 (all_named 0 deck.updates)) (0 + sum_by length deck.updates) [] (replicate MOST_READERS []) 0 [] []

abbrev pub after_readers : Deck → DraftValue
after_readers deck =
    draft_by (item_parts deck) (disk_parts deck) (replan_parts deck) (deck.updates ++ more_updaters deck) (max 0 (all_named 0 deck.updates)) (0 + sum_by length deck.updates)
    deck.readers (replicate MOST_READERS []) 0 [] []

abbrev pub after_queries : Deck → DraftValue
after_queries deck =
    draft_by (item_parts deck) (disk_parts deck) (replan_parts deck) (deck.updates ++ more_updaters deck) (max 0 (all_named 0 deck.updates)) (0 + sum_by length deck.updates)
    deck.readers (deck.queries ++ more_readers deck) (0 + sum_by length deck.queries) [] []

abbrev pub whole_draft : Deck → DraftValue
whole_draft deck =
    draft_by (item_parts deck) (disk_parts deck) (replan_parts deck) (deck.updates ++ more_updaters deck) (max 0 (all_named 0 deck.updates)) (0 + sum_by length deck.updates)
    deck.readers (deck.queries ++ more_readers deck) (0 + sum_by length deck.queries) deck.script (all_set deck.settings)

pub items_added : (deck : Deck) → with_all (draft_of []) (map item_declaration (enumerate_from 0 deck.items)) ≡ after_items deck
items_added deck =
    added item_declaration item_part (λ items. draft_by items [] [] (replicate MOST_UPDATERS []) 0 0 [] (replicate MOST_READERS []) 0 [] []) (λ done x. refl) (enumerate_from 0 deck.items) []

pub disks_added : (deck : Deck) → with_all (after_items deck) (map disk_declaration deck.disks) ≡ after_disks deck
disks_added deck =
    added disk_declaration disk_part (λ disks. draft_by (item_parts deck) disks [] (replicate MOST_UPDATERS []) 0 0 [] (replicate MOST_READERS []) 0 [] []) (λ done x. refl) deck.disks []

-- What a replan declares is its part.
said_back : (disks : List DiskSpec) → disks_said (map (λ d. d.size) disks) (map (λ d. Some d.freq) disks) ≡ map disk_part disks
said_back [] = refl
said_back (d ∷ disks) = ap (λ l. disk_part d ∷ l) (said_back disks)

pub replans_added : (deck : Deck) → with_all (after_disks deck) (map replan_declaration deck.replans) ≡ after_replans deck
replans_added deck =
    added replan_declaration replan_part (λ replans. draft_by (item_parts deck) (disk_parts deck) replans (replicate MOST_UPDATERS []) 0 0 [] (replicate MOST_READERS []) 0 [] [])
    (λ done r. replan_put done r (last_more done (replan_part r)) (said_back r.disks)) deck.replans []
  where
    replan_put : (done : List ReplanSaid) (r : Replan) → last_replan_cycle (done ++ replan_part r ∷ []) ≡ r.cycle → disks_said (map (λ d. d.size) r.disks) (map (λ d. Some d.freq) r.disks) ≡ map disk_part r.disks
        → with_declaration (draft_by (item_parts deck) (disk_parts deck) done (replicate MOST_UPDATERS []) 0 0 [] (replicate MOST_READERS []) 0 [] []) (replan_declaration r)
        ≡ draft_by (item_parts deck) (disk_parts deck) (done ++ replan_part r ∷ []) (replicate MOST_UPDATERS []) 0 0 [] (replicate MOST_READERS []) 0 [] []
    replan_put done r last same = rw (last, same) refl

pub all_updates_added : (deck : Deck) → length deck.updates ≤ MOST_UPDATERS → with_all (after_replans deck) (update_declarations 0 deck.updates) ≡ after_updates deck
all_updates_added deck few =
    let n = length deck.updates in
    let all : MOST_UPDATERS ≡ n + (MOST_UPDATERS - n) = omega arith in
    let lists = ap (λ k. replicate {A = List UpdateLists} k []) all ∙ no_lists {A = UpdateLists} n (MOST_UPDATERS - n) in
    ap (λ ls. with_all (at_updates (item_parts deck) (disk_parts deck) (replan_parts deck) ls 0 0) (update_declarations 0 deck.updates)) lists
    ∙ updates_added (item_parts deck) (disk_parts deck) (replan_parts deck) deck.updates [] (more_updaters deck) 0 0 0 refl

pub readers_added : (deck : Deck) → with_all (after_updates deck) (map reader_declaration deck.readers) ≡ after_readers deck
readers_added deck =
    let at : List ReaderPlan → DraftValue = λ readers.
    draft_by (item_parts deck) (disk_parts deck) (replan_parts deck) (deck.updates ++ more_updaters deck) (max 0 (all_named 0 deck.updates)) (0 + sum_by length deck.updates) readers (replicate MOST_READERS []) 0 [] [] in
    added reader_declaration (λ r. r) at (λ done x. refl) deck.readers [] ∙ ap at (same_readers deck.readers)

pub all_queries_added : (deck : Deck) → length deck.queries ≤ MOST_READERS → with_all (after_readers deck) (query_declarations 0 deck.queries) ≡ after_queries deck
all_queries_added deck few =
    let n = length deck.queries in
    let us = deck.updates ++ more_updaters deck in let last = max 0 (all_named 0 deck.updates) in let count = 0 + sum_by length deck.updates in
    let all : MOST_READERS ≡ n + (MOST_READERS - n) = omega arith in
    let lists = ap (λ k. replicate {A = List (List ℕ)} k []) all ∙ no_lists {A = List ℕ} n (MOST_READERS - n) in
    ap (λ ls. with_all (at_queries (item_parts deck) (disk_parts deck) (replan_parts deck) us last count deck.readers ls 0) (query_declarations 0 deck.queries)) lists
    ∙ queries_added (item_parts deck) (disk_parts deck) (replan_parts deck) us last count deck.readers deck.queries [] (more_readers deck) 0 0 refl

pub rest_added : (deck : Deck) → with_all (after_queries deck) (e.DeclaredScript deck.script ∷ map e.DeclaredSetting (all_set deck.settings)) ≡ whole_draft deck
rest_added deck = refl

pub deck_drafted : (deck : Deck) → length deck.updates ≤ MOST_UPDATERS → length deck.queries ≤ MOST_READERS → draft_of (deck_declarations deck) ≡ whole_draft deck
deck_drafted deck few asked =
    let last = e.DeclaredScript deck.script ∷ map e.DeclaredSetting (all_set deck.settings) in
    let q = query_declarations 0 deck.queries ++ last in
    let r = map reader_declaration deck.readers ++ q in
    let u = update_declarations 0 deck.updates ++ r in
    let p = map replan_declaration deck.replans ++ u in
    drafted [] (deck_declarations deck)
    ∙ with_both (draft_of []) (map item_declaration (enumerate_from 0 deck.items)) (map disk_declaration deck.disks ++ p) ∙ ap (λ d. with_all d (map disk_declaration deck.disks ++ p)) (items_added deck)
    ∙ with_both (after_items deck) (map disk_declaration deck.disks) p ∙ ap (λ d. with_all d p) (disks_added deck)
    ∙ with_both (after_disks deck) (map replan_declaration deck.replans) u ∙ ap (λ d. with_all d u) (replans_added deck)
    ∙ with_both (after_replans deck) (update_declarations 0 deck.updates) r ∙ ap (λ d. with_all d r) (all_updates_added deck few)
    ∙ with_both (after_updates deck) (map reader_declaration deck.readers) q ∙ ap (λ d. with_all d q) (readers_added deck)
    ∙ with_both (after_readers deck) (query_declarations 0 deck.queries) last ∙ ap (λ d. with_all d last) (all_queries_added deck asked)
    ∙ rest_added deck

-- ---- the deck of the draft

items_same : (k : ℕ) (items : List Item) → map plain_item (map item_part (enumerate_from k items)) ≡ items
items_same k [] = refl
items_same k (i ∷ items) = ap (λ l. i ∷ l) (items_same (k + 1) items)

disks_same : (delta : ℕ) (disks : List DiskSpec) → with_freqs delta (map disk_part disks) ≡ disks
disks_same delta [] = refl
disks_same delta (d ∷ disks) = ap (λ l. d ∷ l) (disks_same delta disks)

replans_same : (delta : ℕ) (replans : List Replan) → map (plain_replan delta) (map replan_part replans) ≡ replans
replans_same delta [] = refl
replans_same delta (r ∷ replans) = rw (disks_same delta r.disks, replans_same delta replans) refl

front_taken : {A : Type 0} (xs pad : List A) (k : ℕ) → k ≡ length xs → take k (xs ++ pad) ≡ xs
front_taken xs pad k e = take-append-le k xs pad (omega arith) ∙ take_all k xs (omega arith)

deck_same : {i j : List Item} {d c : List DiskSpec} {u v : List (List UpdateLists)} {r : List ReaderPlan} {q p : List (List (List ℕ))} {x : List (Option ℕ)} {t s : Settings} {f g : List Replan}
    → i ≡ j → d ≡ c → f ≡ g → u ≡ v → q ≡ p → t ≡ s
    → ◌≡◌ {A = Deck} (record { items = i; disks = d; replans = f; updates = u; readers = r; queries = q; script = x; settings = t }) (record { items = j; disks = c; replans = g; updates = v; readers = r; queries = p; script = x; settings = s })
deck_same h1 h2 h3 h4 h5 h6 = cc

-- The settings that are all set are read back as these settings.
settings_back : (s : Settings) → settings_in (all_set s) ≡ s
settings_back s = refl

pub deck_back : (deck : Deck) → all_named 0 deck.updates ≡ length deck.updates → length deck.queries ≡ length deck.readers → deck_from (whole_draft deck) ≡ deck
deck_back deck updaters_named asked =
    deck_same (items_same 0 deck.items) (disks_same 0 deck.disks) (replans_same 0 deck.replans) (front_taken deck.updates (more_updaters deck) (max 0 (all_named 0 deck.updates)) (omega arith)) (front_taken deck.queries (more_readers deck) (length deck.readers) (sym asked)) (settings_back deck.settings)
