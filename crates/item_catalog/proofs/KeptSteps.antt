-- What holds of what declarations declare, with one more declaration: tag by tag, and `kept_more` for all tags.
use Rattle.std.proofs.Common.{◌≡◌, ◌≢◌, ◌<◌, ◌≤◌, ◌+◌, ◌^◌, ◌++◌, ◌∷◌, [], ℕ, List, Option, Some, None, true, false, not, cond, ◌∙◌, refl, ap, arith, get_or, length, nat_lt, nat_le, inl, inr, ◌⊎◌, length-append}
use Rattle.std.specs.Prelude.{◌==◌, ◌||◌, All}
use Rattle.std.specs.List.{list_all, list_any}
use Rattle.std.proofs.lemmas.Bool.{cases_eq, cases_lt}
use Rattle.std.proofs.lemmas.Bool.Decides.{nat_tests}
use Rattle.std.proofs.lemmas.List.{get_or-set_other, get_or-set_same, get_or_past, length-set, set_past}
use Rattle.std.proofs.lemmas.List.Folds.{list_any-append}
use Rattle.std.proofs.lemmas.List.Sums.{sum_by-cons}
use Rattle.air_base.specs.declared.limits.TheConstants.{MOST_AGE, MOST_ASKED, MOST_DISKS, MOST_EVENTS, MOST_FREQ, MOST_ITEMS, MOST_QUERIES, MOST_RATE, MOST_READERS, MOST_ROOM, MOST_SIZE, MOST_STARTS, MOST_TRIES, MOST_UPDATERS}
use Rattle.air_history.specs.declared.updates.Write.{Write}
use Rattle.air_history.specs.UpdateLists.{UpdateLists}
use Rattle.air_history.specs.UpdateRules.{has_repeat}
use Rattle.air_model.specs.Decks.{IsUpdate, scripted_commits}
use Rattle.air_model.specs.declared.deck.ReaderPlan.{ReaderPlan}
use Rattle.item_catalog.specs.Private.Drafts.{DraftValue, draft_tests, push_at, with_declaration}
use Rattle.item_catalog.specs.Declarations.{Declaration}
use Rattle.item_catalog.specs.Declarations as e
use Rattle.item_catalog.specs.RecordKinds.{first_of}
use Rattle.item_catalog.specs.Faults.{count_starts, script_passes, some_below}
use Rattle.item_catalog.specs.ListTests.{option_any, reaches, write_reaches}
use Rattle.item_catalog.specs.Ranges.{outside}
use Rattle.item_catalog.specs.declared.faults.FaultKind.TheVariants as fault
use Rattle.item_catalog.specs.declared.parts.ItemPart.{ItemPart}
use Rattle.item_catalog.specs.declared.deck.draft.settings.Setting.{Setting}
use Rattle.item_catalog.proofs.DeclarationLemmas.{is_signed, none_of_one, none_of_three, none_of_two, or_none, rules_kept, update_tested}
use Rattle.item_catalog.proofs.ScriptLemmas.{is_commit_by, none_below, starts_all}
use Rattle.item_catalog.proofs.KeptReplans.{kept_replan}
use Rattle.item_catalog.proofs.KeptLemmas.{DiskKept, InRange, Kept, QueryKept, ReaderKept, Spelt, all_push, none_all, sum_push}

-- What is right for some number of items is right for one more.
update_wider : (n : ℕ) (u : UpdateLists) → IsUpdate n u → IsUpdate (n + 1) u
update_wider n u h = record {
  rules = h.rules;
  fits = record { reads = λ i x below. let less = h.fits.reads i x below in omega arith; writes = λ i x below. let less = h.fits.writes i x below in omega arith };
  amounts = h.amounts;
}

query_wider : (n : ℕ) (items : List ℕ) → QueryKept n items → QueryKept (n + 1) items
query_wider n items h = record {
  query = record { filled = h.query.filled; distinct = h.query.distinct; within = λ i x below. let less = h.query.within i x below in omega arith };
  few = h.few;
}

-- One more element in a list of lists.
each_push : {A : Type 0} (P : A → Type 0) (lists : List (List A)) (i : ℕ) (x : A) → All (All P) lists → P x → All (All P) (push_at lists i x)
each_push {A = A} P lists i x all here k d below = by (cases_eq k i)
  where
    inside : k < length lists
    inside = omega (arith, below, length-set lists i (get_or lists i [] ++ x ∷ []))

    own : All P (get_or lists i [])
    own j e less = elim (cases_lt i (length lists)) [
      | inl there ↦ all i [] there j e less
      | inr past ↦ absurd (omega (arith, less, ap length (get_or_past lists i [] past)))
    ]

    by : (k ≡ i) ⊎ (k ≡ i → ⊥) → All P (get_or (push_at lists i x) k d)
    by (inl e) = rw (e, get_or-set_same lists i (get_or lists i [] ++ x ∷ []) d (omega (arith, inside, e))) (all_push P (get_or lists i []) x own here)
    by (inr differs) = rw (get_or-set_other lists i k (get_or lists i [] ++ x ∷ []) d differs) (all k d inside)

module _ (d : DraftValue) (k : Kept d) where
  kept_item : (id value rate : ℕ) → value < 2 ^ 64 → first_of (draft_tests d (e.DeclaredItem id value rate)) ≡ None → Kept (with_declaration d (e.DeclaredItem id value rate))
  kept_item id value rate fits none =
      let t = none_of_two fault.Id fault.Limit (not (id == length d.items)) (nat_lt MOST_RATE rate || nat_le MOST_ITEMS (length d.items)) none in
      let seven = or_none (nat_lt MOST_RATE rate) (nat_le MOST_ITEMS (length d.items)) t.1 in
      let low : rate ≤ MOST_RATE = grind (arith, nat_tests, seven.0) in
      let few : length d.items < MOST_ITEMS = grind (arith, nat_tests, seven.1) in
      let n : length (d.items ++ record { value = value; rate = rate } ∷ []) ≡ length d.items + 1 = length-append d.items (record { value = value; rate = rate } ∷ []) in
      record {
        items = record { each = all_push (λ (i : ItemPart). (i.value < 2 ^ 64) × (i.rate ≤ MOST_RATE)) d.items (record { value = value; rate = rate }) k.items.each (fits, low); few = omega arith };
        disks = k.disks;
        replans = k.replans;
        updates = record {
          each = rw n (λ i us below. λ j u inside. update_wider (length d.items) (get_or (get_or d.updates i us) j u) (k.updates.each i us below j u inside));
          lists = k.updates.lists;
          few = k.updates.few;
          past = k.updates.past;
          few_in_all = k.updates.few_in_all;
          all = k.updates.all;
        };
        readers = k.readers;
        queries = record {
          each = rw n (λ i qs below. λ j q inside. query_wider (length d.items) (get_or (get_or d.queries i qs) j q) (k.queries.each i qs below j q inside));
          lists = k.queries.lists;
          few_in_all = k.queries.few_in_all;
          all = k.queries.all;
        };
        script = k.script;
        set = k.set;
      }

  kept_disk : (size : ℕ) (freq : Option ℕ) → first_of (draft_tests d (e.DeclaredDisk size freq)) ≡ None → Kept (with_declaration d (e.DeclaredDisk size freq))
  kept_disk size freq none =
      let t = none_of_one fault.Limit ((nat_lt size 1 || nat_lt MOST_SIZE size) || option_any (outside 1 MOST_FREQ) freq || nat_le MOST_DISKS (length d.disks)) none in
      let all = or_none ((nat_lt size 1 || nat_lt MOST_SIZE size) || option_any (outside 1 MOST_FREQ) freq) (nat_le MOST_DISKS (length d.disks)) t in
      let one = or_none (nat_lt size 1 || nat_lt MOST_SIZE size) (option_any (outside 1 MOST_FREQ) freq) all.0 in
      let sizes = or_none (nat_lt size 1) (nat_lt MOST_SIZE size) one.0 in
      let few : length d.disks < MOST_DISKS = grind (arith, nat_tests, all.1) in
      record {
        items = k.items;
        disks = record {
          each = all_push DiskKept d.disks (record { size = size; freq = freq }) k.disks.each (record { some = grind (arith, nat_tests, sizes.0); few = grind (arith, nat_tests, sizes.1); freq = one.1 });
          few = omega (arith, length-append d.disks (record { size = size; freq = freq } ∷ []));
        };
        replans = k.replans;
        updates = k.updates;
        readers = k.readers;
        queries = k.queries;
        script = k.script;
        set = k.set;
      }

  kept_reader : (room age tries : ℕ) → first_of (draft_tests d (e.DeclaredReader room age tries)) ≡ None → Kept (with_declaration d (e.DeclaredReader room age tries))
  kept_reader room age tries none =
      let t = none_of_one fault.Limit (nat_lt MOST_ROOM room || nat_lt MOST_AGE age || (nat_lt tries 1 || nat_lt MOST_TRIES tries) || nat_le MOST_READERS (length d.readers)) none in
      let all = or_none (nat_lt MOST_ROOM room || nat_lt MOST_AGE age || (nat_lt tries 1 || nat_lt MOST_TRIES tries)) (nat_le MOST_READERS (length d.readers)) t in
      let plan = or_none (nat_lt MOST_ROOM room || nat_lt MOST_AGE age) (nat_lt tries 1 || nat_lt MOST_TRIES tries) all.0 in
      let copies = or_none (nat_lt MOST_ROOM room) (nat_lt MOST_AGE age) plan.0 in
      let often = or_none (nat_lt tries 1) (nat_lt MOST_TRIES tries) plan.1 in
      let few : length d.readers < MOST_READERS = grind (arith, nat_tests, all.1) in
      let reader : ReaderPlan = record { room = room; age = age; tries = tries } in
      record {
        items = k.items;
        disks = k.disks;
        replans = k.replans;
        updates = k.updates;
        readers = record {
          each = all_push ReaderKept d.readers reader k.readers.each (record {
            within = record { room = grind (arith, nat_tests, copies.0); age = grind (arith, nat_tests, copies.1); tries = grind (arith, nat_tests, often.1) };
            some = grind (arith, nat_tests, often.0);
          });
          few = omega (arith, length-append d.readers (reader ∷ []));
        };
        queries = k.queries;
        script = k.script;
        set = k.set;
      }

-- ---- lists of updates and of queries, and the script

length_push : {A : Type 0} (lists : List (List A)) (i : ℕ) (x : A) → length (push_at lists i x) ≡ length lists
length_push lists i x = length-set lists i (get_or lists i [] ++ x ∷ [])

-- A push makes no list shorter, and doesn't change the lists that it isn't for.
longer_push : {A : Type 0} (lists : List (List A)) (i k : ℕ) (x : A) → length (get_or lists k []) ≤ length (get_or (push_at lists i x) k [])
longer_push lists i k x = elim (cases_eq k i) [
  | inl e ↦ elim (cases_lt i (length lists)) [
    | inl below ↦ omega (arith, ap (λ j. length (get_or lists j [])) e, ap (λ j. length (get_or (push_at lists i x) j [])) e, ap length (get_or-set_same lists i (get_or lists i [] ++ x ∷ []) [] below), length-append (get_or lists i []) (x ∷ []))
    | inr past ↦ omega (arith, ap (λ l. length (get_or l k [])) (set_past lists i (get_or lists i [] ++ x ∷ []) past))
  ]
  | inr differs ↦ omega (arith, ap length (get_or-set_other lists i k (get_or lists i [] ++ x ∷ []) [] differs))
]

declared : (n : ℕ) (xs : List ℕ) → reaches n xs ≡ false → All (λ x. x < n) xs
declared n xs none k d below = let one = none_all (nat_le n) xs none k d below in grind (arith, nat_tests, one)

written : (n : ℕ) (ws : List Write) → list_any (write_reaches n) ws ≡ false → All (λ w. w.item < n) ws
written n ws none k d below =
    let one = (or_none (nat_le n (get_or ws k d).item) (option_any (nat_le n) (get_or ws k d).base) (none_all (write_reaches n) ws none k d below)).0 in
    grind (arith, nat_tests, one)

no_parts : (by : ℕ) (script : List (Option ℕ)) → list_any (option_any (nat_le MOST_UPDATERS)) script ≡ false → MOST_UPDATERS ≤ by → scripted_commits by script ≡ 0
no_parts by [] none past = refl
no_parts by (event ∷ script) none past =
    let both = or_none (option_any (nat_le MOST_UPDATERS) event) (list_any (option_any (nat_le MOST_UPDATERS)) script) none in
    let more = no_parts by script both.1 past in
    omega (arith, sum_by-cons (λ x. cond (is_commit_by by x) 1 0) event script, one event both.0)
  where
    one : (event : Option ℕ) → option_any (nat_le MOST_UPDATERS) event ≡ false → ◌≡◌ {A = ℕ} (cond (is_commit_by by event) 1 0) 0
    one None h = refl
    one (Some who) h = let low : who < MOST_UPDATERS = grind (arith, nat_tests, h) in let other : (who == by) ≡ false = grind arith in rw other refl

module _ (d : DraftValue) (k : Kept d) where
  kept_update : (by : ℕ) (rs : List ℕ) (ws : List Write) → list_all is_signed ws ≡ true → All (λ w. w.amount < 2 ^ 64) ws → first_of (draft_tests d (e.DeclaredUpdate by rs ws)) ≡ None
      → Kept (with_declaration d (e.DeclaredUpdate by rs ws))
  kept_update by rs ws signed amounts none =
      let t = update_tested (length d.items) by d.update_count rs ws none in
      let u : UpdateLists = record { reads = rs; writes = ws } in
      let right : IsUpdate (length d.items) u = record {
        rules = rules_kept (length d.items) by d.update_count rs ws signed none;
        fits = record { reads = declared (length d.items) rs t.reads; writes = written (length d.items) ws t.writes };
        amounts = amounts;
      } in
      record {
        items = k.items;
        disks = k.disks;
        replans = k.replans;
        updates = record {
          each = each_push (IsUpdate (length d.items)) d.updates by u k.updates.each right;
          lists = length_push d.updates by u ∙ k.updates.lists;
          few = let old = k.updates.few in let new = t.updater in omega arith;
          past = λ i above. let other : i ≢ by = (λ e. absurd (omega (arith, above, e))) in
              ap length (get_or-set_other d.updates by i (get_or d.updates by [] ++ u ∷ []) [] other) ∙ k.updates.past i (omega (arith, above));
          few_in_all = let few = t.few in omega arith;
          all = let more = sum_push d.updates by u in let old = k.updates.all in omega arith;
        };
        readers = k.readers;
        queries = k.queries;
        script = record {
          few = k.script.few;
          few_starts = k.script.few_starts;
          updaters = k.script.updaters;
          fits = λ i. let old = k.script.fits i in let more = longer_push d.updates by i u in omega arith;
        };
        set = k.set;
      }

  kept_query : (reader : ℕ) (asked : List ℕ) → first_of (draft_tests d (e.DeclaredQuery reader asked)) ≡ None → Kept (with_declaration d (e.DeclaredQuery reader asked))
  kept_query reader asked none =
      let t = none_of_three fault.Undeclared fault.Twice fault.Limit (nat_le (length d.readers) reader || reaches (length d.items) asked) (has_repeat asked) ((nat_lt (length asked) 1 || nat_lt MOST_ASKED (length asked)) || nat_le MOST_QUERIES d.query_count) none in
      let four = or_none (nat_le (length d.readers) reader) (reaches (length d.items) asked) t.0 in
      let seven = or_none (nat_lt (length asked) 1 || nat_lt MOST_ASKED (length asked)) (nat_le MOST_QUERIES d.query_count) t.2 in
      let size = or_none (nat_lt (length asked) 1) (nat_lt MOST_ASKED (length asked)) seven.0 in
      let few : d.query_count < MOST_QUERIES = grind (arith, nat_tests, seven.1) in
      let right : QueryKept (length d.items) asked = record {
        query = record { filled = grind (arith, nat_tests, size.0); distinct = t.1; within = declared (length d.items) asked four.1 };
        few = grind (arith, nat_tests, size.1);
      } in
      record {
        items = k.items;
        disks = k.disks;
        replans = k.replans;
        updates = k.updates;
        readers = k.readers;
        queries = record {
          each = each_push (QueryKept (length d.items)) d.queries reader asked k.queries.each right;
          lists = length_push d.queries reader asked ∙ k.queries.lists;
          few_in_all = omega arith;
          all = let more = sum_push d.queries reader asked in let old = k.queries.all in omega arith;
        };
        script = k.script;
        set = k.set;
      }

  kept_script : (events : List (Option ℕ)) → first_of (draft_tests d (e.DeclaredScript events)) ≡ None → Kept (with_declaration d (e.DeclaredScript events))
  kept_script events none =
      let t = none_of_two fault.Limit fault.Overdrawn (script_passes d.script events) (some_below MOST_UPDATERS (λ by. nat_lt (length (get_or d.updates by [])) (scripted_commits by (d.script ++ events)))) none in
      let seven = or_none (list_any (option_any (nat_le MOST_UPDATERS)) events || nat_lt MOST_EVENTS (length d.script + length events)) (nat_lt MOST_STARTS (count_starts d.script + count_starts events)) t.0 in
      let front = or_none (list_any (option_any (nat_le MOST_UPDATERS)) events) (nat_lt MOST_EVENTS (length d.script + length events)) seven.0 in
      let few : length d.script + length events ≤ MOST_EVENTS = grind (arith, nat_tests, front.1) in
      let starts : count_starts d.script + count_starts events ≤ MOST_STARTS = grind (arith, nat_tests, seven.1) in
      let updaters : list_any (option_any (nat_le MOST_UPDATERS)) (d.script ++ events) ≡ false = list_any-append (option_any (nat_le MOST_UPDATERS)) d.script events ∙ rw (k.script.updaters, front.0) refl in
      record {
        items = k.items;
        disks = k.disks;
        replans = k.replans;
        updates = k.updates;
        readers = k.readers;
        queries = k.queries;
        script = record {
          few = omega (arith, length-append d.script events);
          few_starts = omega (arith, starts_all d.script events);
          updaters = updaters;
          fits = λ by. elim (cases_lt by MOST_UPDATERS) [
            | inl below ↦ let one = none_below MOST_UPDATERS by (λ by. nat_lt (length (get_or d.updates by [])) (scripted_commits by (d.script ++ events))) below t.1 in grind (arith, nat_tests, one)
            | inr past ↦ let no = no_parts by (d.script ++ events) updaters past in omega arith
          ];
        };
        set = k.set;
      }

  kept_set : (s : Setting) → InRange s → Kept (with_declaration d (e.DeclaredSetting s))
  kept_set s range = record {
    items = k.items;
    disks = k.disks;
    replans = k.replans;
    updates = k.updates;
    readers = k.readers;
    queries = k.queries;
    script = k.script;
    set = all_push InRange d.set s k.set range;
  }

-- One more declaration.
pub kept_more : (d : DraftValue) (x : Declaration) → Kept d → Spelt x → first_of (draft_tests d x) ≡ None → Kept (with_declaration d x)
kept_more d (e.DeclaredItem id value rate) k spelt none = kept_item d k id value rate spelt none
kept_more d (e.DeclaredDisk size freq) k spelt none = kept_disk d k size freq none
kept_more d (e.DeclaredReplan cycle sizes freqs) k spelt none = kept_replan d k cycle sizes freqs none
kept_more d (e.DeclaredUpdate by reads writes) k spelt none = kept_update d k by reads writes spelt.0 spelt.1 none
kept_more d (e.DeclaredReader room age tries) k spelt none = kept_reader d k room age tries none
kept_more d (e.DeclaredQuery reader items) k spelt none = kept_query d k reader items none
kept_more d (e.DeclaredScript events) k spelt none = kept_script d k events none
kept_more d (e.DeclaredSetting s) k spelt none = kept_set d k s spelt
