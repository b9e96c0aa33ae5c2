-- What holds of the numbers of a declaration that a record spells.
use Rattle.std.proofs.Common.{◌≡◌, ◌<◌, ◌≤◌, ◌^◌, ◌++◌, ◌∷◌, [], ℕ, List, Option, Some, None, Ok, Bool, true, false, not, refl, ap, map, nat_lt, nat_le, length, option_map, arith}
use Rattle.std.specs.Prelude.{◌||◌, ◌==◌}
use Rattle.std.specs.List.{list_all, list_any}
use Rattle.std.proofs.lemmas.Bool.{and_parts}
use Rattle.std.proofs.lemmas.Bool.Decides.{nat_tests}
use Rattle.air_base.specs.declared.limits.TheConstants.{MOST_READS, MOST_UPDATERS, MOST_UPDATES, MOST_WRITES}
use Rattle.air_base.specs.Numbers.{number_of}
use Rattle.air_base.specs.NumberLists.{all_some, list_of, parts_of}
use Rattle.air_history.specs.declared.updates.Write.{Write}
use Rattle.air_history.specs.UpdateRules.{base_holds, base_is_read, has_repeat, update_fault, written_item}
use Rattle.item_catalog.specs.Declarations.{query_by, script_by, update_by}
use Rattle.item_catalog.specs.Declarations as e
use Rattle.item_catalog.specs.Writes.{constant, spelled_value_write, spelled_write, write_by, write_from, write_on_base}
use Rattle.air_base.specs.Parts.{parts_at, two_of}
use Rattle.item_catalog.specs.Fields.{spelled_event}
use Rattle.item_catalog.specs.declared.faults.FaultKind.{FaultKind}
use Rattle.item_catalog.specs.declared.faults.FaultKind.TheVariants as fault
use Rattle.item_catalog.specs.RecordKinds.{first_of}
use Rattle.item_catalog.specs.Faults.{script_passes, update_tests}
use Rattle.item_catalog.specs.ListTests.{is_unread, option_any, reaches, write_reaches}
use Rattle.item_catalog.specs.Private.ScriptFields.{EventsRead}
use Rattle.item_catalog.specs.KeptLists.{ReadIs}
use Rattle.air_base.proofs.LeadingNumberLemmas.{spelled_fits}

-- What holds of each value that a part may spell holds of all values of a list.
pub all_spelled : {A : Type 0} (value : List ℕ → Option A) (test : A → Bool) → ((text : List ℕ) (x : A) → value text ≡ Some x → test x ≡ true)
    → (parts : List (List ℕ)) (xs : List A) → all_some (map value parts) ≡ Some xs → list_all test xs ≡ true
unfolding all_some
all_spelled value test each [] xs h = let none : xs ≡ [] = cc h in rw none refl
all_spelled {A = A} value test each (part ∷ parts) xs h = by (value part) refl h (all_some (map value parts)) refl (all_spelled value test each parts)
  where
    more : (x : A) → value part ≡ Some x → (rest : Option (List A)) → option_map (λ items. x ∷ items) rest ≡ Some xs → all_some (map value parts) ≡ rest
        → ((ys : List A) → all_some (map value parts) ≡ Some ys → list_all test ys ≡ true) → list_all test xs ≡ true
    more x e None h f ih = cc h
    more x e (Some ys) h f ih = let same : xs ≡ x ∷ ys = cc h in rw (same, each part x e, ih ys f) refl

    by : (o : Option A) → value part ≡ o → all_some (o ∷ map value parts) ≡ Some xs → (rest : Option (List A)) → all_some (map value parts) ≡ rest
        → ((ys : List A) → all_some (map value parts) ≡ Some ys → list_all test ys ≡ true) → list_all test xs ≡ true
    by None e h rest f ih = cc h
    by (Some x) e h rest f ih = more x e rest (rw f at h) f ih

-- A list that was read.
pub read_is_some : {A : Type 0} (read : Bool) (list : Option A) (Holds : A → Type 0) → ReadIs read list Holds → read ≡ true → (x : A) × (list ≡ Some x) × Holds x
read_is_some read None Holds h e = cc (h, e)
read_is_some read (Some x) Holds h e = (x, refl, h.1)

-- An update whose fields are read, and a query.
pub update_spelled : (fields : Option (List ℕ × List ℕ × List ℕ)) (b r w : List ℕ) (by : ℕ) (rs : List ℕ) (ws : List Write) → ◌≡◌ {A = Option (List ℕ × List ℕ × List ℕ)} (Some (b, r, w)) fields
    → number_of b ≡ Some by → list_of number_of r ≡ Some rs → list_of spelled_write w ≡ Some ws → update_by fields ≡ Ok (e.DeclaredUpdate by rs ws)
update_spelled fields b r w by rs ws f one two three = rw (← f, one, two, three) refl

pub query_spelled : (fields : Option (List ℕ × List ℕ)) (r a : List ℕ) (reader : ℕ) (asked : List ℕ) → ◌≡◌ {A = Option (List ℕ × List ℕ)} (Some (r, a)) fields
    → number_of r ≡ Some reader → list_of number_of a ≡ Some asked → query_by fields ≡ Ok (e.DeclaredQuery reader asked)
query_spelled fields r a reader asked f one two = rw (← f, one, two) refl

-- Each write that is spelled has a minus only with a base.
abbrev pub sign_holds : Bool → Option ℕ → Bool
sign_holds minus None = not minus
sign_holds minus (Some base) = true

on_base_signed : (minus : Bool) (item base amount : Option ℕ) (w : Write) → write_on_base minus item base amount ≡ Some w → sign_holds w.minus w.base ≡ true
on_base_signed minus None base amount w h = cc h
on_base_signed minus (Some i) None amount w h = cc h
on_base_signed minus (Some i) (Some b) None w h = cc h
on_base_signed minus (Some i) (Some b) (Some a) w h = let same : record { item = i; base = Some b; minus = minus; amount = a } ≡ w = cc h in rw (← same) refl

constant_signed : (item amount : Option ℕ) (w : Write) → constant item amount ≡ Some w → sign_holds w.minus w.base ≡ true
constant_signed None amount w h = cc h
constant_signed (Some i) None w h = cc h
constant_signed (Some i) (Some a) w h = let same : record { item = i; base = None; minus = false; amount = a } ≡ w = cc h in rw (← same) refl

pub write_signed : (text : List ℕ) (w : Write) → spelled_write text ≡ Some w → sign_holds w.minus w.base ≡ true
unfolding spelled_write spelled_value_write
write_signed text w h = by (two_of (parts_at 61 text)) h
  where
    value : (item : Option ℕ) (v : List ℕ) (a b : Option (List ℕ × List ℕ)) → write_by item a b v ≡ Some w → sign_holds w.minus w.base ≡ true
    value item v (Some f) b h = on_base_signed false item (number_of f.0) (number_of f.1) w h
    value item v None (Some f) h = on_base_signed true item (number_of f.0) (number_of f.1) w h
    value item v None None h = constant_signed item (number_of v) w h

    by : (sides : Option (List ℕ × List ℕ)) → write_from sides ≡ Some w → sign_holds w.minus w.base ≡ true
    by None h = cc h
    by (Some s) h = value (number_of s.0) s.1 (two_of (parts_at 43 s.1)) (two_of (parts_at 45 s.1)) h

-- Its amount fits 64 bits.
on_base_fits : (minus : Bool) (item base : Option ℕ) (text : List ℕ) (w : Write) → write_on_base minus item base (number_of text) ≡ Some w → w.amount < 2 ^ 64
on_base_fits minus item base text w h = by item base (number_of text) refl h
  where
    by : (item base amount : Option ℕ) → number_of text ≡ amount → write_on_base minus item base amount ≡ Some w → w.amount < 2 ^ 64
    by None base amount e h = cc h
    by (Some i) None amount e h = cc h
    by (Some i) (Some b) None e h = cc h
    by (Some i) (Some b) (Some a) e h =
        let same : record { item = i; base = Some b; minus = minus; amount = a } ≡ w = cc h in
        let amount : a ≡ w.amount = ap (λ (w : Write). w.amount) same in let fits = spelled_fits text a e in omega arith

constant_fits : (item : Option ℕ) (text : List ℕ) (w : Write) → constant item (number_of text) ≡ Some w → w.amount < 2 ^ 64
constant_fits item text w h = by item (number_of text) refl h
  where
    by : (item amount : Option ℕ) → number_of text ≡ amount → constant item amount ≡ Some w → w.amount < 2 ^ 64
    by None amount e h = cc h
    by (Some i) None e h = cc h
    by (Some i) (Some a) e h =
        let same : record { item = i; base = None; minus = false; amount = a } ≡ w = cc h in
        let amount : a ≡ w.amount = ap (λ (w : Write). w.amount) same in let fits = spelled_fits text a e in omega arith

pub write_fits : (text : List ℕ) (w : Write) → spelled_write text ≡ Some w → w.amount < 2 ^ 64
unfolding spelled_write spelled_value_write
write_fits text w h = by (two_of (parts_at 61 text)) h
  where
    value : (item : Option ℕ) (v : List ℕ) (a b : Option (List ℕ × List ℕ)) → write_by item a b v ≡ Some w → w.amount < 2 ^ 64
    value item v (Some f) b h = on_base_fits false item (number_of f.0) f.1 w h
    value item v None (Some f) h = on_base_fits true item (number_of f.0) f.1 w h
    value item v None None h = constant_fits item v w h

    by : (sides : Option (List ℕ × List ℕ)) → write_from sides ≡ Some w → w.amount < 2 ^ 64
    by None h = cc h
    by (Some s) h = value (number_of s.0) s.1 (two_of (parts_at 43 s.1)) (two_of (parts_at 45 s.1)) h

abbrev pub is_signed : Write → Bool
is_signed w = sign_holds w.minus w.base

pub writes_signed : (text : List ℕ) (ws : List Write) → list_of spelled_write text ≡ Some ws → list_all is_signed ws ≡ true
writes_signed text ws h = all_spelled spelled_write is_signed write_signed (parts_of text) ws h

-- Lists to which no kind applies keep the rules of updates.
bases_read : (rs : List ℕ) (ws : List Write) → list_all is_signed ws ≡ true → list_any (is_unread rs) ws ≡ false → list_all (base_is_read rs) ws ≡ true
bases_read rs [] signed none = refl
bases_read rs (w ∷ ws) signed none =
    let s = and_parts (is_signed w) (list_all is_signed ws) signed in
    let b = neither (is_unread rs w) (list_any (is_unread rs) ws) none in
    rw (one w.minus w.base s.0 b.0, bases_read rs ws s.1 b.1) refl
  where
    neither : (a b : Bool) → (a || b) ≡ false → (a ≡ false) × (b ≡ false)
    neither true b h = cc h
    neither false b h = (refl, h)

    one : (minus : Bool) (base : Option ℕ) → sign_holds minus base ≡ true → option_any (λ b. not (list_any (λ r. r == b) rs)) base ≡ false → base_holds rs minus base ≡ true
    one minus None s u = s
    one minus (Some b) s u = by (list_any (λ r. r == b) rs) u
      where
        by : (t : Bool) → not t ≡ false → t ≡ true
        by true h = refl
        by false h = cc h

-- Tests of which none holds.
pub none_of_one : (k : FaultKind) (p : Bool) → first_of ((k, p) ∷ []) ≡ None → p ≡ false
none_of_one k true h = cc h
none_of_one k false h = refl

pub none_of_two : (k l : FaultKind) (p q : Bool) → first_of ((k, p) ∷ (l, q) ∷ []) ≡ None → (p ≡ false) × (q ≡ false)
none_of_two k l true q h = cc h
none_of_two k l false q h = (refl, none_of_one l q h)

pub none_of_three : (k l m : FaultKind) (p q r : Bool) → first_of ((k, p) ∷ (l, q) ∷ (m, r) ∷ []) ≡ None → (p ≡ false) × (q ≡ false) × (r ≡ false)
none_of_three k l m true q r h = cc h
none_of_three k l m false q r h = let more = none_of_two l m q r h in (refl, more.0, more.1)

pub none_of_four : (k l m n : FaultKind) (p q r s : Bool) → first_of ((k, p) ∷ (l, q) ∷ (m, r) ∷ (n, s) ∷ []) ≡ None → (p ≡ false) × (q ≡ false) × (r ≡ false) × (s ≡ false)
none_of_four k l m n true q r s h = cc h
none_of_four k l m n false q r s h = let more = none_of_three l m n q r s h in (refl, more.0, more.1, more.2)

pub or_none : (a b : Bool) → (a || b) ≡ false → (a ≡ false) × (b ≡ false)
or_none true b h = cc h
or_none false b h = (refl, h)

-- What holds of an update to which no kind applies.
pub record UpdateTested (n by given : ℕ) (rs : List ℕ) (ws : List Write) : Type 0 where
  pub reads : reaches n rs ≡ false
  pub writes : list_any (write_reaches n) ws ≡ false
  pub reads_apart : has_repeat rs ≡ false
  pub writes_apart : has_repeat (map written_item ws) ≡ false
  pub updater : by < MOST_UPDATERS
  pub few_reads : length rs ≤ MOST_READS
  pub some_write : 1 ≤ length ws
  pub few_writes : length ws ≤ MOST_WRITES
  pub few : given < MOST_UPDATES
  pub bases : list_any (is_unread rs) ws ≡ false

pub update_tested : (n by given : ℕ) (rs : List ℕ) (ws : List Write) → first_of (update_tests n given by rs ws) ≡ None → UpdateTested n by given rs ws
update_tested n by given rs ws h =
    let t = none_of_four fault.Undeclared fault.Twice fault.Limit fault.Unread (reaches n rs || list_any (write_reaches n) ws) (has_repeat rs || has_repeat (map written_item ws))
    (nat_le MOST_UPDATERS by || nat_lt MOST_READS (length rs) || (nat_lt (length ws) 1 || nat_lt MOST_WRITES (length ws)) || nat_le MOST_UPDATES given) (list_any (is_unread rs) ws) h in
    let declared = or_none (reaches n rs) (list_any (write_reaches n) ws) t.0 in
    let apart = or_none (has_repeat rs) (has_repeat (map written_item ws)) t.1 in
    let all = or_none (nat_le MOST_UPDATERS by || nat_lt MOST_READS (length rs) || (nat_lt (length ws) 1 || nat_lt MOST_WRITES (length ws))) (nat_le MOST_UPDATES given) t.2 in
    let lists = or_none (nat_le MOST_UPDATERS by || nat_lt MOST_READS (length rs)) (nat_lt (length ws) 1 || nat_lt MOST_WRITES (length ws)) all.0 in
    let front = or_none (nat_le MOST_UPDATERS by) (nat_lt MOST_READS (length rs)) lists.0 in
    let back = or_none (nat_lt (length ws) 1) (nat_lt MOST_WRITES (length ws)) lists.1 in
    record {
      reads = declared.0;
      writes = declared.1;
      reads_apart = apart.0;
      writes_apart = apart.1;
      updater = grind (arith, nat_tests, front.0);
      few_reads = grind (arith, nat_tests, front.1);
      some_write = grind (arith, nat_tests, back.0);
      few_writes = grind (arith, nat_tests, back.1);
      few = grind (arith, nat_tests, all.1);
      bases = t.3;
    }

pub rules_kept : (n by given : ℕ) (rs : List ℕ) (ws : List Write) → list_all is_signed ws ≡ true → first_of (update_tests n given by rs ws) ≡ None → update_fault rs ws ≡ None
unfolding update_fault
rules_kept n by given rs ws signed none =
    let t = update_tested n by given rs ws none in
    let few : nat_le (length rs) MOST_READS ≡ true = grind (arith, nat_tests, t.few_reads) in
    let some : nat_le 1 (length ws) ≡ true = grind (arith, nat_tests, t.some_write) in
    let most : nat_le (length ws) MOST_WRITES ≡ true = grind (arith, nat_tests, t.few_writes) in
    rw (few, some, most, t.reads_apart, t.writes_apart, bases_read rs ws signed t.bases) refl

-- Events that were read.
pub events_are : (passes : Bool) (list : Option (List (Option ℕ))) (old new : List (Option ℕ)) → EventsRead (Some passes) list old new
    → (events : List (Option ℕ)) × (list ≡ Some events) × (passes ≡ script_passes old events) × (script_passes old events ≡ false → new ≡ old ++ events)
events_are passes None old new h = cc h
events_are passes (Some events) old new h = (events, refl, let first = h.0 in cc first, h.1)

pub script_spelled : (fields : Option (List ℕ)) (f : List ℕ) (events : List (Option ℕ)) → Some f ≡ fields → list_of spelled_event f ≡ Some events → script_by fields ≡ Ok (e.DeclaredScript events)
script_spelled fields f events same one = rw (← same, one) refl
