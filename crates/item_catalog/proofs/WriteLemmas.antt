-- Lists of writes that were seen whole, and what the tests of an update and of a query give from what was seen.
use Rattle.std.proofs.Common.{◌≡◌, ◌++◌, ◌∷◌, [], ℕ, List, None, Bool, true, false, refl, sym, ap, ◌∙◌, fold, append_assoc, cond, nat_le, map}
use Rattle.std.specs.Prelude.{◌||◌}
use Rattle.std.specs.List.{list_any}
use Rattle.std.proofs.lemmas.List.{append-nil, map-append}
use Rattle.std.proofs.lemmas.List.Folds.{list_any-append}
use Rattle.air_history.specs.declared.updates.Write.{Write}
use Rattle.air_history.specs.UpdateRules.{has_repeat, written_item}
use Rattle.item_catalog.specs.RecordKinds.{first_of}
use Rattle.item_catalog.specs.Faults.{query_tests, update_tests}
use Rattle.item_catalog.specs.ListTests.{is_unread, reaches, write_reaches}
use Rattle.item_catalog.specs.KeptLists.{ItemsSeen, WritesSeen, among, items_seen, no_writes, see_write, writes_seen}
use Rattle.item_catalog.specs.Private.ListKinds.{seen_query_kind, seen_update_kind}
use Rattle.item_catalog.proofs.RepeatLemmas.{or_false, repeat_push}
use Rattle.item_catalog.proofs.SeenLemmas.{AllSeen, all_seen, left_false, or_true}

abbrev wide : ℕ → List Write → Bool
wide n writes = list_any (write_reaches n) writes

abbrev twice : List Write → Bool
twice writes = has_repeat (map written_item writes)

-- What is known of a list of writes that was seen whole.
pub record AllWritesSeen (n : ℕ) (reads : List ℕ) (writes : List Write) (seen : WritesSeen) : Type 0 where
  pub undeclared : seen.undeclared ≡ list_any (write_reaches n) writes
  pub repeated : list_any (write_reaches n) writes ≡ false → seen.repeated ≡ has_repeat (map written_item writes)
  pub kept : list_any (write_reaches n) writes ≡ false → has_repeat (map written_item writes) ≡ false → seen.writes ≡ writes
  pub unread : list_any (write_reaches n) writes ≡ false → has_repeat (map written_item writes) ≡ false → seen.unread ≡ list_any (is_unread reads) writes

any_push : {A : Type 0} (p : A → Bool) (xs : List A) (x : A) → list_any p (xs ++ x ∷ []) ≡ (list_any p xs || p x)
any_push p xs x = list_any-append p xs (x ∷ []) ∙ ap (λ b. list_any p xs || b) (or_false (p x))

twice_push : (writes : List Write) (w : Write) → twice (writes ++ w ∷ []) ≡ (twice writes || among (map written_item writes) w.item)
twice_push writes w = ap has_repeat (map-append written_item writes (w ∷ [])) ∙ repeat_push (map written_item writes) w.item

module _ (n : ℕ) (reads : List ℕ) (writes : List Write) (seen : WritesSeen) (w : Write) (known : AllWritesSeen n reads writes seen) where
  past : write_reaches n w ≡ true → AllWritesSeen n reads (writes ++ w ∷ []) (record seen { undeclared = true })
  past e =
      let all : wide n (writes ++ w ∷ []) ≡ true = any_push (write_reaches n) writes w ∙ rw e (or_true (wide n writes)) in
      record { undeclared = sym all; repeated = λ none. cc (all, none); kept = λ none. λ once. cc (all, none); unread = λ none. λ once. cc (all, none) }

  module _ (below : write_reaches n w ≡ false) where
    still : wide n (writes ++ w ∷ []) ≡ wide n writes
    still = any_push (write_reaches n) writes w ∙ rw below (or_false (wide n writes))

    own : (b : Bool) → twice writes ≡ b → wide n writes ≡ false → b ≡ false → among (map written_item writes) w.item ≡ among (map written_item seen.writes) w.item
    own b e none once = ap (λ l. among (map written_item l) w.item) (sym (known.kept none (e ∙ once)))

    again : among (map written_item seen.writes) w.item ≡ true → AllWritesSeen n reads (writes ++ w ∷ []) (record seen { repeated = true })
    again there = record {
      undeclared = known.undeclared ∙ sym still;
      repeated = λ none. sym (both (sym still ∙ none));
      kept = λ none. λ once. cc (both (sym still ∙ none), once);
      unread = λ none. λ once. cc (both (sym still ∙ none), once);
    }
      where
        by : (b : Bool) → twice writes ≡ b → wide n writes ≡ false → (b || among (map written_item writes) w.item) ≡ true
        by true e none = refl
        by false e none = own false e none refl ∙ there

        both : wide n writes ≡ false → twice (writes ++ w ∷ []) ≡ true
        both none = twice_push writes w ∙ by (twice writes) refl none

    new : among (map written_item seen.writes) w.item ≡ false → AllWritesSeen n reads (writes ++ w ∷ []) (record seen { writes = seen.writes ++ w ∷ []; unread = seen.unread || is_unread reads w })
    new absent = record {
      undeclared = known.undeclared ∙ sym still;
      repeated = λ none. known.repeated (sym still ∙ none) ∙ sym (twice_push writes w ∙ by (twice writes) refl (sym still ∙ none));
      kept = λ none. λ once. ap (λ l. l ++ w ∷ []) (known.kept (sym still ∙ none) (before once));
      unread = λ none. λ once. ap (λ b. b || is_unread reads w) (known.unread (sym still ∙ none) (before once)) ∙ sym (any_push (is_unread reads) writes w);
    }
      where
        by : (b : Bool) → twice writes ≡ b → wide n writes ≡ false → (b || among (map written_item writes) w.item) ≡ b
        by true e none = refl
        by false e none = own false e none refl ∙ absent

        before : twice (writes ++ w ∷ []) ≡ false → twice writes ≡ false
        before once = left_false (twice writes) (among (map written_item writes) w.item) (sym (twice_push writes w) ∙ once)

  see_more : AllWritesSeen n reads (writes ++ w ∷ []) (see_write n reads seen w)
  see_more = by (write_reaches n w) (among (map written_item seen.writes) w.item) refl refl
    where
      by : (a b : Bool) → write_reaches n w ≡ a → among (map written_item seen.writes) w.item ≡ b
          → AllWritesSeen n reads (writes ++ w ∷ []) (cond a (record seen { undeclared = true }) (cond b (record seen { repeated = true }) (record seen { writes = seen.writes ++ w ∷ []; unread = seen.unread || is_unread reads w })))
      by true b e f = past e
      by false true e f = again e f
      by false false e f = new e f

all_from : (n : ℕ) (reads : List ℕ) (done writes : List Write) (seen : WritesSeen) → AllWritesSeen n reads done seen → AllWritesSeen n reads (done ++ writes) (fold (see_write n reads) seen writes)
all_from n reads done [] seen known = rw (append-nil done) known
all_from n reads done (w ∷ writes) seen known = rw (← append_assoc done (w ∷ []) writes) (all_from n reads (done ++ w ∷ []) writes (see_write n reads seen w) (see_more n reads done seen w known))

pub all_writes_seen : (n : ℕ) (reads : List ℕ) (writes : List Write) → AllWritesSeen n reads writes (writes_seen n reads writes)
unfolding writes_seen has_repeat
all_writes_seen n reads writes = all_from n reads [] writes no_writes (record { undeclared = refl; repeated = λ none. refl; kept = λ none. λ once. refl; unread = λ none. λ once. refl })

-- The kind of an update, from what was seen of its lists.
module _ (n : ℕ) (rs : List ℕ) (ws : List Write) (reads : ItemsSeen) (writes : WritesSeen) (known : AllSeen n rs reads) (written : AllWritesSeen n reads.items ws writes) where
  kind_at : (by given : ℕ) (a b c d : Bool) → reaches n rs ≡ a → wide n ws ≡ b → has_repeat rs ≡ c → twice ws ≡ d → seen_update_kind reads writes by given ≡ first_of (update_tests n given by rs ws)
  kind_at by given true b c d e f g h = rw (known.undeclared, e) refl
  kind_at by given false true c d e f g h = rw (known.undeclared, e, written.undeclared, f) refl
  kind_at by given false false true d e f g h = rw (known.undeclared, e, written.undeclared, f, known.repeated e, g) refl
  kind_at by given false false false true e f g h = rw (known.undeclared, e, written.undeclared, f, known.repeated e, g, written.repeated f, h) refl
  kind_at by given false false false false e f g h =
      rw (known.undeclared, e, written.undeclared, f, known.repeated e, g, written.repeated f, h, written.unread f h, written.kept f h, known.kept e g) refl

  pub kind_seen : (by given : ℕ) → seen_update_kind reads writes by given ≡ first_of (update_tests n given by rs ws)
  kind_seen by given = kind_at by given (reaches n rs) (wide n ws) (has_repeat rs) (twice ws) refl refl refl refl

  -- If no kind applies, what was kept is the lists.
  kept_at : (by given : ℕ) (a b c d : Bool) → reaches n rs ≡ a → wide n ws ≡ b → has_repeat rs ≡ c → twice ws ≡ d → first_of (update_tests n given by rs ws) ≡ None → (reads.items ≡ rs) × (writes.writes ≡ ws)
  kept_at by given true b c d e f g h none = cc (rw e at none)
  kept_at by given false true c d e f g h none = cc (rw (e, f) at none)
  kept_at by given false false true d e f g h none = cc (rw (e, f, g) at none)
  kept_at by given false false false true e f g h none = cc (rw (e, f, g, h) at none)
  kept_at by given false false false false e f g h none = (known.kept e g, written.kept f h)

  pub lists_kept : (by given : ℕ) → first_of (update_tests n given by rs ws) ≡ None → (reads.items ≡ rs) × (writes.writes ≡ ws)
  lists_kept by given none = kept_at by given (reaches n rs) (wide n ws) (has_repeat rs) (twice ws) refl refl refl refl none

pub update_seen : (n : ℕ) (rs : List ℕ) (ws : List Write) (by given : ℕ) → seen_update_kind (items_seen n rs) (writes_seen n (items_seen n rs).items ws) by given ≡ first_of (update_tests n given by rs ws)
update_seen n rs ws by given = kind_seen n rs ws (items_seen n rs) (writes_seen n (items_seen n rs).items ws) (all_seen n rs) (all_writes_seen n (items_seen n rs).items ws) by given

pub update_kept : (n : ℕ) (rs : List ℕ) (ws : List Write) (by given : ℕ) → first_of (update_tests n given by rs ws) ≡ None
    → ((items_seen n rs).items ≡ rs) × ((writes_seen n (items_seen n rs).items ws).writes ≡ ws)
update_kept n rs ws by given none = lists_kept n rs ws (items_seen n rs) (writes_seen n (items_seen n rs).items ws) (all_seen n rs) (all_writes_seen n (items_seen n rs).items ws) by given none

-- The same for a query.
module _ (n : ℕ) (asked : List ℕ) (seen : ItemsSeen) (known : AllSeen n asked seen) (readers reader given : ℕ) where
  query_at : (a b c : Bool) → nat_le readers reader ≡ a → reaches n asked ≡ b → has_repeat asked ≡ c → seen_query_kind seen readers reader given ≡ first_of (query_tests n readers given reader asked)
  query_at true b c e f g = rw e refl
  query_at false true c e f g = rw (e, known.undeclared, f) refl
  query_at false false true e f g = rw (e, known.undeclared, f, known.repeated f, g) refl
  query_at false false false e f g = rw (e, known.undeclared, f, known.repeated f, g, known.kept f g) refl

  query_kept_at : (a b c : Bool) → nat_le readers reader ≡ a → reaches n asked ≡ b → has_repeat asked ≡ c → first_of (query_tests n readers given reader asked) ≡ None → seen.items ≡ asked
  query_kept_at true b c e f g none = cc (rw e at none)
  query_kept_at false true c e f g none = cc (rw (e, f) at none)
  query_kept_at false false true e f g none = cc (rw (e, f, g) at none)
  query_kept_at false false false e f g none = known.kept f g

pub query_seen : (n : ℕ) (asked : List ℕ) (readers reader given : ℕ) → seen_query_kind (items_seen n asked) readers reader given ≡ first_of (query_tests n readers given reader asked)
query_seen n asked readers reader given = query_at n asked (items_seen n asked) (all_seen n asked) readers reader given (nat_le readers reader) (reaches n asked) (has_repeat asked) refl refl refl

pub query_kept : (n : ℕ) (asked : List ℕ) (readers reader given : ℕ) → first_of (query_tests n readers given reader asked) ≡ None → (items_seen n asked).items ≡ asked
query_kept n asked readers reader given none = query_kept_at n asked (items_seen n asked) (all_seen n asked) readers reader given (nat_le readers reader) (reaches n asked) (has_repeat asked) refl refl refl none
