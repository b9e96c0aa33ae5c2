-- For any judge that names held reads, each line is the reader's: its query, its attempt and its reads. The law is an instance
-- of `kept`.
use Rattle.std.proofs.Common.{◌≡◌, ℕ, ◌<◌, ◌≤◌, true, Option, Some, None, List, [], length, map, take, get_or, All, refl, sym, ◌∙◌, ap, subst, inl, inr, arith, ◌==◌}
use Rattle.std.specs.Prelude.{Contains, IfSome}
use Rattle.std.specs.List.{slice_get}
use Rattle.std.proofs.lemmas.Bool.{cases_lt, and_from, eq-eqb, lt-ltb}
use Rattle.std.proofs.lemmas.Option.{slice_get_within}
use Rattle.std.proofs.lemmas.Simd.{map-map}
use Rattle.std.proofs.lemmas.List.{length-map, take_all, get_or_past, get_or_default}
use Rattle.air_base.specs.declared.verdicts.VerdictKind.{VerdictKind}
use Rattle.air_base.specs.declared.verdicts.VerdictKind.TheVariants.{Accept, Abort, Aged, Unfinished}
use Rattle.air_model.specs.Buckets.{Bucket}
use Rattle.air_model.specs.Reads.{Read}
use Rattle.air_model.specs.Aired.{Air}
use Rattle.air_model.specs.Judges.{Judge}
use Rattle.air_model.specs.Sessions.{Reader, line_of, read_in, session, is_wanted}
use Rattle.air_model.specs.SessionLaws.{follows_query, IsOfReader, NamesHeld, QueriesFilled}
use Rattle.air_model.proofs.MomentLemmas.{item_after, Keeps, Gives, kept}
use Rattle.std.specs.Cmp.Lexicographic.{bytes_decides}
use Rattle.std.proofs.lemmas.List.Folds.{list_any_at}
use Rattle.air_model.proofs.SoundLemmas.{InQuery, in_query_more, part_of_query, whole_query}

-- If an item is wanted, the query is one of the reader's.
query_within : (reader : Reader) (q n : ℕ) → n < length (get_or reader.queries q []) → q < length reader.queries
query_within reader q n l = elim (cases_lt q (length reader.queries)) as (λ _. q < length reader.queries) [
  | inl lt ↦ lt
  | inr ge ↦ absurd (let e = ap length (get_or_past reader.queries q [] ge) in omega arith)
]

-- If the items are all of a query, they follow it.
follows_all : (query items : List ℕ) → items ≡ query → follows_query query Accept items ≡ true
unfolding follows_query
follows_all query items e = (bytes_decides items query).1 e

-- Its first items up to a refused one follow it, if the clash is among them.
follows_to : (query : List ℕ) (item cycle clash : ℕ) (items : List ℕ) → items ≡ take (length items) query → slice_get query (length items) ≡ Some item → Contains items clash →
    follows_query query (Abort item cycle clash) items ≡ true
unfolding follows_query
follows_to query item cycle clash items first next among =
    and_from _ _ ((bytes_decides items (take (length items) query)).1 first)
    (and_from _ _ (ap (λ o. is_wanted o item) next ∙ eq-eqb item item refl)
    (list_any_at (λ i. i == clash) items among.0 0 among.1 (eq-eqb _ _ (get_or_default items among.0 0 clash among.1 ∙ among.2))))

-- Its first items up to one that is too far from them follow it.
follows_far : (query : List ℕ) (item cycle : ℕ) (items : List ℕ) → items ≡ take (length items) query → slice_get query (length items) ≡ Some item →
    follows_query query (Aged item cycle) items ≡ true
unfolding follows_query
follows_far query item cycle items first next =
    and_from _ _ ((bytes_decides items (take (length items) query)).1 first) (ap (λ o. is_wanted o item) next ∙ eq-eqb item item refl)

-- Its first items follow it if some are missing.
follows_in_part : (query items : List ℕ) → items ≡ take (length items) query → length items < length query → follows_query query Unfinished items ≡ true
unfolding follows_query
follows_in_part query items first less = and_from _ _ ((bytes_decides items (take (length items) query)).1 first) (lt-ltb (length items) (length query) less)

pub of_reader : (judge : Judge) (air : Air) (reader : Reader) (heard : List (Option Bucket)) → NamesHeld judge → QueriesFilled reader → 1 ≤ reader.plan.tries →
    All (IsOfReader reader) (session judge air reader heard).lines
unfolding line_of
of_reader judge air reader heard names filled tries = kept judge air reader Any K (IsOfReader reader) filled rules heard (λ k d l. gives (get_or heard k d))
  where
    Any : Read → Type 0
    Any r = Unit {0}

    -- the attempt is one of the reader's, and reads were made of one of its queries, in order
    K : ℕ → ℕ → List Read → Type 0
    K q a R = ((1 ≤ a) × (a ≤ reader.plan.tries)) × InQuery reader q R × (0 < length R → q < length reader.queries)

    gives : (o : Option Bucket) → Gives air Any o
    gives None = tt
    gives (Some b) = λ t. by (read_in b.cycle b.body)
      where
        by : (o : Option Read) → IfSome o Any
        by None = tt
        by (Some x) = tt

    items : (q a : ℕ) (kind : VerdictKind) (R : List Read) → map (λ r. r.item) R ≡ map (λ r. r.item) ((line_of judge q a kind R).reads)
    items q a kind R = sym (map-map _ _ R)

    within : (q : ℕ) (R : List Read) (x : Read) → item_after reader q R ≡ Some x.item → q < length reader.queries
    within q R x e = query_within reader q (length R) (slice_get_within (get_or reader.queries q []) (length R) x.item e)

    taken : (q : ℕ) (R : List Read) → InQuery reader q R → map (λ r. r.item) R ≡ take (length (map (λ r. r.item) R)) (get_or reader.queries q [])
    taken q R k = k ∙ ap (λ n. take n (get_or reader.queries q [])) (sym (length-map R (λ r. r.item)))

    rules : Keeps judge air reader Any K (IsOfReader reader)
    rules = record {
      first = λ q. ((omega arith, tries), refl, λ l. absurd (omega arith));
      again = λ q a R k l. ((omega arith, omega arith), refl, λ l. absurd (omega arith));
      more = λ q a R x k any judged near none. (k.0, in_query_more reader q R x k.1 judged.wanted, λ l. within q R x judged.wanted);
      accepted = λ q a R k some e. record {
        query = k.2 some;
        begun = k.0.0;
        tried = k.0.1;
        follows = follows_all (get_or reader.queries q []) _ (subst (λ S. S ≡ get_or reader.queries q []) (items q a Accept R) (k.1 ∙ take_all (length R) (get_or reader.queries q []) (whole_query (get_or reader.queries q []) (length R) e)));
      };
      aborted = λ q a R x c k any judged near e. record {
        query = within q R x judged.wanted;
        begun = k.0.0;
        tried = k.0.1;
        follows = subst (λ S. follows_query (get_or reader.queries q []) (Abort x.item x.cycle c.item) S ≡ true) (items q a (Abort x.item x.cycle c.item) R)
            (follows_to (get_or reader.queries q []) x.item x.cycle c.item (map (λ r. r.item) R) (taken q R k.1)
            (ap (slice_get (get_or reader.queries q [])) (length-map R (λ r. r.item)) ∙ judged.wanted) (names R x c e));
      };
      aged = λ q a R x k any judged far. record {
        query = within q R x judged.wanted;
        begun = k.0.0;
        tried = k.0.1;
        follows = subst (λ S. follows_query (get_or reader.queries q []) (Aged x.item x.cycle) S ≡ true) (items q a (Aged x.item x.cycle) R)
            (follows_far (get_or reader.queries q []) x.item x.cycle (map (λ r. r.item) R) (taken q R k.1)
            (ap (slice_get (get_or reader.queries q [])) (length-map R (λ r. r.item)) ∙ judged.wanted));
      };
      unfinished = λ q a R k e.
          let part : length R < length (get_or reader.queries q []) = part_of_query (get_or reader.queries q []) (length R) e in
          record {
            query = query_within reader q (length R) part;
            begun = k.0.0;
            tried = k.0.1;
            follows = subst (λ S. follows_query (get_or reader.queries q []) Unfinished S ≡ true) (items q a Unfinished R)
                (follows_in_part (get_or reader.queries q []) (map (λ r. r.item) R) (taken q R k.1)
                (subst (λ n. n < length (get_or reader.queries q [])) (sym (length-map R (λ r. r.item))) part));
          };
    }
