-- What lines tell: by the history each line is sound, and under F-Matrix it tells whether the reads are consistent. Each law is
-- an instance of `kept`.
use Rattle.std.proofs.Common.{◌≡◌, ℕ, zero, suc, ◌<◌, ◌≤◌, true, false, Option, Some, None, List, [], ◌∷◌, ◌++◌, length, map, take, get_or, All, refl, sym, ◌∙◌, ap, subst, arith}
use Rattle.std.specs.Prelude.{IfSome, IsTrue}
use Rattle.std.specs.List.{slice_get}
use Rattle.std.specs.Option.{is_some}
use Rattle.std.proofs.lemmas.Option.{get_or_from_slice_get, slice_get_within}
use Rattle.std.proofs.lemmas.Simd.{map-map}
use Rattle.std.proofs.lemmas.List.{map-append, take_more, length-map, take_all, length_push}
use Rattle.std.proofs.lemmas.List.Elements.{All-head, All-tail, All-cons, All-push, All-nil, All-map}
use Rattle.air_base.specs.declared.verdicts.Policy.TheVariants.{FMatrix}
use Rattle.air_base.specs.declared.verdicts.Clash.{Clash}
use Rattle.air_base.specs.declared.verdicts.VerdictKind.{VerdictKind}
use Rattle.air_base.specs.declared.verdicts.VerdictKind.TheVariants.{Accept, Abort, Aged, Unfinished}
use Rattle.air_history.specs.declared.histories.Event.{Event}
use Rattle.air_history.specs.Tables.{table, values_of}
use Rattle.air_history.specs.Reads.{ReadAt, IsRead, read_value}
use Rattle.air_history.specs.Consistency.{alone, IsConsistent}
use Rattle.air_history.specs.Clashes.{is_late, clash_by_history, clash_of}
use Rattle.air_history.specs.ClashLaws.{Accepts, IsSound}
use Rattle.air_history.specs.Columns.{Scheme, scheme_of}
use Rattle.air_history.proofs.AloneLemmas.{values}
use Rattle.air_history.proofs.PolicyLemmas.{stays_consistent}
use Rattle.air_history.proofs.AcceptedLemmas.{accepted, accepts_none, accepts_push}
use Rattle.air_model.specs.Buckets.{Bucket, Body, Idle, Column, Vector}
use Rattle.air_model.specs.Reads.{Read}
use Rattle.air_model.specs.Aired.{Air, fits}
use Rattle.air_model.specs.Judges.{Judge, place_of, by_history}
use Rattle.air_model.specs.Sessions.{Reader, SessionLine, line_of, read_in, session}
use Rattle.air_model.specs.SessionLaws.{CyclesFromOne, are_far, decided_on, IsSoundLine, QueriesFilled, reads_at}
use Rattle.air_model.proofs.HeardLemmas.{none_far}
use Rattle.air_model.proofs.MomentLemmas.{item_after, Keeps, Gives, kept}

-- ---- reads that were accepted

-- The read is from cycle 1 on.
abbrev FromOne : Read → Type 0
FromOne r = 1 ≤ r.cycle

-- Reads from cycle 1 on that the scheme accepted one after another.
abbrev AreAccepted : Scheme → ℕ → List Event → List Read → Type 0
AreAccepted s n H R = All FromOne R × Accepts s n H (map place_of R)

are_none : (s : Scheme) (n : ℕ) (H : List Event) → AreAccepted s n H []
are_none s n H = (All-nil FromOne, accepts_none s n H)

are_more : (s : Scheme) (n : ℕ) (H : List Event) (R : List Read) (x : Read) → AreAccepted s n H R → FromOne x → is_late s.policy (map place_of R) (place_of x) ≡ false →
    clash_of s n H (map place_of R) (place_of x) ≡ None → AreAccepted s n H (R ++ x ∷ [])
are_more s n H R x k pos late none = (
  All-push FromOne R x k.0 pos,
  subst (Accepts s n H) (sym (map-append place_of R (x ∷ []))) (accepts_push s n H (map place_of R) (place_of x) k.1 late none),
)

are_reads : (R : List Read) → All FromOne R → All IsRead (map place_of R)
are_reads R are = All-map IsRead place_of R are

are_sound : (s : Scheme) (n : ℕ) (H : List Event) (R : List Read) → AreAccepted s n H R → IsSound s.policy H (map place_of R)
are_sound s n H R k = accepted s n H (map place_of R) (are_reads R k.0) k.1

all_unmap : (P : ReadAt → Type 0) (R : List Read) → All P (map place_of R) → All (λ r. P (place_of r)) R
all_unmap P [] h = All-nil (λ r. P (place_of r))
all_unmap P (r ∷ R) h = All-cons (λ r. P (place_of r)) r R (All-head P (place_of r) (map place_of R) h) (all_unmap P R (All-tail P (place_of r) (map place_of R) h))

-- ---- every line is sound

line_reads : (J : Judge) (q a : ℕ) (kind : VerdictKind) (R : List Read) → reads_at (line_of J q a kind R) ≡ map place_of R
unfolding line_of
line_reads J q a kind R = map-map _ _ R

sound_line : (V : List ℕ) (p : Scheme) (n : ℕ) (H : List Event) (q a : ℕ) (kind : VerdictKind) (R : List Read) → AreAccepted p n H R → IsSoundLine V p.policy H (line_of (by_history p n V H) q a kind R)
unfolding line_of by_history
sound_line V p n H q a kind R k =
    let sound : IsSound p.policy H (map place_of R) = are_sound p n H R k in
    let same : map place_of R ≡ reads_at (line_of (by_history p n V H) q a kind R) = sym (line_reads (by_history p n V H) q a kind R) in
    record {
      reads = subst (IsSound p.policy H) same sound;
      by_ancestors = λ bases. All-map (λ r. r.value ≡ table (values_of V) (alone H (reads_at (line_of (by_history p n V H) q a kind R))) r.item)
          (λ r. record { item = r.item; cycle = r.cycle; value = read_value (values_of V) H (place_of r) }) R
          (λ i d l. sym (subst (λ S. table (values_of V) (alone H S) (get_or R i d).item ≡ read_value (values_of V) H (place_of (get_or R i d))) same
          (all_unmap (λ r. table (values_of V) (alone H (map place_of R)) r.item ≡ read_value (values_of V) H r) R (values (values_of V) H (map place_of R) bases sound.consistent) i d l)));
    }

read_from_one : (air : Air) (o : Option Bucket) → IfSome o (λ b. IsTrue (fits air b) → 1 ≤ b.cycle) → Gives air FromOne o
read_from_one air None h = tt
read_from_one air (Some b) h = λ t. by b.body (h t)
  where
    by : (y : Body) → 1 ≤ b.cycle → IfSome (read_in b.cycle y) FromOne
    by (Idle n) h = tt
    by (Column i v es) h = h
    by (Vector i v es) h = h

pub sound : (values : List ℕ) (air : Air) (H : List Event) (reader : Reader) (heard : List (Option Bucket)) → QueriesFilled reader → CyclesFromOne air heard →
    All (IsSoundLine values air.scheme.policy H) (session (by_history air.scheme air.items values H) air reader heard).lines
unfolding by_history
sound V air H reader heard filled cycles = kept (by_history air.scheme air.items V H) air reader FromOne (λ q a R. AreAccepted air.scheme air.items H R) (IsSoundLine V air.scheme.policy H) filled rules heard
    (λ k d l. read_from_one air (get_or heard k d) (cycles k d l))
  where
    rules : Keeps (by_history air.scheme air.items V H) air reader FromOne (λ q a R. AreAccepted air.scheme air.items H R) (IsSoundLine V air.scheme.policy H)
    rules = record {
      first = λ q. are_none air.scheme air.items H;
      again = λ q a R k l. are_none air.scheme air.items H;
      more = λ q a R x k pos judged near none. are_more air.scheme air.items H R x k pos judged.in_time none;
      accepted = λ q a R k l e. sound_line V air.scheme air.items H q a Accept R k;
      aborted = λ q a R x c k pos judged near e. sound_line V air.scheme air.items H q a (Abort x.item x.cycle c.item) R k;
      aged = λ q a R x k pos judged far. sound_line V air.scheme air.items H q a (Aged x.item x.cycle) R k;
      unfinished = λ q a R k e. sound_line V air.scheme air.items H q a Unfinished R k;
    }

-- ---- the reads follow the query

-- The reads are of the query's items, in order.
abbrev pub InQuery : Reader → ℕ → List Read → Type 0
InQuery reader q R = map (λ r. r.item) R ≡ take (length R) (get_or reader.queries q [])

pub in_query_more : (reader : Reader) (q : ℕ) (R : List Read) (x : Read) → InQuery reader q R → item_after reader q R ≡ Some x.item → InQuery reader q (R ++ x ∷ [])
in_query_more reader q R x k e =
    let query = get_or reader.queries q [] in
    map-append (λ r. r.item) R (x ∷ []) ∙ ap (λ S. S ++ x.item ∷ []) k
    ∙ ap (λ i. take (length R) query ++ i ∷ []) (sym (get_or_from_slice_get query (length R) x.item 0 e))
    ∙ sym (take_more query (length R) 0 (slice_get_within query (length R) x.item e))
    ∙ ap (λ n. take n query) (sym (length_push R x))

pub whole_query : (query : List ℕ) (n : ℕ) → slice_get query n ≡ None → length query ≤ n
whole_query [] n e = omega arith
whole_query (i ∷ query) zero e = cc
whole_query (i ∷ query) (suc n) e = let rest = whole_query query n e in omega arith

pub part_of_query : (query : List ℕ) (n : ℕ) → is_some (slice_get query n) ≡ true → n < length query
part_of_query [] n e = cc
part_of_query (i ∷ query) zero e = omega arith
part_of_query (i ∷ query) (suc n) e = let rest = part_of_query query n e in omega arith

-- ---- F-Matrix: what a verdict tells

-- Without groups F-Matrix's clash is by the pairs.
exact_clash : (s : Scheme) (n : ℕ) (H : List Event) (R : List ReadAt) (x : ReadAt) → s.policy ≡ FMatrix → s.group ≡ 0 → (c : Clash) → clash_of s n H R x ≡ Some c → clash_by_history FMatrix H R x ≡ Some c
exact_clash s n H R x f g c e =
    let same : ◌≡◌ {A = Scheme} (record { policy = s.policy; group = s.group }) (scheme_of FMatrix) = cc in
    subst (λ (t : Scheme). clash_of t n H R x ≡ Some c) same e

-- A read that clashes makes consistent reads inconsistent.
refuses : (H : List Event) (R : List Read) (x : Read) (c : Clash) → All FromOne R → FromOne x → IsConsistent H (map place_of R) →
    clash_by_history FMatrix H (map place_of R) (place_of x) ≡ Some c → IsConsistent H (map place_of R ++ place_of x ∷ []) → ⊥
refuses H R x c are pos k e both =
    let none : clash_by_history FMatrix H (map place_of R) (place_of x) ≡ None = (stays_consistent H (map place_of R) (place_of x) (are_reads R are) pos k).1 both in
    let f : ◌≡◌ {A = Option Clash} None (Some c) = sym none ∙ e in
    cc

-- Accepted reads are all of the query's, and consistent. An aborted attempt's reads are consistent, but not together with the
-- refused read. An unfinished attempt's reads are consistent, and some are missing.
unfoldable pub Tells : List Event → List ℕ → VerdictKind → List ReadAt → Type 0
Tells H query Accept R = (map (λ r. r.item) R ≡ query) × IsConsistent H R
Tells H query (Abort item cycle clash) R = IsConsistent H R × (IsConsistent H (R ++ record { item = item; cycle = cycle } ∷ []) → ⊥)
Tells H query (Aged item cycle) R = Unit {0}
Tells H query Unfinished R = IsConsistent H R × (length R < length query)

-- The reads on which an aged verdict was decided are too far apart; those of other verdicts aren't.
abbrev pub TellsSpan : ℕ → VerdictKind → List ReadAt → Type 0
TellsSpan version (Aged item cycle) R = are_far version R ≡ true
TellsSpan version other R = are_far version R ≡ false

pub verdict : (values : List ℕ) (air : Air) (H : List Event) (reader : Reader) (heard : List (Option Bucket)) → air.scheme.policy ≡ FMatrix → air.scheme.group ≡ 0 → QueriesFilled reader → CyclesFromOne air heard →
    All (λ l. Tells H (get_or reader.queries l.verdict.query []) l.verdict.kind (reads_at l) × TellsSpan air.version l.verdict.kind (decided_on l.verdict.kind (reads_at l)))
    (session (by_history air.scheme air.items values H) air reader heard).lines
unfolding by_history Tells line_of
verdict V air H reader heard f g filled cycles = kept (by_history air.scheme air.items V H) air reader FromOne K L filled rules heard
    (λ k d l. read_from_one air (get_or heard k d) (cycles k d l))
  where
    query : ℕ → List ℕ
    query q = get_or reader.queries q []

    K : ℕ → ℕ → List Read → Type 0
    K q a R = AreAccepted air.scheme air.items H R × InQuery reader q R × (are_far air.version (map place_of R) ≡ false)

    L : SessionLine → Type 0
    L l = Tells H (get_or reader.queries l.verdict.query []) l.verdict.kind (reads_at l) × TellsSpan air.version l.verdict.kind (decided_on l.verdict.kind (reads_at l))

    same : (q a : ℕ) (kind : VerdictKind) (R : List Read) → map place_of R ≡ reads_at (line_of (by_history air.scheme air.items V H) q a kind R)
    same q a kind R = sym (line_reads (by_history air.scheme air.items V H) q a kind R)

    rules : Keeps (by_history air.scheme air.items V H) air reader FromOne K L
    rules = record {
      first = λ q. (are_none air.scheme air.items H, refl, none_far air.version);
      again = λ q a R k l. (are_none air.scheme air.items H, refl, none_far air.version);
      more = λ q a R x k pos judged near none. (
        are_more air.scheme air.items H R x k.0 pos judged.in_time none,
        in_query_more reader q R x k.1 judged.wanted,
        subst (λ S. are_far air.version S ≡ false) (sym (map-append place_of R (x ∷ []))) near,
      );
      accepted = λ q a R k l e. subst (λ S. ((map (λ r. r.item) S ≡ query q) × IsConsistent H S) × (are_far air.version S ≡ false)) (same q a Accept R)
          ((map-map (λ r. r.item) place_of R ∙ k.1 ∙ take_all (length R) (query q) (whole_query (query q) (length R) e), (are_sound air.scheme air.items H R k.0).consistent), k.2);
      aborted = λ q a R x c k pos judged near e.
          subst (λ S. (IsConsistent H S × (IsConsistent H (S ++ place_of x ∷ []) → ⊥)) × (are_far air.version (S ++ place_of x ∷ []) ≡ false)) (same q a (Abort x.item x.cycle c.item) R) (
            (
              (are_sound air.scheme air.items H R k.0).consistent,
              refuses H R x c k.0.0 pos (are_sound air.scheme air.items H R k.0).consistent (exact_clash air.scheme air.items H (map place_of R) (place_of x) f g c e),
            ),
            near,
          );
      aged = λ q a R x k pos judged far. (tt, subst (λ S. are_far air.version (S ++ place_of x ∷ []) ≡ true) (same q a (Aged x.item x.cycle) R) far);
      unfinished = λ q a R k e. subst (λ S. (IsConsistent H S × (length S < length (query q))) × (are_far air.version S ≡ false)) (same q a Unfinished R)
          (((are_sound air.scheme air.items H R k.0).consistent, subst (λ n. n < length (query q)) (sym (length-map R place_of)) (part_of_query (query q) (length R) e)), k.2);
    }
