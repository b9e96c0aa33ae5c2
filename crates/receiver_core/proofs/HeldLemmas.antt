-- What a receiver holds of a history that aired what it heard: each call keeps it. An instance of the induction over the
-- rules of a session, by the judge of the entries.
use Rattle.std.proofs.Common.{◌≡◌, ℕ, zero, suc, ◌<◌, ◌≤◌, Option, Some, None, List, [], ◌∷◌, ◌++◌, false, length, map, get_or, All, sym, ◌∙◌, ap, subst, arith}
use Rattle.std.specs.Prelude.{IfSome, sum_by}
use Rattle.std.proofs.lemmas.Bool.{leb-false, lt-leb}
use Rattle.std.proofs.lemmas.List.{map-append}
use Rattle.std.proofs.lemmas.List.Elements.{All-map, All-nil, All-push}
use Rattle.std.proofs.lemmas.Simd.{map-map}
use Rattle.air_base.specs.declared.verdicts.Policy.{Policy}
use Rattle.air_base.specs.declared.verdicts.Policy.TheVariants.{FMatrix, Datacycle, RMatrix}
use Rattle.air_history.specs.declared.histories.Event.{Event}
use Rattle.air_history.specs.Clashes.{clash_of, read_at}
use Rattle.air_history.specs.ClashLaws.{Accepts, IsAllowed, IsSound}
use Rattle.air_history.specs.Columns.{aired_entries}
use Rattle.air_history.specs.Reads.{IsRead, read_value}
use Rattle.air_history.specs.Tables.{values_of}
use Rattle.air_history.proofs.AcceptedLemmas.{accepted, accepts_none, accepts_push}
use Rattle.air_history.proofs.ClashLemmas.{clash_told}
use Rattle.air_model.specs.Aired.{Air, SlotsFit, aired_as, body_of, bucket_of, edition_at, slots_at}
use Rattle.air_model.specs.Buckets.{Bucket, capped_body, has_ages}
use Rattle.air_model.specs.Judges.{by_entries, heard_of, place_of}
use Rattle.air_model.specs.Reads.{Read}
use Rattle.air_model.specs.SessionLaws.{QueriesFilled, are_far}
use Rattle.air_model.specs.Sessions.{Reader, State, end_query, hear, read_in, start, turn}
use Rattle.air_model.proofs.AiredLemmas.{fit_parts}
use Rattle.air_model.proofs.CapLemmas.{at_or_none}
use Rattle.air_model.proofs.HeardLemmas.{MayBeHeard, has_capped, has_full, have_aired, told_by}
use Rattle.air_model.proofs.MomentLemmas.{Gives, Good, Keeps, cond_keeps, end_query_good, hear_good, lies_far, start_good, turn_good}
use Rattle.held_reads.proofs.PolicyLemmas.{allowed_more, allowed_none}
use Rattle.receiver_core.specs.HeldTruths.{HoldsTruly, IsReadIn, WasAired}
use Rattle.receiver_core.specs.ReceiverSteps.{step, turn_to_line}

-- ---- what an aired bucket gives

-- No newer version than one without ages has ages.
older_full : (v w : ℕ) → v ≤ w → has_ages w ≡ false → has_ages v ≡ false
older_full v w l full = let less = leb-false 2 w full in lt-leb 2 v (omega arith)

body_gives : (V : List ℕ) (air : Air) (H : List Event) (v c : ℕ) → v ≤ air.version → 1 ≤ c → (o : Option ℕ) → IfSome o (λ i. i < air.items) →
    IfSome (read_in c (capped_body v c (body_of V air H c o))) (IsReadIn air H)
unfolding body_of capped_body
body_gives V air H v c old pos None h = tt
body_gives V air H v c old pos (Some i) h = by air.scheme.policy
  where
    heard : MayBeHeard air.scheme air.version air.items H (told_by air.scheme air.items H v c i)
    heard = (has_capped air.scheme air.items H v c i pos h, λ full. has_full air.scheme air.items H v c i pos h (older_full v air.version old full))

    by : (p : Policy) → IfSome (read_in c (capped_body v c (aired_as p i (read_value (values_of V) H (record { item = i; cycle = c })) (aired_entries air.scheme air.items H c i)))) (IsReadIn air H)
    by FMatrix = heard
    by Datacycle = heard
    by RMatrix = heard

aired_gives : (V : List ℕ) (air : Air) (H : List Event) → SlotsFit air → (o : Option Bucket) → WasAired V air H o → Gives air (IsReadIn air H) o
unfolding bucket_of
aired_gives V air H slots None h = tt
aired_gives V air H slots (Some b) h = λ t.
    let is = h t in
    let f = fit_parts air b t in
    let items : All (λ o. IfSome o (λ i. i < air.items)) (slots_at air b.cycle) = at_or_none (All (λ o. IfSome o (λ i. i < air.items))) air.slots (edition_at air b.cycle) slots (All-nil _) in
    subst (λ y. IfSome (read_in b.cycle y) (IsReadIn air H)) (sym (ap (λ (b : Bucket). b.body) is.same))
    (body_gives V air H b.version b.cycle f.version is.from_one (get_or (slots_at air b.cycle) b.slot None) (items b.slot None f.within))

-- ---- at every moment

module _ (air : Air) (H : List Event) (reader : Reader) (filled : QueriesFilled reader) where
  -- what the held reads keep
  abbrev K : ℕ → ℕ → List Read → Type 0
  K q a R = All (IsReadIn air H) R × IsAllowed air.scheme.policy (map place_of R) × Accepts air.scheme air.items H (map place_of R)

  abbrev ok : State → Type 0
  ok = Good reader (IsReadIn air H) K (λ l. Unit {0})

  -- a read that the entries let pass is one that the history lets pass, where it doesn't lie too far from the held ones
  passes_too : (R : List Read) (x : Read) → All (IsReadIn air H) R → IsReadIn air H x → lies_far air R x ≡ false → IsAllowed air.scheme.policy (map place_of R ++ place_of x ∷ []) →
      (by_entries air.scheme).clash R x ≡ None → clash_of air.scheme air.items H (map place_of R) (place_of x) ≡ None
  unfolding by_entries
  passes_too R x are is near allowed none =
      let same : map read_at (map heard_of R) ≡ map place_of R = map-map read_at heard_of R in
      subst (λ S. clash_of air.scheme air.items H S (place_of x) ≡ None) same
      (clash_told air.scheme air.items H (map heard_of R) (heard_of x)
      (have_aired air.scheme air.version air.items H (map heard_of R) (heard_of x) (All-map (MayBeHeard air.scheme air.version air.items H) heard_of R are) is
      (subst (λ S. are_far air.version (S ++ place_of x ∷ []) ≡ false) (sym same) near))
      (subst (λ S. IsAllowed air.scheme.policy (S ++ place_of x ∷ [])) (sym same) allowed) ∙ none)

  rules : Keeps (by_entries air.scheme) air reader (IsReadIn air H) K (λ l. Unit {0})
  rules = record {
    first = λ q. (All-nil (IsReadIn air H), allowed_none air.scheme.policy, accepts_none air.scheme air.items H);
    again = λ q a R k l. (All-nil (IsReadIn air H), allowed_none air.scheme.policy, accepts_none air.scheme air.items H);
    more = λ q a R x k is judged near none.
        let p = air.scheme.policy in
        let pushed : map place_of R ++ place_of x ∷ [] ≡ map place_of (R ++ x ∷ []) = sym (map-append place_of R (x ∷ [])) in
        let allowed = allowed_more p (map place_of R) (place_of x) k.1 judged.in_time in (
          All-push (IsReadIn air H) R x k.0 is,
          subst (IsAllowed p) pushed allowed,
          subst (Accepts air.scheme air.items H) pushed (accepts_push air.scheme air.items H (map place_of R) (place_of x) k.2 judged.in_time (passes_too R x k.0 is near allowed none)),
        );
    accepted = λ q a R k l e. tt;
    aborted = λ q a R x c k is judged near e. tt;
    aged = λ q a R x k is judged far. tt;
    unfinished = λ q a R k e. tt;
  }

  good : (s : State) → HoldsTruly air H reader s → ok s
  good s h = record { held = (h.held, h.allowed, h.accepted); copies = h.copies; lines = λ k d l. tt; unread = h.at_hand }

  truly : (s : State) → ok s → HoldsTruly air H reader s
  truly s g = record { held = g.held.0; copies = g.copies; allowed = g.held.1; accepted = g.held.2; at_hand = g.unread }

  pub starts_truly : HoldsTruly air H reader start
  starts_truly = truly start (start_good (by_entries air.scheme) air reader (IsReadIn air H) K (λ l. Unit {0}) filled rules)

  pub hears_truly : (V : List ℕ) (o : Option Bucket) (s : State) → SlotsFit air → WasAired V air H o → HoldsTruly air H reader s → HoldsTruly air H reader (hear (by_entries air.scheme) air reader o s)
  hears_truly V o s slots aired h =
      truly _ (hear_good (by_entries air.scheme) air reader (IsReadIn air H) K (λ l. Unit {0}) filled rules o s (good s h) (aired_gives V air H slots o aired))

  turns_truly : (n : ℕ) (s : State) → ok s → ok (turn_to_line (by_entries air.scheme) air reader n s)
  unfolding turn_to_line
  turns_truly zero s g = g
  turns_truly (suc n) s g = cond_keeps ok _ _ _ (λ _. g)
      (λ _. turns_truly n (turn (by_entries air.scheme) air reader s) (turn_good (by_entries air.scheme) air reader (IsReadIn air H) K (λ l. Unit {0}) filled rules s g))

  pub steps_truly : (s : State) → HoldsTruly air H reader s → HoldsTruly air H reader (step (by_entries air.scheme) air reader s)
  unfolding step
  steps_truly s h = truly _ (turns_truly (sum_by length reader.queries) s (good s h))

  pub ends_truly : (s : State) → HoldsTruly air H reader s → HoldsTruly air H reader (end_query (by_entries air.scheme) air reader s)
  ends_truly s h = truly _ (end_query_good (by_entries air.scheme) air reader (IsReadIn air H) K (λ l. Unit {0}) filled rules s (good s h))

-- Reads that are held truly are consistent, and share the policy's cycle.
pub held_sound : (air : Air) (H : List Event) (reader : Reader) (s : State) → HoldsTruly air H reader s → IsSound air.scheme.policy H (map place_of s.held)
held_sound air H reader s h = accepted air.scheme air.items H (map place_of s.held) (All-map IsRead place_of s.held (λ k d l. (h.held k d l).0.cycle)) h.accepted
