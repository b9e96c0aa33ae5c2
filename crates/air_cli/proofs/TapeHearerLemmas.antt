-- What tape hearers heard, piece after piece: the readers of a deck, and a seeker.
use Rattle.std.proofs.Common.{◌≡◌, ◌<◌, ◌+◌, ◌^◌, ◌++◌, ◌∙◌, ℕ, List, [], ◌∷◌, Option, length, map, All, refl, sym, ap, subst, arith, append_assoc, get_or}
use Rattle.std.proofs.lemmas.List.{length-map, map-append}
use Rattle.std.proofs.lemmas.List.Elements.{All-map}
use Rattle.air_index.specs.Searches.{SeekerState, seeker_tells}
use Rattle.air_model.specs.Buckets.{Bucket, bucket_in}
use Rattle.listeners.specs.Listeners.{Listener, hears}
use Rattle.listeners.proofs.CountLemmas.{heard_by}
use Rattle.listeners.proofs.HearLemmas.{counted_all, pieces}

-- ---- the readers of a deck

-- All hear some members, and then others.
heard_twice : (first second : List (Option Bucket)) (A : List Listener) → map (hears second) (map (hears first) A) ≡ map (hears (first ++ second)) A
heard_twice first second [] = refl
heard_twice first second (l ∷ A) =
    ap (λ x. x ∷ map (hears second) (map (hears first) A)) (sym (pieces first second l)) ∙ ap (λ xs. hears (first ++ second) l ∷ xs) (heard_twice first second A)

-- They heard the records of a piece too.
pub readers_heard : (first now : List Listener) (so_far more : List (List ℕ)) (next : List Listener) → now ≡ map (hears (map bucket_in so_far)) first → next ≡ map (hears (map bucket_in more)) now
    → next ≡ map (hears (map bucket_in (so_far ++ more))) first
readers_heard first now so_far more next was heard =
    heard ∙ ap (map (hears (map bucket_in more))) was ∙ heard_twice (map bucket_in so_far) (map bucket_in more) first
    ∙ ap (λ members. map (hears members) first) (sym (map-append bucket_in so_far more))

-- Those that had heard nothing at first have room to count the records of a piece too.
pub readers_have_room : (first now : List Listener) (so_far : List (List ℕ)) (more : ℕ) → All (λ l. heard_by l.state ≡ 0) first → now ≡ map (hears (map bucket_in so_far)) first
    → length so_far + more < 2 ^ 64 → All (λ l. heard_by l.state + more < 2 ^ 64) now
readers_have_room first now so_far more fresh was few =
    let members = map bucket_in so_far in
    subst (All (λ l. heard_by l.state + more < 2 ^ 64)) (sym was)
    (All-map (λ l. heard_by l.state + more < 2 ^ 64) (hears members) first (λ k d below.
    let counted = counted_all members (get_or first k d) in
    let none = fresh k d below in
    omega (arith, length-map so_far bucket_in)))

-- ---- a seeker

-- It heard the records of a piece too.
pub seeker_heard : (first now next : SeekerState) (so_far more rest : List (List ℕ)) → ((rest : List (List ℕ)) → seeker_tells now rest ≡ seeker_tells first (so_far ++ rest))
    → ((rest : List (List ℕ)) → seeker_tells next rest ≡ seeker_tells now (more ++ rest)) → seeker_tells next rest ≡ seeker_tells first ((so_far ++ more) ++ rest)
seeker_heard first now next so_far more rest was heard = heard rest ∙ was (more ++ rest) ∙ ap (seeker_tells first) (sym (append_assoc so_far more rest))
