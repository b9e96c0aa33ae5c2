-- Datagrams that are taken from the beginning of what is still to be heard, and what listeners have heard of them.
use Rattle.std.proofs.Common.{◌≡◌, ℕ, zero, suc, ◌+◌, ◌≤◌, ◌<◌, Option, Some, None, All, List, [], ◌∷◌, ◌++◌, length, map, take, drop, refl, sym, ◌∙◌, ap, subst, arith}
use Rattle.std.specs.Prelude.{⊤}
use Rattle.std.proofs.lemmas.List.{length-append, length-take, map-append, take_all}
use Rattle.std.proofs.lemmas.List.Elements.{All-nil, All-push}
use Rattle.air_model.specs.Buckets.{Bucket, bucket_in}
use Rattle.air_devices.specs.Ears.{Hears, IsUsedUp, TakesFirst}
use Rattle.air_devices.specs.declared.ears.Heard.{Heard}
use Rattle.air_devices.specs.declared.ears.Heard.TheVariants as heard
use Rattle.listeners.specs.Listeners.{Listener, hears, hears_one}
use Rattle.listeners.proofs.ReaderLemmas.{hears_none}
use Rattle.listeners.proofs.HearLemmas.{pieces}
use Rattle.air_cli.specs.Hearings.{AreFirstHeard, TakesJust, TakesUpTo, heard_bytes}
use Rattle.air_cli.specs.Private.EarSteps.{HaveHeardEar}
use Rattle.air_cli.specs.declared.commands.hearings.TheConstants.{MOST_HEARD_BYTES}

-- ---- what was taken

-- Exactly n datagrams were taken, and this is what was heard of them.
abbrev pub AreFirst : ℕ → Option (List (List ℕ)) → Option (List (List ℕ)) → List (List ℕ) → Type 0
AreFirst count None now heard = ⊤
AreFirst count (Some waiting) now heard = (count ≤ length waiting) × (now ≡ Some (drop count waiting)) × (heard ≡ map heard_bytes (take count waiting))

drop_step : (w : List (List ℕ)) (n : ℕ) (first : List ℕ) (more : List (List ℕ)) → drop n w ≡ first ∷ more → (n < length w) × (drop (suc n) w ≡ more) × (take (suc n) w ≡ take n w ++ first ∷ [])
drop_step [] zero first more e = cc
drop_step [] (suc n) first more e = cc
drop_step (x ∷ w) zero first more e =
    let same : x ≡ first = cc in
    let rest : w ≡ more = cc in
    (omega arith, rest, ap (λ y. y ∷ []) same)
drop_step (x ∷ w) (suc n) first more e = let h = drop_step w n first more e in (omega (arith, h.0), h.1, ap (λ l. x ∷ l) h.2)

none_first : (before : Option (List (List ℕ))) → AreFirst 0 before before []
none_first None = tt
none_first (Some w) = (omega arith, refl, refl)

one_first : (n : ℕ) (w : List (List ℕ)) (now : Option (List (List ℕ))) (heard : List (List ℕ)) (bytes : List ℕ) (rest : List (List ℕ)) → rest ≡ drop n w → heard ≡ map heard_bytes (take n w)
    → TakesFirst (Some rest) now (λ first. bytes ≡ heard_bytes first) → AreFirst (n + 1) (Some w) now (heard ++ bytes ∷ [])
one_first n w now heard bytes [] is so h = absurd h
one_first n w now heard bytes (first ∷ more) is so h =
    let step = drop_step w n first more (sym is) in
    let next : n + 1 ≡ suc n = omega arith in (
      omega (arith, step.0),
      h.0 ∙ ap Some (sym (ap (λ k. drop k w) next ∙ step.1)),
      ap (λ l. l ++ bytes ∷ []) so ∙ ap (λ b. map heard_bytes (take n w) ++ b ∷ []) h.1
          ∙ sym (ap (λ k. map heard_bytes (take k w)) next ∙ ap (map heard_bytes) step.2 ∙ map-append heard_bytes (take n w) (first ∷ [])),
    )

more_first : (n : ℕ) (before mid now : Option (List (List ℕ))) (heard : List (List ℕ)) (bytes : List ℕ) → AreFirst n before mid heard → TakesFirst mid now (λ first. bytes ≡ heard_bytes first)
    → AreFirst (n + 1) before now (heard ++ bytes ∷ [])
more_first n None mid now heard bytes are h = tt
more_first n (Some w) mid now heard bytes are h = one_first n w now heard bytes (drop n w) refl are.2 (subst (λ o. TakesFirst o now (λ first. bytes ≡ heard_bytes first)) are.1 h)

nothing_left : (w : List (List ℕ)) (n : ℕ) → drop n w ≡ [] → length w ≤ n
nothing_left [] n e = omega arith
nothing_left (x ∷ w) zero e = cc
nothing_left (x ∷ w) (suc n) e = let h = nothing_left w n e in omega arith

drop_past : (w : List (List ℕ)) (n : ℕ) → length w ≤ n → drop n w ≡ []
drop_past [] zero l = refl
drop_past [] (suc n) l = refl
drop_past (x ∷ w) zero l = absurd (omega arith)
drop_past (x ∷ w) (suc n) l = drop_past w n (omega arith)

over : (n most : ℕ) (before mid now : Option (List (List ℕ))) (heard : List (List ℕ)) → n ≤ most → AreFirst n before mid heard → IsUsedUp mid now → AreFirstHeard most before heard × TakesUpTo most before now
over n most None mid now heard l are used = (tt, tt)
over n most (Some w) mid now heard l are used =
    let u : IsUsedUp (Some (drop n w)) now = subst (λ o. IsUsedUp o now) are.1 used in
    let long = nothing_left w n u.0 in
    (are.2 ∙ ap (map heard_bytes) (take_all n w long ∙ sym (take_all most w (omega arith))), u.1 ∙ ap Some (sym (drop_past w most (omega arith))))

-- Exactly n were taken.
just : (n : ℕ) (before now : Option (List (List ℕ))) (heard : List (List ℕ)) → AreFirst n before now heard → TakesJust n before now
just n None now heard are = tt
just n (Some w) now heard are = (are.0, are.1)

-- Some number of datagrams, at most `most`, leaves the same as `most` does.
just_some : (most : ℕ) (w : List (List ℕ)) → (count : ℕ) × (count ≤ most) × (count ≤ length w) × (drop count w ≡ drop most w)
just_some zero w = (0, omega arith, omega arith, refl)
just_some (suc most) [] = (0, omega arith, omega arith, refl)
just_some (suc most) (x ∷ w) = let (count, few, within, same) = just_some most w in (suc count, omega (arith, few), omega (arith, within), same)

pub just_taken : (most : ℕ) (before now : Option (List (List ℕ))) → TakesUpTo most before now → (count : ℕ) × (count ≤ most) × TakesJust count before now
just_taken most None now h = (0, omega arith, tt)
just_taken most (Some w) now h = let (count, few, within, same) = just_some most w in (count, few, (within, h ∙ ap Some (sym same)))

-- ---- what a call heard

-- The bytes at the beginning of the buffer are what is heard of the datagram that was taken.
pub taken_so : (before now : Option (List (List ℕ))) (buf bytes : List ℕ) (len : ℕ) → length buf ≡ MOST_HEARD_BYTES → bytes ≡ take len buf → Hears before now buf (heard.Bucket len)
    → TakesFirst before now (λ d. bytes ≡ heard_bytes d)
taken_so None now buf bytes len long is h = tt
taken_so (Some []) now buf bytes len long is h = h.2
taken_so (Some (d ∷ rest)) now buf bytes len long is h = (h.2.0, is ∙ h.2.1 ∙ ap (λ k. take k d) long)

-- It has at least a byte, and at most as many as are heard.
abbrev Fits : List ℕ → Type 0
Fits bytes = (1 ≤ length bytes) × (length bytes ≤ MOST_HEARD_BYTES)

pub bucket_fits : (before now : Option (List (List ℕ))) (buf : List ℕ) (len : ℕ) → length buf ≡ MOST_HEARD_BYTES → Hears before now buf (heard.Bucket len)
    → (1 ≤ length (take len buf)) × (length (take len buf) ≤ MOST_HEARD_BYTES)
bucket_fits before now buf len long h =
    let some = h.0 in
    let within = h.1 in
    let is = length-take len buf in
    (omega arith, omega arith)

pub over_only : (before now : Option (List (List ℕ))) (buf : List ℕ) (h : Heard) → ((len : ℕ) → h ≡ heard.Bucket len → ⊥) → Hears before now buf h → IsUsedUp before now
over_only before now buf (heard.Bucket len) not told = absurd (not len refl)
over_only before now buf heard.Over not told = told

-- ---- what listeners have heard

-- The listeners have heard n datagrams.
pub record HaveHeardFirst (count : ℕ) (before now : Option (List (List ℕ))) (first last : List Listener) : Type 0 where
  pub heard : List (List ℕ)
  pub long : length heard ≡ count
  pub each : All (λ bytes. (1 ≤ length bytes) × (length bytes ≤ MOST_HEARD_BYTES)) heard
  pub are : AreFirst count before now heard
  pub same : last ≡ map (hears (map bucket_in heard)) first

-- One member after the others.
one_behind : (o : Option Bucket) (members : List (Option Bucket)) (A : List Listener) → map (hears_one o) (map (hears members) A) ≡ map (hears (members ++ o ∷ [])) A
unfolding hears
one_behind o members [] = refl
one_behind o members (l ∷ A) =
    ap (λ x. x ∷ map (hears_one o) (map (hears members) A)) (sym (pieces members (o ∷ []) l)) ∙ ap (λ B. hears (members ++ o ∷ []) l ∷ B) (one_behind o members A)

module _ (before : Option (List (List ℕ))) (first : List Listener) where
  pub heard_none : HaveHeardFirst 0 before before first first
  heard_none = record { heard = []; long = refl; each = All-nil Fits; are = none_first before; same = sym (hears_none first) }

  -- One more datagram, of n bytes.
  pub heard_more : (n : ℕ) (mid now : Option (List (List ℕ))) (last next : List Listener) (bytes : List ℕ) → HaveHeardFirst n before mid first last → (1 ≤ length bytes) × (length bytes ≤ MOST_HEARD_BYTES)
      → TakesFirst mid now (λ d. bytes ≡ heard_bytes d) → next ≡ map (hears_one (bucket_in bytes)) last → HaveHeardFirst (n + 1) before now first next
  heard_more n mid now last next bytes h size takes is = record {
    heard = h.heard ++ bytes ∷ [];
    long = (let both = length-append h.heard (bytes ∷ []) in let so = h.long in omega arith);
    each = All-push Fits h.heard bytes h.each size;
    are = more_first n before mid now h.heard bytes h.are takes;
    same = is ∙ ap (map (hears_one (bucket_in bytes))) h.same ∙ one_behind (bucket_in bytes) (map bucket_in h.heard) first ∙ ap (λ l. map (hears l) first) (sym (map-append bucket_in h.heard (bytes ∷ [])));
  }

  pub heard_over : (n most : ℕ) (mid now : Option (List (List ℕ))) (last : List Listener) → n ≤ most → HaveHeardFirst n before mid first last → IsUsedUp mid now → HaveHeardEar most before now first last
  heard_over n most mid now last l h used =
      let o = over n most before mid now h.heard l h.are used in
      record { heard = h.heard; is = record { few = (let so = h.long in omega arith); each = h.each; are = o.0; taken = o.1 }; same = h.same }

  -- What was taken, if a call then fails.
  pub heard_just : (n : ℕ) (mid now : Option (List (List ℕ))) (last : List Listener) → HaveHeardFirst n before mid first last → now ≡ mid → TakesJust n before now
  heard_just n mid now last h same = subst (TakesJust n before) (sym same) (just n before mid h.heard h.are)
