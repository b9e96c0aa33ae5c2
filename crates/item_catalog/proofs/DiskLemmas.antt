-- Disks with their frequencies: how many there are, and what each says.
use Rattle.std.proofs.Common.{◌≡◌, ◌<◌, ◌+◌, ◌-◌, ◌*◌, ◌∷◌, [], ℕ, zero, suc, List, Some, length, map, get_or, slice_get, refl, ap, subst, sym, ◌∙◌, arith}
use Rattle.std.specs.Prelude.{All, IfSome, unwrap_or}
use Rattle.std.proofs.lemmas.List.{get_or-map, get_or_default, length-map}
use Rattle.std.proofs.lemmas.Option.{get_or_from_slice_get, slice_get-get_or}
use Rattle.air_model.specs.Disks.{DiskSpec}
use Rattle.item_catalog.specs.Decks.{with_freqs}
use Rattle.item_catalog.specs.declared.parts.DiskPart.{DiskPart}

-- What holds of all that a function gives for a list holds of what it gives for an element.
pub all_at : {A B : Type 0} (f : A → B) (P : B → Type 0) (xs : List A) (i : ℕ) (x : A) → i < length xs → x ≡ get_or xs i x → All P (map f xs) → P (f x)
all_at f P xs i x below at all = subst P (get_or-map f xs i x (f x) below ∙ ap f (sym at)) (all i (f x) (omega (arith, length-map xs f)))

pub freqs_len : (delta : ℕ) (disks : List DiskPart) → length (with_freqs delta disks) ≡ length disks
freqs_len delta [] = refl
freqs_len delta (disk ∷ disks) = rw (freqs_len delta disks) refl

-- A disk with its frequency, by the number of disks after it.
abbrev pub spec_of : ℕ → ℕ → DiskPart → DiskSpec
spec_of delta after disk = record { size = disk.size; freq = unwrap_or disk.freq (after * delta + 1) }

pub freqs_at : (delta : ℕ) (disks : List DiskPart) (i : ℕ) (x : DiskPart) → i < length disks → x ≡ get_or disks i x
    → slice_get (with_freqs delta disks) i ≡ Some (spec_of delta (length disks - 1 - i) x)
freqs_at delta [] i x below at = absurd (omega arith)
freqs_at delta (disk ∷ disks) zero x below at = let e : suc (length disks) - 1 - 0 ≡ length disks = omega arith in rw (e, at) refl
freqs_at delta (disk ∷ disks) (suc i) x below at =
    let e : suc (length disks) - 1 - suc i ≡ length disks - 1 - i = omega arith in
    rw e (freqs_at delta disks i x (omega arith) at)

-- What holds of all disks holds of one of them.
pub freqs_all : (P : DiskSpec → Type 0) (delta : ℕ) (disks : List DiskPart) (i : ℕ) (x : DiskPart) → i < length disks → x ≡ get_or disks i x
    → All P (with_freqs delta disks) → P (spec_of delta (length disks - 1 - i) x)
freqs_all P delta disks i x below at all =
    let s = spec_of delta (length disks - 1 - i) x in
    subst P (get_or_from_slice_get (with_freqs delta disks) i s s (freqs_at delta disks i x below at)) (all i s (omega (arith, freqs_len delta disks)))

-- The same for the element at a place, for any value that stands for one that isn't there.
pub spec_at : (delta : ℕ) (disks : List DiskPart) (i : ℕ) (e : DiskPart) → i < length disks → slice_get (with_freqs delta disks) i ≡ Some (spec_of delta (length disks - 1 - i) (get_or disks i e))
spec_at delta disks i e below = freqs_at delta disks i (get_or disks i e) below (get_or_default disks i e (get_or disks i e) below)

pub spec_all : (P : DiskSpec → Type 0) (delta : ℕ) (disks : List DiskPart) (i : ℕ) (e : DiskPart) → i < length disks → All P (with_freqs delta disks) → P (spec_of delta (length disks - 1 - i) (get_or disks i e))
spec_all P delta disks i e below all = freqs_all P delta disks i (get_or disks i e) below (get_or_default disks i e (get_or disks i e) below) all

-- What holds of all frequencies holds of one of them.
pub freq_told : (P : ℕ → Type 0) (specs : List DiskSpec) (i freq : ℕ) → i < length specs → IfSome (slice_get specs i) (λ s. freq ≡ s.freq) → All (λ s. P s.freq) specs → P freq
freq_told P [] i freq below told all = absurd (omega arith)
freq_told P (s ∷ specs) zero freq below told all = subst P (sym told) (all 0 s (omega arith))
freq_told P (s ∷ specs) (suc i) freq below told all = freq_told P specs i freq (omega arith) told (λ k d inside. all (suc k) d (omega arith))

-- What a function gives for the element at a place.
pub map_at : {A B : Type 0} (f : A → B) (xs : List A) (i : ℕ) (x : A) → i < length xs → x ≡ get_or xs i x → slice_get (map f xs) i ≡ Some (f x)
map_at f xs i x below at = slice_get-get_or (map f xs) i (f x) (omega (arith, length-map xs f)) ∙ ap Some (get_or-map f xs i x (f x) below ∙ ap f (sym at))
