-- The cut of the items, one disk on: what is cut so far, before the cut of what is left, is the whole cut.
use Rattle.std.proofs.Common.{◌≡◌, ◌≤◌, ◌<◌, ◌+◌, ◌++◌, ℕ, List, [], ◌∷◌, append_assoc, append-nil, length, get_or, drop, take, sum_by, sym, ap, ◌∙◌, arith}
use Rattle.std.proofs.lemmas.List.{drop_more}
use Rattle.std.proofs.Math.ListN.{drop_of_length-le}
use Rattle.std.proofs.lemmas.List.Sums.{sum_by-drop_more}
use Rattle.air_model.specs.Disks.{Disk, DiskSpec, cut}

-- One more disk, with the first of the items that are left.
pub cut_step : (rest left : List ℕ) (specs : List DiskSpec) (k : ℕ) (spec : DiskSpec) (items : List ℕ) (freq : ℕ) (made new whole : List Disk) → k < length specs → spec ≡ get_or specs k spec
    → items ≡ take spec.size rest → freq ≡ spec.freq → left ≡ drop spec.size rest → made ++ cut rest (drop k specs) ≡ whole → new ≡ made ++ record { items = items; freq = freq } ∷ []
    → new ++ cut left (drop (k + 1) specs) ≡ whole
unfolding cut
cut_step rest left specs k spec items freq made new whole below is taken often back told grew =
    let next : drop k specs ≡ spec ∷ drop (k + 1) specs = drop_more specs k spec below ∙ ap (λ s. s ∷ drop (k + 1) specs) (sym is) in
    let disk : Disk = record { items = take spec.size rest; freq = spec.freq } in
    rw (grew, taken, often, back) (append_assoc made (disk ∷ []) (cut (drop spec.size rest) (drop (k + 1) specs)) ∙ ap (λ s. made ++ cut rest s) (sym next) ∙ told)

pub cut_left : (rest left : ℕ) (specs : List DiskSpec) (k : ℕ) (spec : DiskSpec) → k < length specs → spec ≡ get_or specs k spec
    → sum_by (λ (s : DiskSpec). s.size) (drop k specs) ≡ rest → (spec.size ≤ rest) × (left + spec.size ≡ rest → sum_by (λ (s : DiskSpec). s.size) (drop (k + 1) specs) ≡ left)
cut_left rest left specs k spec below is sum =
    let more = sum_by-drop_more (λ (s : DiskSpec). s.size) specs k spec below in
    let same : (get_or specs k spec).size ≡ spec.size = ap (λ (s : DiskSpec). s.size) (sym is) in
    (omega arith, λ e. omega arith)

pub cut_none : (rest : List ℕ) (specs : List DiskSpec) (k : ℕ) (made whole : List Disk) → length specs ≤ k → made ++ cut rest (drop k specs) ≡ whole → made ≡ whole
unfolding cut
cut_none rest specs k made whole over told = sym (append-nil made) ∙ ap (λ s. made ++ cut rest s) (sym (drop_of_length-le specs over)) ∙ told
