-- The held reads of an attempt, from its two lists.
use Rattle.std.proofs.Common.{◌≡◌, ℕ, ◌+◌, List, [], ◌∷◌, ◌++◌, length, map, refl, sym, ◌∙◌, ap, subst, arith}
use Rattle.std.proofs.lemmas.List.{length_push, map-append}
use Rattle.std.proofs.lemmas.Simd.{map-map}
use Rattle.air_base.specs.declared.verdicts.ReadOf.{ReadOf}
use Rattle.air_base.specs.declared.verdicts.Policy.{Policy}
use Rattle.air_history.specs.Clashes.{HeardRead, clash_by_entries, is_late, read_at}
use Rattle.air_history.specs.Reads.{ReadAt}
use Rattle.air_history.specs.Columns.{Scheme, scheme_of}
use Rattle.air_model.specs.Judges.{by_entries, heard_of, place_of}
use Rattle.air_model.specs.Reads.{Read}
use Rattle.air_model.specs.SessionLaws.{are_far}
use Rattle.air_history.specs.HeldReads.{HeldReads, IsNew}
use Rattle.receiver_core.specs.Private.Attempts.{HeldValues, columns_of, line_read}
use Rattle.receiver_core.specs.Private.AttemptFields.{KeepsBoth, held_values, with_values}
use Rattle.receiver_core.specs.declared.attempts.Attempt.TheInside.{Inside}

pub nothing_held : (V : List ReadOf) → with_values [] V ≡ []
unfolding with_values
nothing_held V = refl

heard_from : (R : List HeardRead) (V : List ReadOf) → length V ≡ length R → map heard_of (with_values R V) ≡ R
unfolding with_values
heard_from [] V e = refl
heard_from (h ∷ R) [] e = absurd (omega arith)
heard_from (h ∷ R) (v ∷ V) e = ap (λ S. h ∷ S) (heard_from R V (omega arith))

-- The read with both parts.
abbrev both_parts : HeardRead → ReadOf → Read
both_parts h v = record { item = h.item; cycle = h.cycle; value = v.value; entries = h.entries }

with_values-push : (R : List HeardRead) (V : List ReadOf) (h : HeardRead) (v : ReadOf) → length V ≡ length R →
    with_values (R ++ h ∷ []) (V ++ v ∷ []) ≡ with_values R V ++ both_parts h v ∷ []
unfolding with_values
with_values-push [] [] h v e = refl
with_values-push [] (w ∷ V) h v e = absurd (omega arith)
with_values-push (g ∷ R) [] h v e = absurd (omega arith)
with_values-push (g ∷ R) (w ∷ V) h v e = ap (λ S. both_parts g w ∷ S) (with_values-push R V h v (omega arith))

columns_are : (a : Inside) → KeepsBoth a → columns_of (held_values a) ≡ a.held
columns_are a k = ap (λ R. let t : HeldReads = record { n = a.held.n; reads = R } in t) (heard_from a.held.reads a.line_reads k.even)

-- A new read is new to the reads with entries.
pub new_at : (a : Inside) (v : HeldValues) (x : Read) → KeepsBoth a → held_values a ≡ v → IsNew (columns_of v) (heard_of x) → IsNew a.held (heard_of x)
new_at a v x k is new = subst (λ h. IsNew h (heard_of x)) (ap columns_of (sym is) ∙ columns_are a k) new

-- The clash by the columns is the clash by the entries.
pub clash_at : (a : Inside) (v : HeldValues) (x : Read) → KeepsBoth a → held_values a ≡ v →
    clash_by_entries a.policy a.held.reads (heard_of x) ≡ (by_entries (scheme_of v.policy)).clash v.reads x
unfolding by_entries
clash_at a v x k is =
    ap (λ (h : HeldReads). clash_by_entries a.policy h.reads (heard_of x)) (sym (columns_are a k))
    ∙ ap (λ (w : HeldValues). clash_by_entries w.policy (map heard_of w.reads) (heard_of x)) is

-- The entries judge by the policy alone, with groups or without.
pub entries_clash : (s : Scheme) (p : Policy) (R : List Read) (x : Read) → p ≡ s.policy → (by_entries s).clash R x ≡ (by_entries (scheme_of p)).clash R x
unfolding by_entries
entries_clash s p R x same = ap (λ q. clash_by_entries q (map heard_of R) (heard_of x)) (sym same)

-- The held reads have their places in both.
places : (a : Inside) (v : HeldValues) → KeepsBoth a → held_values a ≡ v → map read_at a.held.reads ≡ map place_of v.reads
places a v k is =
    ap (map read_at) (sym (heard_from a.held.reads a.line_reads k.even)) ∙ map-map read_at heard_of (held_values a).reads
    ∙ ap (λ (w : HeldValues). map place_of w.reads) is

-- Whether a read and the reads with entries lie too far apart, and those with values.
pub far_after : (a : Inside) (v : HeldValues) (version : ℕ) (x : ReadAt) → KeepsBoth a → held_values a ≡ v →
    are_far version (map read_at a.held.reads ++ x ∷ []) ≡ are_far version (map place_of v.reads ++ x ∷ [])
far_after a v version x k is = ap (λ R. are_far version (R ++ x ∷ [])) (places a v k is)

-- Whether a read comes too late after the reads with entries, and after those with values.
pub late_after : (a : Inside) (v : HeldValues) (x : ReadAt) → KeepsBoth a → held_values a ≡ v →
    is_late a.policy (map read_at a.held.reads) x ≡ is_late v.policy (map place_of v.reads) x
late_after a v x k is = ap (λ R. is_late a.policy R x) (places a v k is) ∙ ap (λ (w : HeldValues). is_late w.policy (map place_of v.reads) x) is

-- ---- where nothing is held

pub empty_keeps : (policy : Policy) (held : HeldReads) (reads : List ReadOf) → held.reads ≡ [] → reads ≡ [] → KeepsBoth (record { policy = policy; held = held; line_reads = reads })
empty_keeps policy held reads e f = record {
  even = ap length f ∙ sym (ap length e);
  same = ap (λ R. map line_read (with_values R reads)) e ∙ ap (map line_read) (nothing_held reads) ∙ sym f;
}

pub empty_is : (policy : Policy) (n : ℕ) (held : HeldReads) (reads : List ReadOf) → held ≡ record { n = n; reads = [] } →
    held_values (record { policy = policy; held = held; line_reads = reads }) ≡ record { policy = policy; items = n; reads = [] }
empty_is policy n held reads e =
    ap (λ (h : HeldReads). let t : HeldValues = record { policy = policy; items = h.n; reads = with_values h.reads reads } in t) e
    ∙ ap (λ R. let t : HeldValues = record { policy = policy; items = n; reads = R } in t) (nothing_held reads)

-- ---- where one read more is held

-- The two lists with one read more.
more : (a : Inside) (held : HeldReads) (reads : List ReadOf) (x : Read) → KeepsBoth a →
    held ≡ record a.held { reads = a.held.reads ++ heard_of x ∷ [] } → reads ≡ a.line_reads ++ line_read x ∷ [] →
    with_values held.reads reads ≡ with_values a.held.reads a.line_reads ++ x ∷ []
more a held reads x k e f =
    ap (λ (t : HeldReads). with_values t.reads reads) e ∙ ap (with_values (a.held.reads ++ heard_of x ∷ [])) f
    ∙ with_values-push a.held.reads a.line_reads (heard_of x) (line_read x) k.even

pub more_keeps : (a : Inside) (now : HeldReads) (reads : List ReadOf) (x : Read) → KeepsBoth a →
    now ≡ record a.held { reads = a.held.reads ++ heard_of x ∷ [] } → reads ≡ a.line_reads ++ line_read x ∷ [] →
    KeepsBoth (record { policy = a.policy; held = now; line_reads = reads })
more_keeps a now reads x k e f =
    let long : length now.reads ≡ length a.held.reads + 1 = ap (λ (t : HeldReads). length t.reads) e ∙ length_push a.held.reads (heard_of x) in
    let told : length reads ≡ length a.line_reads + 1 = ap length f ∙ length_push a.line_reads (line_read x) in
    let even = k.even in
    record {
      even = omega arith;
      same = ap (map line_read) (more a now reads x k e f) ∙ map-append line_read (with_values a.held.reads a.line_reads) (x ∷ [])
          ∙ ap (λ S. S ++ line_read x ∷ []) k.same ∙ sym f;
    }

pub more_is : (a : Inside) (w : HeldValues) (now : HeldReads) (reads : List ReadOf) (x : Read) → KeepsBoth a → held_values a ≡ w →
    now ≡ record a.held { reads = a.held.reads ++ heard_of x ∷ [] } → reads ≡ a.line_reads ++ line_read x ∷ [] →
    held_values (record { policy = a.policy; held = now; line_reads = reads }) ≡ record w { reads = w.reads ++ x ∷ [] }
more_is a w now reads x k is e f =
    ap (λ n. let t : HeldValues = record { policy = a.policy; items = n; reads = with_values now.reads reads } in t) (ap (λ (t : HeldReads). t.n) e)
    ∙ ap (λ R. let t : HeldValues = record { policy = a.policy; items = a.held.n; reads = R } in t) (more a now reads x k e f)
    ∙ ap (λ (t : HeldValues). let u : HeldValues = record t { reads = t.reads ++ x ∷ [] } in u) is
