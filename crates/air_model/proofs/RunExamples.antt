-- A run of two updaters and two cycles: what its passes saw, what monitors may see of it, and its batches.
use Rattle.std.proofs.Common.{◌≡◌, ℕ, zero, suc, ◌+◌, ◌<◌, Some, List, [], ◌∷◌, ◌++◌, length, All, refl, sym, ap, subst, inl, inr, arith, length-append}
use Rattle.std.specs.Prelude.{count_by, slice_get}
use Rattle.std.proofs.lemmas.List.Elements.{All-from_recursion, All-nil}
use Rattle.air_history.specs.declared.histories.Event.{Event}
use Rattle.air_history.specs.declared.histories.Event.TheVariants.{Commit, Start}
use Rattle.air_history.specs.Histories.{front, is_start, starts, EventFits}
use Rattle.air_history.specs.Tables.{table, value_after, value_on_base, write_of}
use Rattle.air_history.specs.UpdateRules.{UpdateFits}
use Rattle.air_model.specs.Aired.{body_of, bucket_of, buckets_of}
use Rattle.air_model.specs.Closings.{GoesOnWithout}
use Rattle.air_model.specs.Decks.{Deck, is_by, values_in}
use Rattle.air_model.specs.DeckLaws.{commits_from, made_by}
use Rattle.air_model.specs.Reports.{total_at}
use Rattle.air_model.specs.declared.reports.LookLine.{LookLine}
use Rattle.air_model.proofs.SessionExamples.{pair, set_to, update}
use Rattle.air_model.specs.Batches.{AirsByBatches, EndsWithStart}
use Rattle.air_model.specs.RunClosings.{HaveMadeAll, HaveMadeSome, IsClosing}
use Rattle.air_model.specs.MonitorSights.{AreGlances, AreLooks, EndsAtStart, IsSeen}
use Rattle.air_model.specs.Buckets.{capped_body, capped_entries}

-- Updater 0 writes 11 to item 0, updater 1 writes 21 to item 1; there are two cycles and a monitor.
abbrev pub two : Deck
two = record pair {
  updates = (update [] (set_to 0 11 ∷ []) ∷ []) ∷ (update [] (set_to 1 21 ∷ []) ∷ []) ∷ [];
  settings = record pair.settings { cycles = 2; monitors = 1 };
}

-- The commits of the two updaters.
abbrev pub first : Event
first = Commit 0 0 (update [] (set_to 0 11 ∷ []))

abbrev pub second : Event
second = Commit 1 0 (update [] (set_to 1 21 ∷ []))

-- The first commit comes before the first cycle, the second before the second.
abbrev pub history : List Event
history = first ∷ Start ∷ second ∷ Start ∷ []

-- What the passes of the two updaters saw.
abbrev pub passes : List (List Event)
passes = (first ∷ []) ∷ (first ∷ Start ∷ second ∷ []) ∷ []

-- The line of monitor 0.
abbrev pub line : ℕ → ℕ → LookLine
line cycle total = record { monitor = 0; cycle = cycle; total = total }

pub fits : (item : ℕ) → item < 2 → (value : ℕ) → UpdateFits 2 (update [] (set_to item value ∷ []))
fits item l value = record { reads = All-nil (λ r. r < 2); writes = All-from_recursion (λ w. w.item < 2) (set_to item value ∷ []) (l, tt) }

each_pass : (by : ℕ) (seen : List Event) → slice_get passes by ≡ Some seen → GoesOnWithout (is_by by) seen history
unfolding is_by
each_pass zero seen e = let same : (first ∷ []) ≡ seen = cc in subst (λ l. GoesOnWithout (is_by 0) l history) same (Start ∷ second ∷ Start ∷ [], refl, refl)
each_pass (suc zero) seen e = let same : (first ∷ Start ∷ second ∷ []) ≡ seen = cc in subst (λ l. GoesOnWithout (is_by 1) l history) same (Start ∷ [], refl, refl)
each_pass (suc (suc by)) seen e = cc

-- The station was closed with the history, for these passes.
pub closing : IsClosing two passes history history
unfolding is_start EventFits
closing = record {
  count = refl;
  each = each_pass;
  started = ([], refl, refl);
  fits = All-from_recursion (EventFits 2 2) history ((omega arith, fits 0 (omega arith) 11), (tt, ((omega arith, fits 1 (omega arith) 21), (tt, tt))));
}

-- With a conductor's pass that saw one start it wasn't.
pub not_closing : IsClosing two passes (first ∷ Start ∷ []) history → ⊥
unfolding is_start
not_closing h = let (others, is, none) = h.started in let same : others ≡ second ∷ Start ∷ [] = cc in let count = ap (count_by is_start) same in omega (arith, none, count)

-- Each pass made all.
pub made : HaveMadeAll two passes
unfolding made_by is_by commits_from
made zero seen e = let same : (first ∷ []) ≡ seen = cc in ap (made_by 0) (sym same)
made (suc zero) seen e = let same : (first ∷ Start ∷ second ∷ []) ≡ seen = cc in ap (made_by 1) (sym same)
made (suc (suc by)) seen e = cc

-- A pass that saw nothing made none of its updates, which is a beginning of them.
pub made_some : HaveMadeSome two ([] ∷ (second ∷ []) ∷ [])
unfolding made_by is_by commits_from
made_some zero seen e = let same : [] ≡ seen = cc in (0, ap (made_by 0) (sym same))
made_some (suc zero) seen e = let same : (second ∷ []) ≡ seen = cc in (1, ap (made_by 1) (sym same))
made_some (suc (suc by)) seen e = cc

-- ---- what monitors see

pub ends : EndsAtStart [] × EndsAtStart (first ∷ Start ∷ [])
ends = (inl refl, inr (first ∷ [], refl))

pub not_ends : EndsAtStart (Start ∷ first ∷ []) → ⊥
not_ends (inl e) = cc
not_ends (inr ([], e)) = cc
not_ends (inr (a ∷ [], e)) = cc
not_ends (inr (a ∷ b ∷ F, e)) = let n = ap length e in let more : length (F ++ Start ∷ []) ≡ length F + 1 = length-append F (Start ∷ []) in omega arith

-- A cycle's total is that of the values at its start; cycle 0 is the catalog.
seen : (IsSeen (values_in two) history (line 0 30)) × (IsSeen (values_in two) history (line 1 31)) × (IsSeen (values_in two) history (line 2 32))
unfolding total_at front table value_after write_of value_on_base is_start starts
seen = (record { cycle = omega arith; total = refl }, record { cycle = omega arith; total = refl }, record { cycle = omega arith; total = refl })

pub glances : AreGlances two history (line 1 31 ∷ [])
glances = record { numbers = refl; each = All-from_recursion (IsSeen (values_in two) history) (line 1 31 ∷ []) (seen.1, tt) }

pub looks : AreLooks two history (line 2 32 ∷ [])
unfolding is_start starts
looks = record {
  numbers = refl;
  each = All-from_recursion (IsSeen (values_in two) history) (line 2 32 ∷ []) (seen.2, tt);
  last = All-from_recursion (λ l. l.cycle ≡ starts history) (line 2 32 ∷ []) (refl, tt);
}

-- The deck has one monitor, and its last look is at the last cycle.
pub not_looks : (AreLooks two history [] → ⊥) × (AreLooks two history (line 1 31 ∷ []) → ⊥)
unfolding is_start starts
not_looks = (
  λ h. let n = ap length h.numbers in omega arith,
  λ h. let late : 1 ≡ 2 = h.last 0 (line 1 31) (omega arith) in omega arith,
)

-- A glance and a look have the total of their cycle.
pub other_totals : (AreGlances two history (line 1 32 ∷ []) → ⊥) × (AreLooks two history (line 2 31 ∷ []) → ⊥)
unfolding total_at front table value_after write_of value_on_base is_start starts
other_totals = (
  λ h. let total : 32 ≡ 31 = (h.each 0 (line 1 32) (omega arith)).total in omega (arith, total),
  λ h. let total : 31 ≡ 32 = (h.each 0 (line 2 31) (omega arith)).total in omega (arith, total),
)

-- ---- by which batches it was aired

each_ends : All EndsWithStart ((first ∷ Start ∷ []) ∷ (second ∷ Start ∷ []) ∷ [])
unfolding is_start starts
each_ends = All-from_recursion EndsWithStart ((first ∷ Start ∷ []) ∷ (second ∷ Start ∷ []) ∷ []) (record { commits = first ∷ []; ends = refl; one = refl }, (record { commits = second ∷ []; ends = refl; one = refl }, tt))

-- One batch for each cycle, with the commit before its start.
pub by_batches : AirsByBatches two history ((first ∷ Start ∷ []) ∷ (second ∷ Start ∷ []) ∷ [])
unfolding is_start starts buckets_of bucket_of capped_entries capped_body body_of front
by_batches = record { count = refl; each = each_ends; rest = []; history = refl; quiet = refl; aired = refl }

-- Both cycles in one batch, the first batch only, or batches that begin with a start don't air it.
pub not_by_batches : (AirsByBatches two history (history ∷ []) → ⊥) × (AirsByBatches two history ((first ∷ Start ∷ []) ∷ []) → ⊥)
    × (AirsByBatches two history ((first ∷ []) ∷ (Start ∷ second ∷ Start ∷ []) ∷ []) → ⊥)
unfolding is_start starts
not_by_batches = (
  λ h. let n : 1 ≡ 2 = h.count in omega (arith, n),
  λ h. let n : 1 ≡ 2 = h.count in omega (arith, n),
  λ h. let e : EndsWithStart (first ∷ []) = h.each 0 (first ∷ []) (omega arith) in no_start e.commits e.ends,
)
  where
    no_start : (commits : List Event) → first ∷ [] ≡ commits ++ Start ∷ [] → ⊥
    no_start [] e = cc
    no_start (a ∷ commits) e = let n = ap length e in let more : length (commits ++ Start ∷ []) ≡ length commits + 1 = length-append commits (Start ∷ []) in omega arith
