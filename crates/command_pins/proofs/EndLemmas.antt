-- What a cast leaves of a mast in memory once the end was sent.
use Rattle.std.proofs.Common.{◌≡◌, ℕ, Option, Some, None, codes, sym, ap, ◌∙◌, inl, inr}
use Rattle.air_devices.specs.Masts.{MastState, SentBuckets, nothing_sent}
use Rattle.air_devices.specs.MemoryMasts.{memory_mast_state, told_by_mast}
use Rattle.air_devices.specs.Shelves.{ShelfState}
use Rattle.air_devices.specs.declared.memory.mast.MemMast.{MemMast}
use Rattle.air_sender.specs.AiredBytes.{aired_bytes}
use Rattle.deck_runs.specs.Casts.{first_sent}
use Rattle.air_cli.specs.OnAir.{LeavesMast}
use Rattle.air_cli.specs.Words.{AsksCast}

-- A mast that sent no end didn't send one.
no_end : (sent : SentBuckets) (count : ℕ) → sent.ended ≡ None → sent.ended ≡ Some count → ⊥
no_end sent count none some = let e : ◌≡◌ {A = Option ℕ} None (Some count) = sym none ∙ some in cc

told : (sent other : SentBuckets) → ◌≡◌ {A = Option SentBuckets} (Some sent) (Some other) → sent.ended ≡ other.ended
told sent other same = let is : sent ≡ other = cc in ap (λ (s : SentBuckets). s.ended) is

pub calm_after_end : (shelf : ShelfState) (before now : MemMast) → told_by_mast before ≡ nothing_sent → before.calls.faults ≡ 0
    → LeavesMast (Some (AsksCast (codes "d") 4000)) shelf (memory_mast_state before) (memory_mast_state now) → (count : ℕ) → (told_by_mast now).ended ≡ Some count → now.calls.faults ≡ 0
calm_after_end shelf before now unsent calm (inl same) count ended = ap (λ (m : MastState). m.faults) same ∙ calm
calm_after_end shelf before now unsent calm (inr (d, spells, made, sent)) count ended = elim sent.sent as (λ _. now.calls.faults ≡ 0) [
  | inl first ↦ absurd (no_end (told_by_mast now) count (told (told_by_mast now) (first_sent first.0 (aired_bytes d first.1.history)) first.1.sent) ended)
  | inr all ↦ all.3 ∙ calm
]
