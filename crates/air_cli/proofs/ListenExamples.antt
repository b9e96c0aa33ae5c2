-- What readers of the told deck hear of an ear: positive and negative examples of each relation.
use Rattle.std.proofs.Common.{◌≡◌, ◌<◌, ◌≤◌, ℕ, false, List, [], ◌∷◌, Option, Some, None, length, refl, ap, inl, arith}
use Rattle.std.specs.Prelude.{codes}
use Rattle.std.proofs.lemmas.List.Elements.{All-from_recursion}
use Rattle.air_devices.specs.Ears.{EarState}
use Rattle.air_report.specs.declared.status.Status.TheVariants as status
use Rattle.live_replay.proofs.AuditExamples.{small}
use Rattle.air_cli.specs.ReportsAndTapes.{ReportAndTape}
use Rattle.air_cli.specs.Hearings.{AreFirstHeard, IsHeardOnEar, TakesJust, TakesUpTo, heard_bytes}
use Rattle.air_cli.specs.Listen.{HasHeardPort, IsBrokenListening, IsListenRefusal, IsListening, ListenCause, ListenGives, listen_meaning}
use Rattle.air_cli.specs.Tune.{tune_given}
use Rattle.air_cli.specs.declared.commands.hearings.TheConstants.{MOST_HEARD_BYTES}
use Rattle.air_cli.proofs.CommandExamples.{is_true_tape}
use Rattle.air_cli.proofs.ToldExamples.{shelf, short, small_made, spells_deck}

-- Two datagrams of one byte.
abbrev pub a : List ℕ
a = codes "a"

abbrev pub b : List ℕ
b = codes "b"

-- ---- what is heard

-- A datagram that fits is heard whole.
heard_whole : heard_bytes a ≡ a
heard_whole = refl

first_heard : AreFirstHeard 1 (Some (a ∷ b ∷ [])) (a ∷ []) × AreFirstHeard 3 (Some (a ∷ b ∷ [])) (a ∷ b ∷ [])
first_heard = (refl, refl)

-- The first byte of all.
abbrev first_byte : List (List ℕ) → ℕ
first_byte ((byte ∷ bytes) ∷ more) = byte
first_byte other = 0

-- They heard neither the second, nor both if they hear at most one.
not_first : (AreFirstHeard 1 (Some (a ∷ b ∷ [])) (b ∷ []) → ⊥) × (AreFirstHeard 1 (Some (a ∷ b ∷ [])) (a ∷ b ∷ []) → ⊥)
not_first = (λ h. let e : 98 ≡ 97 = ap first_byte h in omega (arith, e), λ h. let n : 2 ≡ 1 = ap length h in omega (arith, n))

taken : TakesUpTo 1 (Some (a ∷ b ∷ [])) (Some (b ∷ [])) × TakesUpTo 3 (Some (a ∷ b ∷ [])) (Some []) × TakesJust 2 (Some (a ∷ b ∷ [])) (Some [])
taken = (refl, refl, (omega arith, refl))

-- Exactly three aren't taken if there are two, and what is taken is gone.
not_taken : (TakesJust 3 (Some (a ∷ b ∷ [])) (Some []) → ⊥) × (TakesUpTo 1 (Some (a ∷ b ∷ [])) (Some (a ∷ b ∷ [])) → ⊥)
not_taken = (λ h. let few : 3 ≤ 2 = h.0 in omega arith, λ h. let same : a ∷ b ∷ [] ≡ b ∷ [] = cc in let n : 2 ≡ 1 = ap length same in omega (arith, n))

is_heard : IsHeardOnEar 1 (Some (a ∷ b ∷ [])) (Some (b ∷ [])) (a ∷ [])
is_heard = record { few = omega arith; each = All-from_recursion (λ bytes. (1 ≤ length bytes) × (length bytes ≤ MOST_HEARD_BYTES)) (a ∷ []) ((omega arith, omega arith), tt); are = refl; taken = refl }

-- If nothing is told, still no more is heard, and no empty datagram.
not_heard : (IsHeardOnEar 1 None None (a ∷ b ∷ []) → ⊥) × (IsHeardOnEar 1 None None ([] ∷ []) → ⊥)
not_heard = (λ h. let few : 2 ≤ 1 = h.few in omega arith, λ h. let some : 1 ≤ 0 = (h.each 0 [] (omega arith)).0 in omega arith)

-- ---- `listen`

-- An ear that tells this, untuned, and the same on the port 7.
abbrev pub fresh_ear : List (List ℕ) → EarState
fresh_ear waiting = record { told = Some waiting; faults = 0; port = None }

abbrev pub tuned : List (List ℕ) → EarState
tuned waiting = record { told = Some waiting; faults = 0; port = Some 7 }

-- Both datagrams are no buckets; the report over them is the one over a tape of both.
is_listening : IsListening small 7 (fresh_ear (a ∷ b ∷ [])) (tuned []) (tune_given small (a ∷ b ∷ [])) (a ∷ b ∷ [])
is_listening = record {
  heard_is = record {
    few = omega arith;
    each = All-from_recursion (λ bytes. (1 ≤ length bytes) × (length bytes ≤ MOST_HEARD_BYTES)) (a ∷ b ∷ []) ((omega arith, omega arith), ((omega arith, omega arith), tt));
    are = refl;
    taken = refl;
  };
  true_is = is_true_tape (a ∷ b ∷ []);
  given_is = refl;
  calm = refl;
  port = refl;
}

-- It doesn't hold on another port, nor if something is left.
not_listening : (IsListening small 8 (fresh_ear (a ∷ b ∷ [])) (tuned []) (tune_given small (a ∷ b ∷ [])) (a ∷ b ∷ []) → ⊥)
    × (IsListening small 7 (fresh_ear (a ∷ b ∷ [])) (tuned (b ∷ [])) (tune_given small (a ∷ b ∷ [])) (a ∷ b ∷ []) → ⊥)
not_listening = (
  λ h. let port : ◌≡◌ {A = Option ℕ} (Some 7) (Some 8) = h.port in let same : ◌≡◌ {A = ℕ} 7 8 = cc in omega (arith, same),
  λ h. let left : Some (b ∷ []) ≡ Some [] = h.heard_is.taken in cc,
)

pub listen_gives : ListenGives (codes "d") 7 (fresh_ear (a ∷ b ∷ [])) (tuned []) shelf (tune_given small (a ∷ b ∷ []))
unfolding ListenGives
listen_gives = (refl, (small, spells_deck, small_made, (short, (a ∷ b ∷ [], is_listening))))

not_listen_gives : ListenGives (codes "d") 7 (fresh_ear []) (tuned []) shelf (record { text = []; tape = 1 ∷ []; differs = false }) → ⊥
unfolding ListenGives
not_listen_gives h = let tape : ◌≡◌ {A = List ℕ} (1 ∷ []) [] = ap (λ (g : ReportAndTape). g.tape) h.1.3.1.1.given_is in cc

-- The ear failed after the first datagram.
is_broken : IsBrokenListening small 7 1 (fresh_ear (a ∷ b ∷ [])) (record (tuned (b ∷ [])) { faults = 1 })
is_broken = record { rose = inl (omega arith); few = omega arith; taken = (omega arith, refl); port = refl }

-- It doesn't fail after the last that is to be heard.
not_broken : (old new : EarState) → IsBrokenListening small 7 1000000 old new → ⊥
not_broken old new h = let few : 1000000 < 1000000 = h.few in omega arith

has_heard : HasHeardPort small 7 (fresh_ear (a ∷ b ∷ [])) (tuned (b ∷ []))
has_heard = record { taken = (1, omega arith, refl); later = omega arith; port = refl }

not_has_heard : HasHeardPort small 7 (fresh_ear []) (fresh_ear []) → ⊥
not_has_heard h = let port : ◌≡◌ {A = Option ℕ} None (Some 7) = h.port in cc

listen_cause : ListenCause (codes "d") 7 (fresh_ear (a ∷ b ∷ [])) (record (tuned (b ∷ [])) { faults = 1 }) shelf shelf (status.AirFault 1)
unfolding ListenCause
listen_cause = (small, spells_deck, small_made, (short, is_broken))

-- Out of memory, the ear may have heard datagrams, but it didn't fail.
listening_without_memory : IsListenRefusal small 7 (fresh_ear (a ∷ b ∷ [])) (tuned (b ∷ [])) status.NoMemory
unfolding IsListenRefusal
listening_without_memory = refl

not_without_memory : IsListenRefusal small 7 (fresh_ear (a ∷ b ∷ [])) (record (tuned (b ∷ [])) { faults = 1 }) status.NoMemory → ⊥
unfolding IsListenRefusal
not_without_memory h = omega (arith, h)

-- Readers of a deck that can't be read never tuned in.
not_listen_cause : ListenCause (codes "d") 7 (fresh_ear []) (tuned []) shelf shelf status.ReadFault → ⊥
unfolding ListenCause
not_listen_cause h = let port : ◌≡◌ {A = Option ℕ} (Some 7) None = ap (λ (e : EarState). e.port) h.1 in cc

-- It writes no output.
listen_output : (listen_meaning (codes "d") 7 (fresh_ear []) (fresh_ear [])).output ≡ None
listen_output = refl
