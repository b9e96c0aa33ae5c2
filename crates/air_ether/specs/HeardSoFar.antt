-- What contracts see of an ether: which pushed list it follows, and how many members of what is heard of it were given.
use Rattle.std.specs.Prelude.{◌≡◌, ℕ, ◌+◌, ◌*◌, ◌<◌, ◌≤◌, Bool, if◌then◌else◌, List, [], length, map, slice_index_or}
use Rattle.rand_pcg.specs.Lcg.{Lcg}
use Rattle.rand_pcg.specs.Pcg.{pcg32}
use Rattle.air_model.specs.Draws.{generator, words_of}
use Rattle.air_model.specs.Ethers.{Odds, places_due}
use Rattle.air_ether.specs.declared.waiting.TheConstants.{KEPT}
use Rattle.air_ether.specs.declared.cursor.Cursor.{Cursor}
use Rattle.air_ether.specs.HeardPositions.{left_at, position}
use Rattle.air_ether.specs.KeptPushes.{Push, Waits, push_in}
use Rattle.air_ether.specs.PushWords.{due_in, left_by, times_in}

-- The odds, the greatest length of a bucket, the generator, how many buckets were pushed, whether the end was told, the
-- position in the heard list, and the last `KEPT` pushes, each at its place modulo `KEPT`.
pub record Ether : Type 0 where
  pub odds : Odds
  pub most : ℕ
  pub generator : Lcg
  pub pushes : ℕ
  pub ended : Bool
  pub cursor : Cursor
  pub queue : List Push

-- Pushes with due numbers below this are due; after the end all are.
abbrev pub limit_of : Bool → ℕ → ℕ
limit_of ended pushes = if ended then pushes + 8 else pushes

-- Nothing is due.
abbrev pub IsQuiet : Ether → Type 0
IsQuiet e = e.cursor.number ≡ limit_of e.ended e.pushes

-- A bound on the number of buckets that are due. It falls with each one that is given.
abbrev pub left_of : Ether → ℕ
left_of e = left_at (limit_of e.ended e.pushes) e.cursor

-- What is due of a pushed list, at these odds, by the words of this seed and this reader's number, before or after the end.
unfoldable pub due_of : ℕ → ℕ → Odds → List (List ℕ) → Bool → List (List ℕ)
due_of seed number odds pushed ended =
    map (λ place. slice_index_or pushed place [])
    (places_due odds (words_of seed number (3 * length pushed)) (length pushed) (limit_of ended (length pushed)))

-- The ether of this seed and this number was given this pushed list, and gave this many members of what is heard of it.
pub record IsEtherAfter (seed number : ℕ) (pushed : List (List ℕ)) (given : ℕ) (e : Ether) : Type 0 where
  pub drawn : e.generator ≡ left_by pcg32 (3 * length pushed) (generator seed number)
  pub pushes : e.pushes ≡ length pushed
  pub waits : Waits (due_in seed number e.odds) (times_in seed number e.odds) e.pushes e.queue
  pub bytes : (p : ℕ) → p < e.pushes → e.pushes ≤ p + KEPT → (push_in e.queue p).bytes ≡ slice_index_or pushed p []
  pub counted : given ≡ position (due_in seed number e.odds) (times_in seed number e.odds) e.pushes e.cursor
