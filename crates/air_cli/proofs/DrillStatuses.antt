-- Which statuses end words that begin with `drill`.
use Rattle.std.proofs.Common.{◌≡◌, ap, subst, sym, ◌∙◌, ℕ, Bool, true, false, List, [], ◌∷◌, codes, length, Option, Some, None, refl, arith}
use Rattle.std.specs.Prelude.{◌==◌, ◌||◌, ◌&&◌, nat_le, if◌then◌else◌, Contains}
use Rattle.air_base.specs.Numbers.{number_of}
use Rattle.air_devices.specs.Ears.{EarState}
use Rattle.air_devices.specs.Masts.{MastState}
use Rattle.air_devices.specs.Shelves.{ShelfState}
use Rattle.air_report.specs.Statuses.{status_number}
use Rattle.air_report.specs.declared.status.Status.{Status}
use Rattle.air_report.specs.declared.status.Status.TheVariants as status
use Rattle.item_catalog.specs.declared.deck.drill.TheConstants.{MOST_DRILL_SIZE}
use Rattle.air_cli.specs.Answers.{QuietAnswers}
use Rattle.air_cli.specs.ReportsAndTapes.{ReportAndTape, given_status}
use Rattle.air_cli.specs.Drill.{DrillGives}
use Rattle.air_cli.specs.Meanings.{Meaning, no_command}
use Rattle.air_cli.specs.OnAir.{words_meaning}
use Rattle.air_cli.specs.Words.{AsksDrill, asked_drill, asked_of, asked_of_one, asked_of_three}

-- The status is one of these.
abbrev IsAmong : Status → Type 0
IsAmong s = Contains (0 ∷ 1 ∷ 4 ∷ 5 ∷ []) (status_number s)

-- A refusal has only these statuses, and nothing that is given differs.
record RefusesFew (command : Meaning) : Type 0 where
  refuses : (before now : ShelfState) (s : Status) → command.Refuses before now s → IsAmong s
  same : (before : ShelfState) (given : ReportAndTape) → command.Gives before given → given.differs ≡ false

ends_among : (command : Meaning) → RefusesFew command → (before now : ShelfState) (s : Status) → QuietAnswers command before now s → IsAmong s
unfolding QuietAnswers
ends_among command few before now status.Ok h = (0, omega arith, refl)
ends_among command few before now status.Differs h = absurd (cc (h.gives.2 ∙ ap given_status (few.same before h.gives.0 h.gives.1)))
ends_among command few before now status.WriteFault h = (2, omega arith, refl)
ends_among command few before now status.NoMemory h = (3, omega arith, refl)
ends_among command few before now status.ReadFault h = few.refuses before now status.ReadFault h.0
ends_among command few before now s h = few.refuses before now s h.0

words_among : (s : Status) → s ≡ status.Words → IsAmong s
words_among s is = subst IsAmong (sym is) (1, omega arith, refl)

drill_among : (s : Status) → s ≡ status.NoMemory → IsAmong s
drill_among s is = subst IsAmong (sym is) (3, omega arith, refl)

drill_same : (seed size : ℕ) (given : ReportAndTape) → DrillGives seed size given → given.differs ≡ false
unfolding DrillGives
drill_same seed size given h = ap (λ given. given.differs) h.1

-- Words that ask for nothing, or for a drill.
none_few : RefusesFew no_command
none_few = record { refuses = λ before now s h. words_among s h; same = λ before given h. absurd h }

module _ (mast mast_now : MastState) (ear ear_now : EarState) where
  drill_few : (seed size : Option ℕ) → RefusesFew (words_meaning (asked_drill seed size) mast mast_now ear ear_now)
  drill_few None size = none_few
  drill_few (Some seed) None = none_few
  drill_few (Some seed) (Some size) = by (nat_le 1 size && nat_le size MOST_DRILL_SIZE)
    where
      by : (fits : Bool) → RefusesFew (words_meaning (if fits then Some (AsksDrill seed size) else None) mast mast_now ear ear_now)
      by true = record { refuses = λ before now s h. drill_among s h; same = λ before given h. drill_same seed size given h }
      by false = none_few

  words_few : (words : List (List ℕ)) → RefusesFew (words_meaning (asked_of (codes "drill" ∷ words)) mast mast_now ear ear_now)
  words_few [] = none_few
  words_few (first ∷ []) = by (length first == 0)
    where
      by : (empty : Bool) → RefusesFew (words_meaning (if empty then None else asked_of_one (codes "drill") first) mast mast_now ear ear_now)
      by true = none_few
      by false = none_few
  words_few (first ∷ second ∷ []) = by (length first == 0 || length second == 0)
    where
      by : (empty : Bool) → RefusesFew (words_meaning (if empty then None else asked_drill (number_of first) (number_of second)) mast mast_now ear ear_now)
      by true = none_few
      by false = drill_few (number_of first) (number_of second)
  words_few (first ∷ second ∷ third ∷ []) = by (length first == 0)
    where
      by : (empty : Bool) → RefusesFew (words_meaning (if empty then None else asked_of_three (codes "drill") first second third) mast mast_now ear ear_now)
      by true = none_few
      by false = none_few
  words_few (first ∷ second ∷ third ∷ more ∷ words) = none_few

pub drill_ends : (words : List (List ℕ)) (mast mast_now : MastState) (ear ear_now : EarState) (before now : ShelfState) (s : Status)
    → QuietAnswers (words_meaning (asked_of (codes "drill" ∷ words)) mast mast_now ear ear_now) before now s → IsAmong s
drill_ends words mast mast_now ear ear_now = ends_among (words_meaning (asked_of (codes "drill" ∷ words)) mast mast_now ear ear_now) (words_few mast mast_now ear ear_now words)
