-- What single fields spell: frequencies, events of the script, and the values of writes; and a test over numbers.
use Rattle.std.specs.Prelude.{◌≡◌, ◌==◌, [], ◌∷◌, Some, None, true, false, codes, map, refl}
use Rattle.air_base.specs.Numbers.{number_of}
use Rattle.item_catalog.specs.Faults.{some_below}
use Rattle.item_catalog.specs.Fields.{freq_of, spelled_event}
use Rattle.item_catalog.specs.Writes.{spelled_value_write}

pub record Fields : Type 0 where
  -- a dash gives no frequency, a number gives it, and all else spells none
  no_freq : freq_of (codes "-") ≡ Some None
  a_freq : freq_of (codes "12") ≡ Some (Some 12)
  odd_freqs : map freq_of (codes "--" ∷ codes "x" ∷ [] ∷ []) ≡ None ∷ None ∷ None ∷ []
  -- `s` is a start, and a number is that of an updater
  a_start : spelled_event (codes "s") ≡ Some None
  a_commit : spelled_event (codes "12") ≡ Some (Some 12)
  odd_events : map spelled_event (codes "ss" ∷ codes "-" ∷ [] ∷ []) ≡ None ∷ None ∷ None ∷ []
  -- an amount, a base plus an amount, and a base minus an amount, for item 3
  an_amount : spelled_value_write (Some 3) (codes "5") ≡ Some (record { item = 3; base = None; minus = false; amount = 5 })
  plus : spelled_value_write (Some 3) (codes "4+5") ≡ Some (record { item = 3; base = Some 4; minus = false; amount = 5 })
  minus : spelled_value_write (Some 3) (codes "4-5") ≡ Some (record { item = 3; base = Some 4; minus = true; amount = 5 })
  -- without an item, with two signs, without an amount, and without a base no write is spelled
  odd_writes : spelled_value_write None (codes "5") ∷ map (spelled_value_write (Some 3)) (codes "4+1-5" ∷ codes "4-" ∷ codes "+5" ∷ []) ≡ None ∷ None ∷ None ∷ None ∷ []
  -- 2 is below 3 and isn't below 2; nothing is below 0
  below_three : some_below 3 (λ n. n == 2) ≡ true
  not_below_two : some_below 2 (λ n. n == 2) ≡ false
  none_below_zero : some_below 0 (λ n. true) ≡ false

fields : Fields
unfolding freq_of spelled_event spelled_value_write number_of some_below
fields = record {
  no_freq = refl;
  a_freq = refl;
  odd_freqs = refl;
  a_start = refl;
  a_commit = refl;
  odd_events = refl;
  an_amount = refl;
  plus = refl;
  minus = refl;
  odd_writes = refl;
  below_three = refl;
  not_below_two = refl;
  none_below_zero = refl;
}
