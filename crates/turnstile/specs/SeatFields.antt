-- What contracts see of the seat in a pass, and what holds of the seat between calls.
use Rattle.std.specs.Prelude.{◌≡◌, ℕ, ◌<◌, List, [], ◌∷◌, length, Option, Some, None}
use Rattle.atomic_table.specs.Table.{Me}
use Rattle.turnstile.specs.declared.views.View.{View}
use Rattle.turnstile.specs.Passes.{TurnstileId, TurnstilePass}

module _ {K E B : Type 0} where
  -- The pass with this seat.
  abbrev pub pass_with : TurnstileId → Me (Option K) (View E B) → TurnstilePass E B
  pass_with g me = record { turnstile = g; passes = me.0.passes; base = me.0.base; numbers = me.0.sight.numbers; seen = me.0.sight.entries; turn = me.0.noted }

module _ {K E : Type 0} where
  -- Outside a turn the seat has no ticket and holds no slot; inside it holds the slot, whose value was moved out.
  abbrev pub IsPlaced : Option (List (ℕ × E)) → Option ℕ → List (ℕ × Option K) → Type 0
  IsPlaced None ticket held = (ticket ≡ None) × (held ≡ [])
  IsPlaced (Some noted) ticket held = held ≡ (0, None) ∷ []

module _ {K E B : Type 0} where
  -- The seat has a number and no list of a join, and is placed.
  pub record IsSeated (me : Me (Option K) (View E B)) : Type 0 where
    pub live : 0 < length me.0.sight.numbers
    pub calm : me.0.old ≡ []
    pub placed : IsPlaced me.0.noted me.0.ticket me.1
