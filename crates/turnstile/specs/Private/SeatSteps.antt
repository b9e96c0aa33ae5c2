-- For private steps only. What each step tells the pass that makes it: it relates the seat before, the number found, and the
-- seat after.
use Rattle.std.specs.Prelude.{◌≡◌, ◌≢◌, ℕ, List, [], ◌∷◌, Option, Some}
use mathlib.Core.Option.{some}
use lib.ListN.{get_elem?}
use Rattle.atomic_table.specs.Table.{Me, Step}
use Rattle.turnstile.specs.declared.views.Sight.{Sight}
use Rattle.turnstile.specs.declared.views.View.{View}
use Rattle.turnstile.specs.PassEntries.{Continues}
use Rattle.turnstile.specs.Private.SeatViews.{give_back}

module _ {K E B : Type 0} (entries : K → List (ℕ × E)) (base : K → B) where
  -- What the rule knows of a pass at a step: its view, and the slots that it has taken.
  abbrev Sat : Type 0
  Sat = Me (Option K) (View E B)

  -- The number found is the ticket.
  abbrev pub HasTicket : Step (Option K) → Sat → ℕ → Sat → Type 0
  HasTicket st m r m' = m' ≡ (record m.0 { ticket = Some r }, m.1)

  -- The pass has the value. The value has the pass's base, and its list continues what the pass has seen by entries of others.
  abbrev pub Opens : Sat → Sat → Type 0
  Opens m m' = (x : K) × (m' ≡ (record m.0 { noted = Some (entries x) }, (0, Some x) ∷ [])) × (m.0.base ≡ Some (base x)) × Continues m.0.sight.numbers m.0.sight.entries (entries x)

  -- If the number found is its ticket, the pass has the value; otherwise all is as before.
  abbrev pub IsServed : Step (Option K) → Sat → ℕ → Sat → Type 0
  IsServed st m r m' = (t : ℕ) → m.0.ticket ≡ Some t → (r ≡ t → Opens m m') × (r ≢ t → m' ≡ m)

  -- The pass has given back the value, and has seen its list.
  abbrev pub HasLeft : Step (Option K) → Sat → ℕ → Sat → Type 0
  HasLeft st m r m' = (x : K) → m.1 ≡ (0, Some x) ∷ [] → m' ≡ (give_back m.0 (entries x), [])

  -- The old lists both begin one list, and are forgotten.
  abbrev pub HasCompared : Step (Option K) → Sat → ℕ → Sat → Type 0
  HasCompared st m r m' = (m' ≡ (record m.0 { old = [] }, m.1)) × ((now : List (ℕ × E)) × ((k : ℕ) (o : Sight E) → get_elem? m.0.old k ≡ some o → Continues o.numbers o.entries now))
