-- The values after no event and after one more event; an event gives equal values from equal values.
use Rattle.std.proofs.Common.{◌≡◌, ℕ, ◌+◌, ◌-◌, ◌%◌, ◌^◌, Bool, cond, Option, Some, None, List, [], ◌∷◌, ◌++◌, refl, ap}
use Rattle.air_history.specs.declared.updates.Write.{Write}
use Rattle.air_history.specs.declared.histories.Event.{Event}
use Rattle.air_history.specs.Tables.{value_on_base, write_of, value_after_write, value_after, table}

pub table_nil : (V : ℕ → ℕ) (i : ℕ) → table V [] i ≡ V i
unfolding table
table_nil V i = refl

pub table_push : (V : ℕ → ℕ) (G : List Event) (e : Event) (i : ℕ) → table V (G ++ e ∷ []) i ≡ value_after (table V G) e i
unfolding table value_after
table_push V [] e i = refl
table_push V (f ∷ G) e i = table_push (value_after V f) G e i

pub on_base_same : (V W : ℕ → ℕ) (o : Option ℕ) (minus : Bool) (amount : ℕ) → ((b : ℕ) → o ≡ Some b → V b ≡ W b) → value_on_base V o minus amount ≡ value_on_base W o minus amount
unfolding value_on_base
on_base_same V W None minus amount h = refl
on_base_same V W (Some b) minus amount h = ap (λ v. cond minus ((v + (2 ^ 64 - amount)) % 2 ^ 64) ((v + amount) % 2 ^ 64)) (h b refl)

pub value_after_same : (V W : ℕ → ℕ) (e : Event) (i : ℕ) → ((k : ℕ) → V k ≡ W k) → value_after V e i ≡ value_after W e i
unfolding value_after
value_after_same V W e i same = go (write_of e i)
  where
    go : (o : Option Write) → value_after_write V i o ≡ value_after_write W i o
    go None = same i
    go (Some w) = on_base_same V W w.base w.minus w.amount (λ b _. same b)
