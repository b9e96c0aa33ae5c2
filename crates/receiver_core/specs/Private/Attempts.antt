-- For private steps alone. What contracts see of an attempt: the policy that checks it, the number of items, and the
-- held reads in order. And the reads that are tried: of a bucket, or of a kept copy.
use Rattle.std.specs.Prelude.{ℕ, Bool, false, List, map, Option, Some, None}
use Rattle.air_base.specs.declared.verdicts.Policy.{Policy}
use Rattle.air_base.specs.declared.verdicts.ReadOf.{ReadOf}
use Rattle.air_model.specs.Buckets.{Bucket, item_of, value_of, entries_of}
use Rattle.air_model.specs.Judges.{heard_of}
use Rattle.air_model.specs.Reads.{Read, read_with}
use Rattle.air_model.specs.Sessions.{is_wanted}
use Rattle.air_history.specs.HeldReads.{HeldReads}

-- The held reads over a number of items, each with its value and the entries that were heard with it.
pub record HeldValues : Type 0 where
  pub policy : Policy
  pub items : ℕ
  pub reads : List Read

-- The held reads without their values, as the policy's check knows them.
abbrev pub columns_of : HeldValues → HeldReads
columns_of a = record { n = a.items; reads = map heard_of a.reads }

-- The read that a bucket with an item gives.
abbrev pub read_from_bucket : Bucket → Read
read_from_bucket b = read_with (item_of b.body) b.cycle (value_of b.body) (entries_of b.body)

-- The read as a verdict line has it.
abbrev pub line_read : Read → ReadOf
line_read r = record { item = r.item; cycle = r.cycle; value = r.value }

-- The read that a bucket gives is of the wanted item.
abbrev pub is_read_wanted : Option ℕ → Option Read → Bool
is_read_wanted item None = false
is_read_wanted item (Some x) = is_wanted item x.item
