-- Definitions for what is read of a datagram.
use Rattle.std.specs.Prelude.{ℕ, List}
use Rattle.air_model.specs.Buckets.{Bucket, IsBucket}
use Rattle.bucket_codec.specs.declared.view.ViewKind.{ViewKind}
use Rattle.bucket_codec.specs.declared.view.ViewKind.TheVariants.{Idle, Column, Vector}

-- The bytes are no bucket.
abbrev pub IsNoBucket : List ℕ → Type 0
IsNoBucket bytes = (b : Bucket) → IsBucket bytes b → ⊥

-- The number that stands for a kind in the bytes.
abbrev pub kind_number : ViewKind → ℕ
kind_number Idle = 0
kind_number Column = 1
kind_number Vector = 2
