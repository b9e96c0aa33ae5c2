-- For private steps only. The head of a bucket: its 24 bytes before the entries, and the numbers in them; and the age of an
-- entry.
use Rattle.std.specs.Prelude.{ℕ, List, [], ◌∷◌, ◌++◌}
use Rattle.byteorder.specs.Endian.{big_bytes}
use Rattle.air_history.specs.Ages.{capped}
use Rattle.air_model.specs.Buckets.{Bucket, age_of, count_of, item_of, kind_of, value_of}
use Rattle.bucket_codec.specs.declared.encoding.Head.{Head}

-- The numbers in the head of a bucket.
unfoldable pub head_of : Bucket → Head
head_of b = record {
  version = b.version;
  kind = kind_of b.body;
  edition = b.edition;
  count = count_of b.body;
  cycle = b.cycle;
  slot = b.slot;
  item = item_of b.body;
  value = value_of b.body;
}

-- The bytes of a head.
unfoldable pub head_bytes : Head → List ℕ
head_bytes h =
    0x41 ∷ 0x44 ∷ h.version ∷ h.kind ∷ [] ++ big_bytes 2 h.edition ++ big_bytes 2 h.count ++ big_bytes 4 h.cycle ++ big_bytes 2 h.slot ++ big_bytes 2 h.item ++ big_bytes 8 h.value

-- The byte of an entry that is given by its age in cycle c.
abbrev pub aged_bytes : ℕ → ℕ → List ℕ
aged_bytes c e = age_of c (capped e c) ∷ []
