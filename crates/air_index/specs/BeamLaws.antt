-- The word of the law of what an indexed tape carries, `beam_law`.
use Rattle.std.specs.Prelude.{ℕ, if◌then◌else◌, List, [], ◌∷◌, drop}
use Rattle.std.specs.List.{flat_map}
use Rattle.air_index.specs.Records.{is_data}

-- The data records among these, in order, each without its first five bytes.
abbrev pub data_of : List (List ℕ) → List (List ℕ)
data_of records = flat_map (λ r. if is_data r then drop 5 r ∷ [] else []) records
