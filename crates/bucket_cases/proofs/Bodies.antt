-- The body of a bucket is known by the number of its kind and by its parts.
use Rattle.std.proofs.Common.{◌≡◌, ℕ, List, [], ap, refl}
use Rattle.air_model.specs.Buckets.{Body, Column, Idle, Vector, count_of, entries_of, item_of, kind_of, value_of}

pub idle_body : (body : Body) (n : ℕ) → 0 ≡ kind_of body → n ≡ count_of body → Idle n ≡ body
unfolding kind_of count_of
idle_body (Idle count) n kind same = ap Idle same
idle_body (Column item value entries) n kind same = cc
idle_body (Vector item value entries) n kind same = cc

pub column_body : (body : Body) (i v : ℕ) (es : List ℕ) → 1 ≡ kind_of body → i ≡ item_of body → v ≡ value_of body → es ≡ entries_of body → Column i v es ≡ body
unfolding kind_of item_of value_of entries_of
column_body (Idle count) i v es kind item value entries = cc
column_body (Column item value entries) i v es kind items values all = cc
column_body (Vector item value entries) i v es kind items values all = cc

pub vector_body : (body : Body) (i v : ℕ) (es : List ℕ) → 2 ≡ kind_of body → i ≡ item_of body → v ≡ value_of body → es ≡ entries_of body → Vector i v es ≡ body
unfolding kind_of item_of value_of entries_of
vector_body (Idle count) i v es kind item value entries = cc
vector_body (Column item value entries) i v es kind items values all = cc
vector_body (Vector item value entries) i v es kind items values all = cc

pub no_entries : (body : Body) → 0 ≡ kind_of body → [] ≡ entries_of body
unfolding kind_of entries_of
no_entries (Idle count) kind = refl
no_entries (Column item value entries) kind = cc
no_entries (Vector item value entries) kind = cc
