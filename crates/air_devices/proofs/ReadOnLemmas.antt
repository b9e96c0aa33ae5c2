-- One more read of a file.
use Rattle.std.proofs.Common.{◌∙◌, ◌++◌, ℕ, List, Option, Some, None, sym, ap, append_assoc}
use Rattle.std.specs.Io.KnownBytes.{Consumes, Keeps, prepend_known}

-- What a read takes from the beginning of what is left comes after the bytes before it.
pub reads_on : (file left now : Option (List ℕ)) (bytes part : List ℕ) → Consumes left now part → Keeps file (prepend_known bytes left) → Keeps file (prepend_known (bytes ++ part) now)
reads_on None left now bytes part took was = tt
reads_on (Some xs) None now bytes part took was = absurd was
reads_on (Some xs) (Some ys) None bytes part took was = absurd took
reads_on (Some xs) (Some ys) (Some zs) bytes part took was = append_assoc bytes part zs ∙ ap (λ l. bytes ++ l) (sym took) ∙ was
