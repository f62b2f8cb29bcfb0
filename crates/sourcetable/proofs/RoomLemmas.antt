-- A part of what is written is within the whole.
use Rattle.std.proofs.Common.{ℕ, ◌∷◌, ◌+◌, ◌≤◌, ◌<◌, List, ◌++◌, length, take, get_or, arith}
use Rattle.std.proofs.lemmas.List.{length-append}
use Rattle.std.proofs.lemmas.List.Folds.{length-flat_map-take}
use Rattle.sourcetable.specs.declared.record.Record.{Record}
use Rattle.sourcetable.specs.Record.{fields_text, line_of}
use Rattle.sourcetable.specs.Table.{cr_lf, lines_text}

-- one more field, with the `;` before it
pub field_within : (fields : List (List ℕ)) (i : ℕ) (d : List ℕ) → i < length fields
    → length (fields_text (take i fields)) + (length (get_or fields i d) + 1) ≤ length (fields_text fields)
field_within fields i d inside = omega (arith, length-flat_map-take (λ (field : List ℕ). 59 ∷ field) fields i d inside)

-- one more line, with its end
pub line_within : (records : List Record) (i : ℕ) (d : Record) → i < length records
    → length (lines_text (take i records)) + (length (line_of (get_or records i d)) + 2) ≤ length (lines_text records)
line_within records i d inside =
    omega (
      arith,
      length-flat_map-take (λ (r : Record). line_of r ++ cr_lf) records i d inside,
      length-append
          (line_of (get_or records i d)) cr_lf,
    )
