-- A sourcetable as a text (NTRIP 1.0, RTCM 10410.0; NTRIP 2.0, RTCM 10410.1): one record a line,
-- and then the line `ENDSOURCETABLE`. Lines end with LF or CR LF.
use Rattle.std.specs.Prelude.{ℕ, Bool, nat_lt, nat_eq, if◌then◌else◌, codes, List, [], ◌∷◌, ◌++◌, Option, None, Some}
use Rattle.std.specs.List.{before_first, count_by, flat_map, list_any, starts_with}
use Rattle.std.specs.Str.{bytes_eq}
use Rattle.std.specs.Str.Lines.{lines}
use Rattle.sourcetable.specs.declared.record.Kind.{Kind}
use Rattle.sourcetable.specs.declared.record.Kind.TheVariants.{Str, Cas, Net}
use Rattle.sourcetable.specs.declared.record.Record.{Record}
use Rattle.sourcetable.specs.declared.fault.LineFault.{LineFault}
use Rattle.sourcetable.specs.declared.fault.LineFault.TheVariants as faults
use Rattle.sourcetable.specs.Record.{letters, field_count, is_separator, line_of}

-- ---- one line

-- whether a line begins with the kind's letters and a `;`
abbrev pub begins_as : Kind → List ℕ → Bool
begins_as kind line = starts_with nat_eq line (letters kind ++ 59 ∷ [])

-- the kind of a line, by how it begins
abbrev pub kind_of : List ℕ → Option Kind
kind_of line =
    if begins_as Str line then Some Str
    else if begins_as Cas line then Some Cas
    else if begins_as Net line then Some Net
    else None

-- what is wrong with a line of this kind: it has fewer `;` than the kind has fields
abbrev pub fault_as : List ℕ → Option Kind → Option LineFault
fault_as line None = Some faults.Kind
fault_as line (Some kind) =
    if nat_lt (count_by is_separator line) (field_count kind) then Some faults.Fields else None

-- why a line is no record, if it is none
abbrev pub fault_of : List ℕ → Option LineFault
fault_of line = fault_as line (kind_of line)

-- ---- the text

-- the most bytes that a text may have, 1 MiB
abbrev pub most_bytes : ℕ
most_bytes = 1048576

-- the line that ends a table
abbrev pub is_end : List ℕ → Bool
is_end line = bytes_eq line (codes "ENDSOURCETABLE")

-- the lines before the first one that ends a table; all lines, where none does
abbrev pub lines_before_end : List ℕ → List (List ℕ)
lines_before_end text = before_first is_end (lines text)

-- whether there is a line that ends the table
abbrev pub has_end : List ℕ → Bool
has_end text = list_any is_end (lines text)

-- the line end that is written, CR LF
abbrev pub cr_lf : List ℕ
cr_lf = 13 ∷ 10 ∷ []

-- the text of a table: the line of each record, then the end, each with this line end
abbrev pub text_with : List ℕ → List Record → List ℕ
text_with line_end records =
    flat_map (λ r. line_of r ++ line_end) records ++ (codes "ENDSOURCETABLE" ++ line_end)

-- the text of a table as it is written, and its part before the end
abbrev pub table_text : List Record → List ℕ
table_text records = text_with cr_lf records

abbrev pub lines_text : List Record → List ℕ
lines_text records = flat_map (λ r. line_of r ++ cr_lf) records
