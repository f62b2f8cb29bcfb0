-- One record of a sourcetable (NTRIP 1.0, RTCM 10410.0; NTRIP 2.0, RTCM 10410.1): a kind and its
-- fields, which are one line.
use Rattle.std.specs.Prelude.{◌≡◌, ℕ, ◌==◌, ◌||◌, Bool, codes, List, [], ◌∷◌, ◌++◌, length}
use Rattle.std.specs.List.{All, flat_map}
use Rattle.cast_text.specs.Split.{HasNone}
use Rattle.sourcetable.specs.declared.record.Kind.{Kind}
use Rattle.sourcetable.specs.declared.record.Kind.TheVariants.{Str, Cas, Net}
use Rattle.sourcetable.specs.declared.record.Record.{Record}

-- the letters with which a kind's lines begin
abbrev pub letters : Kind → List ℕ
letters Str = codes "STR"
letters Cas = codes "CAS"
letters Net = codes "NET"

-- how many fields a record of a kind has. The last one of CAS is all that follows the longitude
abbrev pub field_count : Kind → ℕ
field_count Str = 18
field_count Cas = 9
field_count Net = 8

-- fields as they stand in a line: each behind a `;` (59)
abbrev pub fields_text : List (List ℕ) → List ℕ
fields_text fields = flat_map (λ field. 59 ∷ field) fields

-- the line of a record: the kind's letters, and its fields
abbrev pub line_of : Record → List ℕ
line_of r = letters r.kind ++ fields_text r.fields

-- the byte between fields, `;`
abbrev pub is_separator : ℕ → Bool
is_separator byte = byte == 59

-- a byte that ends a line: CR (13) or LF (10)
abbrev pub is_line_end : ℕ → Bool
is_line_end byte = byte == 13 || byte == 10

-- every field but the last one is without `;`
abbrev pub AreFreeButLast : List (List ℕ) → Type 0
AreFreeButLast [] = Unit {0}
AreFreeButLast (field ∷ []) = Unit {0}
AreFreeButLast (field ∷ second ∷ more) =
    HasNone is_separator field × AreFreeButLast (second ∷ more)

-- as many fields as the kind has, and a `;` in the last one at most
pub record IsRecord (r : Record) : Type 0 where
  pub count : length r.fields ≡ field_count r.kind
  pub free : AreFreeButLast r.fields

-- a record whose line is one line: no field holds CR or LF
pub record IsOneLine (r : Record) : Type 0 where
  pub is : IsRecord r
  pub ends : All (HasNone is_line_end) r.fields
