-- What reading a line or a text may answer.
use Rattle.std.specs.Prelude.{◌≡◌, ℕ, zero, suc, ◌+◌, ◌-◌, ◌<◌, ◌≤◌, true, false, nat_lt, if◌then◌else◌, List, [], ◌∷◌, ◌++◌, length, map, drop, position, Option, None, Some, Result, Ok, Err}
use Rattle.std.specs.List.{All, count_by}
use Rattle.sourcetable.specs.declared.record.Kind.{Kind as RecordKind}
use Rattle.sourcetable.specs.declared.record.Record.{Record}
use Rattle.sourcetable.specs.declared.record.Table.{Table}
use Rattle.sourcetable.specs.declared.fault.LineFault.{LineFault}
use Rattle.sourcetable.specs.declared.fault.LineFault.TheVariants as faults
use Rattle.sourcetable.specs.declared.fault.RecordFault.{RecordFault}
use Rattle.sourcetable.specs.declared.fault.RecordFault.TheVariants as records
use Rattle.sourcetable.specs.declared.fault.TableFault.{TableFault}
use Rattle.sourcetable.specs.declared.fault.TableFault.TheVariants as tables
use Rattle.sourcetable.specs.Record.{field_count, line_of, is_line_end, is_separator, IsRecord}
use Rattle.sourcetable.specs.Table.{kind_of, fault_of, most_bytes, lines_before_end, has_end}

-- the same fault of a record alone, and of the table that has it in the line of this number
abbrev pub record_fault : LineFault → RecordFault
record_fault faults.Kind = records.Kind
record_fault faults.Fields = records.Fields
record_fault faults.Memory = records.Memory

abbrev pub table_fault : ℕ → LineFault → TableFault
table_fault number faults.Kind = tables.Kind number
table_fault number faults.Fields = tables.Fields number
table_fault number faults.Memory = tables.Memory

-- the line is this record
pub record IsRecordOf (line : List ℕ) (r : Record) : Type 0 where
  pub is : IsRecord r
  pub line_is : line ≡ line_of r

-- what reading a line of a table answers: its record, or why it is none; or memory ran out
abbrev pub IsLineRead : List ℕ → Result Record LineFault → Type 0
IsLineRead line (Ok r) = IsRecordOf line r
IsLineRead line (Err faults.Kind) = fault_of line ≡ Some faults.Kind
IsLineRead line (Err faults.Fields) = fault_of line ≡ Some faults.Fields
IsLineRead line (Err faults.Memory) = Unit {0}

-- the first place of a CR or LF
abbrev pub line_end_in : List ℕ → Option ℕ
line_end_in line = position is_line_end line

-- what reading a record alone answers: no CR or LF may stand in its line
abbrev pub IsRecordRead : List ℕ → Result Record RecordFault → Type 0
IsRecordRead line (Ok r) = IsRecordOf line r × (line_end_in line ≡ None)
IsRecordRead line (Err records.Kind) = fault_of line ≡ Some faults.Kind
IsRecordRead line (Err records.Fields) = fault_of line ≡ Some faults.Fields
IsRecordRead line (Err (records.Byte place)) =
    (fault_of line ≡ None) × (line_end_in line ≡ Some place)
IsRecordRead line (Err records.Memory) = Unit {0}

-- ---- the same as a function of the line

-- a text in so many fields and one more, at each `;`: the last one takes the rest, and `front` is
-- what of the first one came before the text
abbrev pub fields_of : ℕ → List ℕ → List ℕ → List (List ℕ)
fields_of zero front text = (front ++ text) ∷ []
fields_of (suc n) front [] = front ∷ []
fields_of (suc n) front (b ∷ text) =
    if is_separator b then front ∷ fields_of n [] text else fields_of (suc n) (front ++ b ∷ []) text

-- the record of this kind: its fields follow the letters and the first `;`
abbrev pub record_of : List ℕ → RecordKind → Record
record_of line kind =
    record { kind = kind; fields = fields_of (field_count kind - 1) [] (drop 4 line) }

-- the record unless a CR or LF stands at this place
abbrev pub record_before : Record → Option ℕ → Result Record RecordFault
record_before r None = Ok r
record_before r (Some place) = Err (records.Byte place)

-- the record of a line of this kind, if it is of one, or its first fault
abbrev pub record_as : List ℕ → Option RecordKind → Result Record RecordFault
record_as line None = Err records.Kind
record_as line (Some kind) =
    if nat_lt (count_by is_separator line) (field_count kind) then Err records.Fields
    else record_before (record_of line kind) (line_end_in line)

-- the record of a line, or its first fault
abbrev pub record_read : List ℕ → Result Record RecordFault
record_read line = record_as line (kind_of line)

-- the call refused for this reason, or for want of memory
abbrev pub Refuses : RecordFault → Result Record RecordFault → Type 0
Refuses records.Memory read = Unit {0}
Refuses why read = read ≡ Err why

-- the call answered this, unless memory ran out
abbrev pub Gives : Result Record RecordFault → Result Record RecordFault → Type 0
Gives (Ok r) read = read ≡ Ok r
Gives (Err why) read = Refuses why read

-- ---- a text

-- of the lines before the end of a table, the one of this number, counted from 1, is the first that
-- is no record, and this is why
pub record IsFirstFault (text : List ℕ) (number : ℕ) (why : LineFault) : Type 0 where
  pub front : List (List ℕ)
  pub line : List ℕ
  pub more : List (List ℕ)
  pub stands : lines_before_end text ≡ front ++ line ∷ more
  pub counted : number ≡ length front + 1
  pub sound : All (λ before. fault_of before ≡ None) front
  pub fault : fault_of line ≡ Some why

-- the text has at most 1 MiB, an end, and before it the lines of exactly these records
pub record IsTableOf (text : List ℕ) (table : Table) : Type 0 where
  pub within : length text ≤ most_bytes
  pub ended : has_end text ≡ true
  pub stands : lines_before_end text ≡ map line_of table.records
  pub are : All IsRecord table.records

-- at most 1 MiB, no line is faulty, and none ends the table
pub record HasNoEnd (text : List ℕ) : Type 0 where
  pub within : length text ≤ most_bytes
  pub ended : has_end text ≡ false
  pub sound : All (λ line. fault_of line ≡ None) (lines_before_end text)

-- what reading a text answers
abbrev pub IsTableRead : List ℕ → Result Table TableFault → Type 0
IsTableRead text (Ok table) = IsTableOf text table
IsTableRead text (Err tables.Long) = most_bytes < length text
IsTableRead text (Err (tables.Kind number)) =
    (length text ≤ most_bytes) × IsFirstFault text number faults.Kind
IsTableRead text (Err (tables.Fields number)) =
    (length text ≤ most_bytes) × IsFirstFault text number faults.Fields
IsTableRead text (Err tables.NoEnd) = HasNoEnd text
IsTableRead text (Err tables.Memory) = Unit {0}
