-- Worked lines and texts, as the definitions compute them.
use Rattle.std.proofs.Common.{◌≡◌, true, false, [], ◌∷◌, Some, None, refl}
use Rattle.std.specs.Prelude.{codes}
use Rattle.sourcetable.specs.declared.record.Kind.TheVariants.{Net}
use Rattle.sourcetable.specs.declared.fault.LineFault.TheVariants.{Kind, Fields}
use Rattle.sourcetable.specs.Record.{line_of}
use Rattle.sourcetable.specs.Table.{fault_of, has_end, lines_before_end, table_text}
use Rattle.sourcetable.specs.Reading.{line_end_in}

-- CAS: the tail may be `misc` alone, or the fallback's host and port and `misc`
short_tail : fault_of (codes "CAS;caster;2101;Demo;Operator;0;DEU;50.12;8.69;none") ≡ None
short_tail = refl

long_tail : fault_of (codes "CAS;caster;2101;Demo;Operator;0;DEU;50.12;8.69;0.0.0.0;0;none") ≡ None
long_tail = refl

no_tail : fault_of (codes "CAS;caster;2101;Demo;Operator;0;DEU;50.12;8.69") ≡ Some Fields
no_tail = refl

-- STR: 17 fields are too few, 18 may be empty
seventeen : fault_of (codes "STR;;;;;;;;;;;;;;;;;") ≡ Some Fields
seventeen = refl

eighteen : fault_of (codes "STR;;;;;;;;;;;;;;;;;;") ≡ None
eighteen = refl

-- the letters are whole, in capitals and with `;` behind them
unknown : fault_of (codes "XYZ;1;2;3;4;5;6;7;8") ≡ Some Kind
unknown = refl

small : fault_of (codes "net;1;2;3;4;5;6;7;8") ≡ Some Kind
small = refl

bare : fault_of (codes "NET") ≡ Some Kind
bare = refl

empty : fault_of [] ≡ Some Kind
empty = refl

-- the line of a record, whose last field may hold `;`
a_line : line_of (record {
  kind = Net;
  fields = codes "A" ∷ [] ∷ codes "B" ∷ codes "N" ∷ [] ∷ [] ∷ [] ∷ codes "x;y" ∷ [];
}) ≡ codes "NET;A;;B;N;;;;x;y"
a_line = refl

-- CR LF and LF end lines, and the lines after the first end do not count
before : lines_before_end (codes "A\nB\r\n\r\nC\rD\nENDSOURCETABLE\r\nE\nENDSOURCETABLE\n") ≡ codes "A" ∷ codes "B" ∷ []
    ∷ codes "C\rD" ∷ []
before = refl

-- the end needs no line end, and is a whole line
end_of_text : has_end (codes "A\nENDSOURCETABLE") ≡ true
end_of_text = refl

longer : has_end (codes "ENDSOURCETABLES\n ENDSOURCETABLE\nENDSOURCETABLE\r") ≡ false
longer = refl

nothing : has_end [] ≡ false
nothing = refl

no_records : table_text [] ≡ codes "ENDSOURCETABLE\r\n"
no_records = refl

first_end : line_end_in (codes "AB\rC\n") ≡ Some 2
first_end = refl
