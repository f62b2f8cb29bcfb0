-- What the relation allows of a line is what the function gives.
use Rattle.std.proofs.Common.{◌≡◌, ℕ, ◌+◌, ◌-◌, List, [], ◌∷◌, ◌++◌, length, drop, suc, Option, Some, None, Result, Ok, Err, refl, ap, ◌∙◌, inl, inr, arith, append_assoc}
use Rattle.std.specs.List.{count_by, list_any}
use Rattle.std.proofs.lemmas.Bool.{or_parts, lt-ltb, le-ltb, cases_lt}
use Rattle.std.proofs.lemmas.List.{append-nil}
use Rattle.cast_text.specs.Split.{HasNone}
use Rattle.std.proofs.Common.{subst, sym}
use Rattle.sourcetable.specs.declared.record.Kind.{Kind}
use Rattle.sourcetable.specs.declared.record.Kind.TheVariants.{Str, Cas, Net}
use Rattle.sourcetable.specs.declared.record.Record.{Record}
use Rattle.sourcetable.specs.declared.fault.LineFault.TheVariants as faults
use Rattle.sourcetable.specs.declared.fault.RecordFault.{RecordFault}
use Rattle.sourcetable.specs.declared.fault.RecordFault.TheVariants as records
use Rattle.sourcetable.specs.Record.{letters, field_count, fields_text, is_separator, AreFreeButLast}
use Rattle.sourcetable.specs.Table.{kind_of, fault_as}
use Rattle.sourcetable.specs.Reading.{fields_of, record_of, record_before, record_as, record_read, line_end_in, Gives, IsRecordOf, IsRecordRead}
use Rattle.sourcetable.proofs.KindLemmas.{kind_of_line, fault_of_record, make}
use Rattle.sourcetable.proofs.BackLemmas.{record_exists}

-- a field up to its `;`
fields_first : (n : ℕ) (front field rest : List ℕ) → HasNone is_separator field
    → fields_of (suc n) front (field ++ 59 ∷ rest) ≡ (front ++ field) ∷ fields_of n [] rest
fields_first n front [] rest none = rw (append-nil front)
fields_first n front (b ∷ field) rest none =
    let parts = or_parts (is_separator b) (list_any is_separator field) none in
    rw parts.0 (fields_first n (front ++ b ∷ []) field rest parts.1 ∙ ap (λ (f : List ℕ). f ∷ fields_of n [] rest)
    (append_assoc front (b ∷ []) field))

fields_all : (field : List ℕ) (more : List (List ℕ)) → AreFreeButLast (field ∷ more)
    → fields_of (length more) [] (field ++ fields_text more) ≡ field ∷ more
fields_all field [] free = ap (λ (f : List ℕ). f ∷ []) (append-nil field)
fields_all field (second ∷ more) free =
    fields_first (length more) [] field (second ++ fields_text more) free.0
    ∙ ap (λ (fs : List (List ℕ)). field ∷ fs) (fields_all second more free.1)

-- the fields after the letters and the first `;`
fields_after : (kind : Kind) (n : ℕ) (fields : List (List ℕ)) → length fields ≡ n + 1 → AreFreeButLast fields
    → fields_of n [] (drop 4 (letters kind ++ fields_text fields)) ≡ fields
fields_after kind n [] count free = absurd (omega arith)
fields_after Str n (field ∷ more) count free =
    let same : n ≡ length more = omega arith in rw same (fields_all field more free)
fields_after Cas n (field ∷ more) count free =
    let same : n ≡ length more = omega arith in rw same (fields_all field more free)
fields_after Net n (field ∷ more) count free =
    let same : n ≡ length more = omega arith in rw same (fields_all field more free)

one_less : (kind : Kind) → field_count kind ≡ (field_count kind - 1) + 1
one_less Str = refl
one_less Cas = refl
one_less Net = refl

record_is_of : (line : List ℕ) (r : Record) → IsRecordOf line r → record_of line r.kind ≡ r
record_is_of line r of =
    ap (λ (l : List ℕ). record_of l r.kind) of.line_is
    ∙ ap (make r.kind) (fields_after r.kind (field_count r.kind - 1) r.fields (of.is.count ∙ one_less r.kind)
    of.is.free)

kind_is_of : (line : List ℕ) (r : Record) → IsRecordOf line r → kind_of line ≡ Some r.kind
kind_is_of line r of = ap kind_of of.line_is ∙ kind_of_line r of.is

-- what the test of faults says, in each case of the kind
no_kind : (line : List ℕ) (kind : Option Kind) → fault_as line kind ≡ Some faults.Kind
    → record_as line kind ≡ Err records.Kind
no_kind line None e = refl
no_kind line (Some kind) e =
    elim (cases_lt (count_by is_separator line) (field_count kind)) [
      | inl few ↦ absurd (let h = rw (lt-ltb _ _ few) at e in cc)
      | inr enough ↦ absurd (let h = rw (le-ltb _ _ enough) at e in cc)
    ]

too_few : (line : List ℕ) (kind : Option Kind) → fault_as line kind ≡ Some faults.Fields
    → record_as line kind ≡ Err records.Fields
too_few line None e = absurd cc
too_few line (Some kind) e =
    elim (cases_lt (count_by is_separator line) (field_count kind)) [
      | inl few ↦ rw (lt-ltb _ _ few) refl
      | inr enough ↦ absurd (let h = rw (le-ltb _ _ enough) at e in cc)
    ]

-- no fault, and so the line end decides
abbrev kinds_record : List ℕ → Option Kind → Result Record RecordFault
kinds_record line None = Err records.Kind
kinds_record line (Some kind) = record_before (record_of line kind) (line_end_in line)

no_fault : (line : List ℕ) (kind : Option Kind) → fault_as line kind ≡ None
    → record_as line kind ≡ kinds_record line kind
no_fault line None e = absurd cc
no_fault line (Some kind) e =
    elim (cases_lt (count_by is_separator line) (field_count kind)) [
      | inl few ↦ absurd (let h = rw (lt-ltb _ _ few) at e in cc)
      | inr enough ↦ rw (le-ltb _ _ enough) refl
    ]

end_at : (line : List ℕ) (kind : Option Kind) (place : ℕ) → fault_as line kind ≡ None → line_end_in line ≡ Some place
    → record_as line kind ≡ Err (records.Byte place)
end_at line None place e at = absurd cc
end_at line (Some kind) place e at = no_fault line (Some kind) e ∙ ap (record_before (record_of line kind)) at

-- what may be answered is what the function gives
pub given_by_function : (line : List ℕ) (answer : Result Record RecordFault) → IsRecordRead line answer
    → Gives answer (record_read line)
given_by_function line (Ok r) of =
    no_fault line (kind_of line) (fault_of_record line r of.0)
    ∙ ap (kinds_record line) (kind_is_of line r of.0)
    ∙ ap (record_before (record_of line r.kind)) of.1
    ∙ ap Ok (record_is_of line r of.0)
given_by_function line (Err records.Kind) of = no_kind line (kind_of line) of
given_by_function line (Err records.Fields) of = too_few line (kind_of line) of
given_by_function line (Err (records.Byte place)) of = end_at line (kind_of line) place of.0 of.1
given_by_function line (Err records.Memory) of = tt

-- ---- what the function gives is a record of the line

faultless : (line : List ℕ) (kind : Option Kind) (r : Record) → record_as line kind ≡ Ok r → fault_as line kind ≡ None
faultless line None r e = absurd cc
faultless line (Some kind) r e =
    elim (cases_lt (count_by is_separator line) (field_count kind)) [
      | inl few ↦ absurd (let h = rw (lt-ltb _ _ few) at e in cc)
      | inr enough ↦ rw (le-ltb _ _ enough) refl
    ]

no_place : (found r : Record) (place : Option ℕ) → record_before found place ≡ Ok r → place ≡ None
no_place found r None e = refl
no_place found r (Some place) e = absurd cc

endless : (line : List ℕ) (kind : Option Kind) (r : Record) → record_as line kind ≡ Ok r → line_end_in line ≡ None
endless line None r e = absurd cc
endless line (Some kind) r e =
    elim (cases_lt (count_by is_separator line) (field_count kind)) [
      | inl few ↦ absurd (let h = rw (lt-ltb _ _ few) at e in cc)
      | inr enough ↦ no_place (record_of line kind) r (line_end_in line) (rw (le-ltb _ _ enough) at e)
    ]

abbrev read : Record → Result Record RecordFault
read r = Ok r

read_same : (r s : Record) → read r ≡ read s → r ≡ s
read_same r s e = cc

pub read_is : (line : List ℕ) (r : Record) → record_read line ≡ Ok r → IsRecordOf line r
read_is line r e =
    let found = record_exists line (faultless line (kind_of line) r e) in
    let none = endless line (kind_of line) r e in
    subst (IsRecordOf line) (read_same found.0 r (sym (given_by_function line (Ok found.0) (found.1, none)) ∙ e))
    found.1
