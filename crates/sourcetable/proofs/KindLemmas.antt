-- How a line begins, and whether it is some record's.
use Rattle.std.proofs.Common.{◌≡◌, ℕ, ◌+◌, ◌<◌, ◌≤◌, true, false, List, [], ◌∷◌, ◌++◌, length, drop, Some, None, refl, sym, ap, subst, ◌∙◌, arith, inl, inr}
use Rattle.std.specs.Prelude.{nat_eq}
use Rattle.std.specs.List.{count_by}
use Rattle.std.proofs.lemmas.Bool.{cases_Bool, le-ltb, lt-ltb}
use Rattle.std.proofs.lemmas.Bool.Decides.{Decides-eqb}
use Rattle.std.proofs.lemmas.Slice.Eq.{starts_is}
use Rattle.sourcetable.specs.declared.record.Kind.{Kind}
use Rattle.sourcetable.specs.declared.record.Kind.TheVariants.{Str, Cas, Net}
use Rattle.sourcetable.specs.declared.record.Record.{Record}
use Rattle.sourcetable.specs.declared.fault.LineFault.TheVariants as faults
use Rattle.sourcetable.specs.Record.{letters, field_count, fields_text, line_of, is_separator, IsRecord}
use Rattle.sourcetable.specs.Table.{begins_as, kind_of, fault_as, fault_of, is_end}
use Rattle.sourcetable.specs.Reading.{IsRecordOf}
use Rattle.sourcetable.proofs.RecordLemmas.{count-append, count_fields_least, fields_same}

-- ---- the beginning of a line

begins_split : (kind : Kind) (line : List ℕ) → begins_as kind line ≡ true → line ≡ letters kind ++ 59 ∷ drop 4 line
begins_split Str line h =
    (starts_is {E = nat_eq} Decides-eqb line (83 ∷ 84 ∷ 82 ∷ 59 ∷ []) (begins_as Str line) refl).0 h
begins_split Cas line h =
    (starts_is {E = nat_eq} Decides-eqb line (67 ∷ 65 ∷ 83 ∷ 59 ∷ []) (begins_as Cas line) refl).0 h
begins_split Net line h =
    (starts_is {E = nat_eq} Decides-eqb line (78 ∷ 69 ∷ 84 ∷ 59 ∷ []) (begins_as Net line) refl).0 h

kind_begins : (line : List ℕ) (kind : Kind) → kind_of line ≡ Some kind → begins_as kind line ≡ true
kind_begins line kind h =
    elim (cases_Bool (begins_as Str line)) [
      | inl str ↦ let e : Str ≡ kind = (let g = rw str at h in cc) in subst
          (λ (k : Kind). begins_as k line ≡ true) e str
      | inr not_str ↦ elim (cases_Bool (begins_as Cas line)) [
        | inl cas ↦ let e : Cas ≡ kind = (let g = rw (not_str, cas) at h in cc) in subst
            (λ (k : Kind). begins_as k line ≡ true) e cas
        | inr not_cas ↦ elim (cases_Bool (begins_as Net line)) [
          | inl net ↦ let e : Net ≡ kind = (let g = rw (not_str, not_cas, net) at h in cc) in subst
              (λ (k : Kind). begins_as k line ≡ true) e net
          | inr not_net ↦ absurd (let g = rw (not_str, not_cas, not_net) at h in cc)
        ]
      ]
    ]

-- a line of a kind is its letters, `;`, and the rest
pub kind_split : (line : List ℕ) (kind : Kind) → kind_of line ≡ Some kind → line ≡ letters kind ++ 59 ∷ drop 4 line
kind_split line kind h = begins_split kind line (kind_begins line kind h)

pub kind_of_letters : (kind : Kind) (rest : List ℕ) → kind_of (letters kind ++ 59 ∷ rest) ≡ Some kind
kind_of_letters Str rest = refl
kind_of_letters Cas rest = refl
kind_of_letters Net rest = refl

-- ---- how many `;` a line has

count_letters : (kind : Kind) → count_by is_separator (letters kind) ≡ 0
count_letters Str = refl
count_letters Cas = refl
count_letters Net = refl

pub count_line : (kind : Kind) (rest : List ℕ)
    → count_by is_separator (letters kind ++ rest) ≡ count_by is_separator rest
count_line kind rest =
    let parts : count_by is_separator (letters kind ++ rest) ≡ count_by is_separator
    (letters kind) + count_by is_separator rest = count-append is_separator (letters kind) rest in
    let none : count_by is_separator (letters kind) ≡ 0 = count_letters kind in
    omega arith

-- ---- faults

pub fault_kind : (line : List ℕ) → kind_of line ≡ None → fault_of line ≡ Some faults.Kind
fault_kind line none = ap (fault_as line) none

pub fault_few : (line : List ℕ) (kind : Kind) → kind_of line ≡ Some kind
    → count_by is_separator line < field_count kind → fault_of line ≡ Some faults.Fields
fault_few line kind is few = ap (fault_as line) is ∙ rw (lt-ltb _ _ few) refl

fault_none : (line : List ℕ) (kind : Kind) → kind_of line ≡ Some kind → field_count kind ≤ count_by is_separator line
    → fault_of line ≡ None
fault_none line kind is enough = ap (fault_as line) is ∙ rw (le-ltb _ _ enough) refl

-- ---- the record of a line

data HasFields : List (List ℕ) → Type 0 where
  has : (field : List ℕ) (more : List (List ℕ)) → HasFields (field ∷ more)

some_fields : (fields : List (List ℕ)) → 0 < length fields → HasFields fields
some_fields [] h = absurd (omega arith)
some_fields (field ∷ more) h = has field more

pub some_count : (kind : Kind) → 0 < field_count kind
some_count Str = omega arith
some_count Cas = omega arith
some_count Net = omega arith

kind_of_fields : (kind : Kind) (fields : List (List ℕ)) → HasFields fields
    → kind_of (letters kind ++ fields_text fields) ≡ Some kind
kind_of_fields kind [] h = elim h [ ]
kind_of_fields kind (field ∷ more) h = kind_of_letters kind (field ++ fields_text more)

pub kind_of_line : (r : Record) → IsRecord r → kind_of (line_of r) ≡ Some r.kind
kind_of_line r is =
    let some : 0 < field_count r.kind = some_count r.kind in
    let count : length r.fields ≡ field_count r.kind = is.count in
    kind_of_fields r.kind r.fields (some_fields r.fields (omega arith))

pub fault_of_line : (r : Record) → IsRecord r → fault_of (line_of r) ≡ None
fault_of_line r is =
    let least : length r.fields ≤ count_by is_separator (fields_text r.fields) = count_fields_least r.fields in
    let line : count_by is_separator (line_of r) ≡ count_by is_separator (fields_text r.fields) = count_line r.kind
    (fields_text r.fields) in
    let count : length r.fields ≡ field_count r.kind = is.count in
    fault_none (line_of r) r.kind (kind_of_line r is) (omega arith)

pub line_not_end : (kind : Kind) (rest : List ℕ) → is_end (letters kind ++ rest) ≡ false
line_not_end Str rest = refl
line_not_end Cas rest = refl
line_not_end Net rest = refl

drop_letters : (kind : Kind) (rest : List ℕ) → drop 3 (letters kind ++ rest) ≡ rest
drop_letters Str rest = refl
drop_letters Cas rest = refl
drop_letters Net rest = refl

abbrev pub make : Kind → List (List ℕ) → Record
make kind fields = record { kind = kind; fields = fields }

-- a line has one record
pub line_same : (r s : Record) → IsRecord r → IsRecord s → line_of r ≡ line_of s → r ≡ s
line_same r s ir is e =
    let kinds : Some r.kind ≡ Some s.kind = sym (kind_of_line r ir) ∙ ap kind_of e ∙ kind_of_line s is in
    let kind : r.kind ≡ s.kind = cc in
    let texts : fields_text r.fields ≡ fields_text s.fields
    = sym (drop_letters r.kind (fields_text r.fields)) ∙ ap (drop 3) e ∙ drop_letters s.kind (fields_text s.fields) in
    let len : length r.fields ≡ length s.fields = ir.count ∙ ap field_count kind ∙ sym is.count in
    let fields : r.fields ≡ s.fields = fields_same r.fields s.fields len ir.free is.free texts in
    ap (λ (k : Kind). make k r.fields) kind ∙ ap (make s.kind) fields

pub fault_of_record : (line : List ℕ) (r : Record) → IsRecordOf line r → fault_of line ≡ None
fault_of_record line r of = ap fault_of of.line_is ∙ fault_of_line r of.is
