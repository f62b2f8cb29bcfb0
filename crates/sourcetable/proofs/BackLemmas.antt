-- A table that was written reads back; and a line without a fault is some record's.
use Rattle.std.proofs.Common.{◌≡◌, ◌≢◌, ℕ, zero, suc, ◌+◌, ◌-◌, ◌≤◌, ◌<◌, Bool, eqb, List, [], ◌∷◌, ◌++◌, length, map, take, drop, Option, Some, None, Result, Ok, Err, refl, sym, ap, subst, ◌∙◌, arith, inl, inr, append_assoc}
use Rattle.std.specs.Prelude.{position, codes}
use Rattle.std.specs.List.{All, count_by, flat_map, list_any}
use Rattle.std.specs.Str.Lines.{lines}
use Rattle.std.proofs.lemmas.Bool.{cases_lt, or_from, or_parts}
use Rattle.std.proofs.lemmas.List.{append-nil}
use Rattle.std.proofs.lemmas.List.Elements.{All-cons, All-head, All-nil, All-tail, All-weaker}
use Rattle.std.proofs.lemmas.List.Folds.{list_any-append}
use Rattle.sourcetable.specs.declared.record.Kind.{Kind}
use Rattle.sourcetable.specs.declared.record.Kind.TheVariants.{Str, Cas, Net}
use Rattle.sourcetable.specs.declared.record.Record.{Record}
use Rattle.sourcetable.specs.declared.record.Table.{Table}
use Rattle.sourcetable.specs.declared.fault.TableFault.{TableFault}
use Rattle.sourcetable.specs.declared.fault.TableFault.TheVariants as tables
use Rattle.sourcetable.specs.Record.{letters, field_count, fields_text, line_of, is_separator, is_line_end, AreFreeButLast, IsRecord, IsOneLine}
use Rattle.cast_text.specs.Split.{HasNone}
use Rattle.sourcetable.specs.Table.{kind_of, fault_of, most_bytes, cr_lf, text_with}
use Rattle.sourcetable.specs.Reading.{line_end_in, IsRecordOf, IsTableOf, IsTableRead}
use Rattle.cast_text.proofs.SplitLemmas.{is_lf, lines_front, none-append, parts_at, position_none, position_some, strip_none, strip_one}
use Rattle.sourcetable.proofs.RecordLemmas.{count-append, count_behind, count_none}
use Rattle.sourcetable.proofs.KindLemmas.{fault_kind, fault_few, kind_split, count_line, some_count}
use Rattle.sourcetable.proofs.TableLemmas.{IsReadSoFar, read_whole}
use Rattle.sourcetable.proofs.AnswerLemmas.{one_table_answer}

-- ---- a byte that a text has nowhere

none_parts : (p : ℕ → Bool) (a b : List ℕ) → HasNone p (a ++ b) → HasNone p a × HasNone p b
none_parts p a b h = or_parts (list_any p a) (list_any p b) (sym (list_any-append p a b) ∙ h)

letters_none : (kind : Kind) → HasNone is_line_end (letters kind)
letters_none Str = refl
letters_none Cas = refl
letters_none Net = refl

fields_none : (fields : List (List ℕ)) → All (HasNone is_line_end) fields → HasNone is_line_end (fields_text fields)
fields_none [] h = refl
fields_none (field ∷ more) h =
    none-append is_line_end field (fields_text more) (All-head (HasNone is_line_end) field more h)
    (fields_none more (All-tail (HasNone is_line_end) field more h))

line_none : (r : Record) → IsOneLine r → HasNone is_line_end (line_of r)
line_none r h = none-append is_line_end (letters r.kind) (fields_text r.fields) (letters_none r.kind)
    (fields_none r.fields h.ends)

each_none : (fields : List (List ℕ)) → HasNone is_line_end (fields_text fields) → All (HasNone is_line_end) fields
each_none [] h = All-nil (HasNone is_line_end)
each_none (field ∷ more) h =
    let parts = none_parts is_line_end field (fields_text more) h in
    All-cons (HasNone is_line_end) field more parts.0 (each_none more parts.1)

-- the record of a line without CR and LF is one line
pub one_line : (line : List ℕ) (r : Record) → IsRecordOf line r → line_end_in line ≡ None → IsOneLine r
one_line line r of none =
    let whole : HasNone is_line_end (line_of r) = subst (HasNone is_line_end) of.line_is
    (position_none is_line_end line none) in
    record {
      is = of.is;
      ends = each_none r.fields
          (none_parts is_line_end (letters r.kind) (fields_text r.fields) whole).1;
    }

lf_none : (text : List ℕ) → HasNone is_line_end text → HasNone is_lf text
lf_none [] h = refl
lf_none (x ∷ xs) h =
    let parts = or_parts (is_line_end x) (list_any is_line_end xs) h in
    or_from (is_lf x) (list_any is_lf xs) (or_parts (eqb x 13) (eqb x 10) parts.0).1 (lf_none xs parts.1)

cr_none : (text : List ℕ) → HasNone is_line_end text → HasNone (λ b. eqb b 13) text
cr_none [] h = refl
cr_none (x ∷ xs) h =
    let parts = or_parts (is_line_end x) (list_any is_line_end xs) h in
    or_from (eqb x 13) (list_any (λ b. eqb b 13) xs) (or_parts (eqb x 13) (eqb x 10) parts.0).0 (cr_none xs parts.1)

-- ---- lines that end

-- these bytes end a line
pub record EndsLine (line_end : List ℕ) : Type 0 where
  pub ends : (line rest : List ℕ) → HasNone is_line_end line → lines (line ++ (line_end ++ rest)) ≡ line ∷ lines rest

pub cr_lf_ends : EndsLine cr_lf
cr_lf_ends = record {
  ends = λ line rest none.
      ap lines (sym (append_assoc line (13 ∷ []) (10 ∷ rest)))
      ∙ lines_front (line ++ 13 ∷ []) rest (none-append is_lf line (13 ∷ []) (lf_none line none) refl)
      ∙ ap (λ (l : List ℕ). l ∷ lines rest) (strip_one line);
}

pub lf_ends : EndsLine (10 ∷ [])
lf_ends = record {
  ends = λ line rest none.
      lines_front line rest (lf_none line none)
      ∙ ap (λ (l : List ℕ). l ∷ lines rest) (strip_none line (cr_none line none));
}

lines_records : (e : List ℕ) (rs : List Record) (rest : List ℕ) → EndsLine e → All IsOneLine rs
    → lines (flat_map (λ r. line_of r ++ e) rs ++ rest) ≡ map line_of rs ++ lines rest
lines_records e [] rest ends all = refl
lines_records e (r ∷ rs) rest ends all =
    let after : List ℕ = flat_map (λ s. line_of s ++ e) rs in
    ap lines (append_assoc (line_of r ++ e) after rest ∙ append_assoc (line_of r) e (after ++ rest))
    ∙ ends.ends (line_of r) (after ++ rest) (line_none r (All-head IsOneLine r rs all))
    ∙ ap (λ (ls : List (List ℕ)). line_of r ∷ ls) (lines_records e rs rest ends (All-tail IsOneLine r rs all))

written_so_far : (e : List ℕ) (rs : List Record) → EndsLine e → All IsOneLine rs
    → IsReadSoFar (text_with e rs) (codes "ENDSOURCETABLE" ++ e) rs
written_so_far e rs ends all = record {
  stands = lines_records e rs (codes "ENDSOURCETABLE" ++ e) ends all;
  are = All-weaker IsOneLine IsRecord (λ r h. h.is) rs all;
}

end_line : (e : List ℕ) → EndsLine e → lines (codes "ENDSOURCETABLE" ++ e) ≡ codes "ENDSOURCETABLE" ∷ lines []
end_line e ends =
    ap (λ (t : List ℕ). lines (codes "ENDSOURCETABLE" ++ t)) (sym (append-nil e))
    ∙ ends.ends (codes "ENDSOURCETABLE") [] refl

written_is_table : (e : List ℕ) (table : Table) → EndsLine e → All IsOneLine table.records
    → length (text_with e table.records) ≤ most_bytes
    → IsTableOf (text_with e table.records) table
written_is_table e table ends all within =
    read_whole (text_with e table.records) (codes "ENDSOURCETABLE" ++ e) [] (codes "ENDSOURCETABLE") table.records
    (written_so_far e table.records ends all) (end_line e ends) refl within

pub reads_back : (e : List ℕ) → EndsLine e → (table : Table) (answer : Result Table TableFault)
    → All IsOneLine table.records
    → length (text_with e table.records) ≤ most_bytes → IsTableRead (text_with e table.records) answer
    → answer ≢ Err tables.Memory → answer ≡ Ok table
reads_back e ends table answer all within read not_memory =
    one_table_answer (text_with e table.records) answer (Ok table) read
    (written_is_table e table ends all within) not_memory
    (λ (same : Ok table ≡ Err tables.Memory). cc)

-- ---- a line without a fault

record IsCut (text : List ℕ) : Type 0 where
  front : List ℕ
  rest : List ℕ
  none : HasNone is_separator front
  is : text ≡ front ++ 59 ∷ rest

cut_at : (text : List ℕ) (place : Option ℕ) → position is_separator text ≡ place → 0 < count_by is_separator text
    → IsCut text
cut_at text None at some =
    let none : count_by is_separator text ≡ 0 = count_none is_separator text (position_none is_separator text at) in
    absurd (omega arith)
cut_at text (Some place) at some = record {
  front = take place text;
  rest = take (length text - (place + 1)) (drop (place + 1) text);
  none = (position_some is_separator text place at).none;
  is = parts_at 59 text place at;
}

free_more : (field : List ℕ) (fields : List (List ℕ)) → HasNone is_separator field → AreFreeButLast fields
    → AreFreeButLast (field ∷ fields)
free_more field [] none free = tt
free_more field (second ∷ more) none free = (none, free)

record HasFields (n : ℕ) (text : List ℕ) : Type 0 where
  fields : List (List ℕ)
  count : length fields ≡ n + 1
  free : AreFreeButLast fields
  joined : fields_text fields ≡ 59 ∷ text

fields_exist : (n : ℕ) (text : List ℕ) → n ≤ count_by is_separator text → HasFields n text
fields_exist zero text enough = record {
  fields = text ∷ [];
  count = omega arith;
  free = tt;
  joined = ap (λ (t : List ℕ). 59 ∷ t) (append-nil text);
}
fields_exist (suc n) text enough =
    let cut : IsCut text = cut_at text (position is_separator text) refl (omega arith) in
    let a : count_by is_separator text ≡ count_by is_separator (cut.front ++ 59 ∷ cut.rest) = ap
    (count_by is_separator) cut.is in
    let b : count_by is_separator
    (cut.front ++ 59 ∷ cut.rest) ≡ count_by is_separator cut.front + count_by is_separator
    (59 ∷ cut.rest) = count-append is_separator cut.front (59 ∷ cut.rest) in
    let d : count_by is_separator cut.front ≡ 0 = count_none is_separator cut.front cut.none in
    let e : count_by is_separator (59 ∷ cut.rest) ≡ 1 + count_by is_separator cut.rest = count_behind cut.rest in
    let more : HasFields n cut.rest = fields_exist n cut.rest (omega arith) in
    record {
      fields = cut.front ∷ more.fields;
      count = (let h : length more.fields ≡ n + 1 = more.count in omega arith);
      free = free_more cut.front more.fields cut.none more.free;
      joined = ap (λ (t : List ℕ). 59 ∷ (cut.front ++ t)) more.joined ∙ ap (λ (t : List ℕ). 59 ∷ t) (sym cut.is);
    }

record_of_kind : (line : List ℕ) (kind : Kind) → kind_of line ≡ Some kind
    → field_count kind ≤ count_by is_separator line → (r : Record) × IsRecordOf line r
record_of_kind line kind is enough =
    let all : count_by is_separator line ≡ count_by is_separator (letters kind ++ 59 ∷ drop 4 line) = ap
    (count_by is_separator) (kind_split line kind is) in
    let rest : count_by is_separator (letters kind ++ 59 ∷ drop 4 line) ≡ count_by is_separator
    (59 ∷ drop 4 line) = count_line kind (59 ∷ drop 4 line) in
    let behind : count_by is_separator (59 ∷ drop 4 line) ≡ 1 + count_by is_separator (drop 4 line) = count_behind
    (drop 4 line) in
    let some : 0 < field_count kind = some_count kind in
    let has : HasFields (field_count kind - 1) (drop 4 line) = fields_exist (field_count kind - 1) (drop 4 line)
    (omega arith) in
    let count : length has.fields ≡ (field_count kind - 1) + 1 = has.count in (
      record { kind = kind; fields = has.fields },
      record {
        is = record { count = omega arith; free = has.free };
        line_is = kind_split line kind is ∙ ap (λ (t : List ℕ). letters kind ++ t) (sym has.joined);
      },
    )

record_by_kind : (line : List ℕ) (kind : Option Kind) → kind_of line ≡ kind → fault_of line ≡ None → (r : Record)
    × IsRecordOf line r
record_by_kind line None is none = absurd (let h = fault_kind line is in cc)
record_by_kind line (Some kind) is none =
    elim (cases_lt (count_by is_separator line) (field_count kind)) [
      | inl few ↦ absurd (let h = fault_few line kind is few in cc)
      | inr enough ↦ record_of_kind line kind is enough
    ]

pub record_exists : (line : List ℕ) → fault_of line ≡ None → (r : Record) × IsRecordOf line r
record_exists line none = record_by_kind line (kind_of line) refl none
