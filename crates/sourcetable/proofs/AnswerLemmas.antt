-- A text has one answer, and so has a line: what the relations allow is one value, but for memory.
use Rattle.std.proofs.Common.{◌≡◌, ◌≢◌, ℕ, ◌+◌, ◌≤◌, Bool, true, false, ltb, List, [], ◌∷◌, ◌++◌, length, map, Option, Some, None, Result, Ok, Err, refl, sym, ap, ◌∙◌, arith}
use Rattle.std.specs.List.{All}
use Rattle.std.proofs.lemmas.Bool.{le-ltb, lt-ltb}
use Rattle.std.proofs.lemmas.List.Elements.{All-head, All-tail, All-same}
use Rattle.sourcetable.specs.declared.record.Record.{Record}
use Rattle.sourcetable.specs.declared.record.Table.{Table}
use Rattle.sourcetable.specs.declared.fault.LineFault.{LineFault}
use Rattle.sourcetable.specs.declared.fault.LineFault.TheVariants as faults
use Rattle.sourcetable.specs.declared.fault.RecordFault.{RecordFault}
use Rattle.sourcetable.specs.declared.fault.RecordFault.TheVariants as records
use Rattle.sourcetable.specs.declared.fault.TableFault.{TableFault}
use Rattle.sourcetable.specs.declared.fault.TableFault.TheVariants as tables
use Rattle.sourcetable.specs.Record.{line_of, IsRecord}
use Rattle.sourcetable.specs.Table.{fault_of, lines_before_end, has_end, most_bytes}
use Rattle.sourcetable.specs.Reading.{record_fault, table_fault, line_end_in, IsRecordOf, IsRecordRead, IsFirstFault, IsTableOf, IsTableRead}
use Rattle.sourcetable.proofs.KindLemmas.{fault_of_record, line_same}
use Rattle.sourcetable.proofs.TableLemmas.{sound_records}

-- ---- lists of records

head_same : {X : Type 0} (x y : X) (xs ys : List X) → x ∷ xs ≡ y ∷ ys → x ≡ y
head_same x y xs ys e = cc

tail_same : {X : Type 0} (x y : X) (xs ys : List X) → x ∷ xs ≡ y ∷ ys → xs ≡ ys
tail_same x y xs ys e = cc

records_same : (rs ss : List Record) → All IsRecord rs → All IsRecord ss → map line_of rs ≡ map line_of ss → rs ≡ ss
records_same [] [] ar bs e = refl
records_same [] (s ∷ ss) ar bs e = absurd cc
records_same (r ∷ rs) [] ar bs e = absurd cc
records_same (r ∷ rs) (s ∷ ss) ar bs e =
    let first : r ≡ s = line_same r s (All-head IsRecord r rs ar) (All-head IsRecord s ss bs)
    (head_same (line_of r) (line_of s) (map line_of rs) (map line_of ss) e) in
    let rest : rs ≡ ss = records_same rs ss (All-tail IsRecord r rs ar) (All-tail IsRecord s ss bs)
    (tail_same (line_of r) (line_of s) (map line_of rs) (map line_of ss) e) in
    cc

-- ---- the one verdict on a text

abbrev or_next : ℕ → Option LineFault → Option TableFault → Option TableFault
or_next number (Some why) rest = Some (table_fault number why)
or_next number None rest = rest

abbrev first_from : ℕ → List (List ℕ) → Option TableFault
first_from number [] = None
first_from number (line ∷ more) = or_next number (fault_of line) (first_from (number + 1) more)

abbrev Sound : List ℕ → Type 0
Sound line = fault_of line ≡ None

none_found : (number : ℕ) (ls : List (List ℕ)) → All Sound ls → first_from number ls ≡ None
none_found number [] sound = refl
none_found number (line ∷ more) sound =
    let first : fault_of line ≡ None = All-head Sound line more sound in
    ap (λ (f : Option LineFault). or_next number f (first_from (number + 1) more)) first
    ∙ none_found (number + 1) more (All-tail Sound line more sound)

found : (number : ℕ) (front : List (List ℕ)) (line : List ℕ) (more : List (List ℕ)) (why : LineFault)
    → All Sound front → fault_of line ≡ Some why
    → first_from number (front ++ line ∷ more) ≡ Some (table_fault (number + length front) why)
found number [] line more why sound fault =
    let here : number + 0 ≡ number = omega arith in
    ap (λ (f : Option LineFault). or_next number f (first_from (number + 1) more)) fault
    ∙ ap (λ (n : ℕ). Some (table_fault n why)) (sym here)
found number (before ∷ front) line more why sound fault =
    let first : fault_of before ≡ None = All-head Sound before front sound in
    let there : (number + 1) + length front ≡ number + length (before ∷ front) = omega arith in
    ap (λ (f : Option LineFault). or_next number f (first_from (number + 1) (front ++ line ∷ more))) first
    ∙ found (number + 1) front line more why (All-tail Sound before front sound) fault
    ∙ ap (λ (n : ℕ). Some (table_fault n why)) there

abbrev verdict_of : Bool → Option TableFault → Bool → Result (Unit {0}) TableFault
verdict_of true first ended = Err tables.Long
verdict_of false (Some e) ended = Err e
verdict_of false None true = Ok tt
verdict_of false None false = Err tables.NoEnd

abbrev verdict : List ℕ → Result (Unit {0}) TableFault
verdict text = verdict_of (ltb most_bytes (length text)) (first_from 1 (lines_before_end text)) (has_end text)

abbrev bare : {X E : Type 0} → Result X E → Result (Unit {0}) E
bare (Ok x) = Ok tt
bare (Err e) = Err e

short : (text : List ℕ) (first : Option TableFault) (ended : Bool) → length text ≤ most_bytes
    → first_from 1 (lines_before_end text) ≡ first → has_end text ≡ ended
    → verdict text ≡ verdict_of false first ended
short text first ended within is ends =
    ap (λ (b : Bool). verdict_of b (first_from 1 (lines_before_end text)) (has_end text)) (le-ltb _ _ within)
    ∙ ap (λ (f : Option TableFault). verdict_of false f (has_end text)) is
    ∙ ap (verdict_of false first) ends

fault_found : (text : List ℕ) (number : ℕ) (why : LineFault) → IsFirstFault text number why
    → first_from 1 (lines_before_end text) ≡ Some (table_fault number why)
fault_found text number why h =
    let counted : 1 + length h.front ≡ number = omega (arith, h.counted) in
    ap (first_from 1) h.stands ∙ found 1 h.front h.line h.more why h.sound h.fault
    ∙ ap (λ (n : ℕ). Some (table_fault n why)) counted

one_verdict : (text : List ℕ) (answer : Result Table TableFault) → IsTableRead text answer
    → answer ≢ Err tables.Memory → verdict text ≡ bare answer
one_verdict text (Ok table) h not_memory =
    short text None true h.within
    (none_found 1 (lines_before_end text)
    (All-same Sound (lines_before_end text) (map line_of table.records) h.stands
    (sound_records table.records h.are))) h.ended
one_verdict text (Err tables.Long) h not_memory =
    ap (λ (b : Bool). verdict_of b (first_from 1 (lines_before_end text)) (has_end text)) (lt-ltb _ _ h)
one_verdict text (Err (tables.Kind number)) h not_memory =
    short text (Some (tables.Kind number)) (has_end text) h.0 (fault_found text number faults.Kind h.1) refl
one_verdict text (Err (tables.Fields number)) h not_memory =
    short text (Some (tables.Fields number)) (has_end text) h.0 (fault_found text number faults.Fields h.1) refl
one_verdict text (Err tables.NoEnd) h not_memory =
    short text None false h.within (none_found 1 (lines_before_end text) h.sound) h.ended
one_verdict text (Err tables.Memory) h not_memory = absurd (not_memory refl)

abbrev make_table : List Record → Table
make_table rs = record { records = rs }

pub one_table : (text : List ℕ) (t u : Table) → IsTableOf text t → IsTableOf text u → t ≡ u
one_table text t u ht hu = ap make_table (records_same t.records u.records ht.are hu.are (sym ht.stands ∙ hu.stands))

pub one_table_answer : (text : List ℕ) (a b : Result Table TableFault) → IsTableRead text a → IsTableRead text b
    → a ≢ Err tables.Memory → b ≢ Err tables.Memory → a ≡ b
one_table_answer text (Ok t) (Ok u) ha hb na nb = ap (λ (t : Table). Ok t) (one_table text t u ha hb)
one_table_answer text (Ok t) (Err f) ha hb na nb =
    absurd (let e = sym (one_verdict text (Ok t) ha na) ∙ one_verdict text (Err f) hb nb in cc)
one_table_answer text (Err e) (Ok u) ha hb na nb =
    absurd (let e = sym (one_verdict text (Err e) ha na) ∙ one_verdict text (Ok u) hb nb in cc)
one_table_answer text (Err e) (Err f) ha hb na nb =
    let same : bare {X = Table} (Err e) ≡ bare {X = Table} (Err f) = sym (one_verdict text (Err e) ha na)
    ∙ one_verdict text (Err f) hb nb in
    let fault : e ≡ f = cc in
    ap (λ (g : TableFault). Err g) fault

-- ---- the one verdict on a line

abbrev line_verdict_of : Option LineFault → Option ℕ → Result (Unit {0}) RecordFault
line_verdict_of (Some why) place = Err (record_fault why)
line_verdict_of None (Some place) = Err (records.Byte place)
line_verdict_of None None = Ok tt

abbrev line_verdict : List ℕ → Result (Unit {0}) RecordFault
line_verdict line = line_verdict_of (fault_of line) (line_end_in line)

judged : (line : List ℕ) (fault : Option LineFault) (place : Option ℕ) → fault_of line ≡ fault
    → line_end_in line ≡ place → line_verdict line ≡ line_verdict_of fault place
judged line fault place f p = ap (λ (g : Option LineFault). line_verdict_of g (line_end_in line)) f
    ∙ ap (line_verdict_of fault) p

one_line_verdict : (line : List ℕ) (answer : Result Record RecordFault) → IsRecordRead line answer
    → answer ≢ Err records.Memory → line_verdict line ≡ bare answer
one_line_verdict line (Ok r) h not_memory = judged line None None (fault_of_record line r h.0) h.1
one_line_verdict line (Err records.Kind) h not_memory = judged line (Some faults.Kind) (line_end_in line) h refl
one_line_verdict line (Err records.Fields) h not_memory = judged line (Some faults.Fields) (line_end_in line) h refl
one_line_verdict line (Err (records.Byte place)) h not_memory = judged line None (Some place) h.0 h.1
one_line_verdict line (Err records.Memory) h not_memory = absurd (not_memory refl)

pub one_record : (line : List ℕ) (r s : Record) → IsRecordOf line r → IsRecordOf line s → r ≡ s
one_record line r s hr hs = line_same r s hr.is hs.is (sym hr.line_is ∙ hs.line_is)

pub one_record_answer : (line : List ℕ) (a b : Result Record RecordFault) → IsRecordRead line a → IsRecordRead line b
    → a ≢ Err records.Memory → b ≢ Err records.Memory → a ≡ b
one_record_answer line (Ok r) (Ok s) ha hb na nb = ap (λ (r : Record). Ok r) (one_record line r s ha.0 hb.0)
one_record_answer line (Ok r) (Err f) ha hb na nb =
    absurd (let e = sym (one_line_verdict line (Ok r) ha na) ∙ one_line_verdict line (Err f) hb nb in cc)
one_record_answer line (Err e) (Ok s) ha hb na nb =
    absurd (let e = sym (one_line_verdict line (Err e) ha na) ∙ one_line_verdict line (Ok s) hb nb in cc)
one_record_answer line (Err e) (Err f) ha hb na nb =
    let same : bare {X = Record} (Err e) ≡ bare {X = Record} (Err f) = sym (one_line_verdict line (Err e) ha na)
    ∙ one_line_verdict line (Err f) hb nb in
    let fault : e ≡ f = cc in
    ap (λ (g : RecordFault). Err g) fault
