-- What reading has found so far, and what it then answers.
use Rattle.std.proofs.Common.{◌≡◌, ℕ, ◌+◌, ◌≤◌, true, false, not, List, [], ◌∷◌, ◌++◌, length, map, Some, None, Err, refl, sym, ap, ◌∙◌, arith, append_assoc}
use Rattle.std.specs.List.{All, before_first, list_any}
use Rattle.std.specs.Str.Lines.{lines}
use Rattle.std.proofs.lemmas.Bool.{or_left}
use Rattle.std.proofs.lemmas.List.{append-nil, length-map, map-append}
use Rattle.std.proofs.lemmas.List.Elements.{All-nil, All-push, All-map, All-weaker, All-same}
use Rattle.std.proofs.lemmas.List.Sums.{take_while-cons}
use Rattle.sourcetable.specs.declared.record.Record.{Record}
use Rattle.sourcetable.specs.declared.fault.LineFault.{LineFault}
use Rattle.sourcetable.specs.declared.fault.LineFault.TheVariants as faults
use Rattle.sourcetable.specs.Record.{fields_text, line_of, IsRecord}
use Rattle.sourcetable.specs.Table.{fault_of, is_end, lines_before_end, most_bytes}
use Rattle.sourcetable.specs.Reading.{table_fault, IsRecordOf, IsLineRead, IsFirstFault, IsTableOf, HasNoEnd, IsTableRead}
use Rattle.sourcetable.proofs.KindLemmas.{fault_of_line, line_not_end}

-- ---- lines before the end

before_at_end : (line : List ℕ) (ls : List (List ℕ)) → is_end line ≡ true → before_first is_end (line ∷ ls) ≡ []
before_at_end line ls h = rw (take_while-cons (λ l. not (is_end l)) line ls, h) refl

before_at_line : (line : List ℕ) (ls : List (List ℕ)) → is_end line ≡ false
    → before_first is_end (line ∷ ls) ≡ line ∷ before_first is_end ls
before_at_line line ls h = rw (take_while-cons (λ l. not (is_end l)) line ls, h) refl

record_not_end : (r : Record) → is_end (line_of r) ≡ false
record_not_end r = line_not_end r.kind (fields_text r.fields)

before_records : (rs : List Record) (ls : List (List ℕ))
    → before_first is_end (map line_of rs ++ ls) ≡ map line_of rs ++ before_first is_end ls
before_records [] ls = refl
before_records (r ∷ rs) ls =
    before_at_line (line_of r) (map line_of rs ++ ls) (record_not_end r)
    ∙ ap (λ (t : List (List ℕ)). line_of r ∷ t) (before_records rs ls)

any_records : (rs : List Record) (ls : List (List ℕ)) → list_any is_end (map line_of rs ++ ls) ≡ list_any is_end ls
any_records [] ls = refl
any_records (r ∷ rs) ls = rw (record_not_end r) (any_records rs ls)

pub sound_records : (rs : List Record) → All IsRecord rs → All (λ l. fault_of l ≡ None) (map line_of rs)
sound_records rs are = All-map (λ l. fault_of l ≡ None) line_of rs
    (All-weaker IsRecord (λ r. fault_of (line_of r) ≡ None) fault_of_line rs are)

-- ---- reading

-- the lines so far are those of these records
pub record IsReadSoFar (text rest : List ℕ) (rs : List Record) : Type 0 where
  pub stands : lines text ≡ map line_of rs ++ lines rest
  pub are : All IsRecord rs

pub read_none : (text : List ℕ) → IsReadSoFar text text []
read_none text = record { stands = refl; are = All-nil IsRecord }

pub read_more : (text rest more line : List ℕ) (rs : List Record) (r : Record) → IsReadSoFar text rest rs
    → lines rest ≡ line ∷ lines more → IsRecordOf line r → IsReadSoFar text more (rs ++ r ∷ [])
read_more text rest more line rs r so_far step of = record {
  stands =
      so_far.stands
      ∙ ap (λ (ls : List (List ℕ)). map line_of rs ++ ls) (step ∙ ap (λ (l : List ℕ). l ∷ lines more) of.line_is)
      ∙ sym (append_assoc (map line_of rs) (line_of r ∷ []) (lines more))
      ∙ ap (λ (ls : List (List ℕ)). ls ++ lines more) (sym (map-append line_of rs (r ∷ [])));
  are = All-push IsRecord rs r so_far.are of.is;
}

pub read_whole : (text rest more line : List ℕ) (rs : List Record) → IsReadSoFar text rest rs
    → lines rest ≡ line ∷ lines more → is_end line ≡ true → length text ≤ most_bytes
    → IsTableOf text (record { records = rs })
read_whole text rest more line rs so_far step ends within =
    let all : lines text ≡ map line_of rs ++ line ∷ lines more = so_far.stands
    ∙ ap (λ (ls : List (List ℕ)). map line_of rs ++ ls) step in
    record {
      within = within;
      ended = ap (list_any is_end) all ∙ any_records rs (line ∷ lines more)
          ∙ or_left (is_end line) (list_any is_end (lines more)) ends;
      stands =
          ap (before_first is_end) all ∙ before_records rs (line ∷ lines more)
          ∙ ap (λ (ls : List (List ℕ)). map line_of rs ++ ls) (before_at_end line (lines more) ends)
          ∙ append-nil (map line_of rs);
      are = so_far.are;
    }

first_fault : (text rest more line : List ℕ) (rs : List Record) (number : ℕ) (why : LineFault)
    → IsReadSoFar text rest rs
    → lines rest ≡ line ∷ lines more → is_end line ≡ false → number ≡ length rs + 1 → fault_of line ≡ Some why
    → IsFirstFault text number why
first_fault text rest more line rs number why so_far step goes_on counted fault =
    let all : lines text ≡ map line_of rs ++ line ∷ lines more = so_far.stands
    ∙ ap (λ (ls : List (List ℕ)). map line_of rs ++ ls) step in
    let len : length (map line_of rs) ≡ length rs = length-map rs line_of in
    record {
      front = map line_of rs;
      line = line;
      more = before_first is_end (lines more);
      stands =
          ap (before_first is_end) all ∙ before_records rs (line ∷ lines more)
          ∙ ap (λ (ls : List (List ℕ)). map line_of rs ++ ls) (before_at_line line (lines more) goes_on);
      counted = omega arith;
      sound = sound_records rs so_far.are;
      fault = fault;
    }

pub read_fault : (text rest more line : List ℕ) (rs : List Record) (number : ℕ) (why : LineFault)
    → IsReadSoFar text rest rs
    → lines rest ≡ line ∷ lines more → is_end line ≡ false → length text ≤ most_bytes → number ≡ length rs + 1
    → IsLineRead line (Err why) → IsTableRead text (Err (table_fault number why))
read_fault text rest more line rs number faults.Kind so_far step goes_on within counted fault =
    (within, first_fault text rest more line rs number faults.Kind so_far step goes_on counted fault)
read_fault text rest more line rs number faults.Fields so_far step goes_on within counted fault =
    (within, first_fault text rest more line rs number faults.Fields so_far step goes_on counted fault)
read_fault text rest more line rs number faults.Memory so_far step goes_on within counted fault = tt

pub read_no_end : (text rest : List ℕ) (rs : List Record) → IsReadSoFar text rest rs → rest ≡ []
    → length text ≤ most_bytes → HasNoEnd text
read_no_end text rest rs so_far none within =
    let all : lines text ≡ map line_of rs ++ [] = so_far.stands ∙ ap (λ (t : List ℕ). map line_of rs ++ lines t) none in
    record {
      within = within;
      ended = ap (list_any is_end) all ∙ any_records rs [];
      sound = All-same (λ l. fault_of l ≡ None) (lines_before_end text) (map line_of rs)
          (ap (before_first is_end) all ∙ before_records rs [] ∙ append-nil (map line_of rs))
          (sound_records rs so_far.are);
    }
