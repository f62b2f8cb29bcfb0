-- What is read as a request or as an answer is a whole head, as the buffer gives it.
use Rattle.std.proofs.Common.{◌≡◌, ◌≢◌, ◌≤◌, ◌<◌, ◌+◌, ◌∙◌, ℕ, Bool, true, false, eqb, get_or, List, [], ◌∷◌, ◌++◌, length, take, drop, append_assoc, length-append, length-drop, arith, sym, ap, subst, refl, inl, inr, Option, Some, None, Ok}
use Rattle.std.specs.Prelude.{All, IsTrue, MatchBool, codes, position, ◌==◌}
use Rattle.std.specs.Char.{is_ascii_digit}
use Rattle.std.specs.List.{flat_map}
use Rattle.std.proofs.lemmas.Bool.{false_from_ne_true, eqb-true, and_parts, eqb-false}
use Rattle.std.proofs.lemmas.List.{take-append-drop, append-nil, drop_more, get_or-take, length-take-le}
use Rattle.std.proofs.lemmas.List.Quantifiers.{position-Some}
use Rattle.std.proofs.lemmas.List.Elements.{All-append, All-cons, All-nil, All-weaker}
use Rattle.httparse.specs.Grammar.{LineEnd, crlf, lf, print_end, print_blank, print_version, Field, IsField, print_field, print_section, is_token_byte, is_uri_byte, is_value_byte, RequestHead, ResponseHead, print_reason, reason_phrase}
use Rattle.httparse.proofs.GrammarLemmas.{print_request-append, print_response-append}
use Rattle.ntrip_head.specs.declared.request.Request.{Request}
use Rattle.ntrip_head.specs.declared.upstream.Upstream.{Upstream}
use Rattle.ntrip_head.specs.Head.{ends_with_empty_line, EndsWithEmptyLine, IsHead}
use Rattle.ntrip_head.specs.Answer.{begins_in_line, IsWholeRequest, HttpAnswer, HeadAnswer}
use Rattle.ntrip_head.specs.Cut.{cut_at}
use Rattle.ntrip_head.specs.SourceHead.{is_source, IsHeaderBlock, SourceAnswer}
use Rattle.ntrip_head.specs.Upstream.{IsWholeResponse, UpstreamAnswer}
use Rattle.ntrip_head.proofs.EmptyLineLemmas.{to_line_end, from_line_end}
use Rattle.ntrip_head.proofs.TreeLemmas.{begins_token}
use Rattle.ntrip_head.proofs.OnlyLastLemmas.{NoLf, OnlyLast, EndsLf, only_line, only_section, end_size, field_line, token_no_lf, uri_no_lf, value_no_lf}

-- ---- a text of lines

-- the text is a first line, header lines and the empty line
pub record IsLines (bytes line : List ℕ) (end : LineEnd) (fields : List Field) (last : LineEnd) : Type 0 where
  pub begins : begins_in_line line ≡ true
  pub no_lf : NoLf line
  pub fields_are : All IsField fields
  pub text_is : bytes ≡ line ++ (print_end end ++ print_section fields last)

end_ends : (front : List ℕ) (end : LineEnd) → EndsLf (front ++ print_end end)
end_ends front lf = (front, refl)
end_ends front crlf = (front ++ 13 ∷ [], sym (append_assoc front (13 ∷ []) (10 ∷ [])))

fields_end : (front : List ℕ) (fields : List Field) → EndsLf front → EndsLf (front ++ flat_map print_field fields)
fields_end front [] ends = subst EndsLf (sym (append-nil front)) ends
fields_end front (f ∷ fields) ends =
    let one : EndsLf (front ++ print_field f) =
    subst EndsLf (append_assoc front (field_line f) (print_end f.end)) (end_ends (front ++ field_line f) f.end) in
    subst EndsLf (append_assoc front (print_field f) (flat_map print_field fields))
    (fields_end (front ++ print_field f) fields one)

lines_end : (bytes line : List ℕ) (end : LineEnd) (fields : List Field) (last : LineEnd)
    → IsLines bytes line end fields last
    → EndsWithEmptyLine bytes
lines_end bytes line end fields last lines =
    let front : List ℕ = (line ++ print_end end) ++ flat_map print_field fields in (
      front,
      last,
      inr (fields_end (line ++ print_end end) fields (end_ends line end)),
      lines.text_is
          ∙ regroup line (print_end end) (flat_map print_field fields) (print_end last),
    )
  where
    regroup : (a b c d : List ℕ) → a ++ (b ++ (c ++ d)) ≡ ((a ++ b) ++ c) ++ d
    regroup a b c d = sym (let e : ((a ++ b) ++ c) ++ d ≡ a ++ (b ++ (c ++ d)) = simp append_assoc in e)

only_of : (bytes line : List ℕ) (end : LineEnd) (fields : List Field) (last : LineEnd)
    → IsLines bytes line end fields last
    → OnlyLast bytes
only_of bytes line end fields last lines =
    subst OnlyLast (sym lines.text_is)
    (only_line line end (print_section fields last) lines.no_lf lines.begins
    (only_section fields last lines.fields_are))

-- no shorter front ends with an empty line
none_before : (bytes : List ℕ) → OnlyLast bytes → (n : ℕ) → n < length bytes
    → ends_with_empty_line (take n bytes) ≡ true → ⊥
none_before bytes only n lt ends =
    let line = to_line_end (take n bytes) ends in
    let rest : List ℕ = drop n bytes in
    let e : bytes ≡ line.0 ++ (print_end line.1 ++ rest) =
    sym (take-append-drop n bytes) ∙ ap (λ (l : List ℕ). l ++ rest) line.3
    ∙ append_assoc line.0 (print_end line.1) rest in
    let none : rest ≡ [] = only line.0 line.1 rest line.2 e in
    omega (arith, ap (λ (l : List ℕ). length l) none, length-drop n bytes)

pub lines_head : (bytes line : List ℕ) (end : LineEnd) (fields : List Field) (last : LineEnd)
    → IsLines bytes line end fields last
    → length bytes ≤ 8192 → IsHead bytes
lines_head bytes line end fields last lines few = record {
  ends = from_line_end bytes (lines_end bytes line end fields last lines);
  first = λ n lt. false_from_ne_true (ends_with_empty_line (take n bytes))
      (none_before bytes (only_of bytes line end fields last lines) n lt);
  within = few;
}

-- ---- requests

version_no_lf : (minor : ℕ) → NoLf (print_version minor)
version_no_lf minor =
    All-cons (λ (b : ℕ). b ≢ 10) 72 (codes "TTP/1." ++ (48 + minor) ∷ []) (λ e. absurd cc)
    (All-cons (λ (b : ℕ). b ≢ 10) 84 (codes "TP/1." ++ (48 + minor) ∷ []) (λ e. absurd cc)
    (All-cons (λ (b : ℕ). b ≢ 10) 84 (codes "P/1." ++ (48 + minor) ∷ []) (λ e. absurd cc)
    (All-cons (λ (b : ℕ). b ≢ 10) 80 (codes "/1." ++ (48 + minor) ∷ []) (λ e. absurd cc)
    (All-cons (λ (b : ℕ). b ≢ 10) 47 (codes "1." ++ (48 + minor) ∷ []) (λ e. absurd cc)
    (All-cons (λ (b : ℕ). b ≢ 10) 49 (codes "." ++ (48 + minor) ∷ []) (λ e. absurd cc)
    (All-cons (λ (b : ℕ). b ≢ 10) 46 ((48 + minor) ∷ []) (λ e. absurd cc)
    (All-cons (λ (b : ℕ). b ≢ 10) (48 + minor) [] (λ e. omega (arith, e)) (All-nil (λ (b : ℕ). b ≢ 10)))))))))

request_lines : (bytes : List ℕ) (h : RequestHead) → IsWholeRequest bytes h
    → IsLines bytes (h.method ++ 32 ∷ (h.target ++ 32 ∷ print_version h.minor)) h.line_end h.fields h.last
request_lines bytes h whole =
    let reads = whole.reads in
    let section : List ℕ = print_section h.fields h.last in
    record {
      begins = begins_token h.method (32 ∷ (h.target ++ 32 ∷ print_version h.minor)) reads.0.method;
      no_lf = All-append (λ (b : ℕ). b ≢ 10) h.method (32 ∷ (h.target ++ 32 ∷ print_version h.minor))
          (All-weaker (λ (b : ℕ). IsTrue (is_token_byte b)) (λ (b : ℕ). b ≢ 10) token_no_lf h.method reads.0.method.1)
          (All-cons (λ (b : ℕ). b ≢ 10) 32 (h.target ++ 32 ∷ print_version h.minor) (λ e. absurd cc)
          (All-append (λ (b : ℕ). b ≢ 10) h.target (32 ∷ print_version h.minor)
          (All-weaker (λ (b : ℕ). IsTrue (is_uri_byte b)) (λ (b : ℕ). b ≢ 10) uri_no_lf h.target reads.0.target.1)
          (All-cons (λ (b : ℕ). b ≢ 10) 32 (print_version h.minor) (λ e. absurd cc) (version_no_lf h.minor))));
      fields_are = reads.0.fields;
      text_is = reads.1 ∙ print_request-append h []
          ∙ ap (λ (blank : List LineEnd). print_blank blank ++
          (h.method ++ 32 ∷ (h.target ++ 32 ∷
          (print_version h.minor ++ (print_end h.line_end ++ (section ++ [])))))) whole.first
          ∙ ap (λ (l : List ℕ). h.method ++ 32 ∷
          (h.target ++ 32 ∷ (print_version h.minor ++ (print_end h.line_end ++ l)))) (append-nil section)
          ∙ regroup h.method h.target (print_version h.minor) (print_end h.line_end ++ section);
    }
  where
    regroup : (a b c d : List ℕ) → a ++ 32 ∷ (b ++ 32 ∷ (c ++ d)) ≡ (a ++ 32 ∷ (b ++ 32 ∷ c)) ++ d
    regroup a b c d = sym
        (append_assoc a (32 ∷ (b ++ 32 ∷ c)) d ∙ ap (λ (l : List ℕ). a ++ 32 ∷ l) (append_assoc b (32 ∷ c) d))

-- ---- responses

digit_no_lf : (b : ℕ) → is_ascii_digit b ≡ true → b ≢ 10
digit_no_lf b h is = let at : is_ascii_digit 10 ≡ true = subst (λ (n : ℕ). is_ascii_digit n ≡ true) is h in absurd cc

reason_no_lf : (reason : Option (List ℕ)) → All (λ (b : ℕ). IsTrue (is_value_byte b)) (reason_phrase reason)
    → NoLf (print_reason reason)
reason_no_lf None all = All-nil (λ (b : ℕ). b ≢ 10)
reason_no_lf (Some phrase) all =
    All-cons (λ (b : ℕ). b ≢ 10) 32 phrase (λ e. absurd cc)
    (All-weaker (λ (b : ℕ). IsTrue (is_value_byte b)) (λ (b : ℕ). b ≢ 10) value_no_lf phrase all)

response_lines : (bytes : List ℕ) (h : ResponseHead) → IsWholeResponse bytes h
    → IsLines bytes (print_version h.minor ++ 32 ∷ (h.digits ++ print_reason h.reason)) h.line_end h.fields h.last
response_lines bytes h whole =
    let reads = whole.reads in
    let section : List ℕ = print_section h.fields h.last in
    record {
      begins = refl;
      no_lf = All-append (λ (b : ℕ). b ≢ 10) (print_version h.minor) (32 ∷ (h.digits ++ print_reason h.reason))
          (version_no_lf h.minor)
          (All-cons (λ (b : ℕ). b ≢ 10) 32 (h.digits ++ print_reason h.reason) (λ e. absurd cc)
          (All-append (λ (b : ℕ). b ≢ 10) h.digits (print_reason h.reason)
          (All-weaker (λ (b : ℕ). IsTrue (is_ascii_digit b)) (λ (b : ℕ). b ≢ 10) digit_no_lf h.digits reads.0.digits.1)
          (reason_no_lf h.reason reads.0.reason)));
      fields_are = reads.0.fields;
      text_is = reads.1 ∙ print_response-append h []
          ∙ ap (λ (blank : List LineEnd). print_blank blank ++
          (print_version h.minor ++ 32 ∷
          (h.digits ++ (print_reason h.reason ++ (print_end h.line_end ++ (section ++ [])))))) whole.first
          ∙ ap (λ (l : List ℕ). print_version h.minor ++ 32 ∷
          (h.digits ++ (print_reason h.reason ++ (print_end h.line_end ++ l)))) (append-nil section)
          ∙ regroup (print_version h.minor) h.digits (print_reason h.reason) (print_end h.line_end ++ section);
    }
  where
    regroup : (a b c d : List ℕ) → a ++ 32 ∷ (b ++ (c ++ d)) ≡ (a ++ 32 ∷ (b ++ c)) ++ d
    regroup a b c d = sym (append_assoc a (32 ∷ (b ++ c)) d ∙ ap (λ (l : List ℕ). a ++ 32 ∷ l) (append_assoc b c d))

pub upstream_head : (bytes : List ℕ) (upstream : Upstream) → UpstreamAnswer bytes (Ok upstream) → length bytes ≤ 8192
    → IsHead bytes
upstream_head bytes upstream (inl (h, whole, e)) few = lines_head bytes _ h.line_end h.fields h.last
    (response_lines bytes h whole) few
upstream_head bytes upstream (inr (none, e)) few = absurd cc

-- ---- sources

-- a text that begins as a source's head begins in a line
source_begins : (bytes : List ℕ) → is_source bytes ≡ true → begins_in_line bytes ≡ true
source_begins [] is = absurd cc
source_begins (b ∷ bytes) is =
    let first : 83 ≡ b = eqb-true 83 b (and_parts (eqb 83 b) _ is).0 in
    subst (λ (n : ℕ). begins_in_line (n ∷ bytes) ≡ true) first refl

begins_before : (line rest : List ℕ) → begins_in_line (line ++ 10 ∷ rest) ≡ true → begins_in_line line ≡ true
begins_before [] rest h = absurd cc
begins_before (b ∷ line) rest h = h

record IsSourceText (bytes : List ℕ) : Type 0 where
  line : List ℕ
  fields : List Field
  last : LineEnd
  lines : IsLines bytes line lf fields last

no_block : IsHeaderBlock [] → ⊥
no_block (fields, last, reads, few) =
    omega (
      arith,
      ap (λ (l : List ℕ). length l) reads.1,
      length-append (print_section fields last) [],
      length-append (flat_map print_field fields) (print_end last),
      (end_size last).0,
    )

source_at : (bytes : List ℕ) (place : Option ℕ) → position (λ (b : ℕ). b == 10) bytes ≡ place → is_source bytes ≡ true
    → IsHeaderBlock (cut_at place bytes).1 → IsSourceText bytes
source_at bytes None found is block = absurd (no_block block)
source_at bytes (Some place) found is (fields, last, reads, few) =
    let line : List ℕ = take place bytes in
    let rest : List ℕ = drop (place + 1) bytes in
    let facts = position-Some (λ (b : ℕ). b == 10) bytes place 0 found in
    let here : get_or bytes place 0 ≡ 10 = eqb-true (get_or bytes place 0) 10 facts.1 in
    let e : bytes ≡ line ++ 10 ∷ rest =
    sym (take-append-drop place bytes) ∙ ap (λ (l : List ℕ). line ++ l) (drop_more bytes place 0 facts.0)
    ∙ ap (λ (n : ℕ). line ++ n ∷ rest) here in
    record {
      line = line;
      fields = fields;
      last = last;
      lines = record {
        begins = begins_before line rest (subst (λ (l : List ℕ). begins_in_line l ≡ true) e (source_begins bytes is));
        no_lf = λ k d lt.
            let below : k < place = omega (arith, lt, length-take-le place bytes (omega (arith, facts.0))) in
            let not_lf : eqb (get_or bytes k d) 10 ≡ false =
            (position-Some (λ (b : ℕ). b == 10) bytes place d found).2 k below in
            λ is. eqb-false (get_or bytes k d) 10 not_lf (sym (get_or-take place bytes k d below) ∙ is);
        fields_are = reads.0;
        text_is = e ∙ ap (λ (l : List ℕ). line ++ 10 ∷ l) (reads.1 ∙ append-nil (print_section fields last));
      };
    }

source_head : (bytes : List ℕ) (request : Request) → is_source bytes ≡ true → SourceAnswer bytes (Ok request)
    → length bytes ≤ 8192
    → IsHead bytes
source_head bytes request is (inl (block, e)) few =
    let text = source_at bytes (position (λ (b : ℕ). b == 10) bytes) refl is block in
    lines_head bytes text.line lf text.fields text.last text.lines few
source_head bytes request is (inr (none, e)) few = absurd cc

http_head : (bytes : List ℕ) (request : Request) → HttpAnswer bytes (Ok request) → length bytes ≤ 8192 → IsHead bytes
http_head bytes request (inl (h, whole, e)) few = lines_head bytes _ h.line_end h.fields h.last
    (request_lines bytes h whole) few
http_head bytes request (inr (none, e)) few = absurd cc

by_kind : (source : Bool) (bytes : List ℕ) (request : Request) → is_source bytes ≡ source
    → MatchBool source (SourceAnswer bytes (Ok request)) (HttpAnswer bytes (Ok request)) → length bytes ≤ 8192
    → IsHead bytes
by_kind true bytes request is answer few = source_head bytes request is answer few
by_kind false bytes request is answer few = http_head bytes request answer few

pub request_head : (bytes : List ℕ) (request : Request) → HeadAnswer bytes (Ok request) → length bytes ≤ 8192
    → IsHead bytes
request_head bytes request answer few = by_kind (is_source bytes) bytes request refl answer few
