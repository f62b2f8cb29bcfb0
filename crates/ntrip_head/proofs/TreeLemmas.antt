-- The tree of a whole head against what the parser answers.
use Rattle.std.proofs.Common.{◌≡◌, ◌≤◌, ◌∙◌, ℕ, false, true, eqb, inl, inr, List, [], ◌∷◌, ◌++◌, length, take, arith, sym, ap, subst, refl}
use Rattle.std.proofs.Math.ListN.{drop_of_length-le}
use Rattle.std.proofs.lemmas.Bool.{cases_Bool, eqb-true}
use Rattle.std.proofs.lemmas.List.{length-map, length-take-le}
use Rattle.httparse.specs.declared.spans.HeaderSpan.{HeaderSpan}
use Rattle.httparse.specs.declared.spans.RequestSpans.{RequestSpans}
use Rattle.httparse.specs.declared.spans.ResponseSpans.{ResponseSpans}
use Rattle.httparse.specs.Grammar.{LineEnd, crlf, lf, Field, print_end, print_blank, print_version, print_section, is_token_byte, IsToken, RequestHead, ReadsRequest, ResponseHead, ReadsResponse, print_reason}
use Rattle.httparse.specs.Spans.{header_bytes, name_and_value, AreFieldsAt, IsRequestWithin, IsRequestAt, IsRequestOf, IsResponseWithin, IsResponseAt, IsResponseOf}
use Rattle.httparse.proofs.GrammarLemmas.{print_request-append, print_response-append}
use Rattle.ntrip_head.specs.Answer.{begins_in_line, IsWholeRequest}
use Rattle.ntrip_head.specs.Upstream.{IsWholeResponse}

-- ---- how a head begins

-- a byte of a token is not that of a line end
token_in_line : (b : ℕ) (rest : List ℕ) → is_token_byte b ≡ true → begins_in_line (b ∷ rest) ≡ true
unfolding is_token_byte
token_in_line b rest h =
    let other : (n : ℕ) → is_token_byte n ≡ false → eqb b n ≡ false = λ n no.
    elim (cases_Bool (eqb b n)) [
      | inl e ↦ absurd (let at : is_token_byte n ≡ true = subst (λ (m : ℕ). is_token_byte m ≡ true)
          (eqb-true b n e) h in cc)
      | inr e ↦ e
    ] in
    let not_cr : eqb b 13 ≡ false = other 13 refl in
    let not_lf : eqb b 10 ≡ false = other 10 refl in
    rw (not_cr, not_lf) refl

-- what begins with a token does not begin with a line end
pub begins_token : (token rest : List ℕ) → IsToken token → begins_in_line (token ++ rest) ≡ true
begins_token [] rest t = absurd (omega (arith, t.0))
begins_token (b ∷ bytes) rest t = token_in_line b (bytes ++ rest) (t.1 0 0 (omega arith))

-- what begins with an empty line does not
begins_blank : (blank : List LineEnd) (rest : List ℕ) → begins_in_line (print_blank blank ++ rest) ≡ true → blank ≡ []
begins_blank [] rest h = refl
begins_blank (crlf ∷ blank) rest h = absurd cc
begins_blank (lf ∷ blank) rest h = absurd cc

-- a head with no empty line before it begins in a line
pub whole_begins : (bytes : List ℕ) (h : RequestHead) → IsWholeRequest bytes h → begins_in_line bytes ≡ true
whole_begins bytes h whole =
    let reads = whole.reads in
    let text : List ℕ = h.target ++ 32 ∷
    (print_version h.minor ++ (print_end h.line_end ++ (print_section h.fields h.last ++ []))) in
    let e : bytes ≡ h.method ++ 32 ∷ text =
    reads.1 ∙ print_request-append h []
    ∙ ap (λ (blank : List LineEnd). print_blank blank ++ (h.method ++ 32 ∷ text)) whole.first in
    subst (λ (b : List ℕ). begins_in_line b ≡ true) (sym e) (begins_token h.method (32 ∷ text) reads.0.method)

-- a head that begins in a line has no empty line before it
pub first_is : (bytes rest : List ℕ) (h : RequestHead) → ReadsRequest bytes h rest → begins_in_line bytes ≡ true
    → h.blank ≡ []
first_is bytes rest h reads begins =
    begins_blank h.blank _
    (subst (λ (text : List ℕ). begins_in_line text ≡ true) (reads.1 ∙ print_request-append h rest) begins)

-- ---- how many fields it has

pub fields_fit : (bytes : List ℕ) (headers : List HeaderSpan) (count : ℕ) (fields : List Field) → count ≤ length headers
    → AreFieldsAt bytes headers count fields → length fields ≡ count
fields_fit bytes headers count fields le are =
    sym (length-map fields name_and_value) ∙ ap (λ (l : List (List ℕ × List ℕ)). length l) (sym are)
    ∙ length-map (take count headers) (header_bytes bytes)
    ∙ length-take-le count headers le

-- what the parser answers for all the bytes is a whole head
pub found_whole : (bytes : List ℕ) (headers : List HeaderSpan) (spans : RequestSpans) → begins_in_line bytes ≡ true
    → length bytes ≤ spans.len → length headers ≡ 32 → IsRequestWithin bytes headers spans
    → IsRequestOf bytes headers spans
    → (h : RequestHead) × IsWholeRequest bytes h × IsRequestAt bytes headers spans h
found_whole bytes headers spans begins all room within (h, at) =
    let reads : ReadsRequest bytes h [] = subst (λ (rest : List ℕ). ReadsRequest bytes h rest)
    (drop_of_length-le bytes all) at.reads in
    let count : spans.headers ≤ length headers = within.section.count_fits in
    let size : length h.fields ≡ spans.headers = fields_fit bytes headers spans.headers h.fields count at.fields in
    (h, record { reads = reads; first = first_is bytes [] h reads begins; room = omega arith }, at)

-- ---- the same for responses

-- a response with no empty line before it begins in a line
pub response_begins : (bytes : List ℕ) (h : ResponseHead) → IsWholeResponse bytes h → begins_in_line bytes ≡ true
response_begins bytes h whole =
    let reads = whole.reads in
    let text : List ℕ = h.digits ++
    (print_reason h.reason ++ (print_end h.line_end ++ (print_section h.fields h.last ++ []))) in
    let e : bytes ≡ print_version h.minor ++ 32 ∷ text =
    reads.1 ∙ print_response-append h []
    ∙ ap (λ (blank : List LineEnd). print_blank blank ++ (print_version h.minor ++ 32 ∷ text)) whole.first in
    subst (λ (b : List ℕ). begins_in_line b ≡ true) (sym e) refl

-- a response that begins in a line has no empty line before it
response_first : (bytes rest : List ℕ) (h : ResponseHead) → ReadsResponse bytes h rest → begins_in_line bytes ≡ true
    → h.blank ≡ []
response_first bytes rest h reads begins =
    begins_blank h.blank _
    (subst (λ (text : List ℕ). begins_in_line text ≡ true) (reads.1 ∙ print_response-append h rest) begins)

pub found_response : (bytes : List ℕ) (headers : List HeaderSpan) (spans : ResponseSpans) → begins_in_line bytes ≡ true
    → length bytes ≤ spans.len → length headers ≡ 32 → IsResponseWithin bytes headers spans
    → IsResponseOf bytes headers spans
    → (h : ResponseHead) × IsWholeResponse bytes h × IsResponseAt bytes headers spans h
found_response bytes headers spans begins all room within (h, at) =
    let reads : ReadsResponse bytes h [] = subst (λ (rest : List ℕ). ReadsResponse bytes h rest)
    (drop_of_length-le bytes all) at.reads in
    let count : spans.headers ≤ length headers = within.section.count_fits in
    let size : length h.fields ≡ spans.headers = fields_fit bytes headers spans.headers h.fields count at.fields in
    (h, record { reads = reads; first = response_first bytes [] h reads begins; room = omega arith }, at)
