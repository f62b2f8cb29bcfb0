-- Some bytes say one thing, and more bytes say it still.
use Rattle.std.proofs.Common.{◌≡◌, ◌≢◌, ◌∙◌, ◌≤◌, ℕ, true, false, ◌⊎◌, List, [], ◌∷◌, ◌++◌, length, take, drop, length-append, length-take-le, refl, sym, ap, subst, inl, inr, arith, Some, Ok, Err}
use Rattle.std.proofs.lemmas.Bool.{false≢true}
use Rattle.std.proofs.lemmas.List.{take-take, take-append-le, take-append-drop}
use Rattle.ntrip_head.specs.Head.{ends_with_empty_line, IsLong}
use Rattle.ntrip_head.specs.Upstream.{UpstreamAnswer}
use Rattle.ntrip_head.proofs.AnswerLemmas.{upstream_once}
use Rattle.ntrip_head.proofs.EmptyLineLemmas.{one_head}
use Rattle.ntrip_client.specs.declared.answer.Answer.{Answer}
use Rattle.ntrip_client.specs.declared.answer.Answer.TheVariants.{Open, Accepted, Refused}
use Rattle.ntrip_client.specs.declared.answer.Refusal.TheVariants.{BadHead, LongHead, Coding, Table, Status}
use Rattle.ntrip_client.specs.declared.first_line.FirstLine.{FirstLine}
use Rattle.ntrip_client.specs.declared.first_line.FirstLine.TheVariants.{Http}
use Rattle.ntrip_client.specs.FirstLine.{has_line, kind_of, IsFirstLine, SpeaksHttp}
use Rattle.ntrip_client.specs.Answer.{Said, said_by_line, said_by_response, IsLineHead, IsResponse, HasHead, HeadGoesOn, IsTooLong, IsAnswer}
use Rattle.ntrip_client.proofs.LineLemmas.{none_front, one_first_line, first_line_there, first_line_of_front, http_of_front, http_more, line_there}

-- ---- what a whole head shows of all bytes

-- its first line is theirs
line_in : (bytes : List ℕ) (at : ℕ) (said : Said) (x : IsLineHead (take at bytes) said) → IsFirstLine x.line bytes
line_in bytes at said x = first_line_of_front at x.line bytes ([], x.head_is, x.free)

-- it says nothing by itself where HTTP is spoken
no_http : (bytes : List ℕ) (at : ℕ) (said : Said) → IsLineHead (take at bytes) said → SpeaksHttp bytes → ⊥
no_http bytes at said x http =
    let same : x.line ≡ http.0 = one_first_line x.line http.0 bytes (line_in bytes at said x) http.1 in
    let kind : kind_of x.line ≡ Http = ap kind_of same ∙ http.2 in
    let says : said_by_line Http ≡ Some said = subst (λ (k : FirstLine). said_by_line k ≡ Some said) kind x.says in
    absurd cc

-- it has a line, and at most 8,192 bytes
head_has : (bytes : List ℕ) (at : ℕ) (said : Said) → HasHead bytes at said → has_line (take at bytes) ≡ true
head_has bytes at said (within, inl x) = ap has_line x.head_is ∙ line_there x.line []
head_has bytes at said (within, inr x) = first_line_there x.http.0 (take at bytes) x.http.1

pub head_few : (bytes : List ℕ) (at : ℕ) (said : Said) → HasHead bytes at said → at ≤ 8192
head_few bytes at said (within, inl x) = omega (arith, x.within, length-take-le at bytes within)
head_few bytes at said (within, inr x) = omega (arith, x.head_is.within, length-take-le at bytes within)

-- ---- nothing else is said

pub not_open : (bytes : List ℕ) (at : ℕ) (said : Said) → HasHead bytes at said → HeadGoesOn bytes → ⊥
not_open bytes at said x (inl (free, few)) =
    absurd (false≢true (sym (none_front at bytes free) ∙ head_has bytes at said x))
not_open bytes at said (within, inl x) (inr (http, goes)) = no_http bytes at said x http
not_open bytes at said (within, inr x) (inr (http, goes)) =
    absurd (false≢true (sym (goes.no_line at within) ∙ x.head_is.ends))

pub not_long : (bytes : List ℕ) (at : ℕ) (said : Said) → HasHead bytes at said → IsTooLong bytes → ⊥
not_long bytes at said x (full, inl free) =
    let front : take at (take 8192 bytes) ≡ take at bytes = take-take at 8192 bytes (head_few bytes at said x) in
    let none : has_line (take at bytes) ≡ false = sym (ap has_line front) ∙ none_front at (take 8192 bytes) free in
    absurd (false≢true (sym none ∙ head_has bytes at said x))
not_long bytes at said (within, inl x) (full, inr (http, long)) = no_http bytes at said x http
not_long bytes at said (within, inr x) (full, inr (http, long)) =
    let few : at ≤ 8192 = head_few bytes at said (within, inr x) in
    let front : take at (take 8192 bytes) ≡ take at bytes = take-take at 8192 bytes few in
    let none : ends_with_empty_line (take at bytes) ≡ false =
    sym (ap ends_with_empty_line front) ∙ long.no_line at (omega (arith, few, long.full)) in
    absurd (false≢true (sym none ∙ x.head_is.ends))

pub open_or_long : (bytes : List ℕ) → HeadGoesOn bytes → IsTooLong bytes → ⊥
open_or_long bytes (inl (free, few)) (full, x) = absurd (omega (arith, few, full))
open_or_long bytes (inr (http, goes)) (full, x) = absurd (omega (arith, goes.room, full))

-- ---- one head

same_length : (i j : ℕ) (bytes : List ℕ) → i ≤ length bytes → j ≤ length bytes
    → take i bytes ≡ take j bytes → i ≡ j
same_length i j bytes within other same =
    sym (length-take-le i bytes within) ∙ ap length same ∙ length-take-le j bytes other

pub heads_once : (bytes : List ℕ) (i j : ℕ) (said other : Said) → HasHead bytes i said → HasHead bytes j other
    → (i ≡ j) × (said ≡ other)
heads_once bytes i j said other (within, inl x) (also, inl y) =
    let line : x.line ≡ y.line =
    one_first_line x.line y.line bytes (line_in bytes i said x) (line_in bytes j other y) in
    let head : take i bytes ≡ take j bytes = x.head_is ∙ ap (λ (l : List ℕ). l ++ 10 ∷ []) line ∙ sym y.head_is in
    let says : Some said ≡ Some other =
    sym x.says ∙ ap (λ (l : List ℕ). said_by_line (kind_of l)) line ∙ y.says in
    (same_length i j bytes within also head, cc)
heads_once bytes i j said other (within, inl x) (also, inr y) =
    absurd (no_http bytes i said x (http_of_front j bytes y.http))
heads_once bytes i j said other (within, inr x) (also, inl y) =
    absurd (no_http bytes j other y (http_of_front i bytes x.http))
heads_once bytes i j said other (within, inr x) (also, inr y) =
    let head : take i bytes ≡ take j bytes =
    one_head (take i bytes) (take j bytes) (drop i bytes) (drop j bytes) x.head_is y.head_is
    (take-append-drop i bytes ∙ sym (take-append-drop j bytes)) in
    let answer : x.answer ≡ y.answer =
    upstream_once (take i bytes) x.answer y.answer x.reads
    (subst (λ (l : List ℕ). UpstreamAnswer l y.answer) (sym head) y.reads) in
    (same_length i j bytes within also head, x.says ∙ ap said_by_response answer ∙ sym y.says)

-- ---- one answer

-- what a head makes of the answer
abbrev said_at : ℕ → Said → Answer
said_at at (Ok chunked) = Accepted at chunked
said_at at (Err why) = Refused why

abbrev Form : List ℕ → Answer → Type 0
Form bytes a =
    (HeadGoesOn bytes × (a ≡ Open))
    ⊎ ((IsTooLong bytes × (a ≡ Refused LongHead))
    ⊎ ((at : ℕ) × (said : Said) × HasHead bytes at said × (a ≡ said_at at said)))

form_of : (bytes : List ℕ) (a : Answer) → IsAnswer bytes a → Form bytes a
form_of bytes Open x = inl (x, refl)
form_of bytes (Accepted at chunked) x = inr (inr (at, Ok chunked, x, refl))
form_of bytes (Refused LongHead) x = inr (inl (x, refl))
form_of bytes (Refused BadHead) x = inr (inr (x.0, Err BadHead, x.1, refl))
form_of bytes (Refused Coding) x = inr (inr (x.0, Err Coding, x.1, refl))
form_of bytes (Refused Table) x = inr (inr (x.0, Err Table, x.1, refl))
form_of bytes (Refused (Status status)) x = inr (inr (x.0, Err (Status status), x.1, refl))

one_form : (bytes : List ℕ) (a b : Answer) → Form bytes a → Form bytes b → a ≡ b
one_form bytes a b (inl (x, e)) (inl (y, d)) = e ∙ sym d
one_form bytes a b (inl (x, e)) (inr (inl (y, d))) = absurd (open_or_long bytes x y)
one_form bytes a b (inl (x, e)) (inr (inr (at, said, y, d))) = absurd (not_open bytes at said y x)
one_form bytes a b (inr (inl (x, e))) (inl (y, d)) = absurd (open_or_long bytes y x)
one_form bytes a b (inr (inl (x, e))) (inr (inl (y, d))) = e ∙ sym d
one_form bytes a b (inr (inl (x, e))) (inr (inr (at, said, y, d))) = absurd (not_long bytes at said y x)
one_form bytes a b (inr (inr (at, said, x, e))) (inl (y, d)) = absurd (not_open bytes at said x y)
one_form bytes a b (inr (inr (at, said, x, e))) (inr (inl (y, d))) = absurd (not_long bytes at said x y)
one_form bytes a b (inr (inr (i, said, x, e))) (inr (inr (j, other, y, d))) =
    let same = heads_once bytes i j said other x y in
    e ∙ ap (λ (n : ℕ). said_at n said) same.0 ∙ ap (said_at j) same.1 ∙ sym d

pub one_answer : (bytes : List ℕ) (a b : Answer) → IsAnswer bytes a → IsAnswer bytes b → a ≡ b
one_answer bytes a b x y = one_form bytes a b (form_of bytes a x) (form_of bytes b y)

-- ---- and more bytes

pub head_stays : (bytes more : List ℕ) (at : ℕ) (said : Said) → HasHead bytes at said → HasHead (bytes ++ more) at said
head_stays bytes more at said x = (
  omega (arith, x.0, length-append bytes more),
  subst (λ (l : List ℕ). IsLineHead l said ⊎ IsResponse l said) (sym (take-append-le at bytes more x.0)) x.1,
)

pub long_stays : (bytes more : List ℕ) → IsTooLong bytes → IsTooLong (bytes ++ more)
long_stays bytes more (full, inl free) = (
  omega (arith, full, length-append bytes more),
  inl (ap has_line (take-append-le 8192 bytes more full) ∙ free),
)
long_stays bytes more (full, inr (http, long)) = (
  omega (arith, full, length-append bytes more),
  inr (http_more bytes more http, subst (λ (l : List ℕ). IsLong l) (sym (take-append-le 8192 bytes more full)) long),
)

pub answer_stays : (bytes more : List ℕ) (a : Answer) → a ≢ Open → IsAnswer bytes a → IsAnswer (bytes ++ more) a
answer_stays bytes more Open not x = absurd (not refl)
answer_stays bytes more (Accepted at chunked) not x = head_stays bytes more at (Ok chunked) x
answer_stays bytes more (Refused LongHead) not x = long_stays bytes more x
answer_stays bytes more (Refused BadHead) not x = (x.0, head_stays bytes more x.0 (Err BadHead) x.1)
answer_stays bytes more (Refused Coding) not x = (x.0, head_stays bytes more x.0 (Err Coding) x.1)
answer_stays bytes more (Refused Table) not x = (x.0, head_stays bytes more x.0 (Err Table) x.1)
answer_stays bytes more (Refused (Status status)) not x =
    (x.0, head_stays bytes more x.0 (Err (Status status)) x.1)
