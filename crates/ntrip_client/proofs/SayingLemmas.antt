-- What a head says, and what one byte more makes of it.
use Rattle.std.proofs.Common.{◌≡◌, ◌∙◌, ◌≤◌, ◌==◌, ℕ, Bool, true, false, List, [], ◌∷◌, ◌++◌, append_assoc, length, take, drop, refl, ap, sym, subst, inl, inr, arith, Some, Result, Ok, Err}
use Rattle.std.proofs.lemmas.Bool.{false≢true, false_from_ne_true, eqb-true}
use Rattle.std.proofs.lemmas.List.{take_all, take-append-drop}
use Rattle.ntrip_head.specs.declared.fault.HeadFault.{HeadFault}
use Rattle.ntrip_head.specs.declared.upstream.Upstream.{Upstream}
use Rattle.ntrip_head.specs.Head.{IsOpen, IsHead, IsLong}
use Rattle.ntrip_head.specs.Upstream.{UpstreamAnswer}
use Rattle.ntrip_client.specs.declared.answer.Answer.{Answer}
use Rattle.ntrip_client.specs.declared.answer.Answer.TheVariants.{Accepted}
use Rattle.ntrip_client.specs.declared.answer.Refusal.TheVariants.{Status}
use Rattle.ntrip_client.specs.FirstLine.{has_line, kind_of, SpeaksHttp}
use Rattle.ntrip_client.specs.Steps.{BeginsAt}
use Rattle.ntrip_client.specs.Answer.{IsAnswer, Said, said_by_line, said_by_response, IsLineHead, IsResponse, HasHead, HeadGoesOn, IsTooLong}
use Rattle.ntrip_client.proofs.LineLemmas.{none_front, none_empty, http_more}

-- ---- a whole head

pub line_says : (front head : List ℕ) (said : Said) → head ≡ front ++ 10 ∷ [] → has_line front ≡ false
    → length head ≤ 8192 → said_by_line (kind_of front) ≡ Some said → HasHead head (length head) said
line_says front head said is free within says = (
  omega arith,
  inl (subst (λ (l : List ℕ). IsLineHead l said) (sym (take_all (length head) head (omega arith)))
      (record { line = front; head_is = is; free = free; within = within; says = says })),
)

pub response_says : (head : List ℕ) (answer : Result Upstream HeadFault) (said : Said) → SpeaksHttp head → IsHead head
    → UpstreamAnswer head answer → said ≡ said_by_response answer → HasHead head (length head) said
response_says head answer said http whole reads says = (
  omega arith,
  inr (subst (λ (l : List ℕ). IsResponse l said) (sym (take_all (length head) head (omega arith)))
      (record { http = http; head_is = whole; answer = answer; reads = reads; says = says })),
)

-- a status that is not 200
pub other_status : (upstream : Upstream) → (upstream.status ≡ 200 → ⊥)
    → Err (Status upstream.status) ≡ said_by_response (Ok upstream)
other_status upstream not =
    let no : (upstream.status == 200) ≡ false = false_from_ne_true (upstream.status == 200)
    (λ yes. not (eqb-true upstream.status 200 yes)) in
    rw no refl

-- ---- a head that is too long

pub long_line : (head : List ℕ) → has_line head ≡ false → length head ≡ 8192 → IsTooLong head
long_line head free full = (omega (arith, full), inl (none_front 8192 head free))

pub long_response : (head : List ℕ) → SpeaksHttp head → IsLong head → IsTooLong head
long_response head http long = (
  omega (arith, long.full),
  inr (http, subst (λ (l : List ℕ). IsLong l) (sym (take_all 8192 head (omega (arith, long.full)))) long),
)

-- ---- a head that goes on

pub open_head : (bytes : List ℕ) → HeadGoesOn bytes → IsOpen bytes
open_head bytes (inl (free, few)) = record {
  no_line = λ n within. none_empty (take n bytes) (none_front n bytes free);
  room = few;
}
open_head bytes (inr (http, open_)) = open_

-- its first line has ended
pub http_on : (old : List ℕ) (byte : ℕ) → HeadGoesOn old → has_line old ≡ true → SpeaksHttp (old ++ byte ∷ [])
http_on old byte (inl (free, few)) has = absurd (false≢true (sym free ∙ has))
http_on old byte (inr (http, open_)) has = http_more old (byte ∷ []) http

-- ---- what stands behind a head

-- an answer that accepts with the last of these bytes
pub accepted_at : (head : List ℕ) (answer : Answer) (at : ℕ) (chunked : Bool) → answer ≡ Accepted at chunked
    → BeginsAt (length head) answer → IsAnswer head answer → IsAnswer head (Accepted (length head) chunked)
accepted_at head answer at chunked is begins says =
    let place : at ≡ length head = subst (BeginsAt (length head)) is begins in
    subst (λ (n : ℕ). IsAnswer head (Accepted n chunked)) place (subst (IsAnswer head) is says)

-- bytes up to some place, and those behind it
pub front_and_rest : (old new bytes : List ℕ) (count : ℕ) → new ≡ old ++ take count bytes
    → new ++ drop count bytes ≡ old ++ bytes
front_and_rest old new bytes count is =
    ap (λ (l : List ℕ). l ++ drop count bytes) is
    ∙ append_assoc old (take count bytes) (drop count bytes)
    ∙ ap (λ (l : List ℕ). old ++ l) (take-append-drop count bytes)
