-- A connection's bytes have one heading, which more bytes do not change.
use Rattle.std.proofs.Common.{◌≡◌, ◌≢◌, ◌∙◌, ◌≤◌, ◌<◌, ℕ, false, List, ◌++◌, length, take, drop, length-append, length-take-le, refl, sym, ap, subst, inl, inr, arith, Result}
use Rattle.std.proofs.lemmas.Bool.{false≢true, cases_lt}
use Rattle.std.proofs.lemmas.List.{take-take, take-append-le, take-append-drop}
use Rattle.ntrip_head.specs.declared.fault.HeadFault.{HeadFault}
use Rattle.ntrip_head.specs.declared.request.Request.{Request}
use Rattle.ntrip_head.specs.Head.{ends_with_empty_line, IsOpen, IsHead, IsLong}
use Rattle.ntrip_head.specs.Answer.{HeadAnswer}
use Rattle.ntrip_head.proofs.AnswerLemmas.{head_once}
use Rattle.ntrip_head.proofs.EmptyLineLemmas.{one_head}
use Rattle.session_model.specs.Headings.{Heading, incomplete, too_long, whole, answered, IsHeading}

-- ---- of a client's head

-- an empty line within the bytes that came: the head has ended
not_open : (bytes : List ℕ) (at : ℕ) → at ≤ length bytes → IsHead (take at bytes) → IsOpen bytes → ⊥
not_open bytes at within head goes = absurd (false≢true (sym (goes.no_line at within) ∙ head.ends))

not_long : (bytes : List ℕ) (at : ℕ) → at ≤ length bytes → IsHead (take at bytes) → IsLong (take 8192 bytes) → ⊥
not_long bytes at within head long =
    let few : at ≤ 8192 = omega (arith, head.within, length-take-le at bytes within) in
    let front : take at (take 8192 bytes) ≡ take at bytes = take-take at 8192 bytes few in
    let none : ends_with_empty_line (take at bytes) ≡ false =
    sym (ap ends_with_empty_line front) ∙ long.no_line at (omega (arith, few, long.full)) in
    absurd (false≢true (sym none ∙ head.ends))

same_end : (bytes : List ℕ) (i j : ℕ) → i ≤ length bytes → j ≤ length bytes → IsHead (take i bytes)
    → IsHead (take j bytes) → i ≡ j
same_end bytes i j within other first second =
    sym (length-take-le i bytes within)
    ∙ ap length (one_head (take i bytes) (take j bytes) (drop i bytes) (drop j bytes) first second
    (take-append-drop i bytes ∙ sym (take-append-drop j bytes)))
    ∙ length-take-le j bytes other

same_whole : (bytes : List ℕ) (i j : ℕ) (a b : Result Request HeadFault) → i ≡ j
    → HeadAnswer (take i bytes) a → HeadAnswer (take j bytes) b → whole i a ≡ whole j b
same_whole bytes i j a b same x y =
    let answer : a ≡ b =
    head_once (take i bytes) a b x (subst (λ (n : ℕ). HeadAnswer (take n bytes) b) (sym same) y) in
    ap (λ (n : ℕ). whole n a) same ∙ ap (λ (r : Result Request HeadFault). whole j r) answer

pub one_heading : (bytes : List ℕ) (a b : Heading) → IsHeading bytes a → IsHeading bytes b → a ≡ b
one_heading bytes incomplete incomplete x y = refl
one_heading bytes incomplete too_long x y = absurd (omega (arith, x.room, y.0))
one_heading bytes incomplete (whole at answer) x y = absurd (not_open bytes at y.0 y.1 x)
one_heading bytes incomplete (answered at said) x y = absurd y
one_heading bytes too_long incomplete x y = absurd (omega (arith, y.room, x.0))
one_heading bytes too_long too_long x y = refl
one_heading bytes too_long (whole at answer) x y = absurd (not_long bytes at y.0 y.1 x.1)
one_heading bytes too_long (answered at said) x y = absurd y
one_heading bytes (whole at answer) incomplete x y = absurd (not_open bytes at x.0 x.1 y)
one_heading bytes (whole at answer) too_long x y = absurd (not_long bytes at x.0 x.1 y.1)
one_heading bytes (whole at answer) (whole other second) x y =
    same_whole bytes at other answer second (same_end bytes at other x.0 y.0 x.1 y.1) x.2 y.2
one_heading bytes (whole at answer) (answered other said) x y = absurd y
one_heading bytes (answered at said) b x y = absurd x

pub heading_stays : (bytes more : List ℕ) (a : Heading) → a ≢ incomplete → IsHeading bytes a
    → IsHeading (bytes ++ more) a
heading_stays bytes more incomplete not x = absurd (not refl)
heading_stays bytes more too_long not x = (
  omega (arith, x.0, length-append bytes more),
  subst (λ (l : List ℕ). IsLong l) (sym (take-append-le 8192 bytes more x.0)) x.1,
)
heading_stays bytes more (whole at answer) not x = (
  omega (arith, x.0, length-append bytes more),
  subst (λ (l : List ℕ). IsHead l) (sym (take-append-le at bytes more x.0)) x.1,
  subst (λ (l : List ℕ). HeadAnswer l answer) (sym (take-append-le at bytes more x.0)) x.2,
)
heading_stays bytes more (answered at said) not x = absurd x

-- the place from which on a heading says something
abbrev pub said_from : Heading → ℕ
said_from incomplete = 0
said_from too_long = 8192
said_from (whole at answer) = at
said_from (answered at said) = at

-- while the head is open, what more bytes say is not said yet
pub heading_waits : (bytes more : List ℕ) (a : Heading) → a ≢ incomplete → IsHeading bytes incomplete
    → IsHeading (bytes ++ more) a → length bytes < said_from a
heading_waits bytes more incomplete not goes x = absurd (not refl)
heading_waits bytes more too_long not goes x = goes.room
heading_waits bytes more (whole at answer) not goes x = elim (cases_lt (length bytes) at) [
  | inl before ↦ before
  | inr behind ↦
      absurd (not_open bytes at behind
      (subst (λ (l : List ℕ). IsHead l) (take-append-le at bytes more behind) x.1) goes)
]
heading_waits bytes more (answered at said) not goes x = absurd x
