-- The same of another caster's answer.
use Rattle.std.proofs.Common.{◌≡◌, ◌≢◌, ◌∙◌, ◌<◌, ◌⊎◌, ℕ, List, ◌++◌, length, refl, ap, subst, inl, inr}
use Rattle.std.proofs.lemmas.Bool.{cases_lt}
use Rattle.std.proofs.lemmas.List.{take-append-le}
use Rattle.ntrip_client.specs.Answer.{Said, IsLineHead, IsResponse, HeadGoesOn}
use Rattle.ntrip_client.proofs.OnceLemmas.{not_open, not_long, open_or_long, heads_once, head_stays, long_stays}
use Rattle.session_model.specs.Headings.{Heading, incomplete, too_long, whole, answered, IsAnswering}
use Rattle.session_model.proofs.HeadingLemmas.{said_from}

pub one_answering : (bytes : List ℕ) (a b : Heading) → IsAnswering bytes a → IsAnswering bytes b → a ≡ b
one_answering bytes incomplete incomplete x y = refl
one_answering bytes incomplete too_long x y = absurd (open_or_long bytes x y)
one_answering bytes incomplete (whole at answer) x y = absurd y
one_answering bytes incomplete (answered at said) x y = absurd (not_open bytes at said y x)
one_answering bytes too_long incomplete x y = absurd (open_or_long bytes y x)
one_answering bytes too_long too_long x y = refl
one_answering bytes too_long (whole at answer) x y = absurd y
one_answering bytes too_long (answered at said) x y = absurd (not_long bytes at said y x)
one_answering bytes (whole at answer) b x y = absurd x
one_answering bytes (answered at said) incomplete x y = absurd (not_open bytes at said x y)
one_answering bytes (answered at said) too_long x y = absurd (not_long bytes at said x y)
one_answering bytes (answered at said) (whole other answer) x y = absurd y
one_answering bytes (answered at said) (answered other second) x y =
    let same = heads_once bytes at other said second x y in
    ap (λ (n : ℕ). answered n said) same.0 ∙ ap (λ (s : Said). answered other s) same.1

pub answering_stays : (bytes more : List ℕ) (a : Heading) → a ≢ incomplete → IsAnswering bytes a
    → IsAnswering (bytes ++ more) a
answering_stays bytes more incomplete not x = absurd (not refl)
answering_stays bytes more too_long not x = long_stays bytes more x
answering_stays bytes more (whole at answer) not x = absurd x
answering_stays bytes more (answered at said) not x = head_stays bytes more at said x

-- a head that is open: what more bytes say is not said yet
few_while_open : (bytes more : List ℕ) → HeadGoesOn bytes → length bytes < 8192
few_while_open bytes more (inl (free, few)) = few
few_while_open bytes more (inr (http, goes)) = goes.room

pub answering_waits : (bytes more : List ℕ) (a : Heading) → a ≢ incomplete → IsAnswering bytes incomplete
    → IsAnswering (bytes ++ more) a → length bytes < said_from a
answering_waits bytes more incomplete not goes x = absurd (not refl)
answering_waits bytes more too_long not goes x = few_while_open bytes more goes
answering_waits bytes more (whole at answer) not goes x = absurd x
answering_waits bytes more (answered at said) not goes x = elim (cases_lt (length bytes) at) [
  | inl before ↦ before
  | inr behind ↦
      absurd (not_open bytes at said (
        behind,
        subst (λ (l : List ℕ). IsLineHead l said ⊎ IsResponse l said)
            (take-append-le at bytes more behind) x.1,
      ) goes)
]
