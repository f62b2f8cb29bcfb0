-- Lines that are written byte by byte, and texts in lines.
use Rattle.std.proofs.Common.{◌≡◌, ◌∙◌, ◌==◌, ℕ, ◌+◌, ◌%◌, ◌<◌, ◌^◌, true, false, cond, List, [], ◌∷◌, ◌++◌, map, refl, ap, arith}
use Rattle.std.specs.Prelude.{◌||◌}
use Rattle.std.specs.Fmt.{decimal}
use Rattle.std.proofs.lemmas.Bool.{ne_eqb}
use Rattle.std.proofs.lemmas.Fmt.{decimal_by_steps}
use Rattle.std.proofs.lemmas.List.Folds.{list_any-append}
use Rattle.turn_log.specs.History.{History}
use Rattle.caster_press.specs.declared.line.Line.{Line}
use Rattle.caster_press.specs.Lines.{lines_of, text_in, text_of}
use Rattle.caster_press.specs.Texts.{before_first, has_newline, is_empty, is_line, lines_in, newline}

-- two texts without a newline have none together
pub has_newline-append : (text more : List ℕ) → has_newline text ≡ false → has_newline more ≡ false
    → has_newline (text ++ more) ≡ false
has_newline-append text more none none_more =
    list_any-append (λ byte. byte == newline) text more ∙ ap (λ b. b || has_newline more) none ∙ none_more

-- a digit is no newline
digit_is_none : (d : ℕ) → has_newline ((48 + d) ∷ []) ≡ false
digit_is_none d = ap (λ b. b || false) (ne_eqb (48 + d) newline (λ is. absurd (omega (arith, is))))

pub has_newline-decimal : (n : ℕ) → n < 2 ^ 64 → has_newline (decimal n) ≡ false
has_newline-decimal n small =
    decimal_by_steps (λ n digits. has_newline digits ≡ false) (λ n less. digit_is_none n)
    (λ n digits more none. has_newline-append digits ((48 + n % 10) ∷ []) none (digit_is_none (n % 10))) n small

-- a newline ends a text without one
pub is_line-finish : (text : List ℕ) → has_newline text ≡ false → is_line (text ++ newline ∷ []) ≡ true
is_line-finish [] none = refl
is_line-finish (byte ∷ text) none =
    (elim (byte == newline) as (λ t. (t || has_newline text) ≡ false
    → cond t (is_empty (text ++ newline ∷ [])) (is_line (text ++ newline ∷ [])) ≡ true) [
      | true ↦ λ at. absurd cc
      | false ↦ λ at. is_line-finish text at
    ]) none

-- a line, and then more of a text
lines_in-line : (line more : List ℕ) → is_line line ≡ true → lines_in (line ++ more) ≡ line ∷ lines_in more
lines_in-line [] more is = absurd cc
lines_in-line (byte ∷ []) more is =
    (elim (byte == newline) as (λ t. cond t true false ≡ true
    → cond t ((byte ∷ []) ∷ lines_in more) (before_first byte (lines_in more)) ≡ (byte ∷ []) ∷ lines_in more) [
      | true ↦ λ at. refl
      | false ↦ λ at. absurd cc
    ]) is
lines_in-line (byte ∷ next ∷ line) more is =
    (elim (byte == newline) as (λ t. cond t false (is_line (next ∷ line)) ≡ true
    → cond t ((byte ∷ []) ∷ lines_in (next ∷ (line ++ more))) (before_first byte (lines_in (next ∷ (line ++ more))))
    ≡ (byte ∷ next ∷ line) ∷ lines_in more) [
      | true ↦ λ at. absurd cc
      | false ↦ λ at. ap (before_first byte) (lines_in-line (next ∷ line) more at)
    ]) is

-- the lines of a history are those that are found in its text
pub lines_in-text_in : (h : History Line) → lines_in (text_in h) ≡ map text_of (lines_of h)
lines_in-text_in [] = refl
lines_in-text_in (entry ∷ h) =
    lines_in-line (text_of entry.1) (text_in h) entry.1.whole ∙ ap (λ l. text_of entry.1 ∷ l) (lines_in-text_in h)
