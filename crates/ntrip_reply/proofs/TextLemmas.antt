-- What stands in front of a text that is appended in pieces.
use Rattle.std.proofs.Common.{◌≡◌, ℕ, ◌+◌, ◌≤◌, ◌<◌, List, [], ◌∷◌, ◌++◌, length, take, Bor, OnErr, Result, Ok, Err, OnOk, is_ok, if◌then◌else◌, get_or, ap, sym, ◌∙◌, append_assoc, arith}
use Rattle.std.specs.Prelude.{codes}
use Rattle.std.specs.Fmt.{decimal}
use Rattle.std.proofs.lemmas.List.{take-take, take-append-le}
use Rattle.std.proofs.lemmas.List.Folds.{length-flat_map-take, flat_map-map}
use Rattle.std.proofs.lemmas.Grind.{flat_map-append}
use Rattle.std.proofs.Math.Seq.{take-length}
use Rattle.ntrip_reply.specs.Message.{line, lines, texts_in, content_length, close, message}

-- a front of a front of the text
pub front_kept : (old more text : List ℕ) (n m : ℕ) → length old ≡ n → n ≤ m → take m text ≡ old ++ more
    → take n text ≡ old
front_kept old more text n m size within kept =
    let short : n ≤ length old = omega arith in
    sym (take-take n m text within) ∙ ap (take n) kept ∙ take-append-le n old more short
    ∙ ap (λ k. take k old) (sym size) ∙ take-length old

pub on_err : {T E P : Type 0} (r : Result T E) → P → OnErr r P
on_err (Ok x) p = tt
on_err (Err e) p = p

-- the lines before one of them, and that line, are not longer than all lines
pub lines_within : (slices : List (Bor (List ℕ))) (i : ℕ) (d : Bor (List ℕ)) → i < length slices
    → length (lines (texts_in (take i slices))) + length (line (get_or slices i d).now) ≤ length
    (lines (texts_in slices))
lines_within slices i d inside =
    let f : Bor (List ℕ) → List ℕ = λ s. line s.now in
    omega (
      arith,
      length-flat_map-take f slices i d inside,
      ap length
          (flat_map-map line (λ (s : Bor (List ℕ)). s.now) slices),
      ap length
          (flat_map-map line (λ (s : Bor (List ℕ)). s.now) (take i slices)),
    )

-- a line that is appended in two pieces
line_in_two : (text : List ℕ) (after : List (List ℕ)) → lines (text ∷ after) ≡ text ++ lines ([] ∷ after)
line_in_two text after = append_assoc text (codes "\r\n") (lines after)

abbrev pub last_lines : List (List ℕ)
last_lines = [] ∷ close ∷ [] ∷ []

regroup : (old first name digits last body : List ℕ)
    → ((((old ++ first) ++ name) ++ digits) ++ last) ++ body ≡ old ++ ((first ++ ((name ++ digits) ++ last)) ++ body)
regroup old first name digits last body = simp append_assoc

-- a message that is appended in pieces
pub message_appended : (old : List ℕ) (first : List (List ℕ)) (body : List ℕ)
    → ((((old ++ lines first) ++ codes "Content-Length: ") ++ decimal (length body)) ++ lines last_lines) ++ body ≡ old
    ++ message first body
message_appended old first body =
    regroup old (lines first) (codes "Content-Length: ") (decimal (length body)) (lines last_lines) body
    ∙ ap (λ (l : List ℕ). old ++ (l ++ body)) (
    ap (λ (l : List ℕ). lines first ++ l) (sym (line_in_two (content_length body) (close ∷ [] ∷ [])))
    ∙ sym (flat_map-append line first (content_length body ∷ close ∷ [] ∷ [])))

-- what was appended where the call succeeded
pub on_ok : {T E : Type 0} {new want : List ℕ} (old more : List ℕ) (r : Result T E)
    → new ≡ (if is_ok r then old ++ more else old) → old ++ more ≡ want → OnOk r (new ≡ want)
on_ok old more (Ok x) p q = p ∙ q
on_ok old more (Err e) p q = tt
