-- One more byte of a stream, and its lines.
use Rattle.std.proofs.Common.{◌≡◌, ℕ, ◌+◌, ◌-◌, ◌≤◌, ◌<◌, Bool, true, false, not, cond, ◌&&◌, eqb, ltb, leb, List, [], ◌∷◌, ◌++◌, length, take, get_or, refl, sym, ap, ◌∙◌, arith, inl, inr}
use Rattle.std.specs.Prelude.{MatchBool, filter}
use Rattle.std.specs.List.{slice_split, onto_first}
use Rattle.std.specs.Str.Lines.{strip_carriage_return}
use Rattle.std.proofs.lemmas.Bool.{cases_Bool, cond_both, lt-leb, ltb-true, MatchBool-at_true, MatchBool-at_false}
use Rattle.std.proofs.lemmas.List.{length-append, length-take, append-nil, map-append}
use Rattle.std.proofs.lemmas.List.Elements.{filter-append}
use Rattle.cast_text.proofs.SplitLemmas.{HasPart, part, has_part}
use Rattle.cast_text.specs.Lines.{all_but_last, last_part, parts_of, unfinished, whole_lines, LineState, no_line, kept, StandsFor}

-- ---- parts

-- one more byte at the end of the last part
abbrev with_last : ℕ → List (List ℕ) → List (List ℕ)
with_last b [] = (b ∷ []) ∷ []
with_last b (x ∷ []) = (x ++ b ∷ []) ∷ []
with_last b (x ∷ y ∷ more) = x ∷ with_last b (y ∷ more)

onto_new_part : (c : ℕ) (ps : List (List ℕ)) → HasPart ps → onto_first c (ps ++ [] ∷ []) ≡ onto_first c ps ++ [] ∷ []
onto_new_part c [] h = elim h [ ]
onto_new_part c (x ∷ more) h = refl

onto_with_last : (c b : ℕ) (ps : List (List ℕ)) → HasPart ps
    → onto_first c (with_last b ps) ≡ with_last b (onto_first c ps)
onto_with_last c b [] h = elim h [ ]
onto_with_last c b (x ∷ []) h = refl
onto_with_last c b (x ∷ y ∷ more) h = refl

with_last_behind : (b : ℕ) (ps : List (List ℕ)) → HasPart ps → with_last b ([] ∷ ps) ≡ [] ∷ with_last b ps
with_last_behind b [] h = elim h [ ]
with_last_behind b (x ∷ more) h = refl

split_ends : (p : ℕ → Bool) (b : ℕ) (bs : List ℕ) → p b ≡ true
    → slice_split p (bs ++ b ∷ []) ≡ slice_split p bs ++ [] ∷ []
split_ends p b [] h = rw h refl
split_ends p b (c ∷ bs) h =
    elim (cases_Bool (p c)) [
      | inl splits ↦ rw (splits, split_ends p b bs h) refl
      | inr stays ↦ rw (stays, split_ends p b bs h) (onto_new_part c (slice_split p bs) (has_part p bs))
    ]

split_goes_on : (p : ℕ → Bool) (b : ℕ) (bs : List ℕ) → p b ≡ false
    → slice_split p (bs ++ b ∷ []) ≡ with_last b (slice_split p bs)
split_goes_on p b [] h = rw h refl
split_goes_on p b (c ∷ bs) h =
    elim (cases_Bool (p c)) [
      | inl splits ↦ rw (splits, split_goes_on p b bs h) (sym (with_last_behind b (slice_split p bs) (has_part p bs)))
      | inr stays ↦ rw (stays, split_goes_on p b bs h) (onto_with_last c b (slice_split p bs) (has_part p bs))
    ]

last_new : (ps : List (List ℕ)) → last_part (ps ++ [] ∷ []) ≡ []
last_new [] = refl
last_new (x ∷ []) = refl
last_new (x ∷ y ∷ more) = last_new (y ∷ more)

ended_new : (ps : List (List ℕ)) → HasPart ps → all_but_last (ps ++ [] ∷ []) ≡ all_but_last ps ++ last_part ps ∷ []
ended_new [] h = elim h [ ]
ended_new (x ∷ []) h = refl
ended_new (x ∷ y ∷ more) h = ap (λ (ls : List (List ℕ)). x ∷ ls) (ended_new (y ∷ more) (part y more))

last_more : (b : ℕ) (ps : List (List ℕ)) → last_part (with_last b ps) ≡ last_part ps ++ b ∷ []
last_more b [] = refl
last_more b (x ∷ []) = refl
last_more b (x ∷ y ∷ []) = refl
last_more b (x ∷ y ∷ z ∷ more) = last_more b (y ∷ z ∷ more)

ended_same : (b : ℕ) (ps : List (List ℕ)) → all_but_last (with_last b ps) ≡ all_but_last ps
ended_same b [] = refl
ended_same b (x ∷ []) = refl
ended_same b (x ∷ y ∷ []) = refl
ended_same b (x ∷ y ∷ z ∷ more) = ap (λ (ls : List (List ℕ)). x ∷ ls) (ended_same b (y ∷ z ∷ more))

-- ---- bytes

unfinished_ended : (bs : List ℕ) → unfinished (bs ++ 10 ∷ []) ≡ []
unfinished_ended bs = rw (split_ends (λ c. eqb c 10) 10 bs refl) (last_new (parts_of bs))

unfinished_more : (b : ℕ) (bs : List ℕ) → eqb b 10 ≡ false → unfinished (bs ++ b ∷ []) ≡ unfinished bs ++ b ∷ []
unfinished_more b bs h = rw (split_goes_on (λ c. eqb c 10) b bs h) (last_more b (parts_of bs))

lines_same : (limit b : ℕ) (bs : List ℕ) → eqb b 10 ≡ false → whole_lines limit (bs ++ b ∷ []) ≡ whole_lines limit bs
lines_same limit b bs h = rw (split_goes_on (λ c. eqb c 10) b bs h, ended_same b (parts_of bs)) refl

-- the line, if it is within the limit
abbrev if_within : ℕ → List ℕ → List (List ℕ)
if_within limit line = filter (λ l. leb (length l) limit) (line ∷ [])

lines_more : (limit : ℕ) (bs : List ℕ)
    → whole_lines limit (bs ++ 10 ∷ []) ≡ whole_lines limit bs ++ if_within limit
    (strip_carriage_return (unfinished bs))
lines_more limit bs =
    let e : all_but_last (parts_of (bs ++ 10 ∷ [])) ≡ all_but_last (parts_of bs) ++ unfinished bs ∷ [] =
    ap all_but_last (split_ends (λ c. eqb c 10) 10 bs refl) ∙ ended_new (parts_of bs) (has_part (λ c. eqb c 10) bs) in
    rw (e, map-append, filter-append) refl

-- ---- states

-- the state stands for the same bytes, and its line has not ended
pub record Stays (old state : LineState) : Type 0 where
  pub limit : state.limit ≡ old.limit
  pub coming : state.ended ≡ false
  pub stands : (bytes : List ℕ) → StandsFor old bytes → StandsFor state bytes

pub stays_new : (old : LineState) → old.ended ≡ true → Stays old (no_line old.limit)
stays_new old ended = record { limit = refl; coming = refl; stands = λ bytes h. MatchBool-at_true _ _ ended h }

pub stays_same : (old : LineState) → old.ended ≡ false → Stays old old
stays_same old coming = record { limit = refl; coming = coming; stands = λ bytes h. h }

-- what a state with this limit, line and flag has of the last part
abbrev Has : ℕ → List ℕ → Bool → List ℕ → Type 0
Has limit line over tail = MatchBool over (limit + 1 < length tail) (tail ≡ line)

over_now : (limit : ℕ) (line tail : List ℕ) (over : Bool) (b : ℕ) → Has limit line over tail → limit < length line
    → limit + 1 < length (tail ++ b ∷ [])
over_now limit line tail true b h long = omega (arith, length-append tail (b ∷ []))
over_now limit line tail false b h long = omega (arith, length-append tail (b ∷ []), ap length h)

has_more : (limit : ℕ) (line tail : List ℕ) (over : Bool) (b : ℕ) → Has limit line over tail
    → Has limit (line ++ b ∷ []) over (tail ++ b ∷ [])
has_more limit line tail true b h = omega (arith, length-append tail (b ∷ []))
has_more limit line tail false b h = ap (λ (l : List ℕ). l ++ b ∷ []) h

pub stands_kept : (state : LineState) (b : ℕ) (bytes : List ℕ) → state.ended ≡ false → eqb b 10 ≡ false
    → StandsFor state bytes → StandsFor (kept state b) (bytes ++ b ∷ [])
stands_kept state b bytes coming other stands =
    let has = MatchBool-at_false (unfinished bytes ≡ [])
    (Has state.limit state.line state.over (unfinished bytes)) coming stands in
    let more = unfinished_more b bytes other in
    elim (cases_Bool (ltb state.limit (length state.line))) [
      | inl long ↦ rw (long, coming, more)
          (over_now state.limit state.line (unfinished bytes) state.over b has (ltb-true _ _ long))
      | inr fits ↦ rw (fits, coming, more) (has_more state.limit state.line (unfinished bytes) state.over b has)
    ]

pub lines_kept : (old : LineState) (b : ℕ) (bytes : List ℕ) → eqb b 10 ≡ false
    → whole_lines old.limit (bytes ++ b ∷ []) ≡ whole_lines old.limit bytes ++ []
lines_kept old b bytes other = lines_same old.limit b bytes other ∙ sym (append-nil (whole_lines old.limit bytes))

pub stands_ended : (state : LineState) (bytes : List ℕ) → state.ended ≡ true → StandsFor state (bytes ++ 10 ∷ [])
stands_ended state bytes ended = rw ended (unfinished_ended bytes)

length-strip : (line : List ℕ) → length line ≤ length (strip_carriage_return line) + 1
length-strip line = cond_both (eqb (get_or line (length line - 1) 0) 13) (take (length line - 1) line) line
    (λ l. length line ≤ length l + 1)
    (λ _. omega (arith, length-take (length line - 1) line)) (λ _. omega arith)

given_line : (limit : ℕ) (line tail : List ℕ) (over result : Bool) (given : List ℕ) → Has limit line over tail
    → result ≡ (not over && leb (length (strip_carriage_return line)) limit) → given ≡ strip_carriage_return line
    → if_within limit (strip_carriage_return tail) ≡ cond result (given ∷ []) []
given_line limit line tail true result given h r g =
    let long : limit < length (strip_carriage_return tail) = omega (arith, length-strip tail) in
    rw (lt-leb (length (strip_carriage_return tail)) limit long, r) refl
given_line limit line tail false result given h r g = rw (h, r, g) refl

pub lines_ended : (state : LineState) (result : Bool) (given bytes : List ℕ) → state.ended ≡ false
    → StandsFor state bytes
    → result ≡ (not state.over && leb (length (strip_carriage_return state.line)) state.limit)
    → given ≡ strip_carriage_return state.line
    → whole_lines state.limit (bytes ++ 10 ∷ []) ≡ whole_lines state.limit bytes ++ cond result (given ∷ []) []
lines_ended state result given bytes coming stands r g =
    let has = MatchBool-at_false (unfinished bytes ≡ [])
    (Has state.limit state.line state.over (unfinished bytes)) coming stands in
    lines_more state.limit bytes
    ∙ ap (λ (ls : List (List ℕ)). whole_lines state.limit bytes ++ ls)
    (given_line state.limit state.line (unfinished bytes) state.over result given has r g)
