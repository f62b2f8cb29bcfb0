-- A body's text leads through the machine to its end, and gives the data of each front of it.
use Rattle.std.proofs.Common.{◌≡◌, ℕ, zero, suc, ◌+◌, ◌-◌, ◌*◌, ◌<◌, ◌≤◌, inl, inr, List, [], ◌∷◌, ◌++◌, length, take, refl, ap, ap₂, ◌∙◌, sym, subst, arith, append_assoc, length-append}
use Rattle.std.proofs.lemmas.List.{append-nil}
use Rattle.std.proofs.lemmas.List.Elements.{All-head, All-tail}
use Rattle.std.specs.List.{All, flat_map}
use Rattle.std.specs.Char.{digit_value}
use Rattle.std.proofs.lemmas.Bool.{cases_lt}
use Rattle.std.specs.Str.Parse.{AllDigits, digits_value_after, digits_value}
use Rattle.chunk_body.specs.declared.phase.Phase.{Phase}
use Rattle.chunk_body.specs.declared.phase.Phase.TheVariants.{Digits, Extension, SizeLf, Data, DataCr, DataLf, TrailerStart, Trailer, TrailerLf, LastLf, Ended}
use Rattle.chunk_body.specs.Body.{line_end, IsLineByte, SizeLine, print_size, size_of, IsExtension, IsSizeLine, Chunk, print_chunk, IsChunk, IsTrailer, print_trailers, Body, print_body, IsBody, data_of, data_within}
use Rattle.chunk_body.specs.Machine.{step, behind_size}
use Rattle.chunk_body.proofs.Machines.{start, run, given, plain, Goes, goes_append, goes_cons, quiet, plain-take}
use Rattle.chunk_body.proofs.StepLemmas.{step_digit, step_semicolon, step_digits_cr, step_extension, step_extension_cr, step_size_lf, behind_some, behind_none, step_data, step_data_last, step_data_cr, step_data_lf, step_trailers, step_trailers_cr, step_trailer, step_trailer_cr, step_trailer_lf, step_last_lf}

-- the same, where only the phase at the end is known by an equation
goes_to : (q p r : Phase) (t x : List ℕ) → p ≡ r → Goes q t p x → Goes q t r x
goes_to q p r t x same goes = subst (λ (m : Phase). Goes q t m x) same goes

nothing : (q : Phase) → Goes q [] q []
nothing q = record { ends = refl; gives = refl }

-- ---- size lines

goes_digits : (n v : ℕ) (ds : List ℕ) → AllDigits 16 ds → n + length ds ≤ 6
    → Goes (Digits n v) ds (Digits (n + length ds) (digits_value_after 16 v ds)) []
goes_digits n v [] all few =
    goes_to _ _ _ _ _ (ap (λ (k : ℕ). Digits k v) (omega arith)) (nothing (Digits n v))
goes_digits n v (d ∷ ds) all few =
    let one = step_digit n v d (omega arith) all.0 in
    let others = goes_digits (n + 1) (v * 16 + digit_value d) ds all.1 (omega arith) in
    goes_to _ _ _ _ _
    (ap (λ (k : ℕ). Digits k (digits_value_after 16 v (d ∷ ds))) (omega arith))
    (goes_cons _ _ _ d ds [] one others)

goes_line : (n v : ℕ) (bytes : List ℕ) → All IsLineByte bytes → n + length bytes ≤ 254
    → Goes (Extension n v) bytes (Extension (n + length bytes) v) []
goes_line n v [] all room =
    goes_to _ _ _ _ _ (ap (λ (k : ℕ). Extension k v) (omega arith)) (nothing (Extension n v))
goes_line n v (b ∷ bytes) all room =
    let one = step_extension n v b (All-head IsLineByte b bytes all) (omega arith) in
    let others = goes_line (n + 1) v bytes (All-tail IsLineByte b bytes all) (omega arith) in
    goes_to _ _ _ _ _
    (ap (λ (k : ℕ). Extension k v) (omega arith))
    (goes_cons _ _ _ b bytes [] one others)

-- the line's end, from a phase that takes CR
goes_end : (q : Phase) (v : ℕ) → step q 13 ≡ SizeLf v → given q 13 ≡ []
    → Goes q line_end (behind_size v) []
goes_end q v cr quietly =
    subst (λ (x : List ℕ). Goes q line_end (behind_size v) (x ++ [])) quietly
    (goes_cons q (SizeLf v) (behind_size v) 13 (10 ∷ []) [] cr
    (goes_cons (SizeLf v) (behind_size v) (behind_size v) 10 [] [] (step_size_lf v) (nothing (behind_size v))))

goes_extension : (n v : ℕ) (ext : List ℕ) → 0 < n → IsExtension ext → n + length ext ≤ 254
    → Goes (Digits n v) (ext ++ line_end) (behind_size v) []
goes_extension n v [] some is room = goes_end (Digits n v) v (step_digits_cr n v some) refl
goes_extension n v (x ∷ ext) some is room =
    let first : step (Digits n v) x ≡ Extension (n + 1) v =
    ap (λ (b : ℕ). step (Digits n v) b) is.0 ∙ step_semicolon n v some
    in
    let line = goes_line (n + 1) v ext is.1 (omega arith) in
    let end = goes_end (Extension (n + 1 + length ext) v) v (step_extension_cr (n + 1 + length ext) v) refl in
    goes_cons _ _ _ x (ext ++ line_end) [] first (goes_append _ _ _ ext line_end [] [] line end)

pub goes_size : (line : SizeLine) → IsSizeLine line
    → Goes start (print_size line) (behind_size (size_of line)) []
goes_size line is =
    let ds = line.digits in
    let ext = line.extension in
    let bytes : length ds + (length ext + 2) ≤ 256 =
    omega (arith, is.bytes, length-append ds (ext ++ line_end), length-append ext line_end)
    in
    goes_append start _ _ ds (ext ++ line_end) [] []
    (goes_digits 0 0 ds is.numeral.1 (omega (arith, is.digits)))
    (goes_extension (0 + length ds) (digits_value 16 ds) ext (omega (arith, is.numeral.0)) is.extension (omega arith))

-- ---- chunks

-- the bytes of a chunk are given, as far as they have come
plain_bytes : (n k : ℕ) (bytes : List ℕ) → length bytes ≤ n
    → plain (Data n) (take k bytes) ≡ take k bytes
plain_bytes n zero bytes fits = refl
plain_bytes n (suc k) [] fits = refl
plain_bytes n (suc k) (b ∷ bytes) fits = elim (cases_lt 1 n) [
  | inl more ↦ ap (λ (ys : List ℕ). b ∷ ys) (
      ap (λ (m : Phase). plain m (take k bytes)) (step_data n b more)
      ∙ plain_bytes (n - 1) k bytes (omega arith)
      )
  | inr last ↦ ap (λ (ys : List ℕ). b ∷ ys) (
      ap (λ (m : Phase). plain m (take k bytes)) (step_data_last n b last)
      ∙ none bytes (omega arith)
      )
]
  where
    none : (rest : List ℕ) → length rest ≤ 0 → plain DataCr (take k rest) ≡ take k rest
    none [] empty = plain_nothing k
      where
        plain_nothing : (j : ℕ) → plain DataCr (take j []) ≡ take j []
        plain_nothing zero = refl
        plain_nothing (suc j) = refl
    none (y ∷ rest) empty = absurd (omega arith)

goes_bytes : (n : ℕ) (bytes : List ℕ) → length bytes ≡ n → 0 < n → Goes (Data n) bytes DataCr bytes
goes_bytes n [] counted some = absurd (omega arith)
goes_bytes n (b ∷ []) counted some =
    goes_cons _ _ _ b [] [] (step_data_last n b (omega arith)) (nothing DataCr)
goes_bytes n (b ∷ (c ∷ bytes)) counted some =
    goes_cons _ _ _ b (c ∷ bytes) (c ∷ bytes) (step_data n b (omega arith))
    (goes_bytes (n - 1) (c ∷ bytes) (omega arith) (omega arith))

-- the CR LF behind a chunk's bytes
goes_behind : Goes DataCr line_end start []
goes_behind =
    goes_cons DataCr DataLf start 13 (10 ∷ []) [] step_data_cr
    (goes_cons DataLf start start 10 [] [] step_data_lf (nothing start))

-- behind a chunk's size line
goes_sized : (chunk : Chunk) → IsChunk chunk
    → Goes start (print_size chunk.size) (Data (length chunk.bytes)) []
goes_sized chunk is =
    goes_to _ _ _ _ _
    (ap behind_size (sym is.bytes) ∙ behind_some (length chunk.bytes) is.some)
    (goes_size chunk.size is.size)

pub goes_chunk : (chunk : Chunk) → IsChunk chunk → Goes start (print_chunk chunk) start chunk.bytes
goes_chunk chunk is =
    goes_append start _ _ (print_size chunk.size) (chunk.bytes ++ line_end) [] chunk.bytes (goes_sized chunk is) (
    subst (λ (x : List ℕ). Goes (Data (length chunk.bytes)) (chunk.bytes ++ line_end) start x)
    (append-nil chunk.bytes)
    (goes_append _ _ _ chunk.bytes line_end chunk.bytes [] (goes_bytes (length chunk.bytes) chunk.bytes refl is.some)
    goes_behind)
    )

-- ---- trailers

goes_trailer : (n : ℕ) (bytes : List ℕ) → All IsLineByte bytes → n + length bytes + 4 ≤ 1024
    → Goes (Trailer n) (bytes ++ line_end) (TrailerStart (n + length bytes + 2)) []
goes_trailer n [] all room =
    goes_to _ _ _ _ _ (ap TrailerStart (omega arith))
    (goes_cons (Trailer n) (TrailerLf (n + 1)) (TrailerStart (n + 1 + 1)) 13 (10 ∷ []) [] (step_trailer_cr n)
    (goes_cons (TrailerLf (n + 1)) (TrailerStart (n + 1 + 1)) (TrailerStart (n + 1 + 1)) 10 [] []
    (step_trailer_lf (n + 1)) (nothing (TrailerStart (n + 1 + 1)))))
goes_trailer n (b ∷ bytes) all room =
    let one = step_trailer n b (All-head IsLineByte b bytes all) (omega arith) in
    let others = goes_trailer (n + 1) bytes (All-tail IsLineByte b bytes all) (omega arith) in
    goes_to _ _ _ _ _ (ap TrailerStart (omega arith)) (goes_cons _ _ _ b (bytes ++ line_end) [] one others)

-- a whole trailer line
goes_trailer_line : (n : ℕ) (line : List ℕ) → IsTrailer line → n + length line + 4 ≤ 1024
    → Goes (TrailerStart n) (line ++ line_end) (TrailerStart (n + length line + 2)) []
goes_trailer_line n [] is room = absurd (omega (arith, is.some))
goes_trailer_line n (b ∷ bytes) is room =
    let one = step_trailers n b (All-head IsLineByte b bytes is.bytes) (omega arith) in
    let others = goes_trailer (n + 1) bytes (All-tail IsLineByte b bytes is.bytes) (omega arith) in
    goes_to _ _ _ _ _ (ap TrailerStart (omega arith)) (goes_cons _ _ _ b (bytes ++ line_end) [] one others)

pub goes_trailers : (n : ℕ) (lines : List (List ℕ)) → All IsTrailer lines
    → n + length (print_trailers lines) ≤ 1024
    → Goes (TrailerStart n) (print_trailers lines) Ended []
goes_trailers n [] all room =
    goes_cons (TrailerStart n) LastLf Ended 13 (10 ∷ []) [] (step_trailers_cr n)
    (goes_cons LastLf Ended Ended 10 [] [] step_last_lf (nothing Ended))
goes_trailers n (line ∷ lines) all room =
    let others = flat_map (λ (l : List ℕ). l ++ line_end) lines in
    let split : print_trailers (line ∷ lines) ≡ (line ++ line_end) ++ print_trailers lines =
    append_assoc (line ++ line_end) others line_end
    in
    let count : length (print_trailers (line ∷ lines)) ≡ length line + 2 + length (print_trailers lines) =
    ap length split
    ∙ omega (arith, length-append (line ++ line_end) (print_trailers lines), length-append line line_end)
    in
    let least : 2 ≤ length (print_trailers lines) = omega (arith, length-append others line_end) in
    let first = goes_trailer_line n line (All-head IsTrailer line lines all) (omega arith) in
    let rest = goes_trailers (n + length line + 2) lines (All-tail IsTrailer line lines all) (omega arith) in
    subst (λ (t : List ℕ). Goes (TrailerStart n) t Ended []) (sym split)
    (goes_append _ _ _ (line ++ line_end) (print_trailers lines) [] [] first rest)

-- ---- bodies

-- behind the chunks
goes_last : (body : Body) → IsBody body
    → Goes start (print_size body.last ++ print_trailers body.trailers) Ended []
goes_last body is =
    goes_append start _ _ (print_size body.last) (print_trailers body.trailers) [] []
    (goes_to _ _ _ _ _ (behind_none (size_of body.last) is.zero) (goes_size body.last is.last))
    (goes_trailers 0 body.trailers is.trailers (omega (arith, is.room)))

pub goes_chunks : (chunks : List Chunk) → All IsChunk chunks
    → Goes start (flat_map print_chunk chunks) start (flat_map (λ chunk. chunk.bytes) chunks)
goes_chunks [] all = nothing start
goes_chunks (chunk ∷ chunks) all =
    goes_append start start start (print_chunk chunk) (flat_map print_chunk chunks) chunk.bytes
    (flat_map (λ c. c.bytes) chunks)
    (goes_chunk chunk (All-head IsChunk chunk chunks all))
    (goes_chunks chunks (All-tail IsChunk chunk chunks all))

pub goes_body : (body : Body) → IsBody body → Goes start (print_body body) Ended (data_of body)
goes_body body is =
    subst (λ (x : List ℕ). Goes start (print_body body) Ended x) (append-nil (data_of body))
    (goes_append start start Ended (flat_map print_chunk body.chunks) (print_size body.last ++ print_trailers
    body.trailers) (data_of body) []
    (goes_chunks body.chunks is.chunks) (goes_last body is))

-- ---- the data of a front

plain_chunk : (k : ℕ) (chunk : Chunk) → IsChunk chunk
    → plain start (take k (print_chunk chunk)) ≡ take (k - length (print_size chunk.size)) chunk.bytes
plain_chunk k chunk is =
    let sized = goes_sized chunk is in
    let m = k - length (print_size chunk.size) in
    let n = length chunk.bytes in
    let behind : plain (run (Data n) chunk.bytes) (take (m - n) line_end) ≡ [] =
    ap (λ (q : Phase). plain q (take (m - n) line_end)) (goes_bytes n chunk.bytes refl is.some).ends
    ∙ quiet DataCr line_end (m - n) goes_behind.gives
    in
    plain-take start k (print_size chunk.size) (chunk.bytes ++ line_end)
    ∙ ap₂ (λ (xs ys : List ℕ). xs ++ ys)
    (quiet start (print_size chunk.size) k sized.gives)
    (ap (λ (q : Phase). plain q (take m (chunk.bytes ++ line_end))) sized.ends
    ∙ plain-take (Data n) m chunk.bytes line_end
    ∙ ap₂ (λ (xs ys : List ℕ). xs ++ ys) (plain_bytes n m chunk.bytes (omega arith)) behind
    ∙ append-nil (take m chunk.bytes))

plain_chunks : (k : ℕ) (chunks : List Chunk) (behind : List ℕ) → All IsChunk chunks
    → plain start behind ≡ [] → plain start (take k (flat_map print_chunk chunks ++ behind)) ≡ data_within k chunks
plain_chunks k [] behind all quietly = quiet start behind k quietly
plain_chunks k (chunk ∷ chunks) behind all quietly =
    let is = All-head IsChunk chunk chunks all in
    let first = print_chunk chunk in
    let others = flat_map print_chunk chunks in
    let m = k - length first in
    ap (λ (t : List ℕ). plain start (take k t)) (append_assoc first others behind)
    ∙ plain-take start k first (others ++ behind)
    ∙ ap₂ (λ (xs ys : List ℕ). xs ++ ys)
    (plain_chunk k chunk is)
    (ap (λ (q : Phase). plain q (take m (others ++ behind))) (goes_chunk chunk is).ends
    ∙ plain_chunks m chunks behind (All-tail IsChunk chunk chunks all) quietly)

-- the data among the first bytes of a body's text
pub plain_body : (k : ℕ) (body : Body) → IsBody body
    → plain start (take k (print_body body)) ≡ data_within k body.chunks
plain_body k body is =
    plain_chunks k body.chunks (print_size body.last ++ print_trailers body.trailers) is.chunks
    (goes_last body is).gives
