-- What may still come from a phase, as grammar: the bytes up to the body's end, and the data in
-- them.
use Rattle.std.proofs.Common.{◌≡◌, ℕ, zero, suc, ◌+◌, ◌≤◌, List, [], ◌∷◌, ◌++◌, length}
use Rattle.std.specs.List.{All}
use Rattle.std.specs.Str.Parse.{AllDigits, digits_value_after}
use Rattle.chunk_body.specs.declared.phase.Phase.{Phase}
use Rattle.chunk_body.specs.declared.phase.Phase.TheVariants.{Digits, Extension, SizeLf, Data, DataCr, DataLf, TrailerStart, Trailer, TrailerLf, LastLf, Ended, Broken}
use Rattle.chunk_body.specs.Body.{line_end, IsLineByte, IsExtension, IsTrailer, print_trailers}
use Rattle.chunk_body.specs.Text.{BodyText}

-- so many bytes of a chunk, its end, and a body
pub record RestData (n : ℕ) (u x : List ℕ) : Type 0 where
  pub bytes : List ℕ
  pub behind : List ℕ
  pub more : List ℕ
  pub counted : length bytes ≡ n
  pub text : u ≡ bytes ++ (13 ∷ 10 ∷ behind)
  pub body : BodyText behind more
  pub content : x ≡ bytes ++ more

-- trailer lines, of which so many bytes have come
pub record RestTrailers (n : ℕ) (u x : List ℕ) : Type 0 where
  pub lines : List (List ℕ)
  pub all : All IsTrailer lines
  pub room : n + length (print_trailers lines) ≤ 1024
  pub text : u ≡ print_trailers lines
  pub content : x ≡ []

-- behind a size line
abbrev pub Behind : ℕ → List ℕ → List ℕ → Type 0
Behind zero u x = RestTrailers 0 u x
Behind (suc n) u x = RestData (suc n) u x

-- in a size's digits
pub record RestDigits (n v : ℕ) (u x : List ℕ) : Type 0 where
  pub digits : List ℕ
  pub extension : List ℕ
  pub behind : List ℕ
  pub all : AllDigits 16 digits
  pub some : 1 ≤ n + length digits
  pub few : n + length digits ≤ 6
  pub is : IsExtension extension
  pub room : n + length digits + length extension + 2 ≤ 256
  pub text : u ≡ digits ++ (extension ++ (13 ∷ 10 ∷ behind))
  pub rest : Behind (digits_value_after 16 v digits) behind x

-- in an extension
pub record RestExtension (n v : ℕ) (u x : List ℕ) : Type 0 where
  pub bytes : List ℕ
  pub behind : List ℕ
  pub all : All IsLineByte bytes
  pub room : n + length bytes + 2 ≤ 256
  pub text : u ≡ bytes ++ (13 ∷ 10 ∷ behind)
  pub rest : Behind v behind x

-- before the LF of a size line
pub record RestSizeLf (v : ℕ) (u x : List ℕ) : Type 0 where
  pub behind : List ℕ
  pub text : u ≡ 10 ∷ behind
  pub rest : Behind v behind x

-- before the end of a chunk, or a part of it
pub record RestBody (front u x : List ℕ) : Type 0 where
  pub behind : List ℕ
  pub text : u ≡ front ++ behind
  pub body : BodyText behind x

-- in a trailer line
pub record RestTrailer (n : ℕ) (u x : List ℕ) : Type 0 where
  pub bytes : List ℕ
  pub lines : List (List ℕ)
  pub all : All IsLineByte bytes
  pub others : All IsTrailer lines
  pub room : n + length bytes + 2 + length (print_trailers lines) ≤ 1024
  pub text : u ≡ bytes ++ (13 ∷ 10 ∷ print_trailers lines)
  pub content : x ≡ []

-- before the LF of a trailer line
pub record RestTrailerLf (n : ℕ) (u x : List ℕ) : Type 0 where
  pub lines : List (List ℕ)
  pub others : All IsTrailer lines
  pub room : n + 1 + length (print_trailers lines) ≤ 1024
  pub text : u ≡ 10 ∷ print_trailers lines
  pub content : x ≡ []

abbrev pub Rest : Phase → List ℕ → List ℕ → Type 0
Rest (Digits n v) u x = RestDigits n v u x
Rest (Extension n v) u x = RestExtension n v u x
Rest (SizeLf v) u x = RestSizeLf v u x
Rest (Data n) u x = RestData n u x
Rest DataCr u x = RestBody line_end u x
Rest DataLf u x = RestBody (10 ∷ []) u x
Rest (TrailerStart n) u x = RestTrailers n u x
Rest (Trailer n) u x = RestTrailer n u x
Rest (TrailerLf n) u x = RestTrailerLf n u x
Rest LastLf u x = (u ≡ 10 ∷ []) × (x ≡ [])
Rest Ended u x = (u ≡ []) × (x ≡ [])
Rest Broken u x = ⊥
