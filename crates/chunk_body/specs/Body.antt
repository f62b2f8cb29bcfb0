-- A body in the chunked transfer coding (RFC 9112, section 7.1), with the limits of this caster: as
-- a tree, the text that a tree prints, and the data that it holds.
use Rattle.std.specs.Prelude.{◌≡◌, ◌≢◌, ℕ, ◌-◌, ◌<◌, ◌≤◌, ⊤, List, [], ◌∷◌, ◌++◌, length, take, All}
use Rattle.std.specs.List.{flat_map}
use Rattle.std.specs.Str.Parse.{IsNumeral, digits_value}

-- CR LF, the end of every line
abbrev pub line_end : List ℕ
line_end = 13 ∷ 10 ∷ []

-- a byte that may stand in a line: neither CR nor LF
abbrev pub IsLineByte : ℕ → Type 0
IsLineByte byte = (byte ≢ 13) × (byte ≢ 10)

-- a chunk's size in digits, and the extension behind them
pub record SizeLine : Type 0 where
  pub digits : List ℕ
  pub extension : List ℕ

abbrev pub print_size : SizeLine → List ℕ
print_size line = line.digits ++ (line.extension ++ line_end)

-- the size that the digits write, in hexadecimal
abbrev pub size_of : SizeLine → ℕ
size_of line = digits_value 16 line.digits

-- an extension is nothing, or `;` (59) and line bytes
abbrev pub IsExtension : List ℕ → Type 0
IsExtension [] = ⊤
IsExtension (x ∷ more) = (x ≡ 59) × All IsLineByte more

-- 1 to 6 hexadecimal digits of either case, an extension, and at most 256 bytes with the line's end
pub record IsSizeLine (line : SizeLine) : Type 0 where
  pub numeral : IsNumeral 16 line.digits
  pub digits : length line.digits ≤ 6
  pub extension : IsExtension line.extension
  pub bytes : length (print_size line) ≤ 256

-- a chunk: its size line, and then so many bytes
pub record Chunk : Type 0 where
  pub size : SizeLine
  pub bytes : List ℕ

abbrev pub print_chunk : Chunk → List ℕ
print_chunk chunk = print_size chunk.size ++ (chunk.bytes ++ line_end)

pub record IsChunk (chunk : Chunk) : Type 0 where
  pub size : IsSizeLine chunk.size
  pub bytes : length chunk.bytes ≡ size_of chunk.size
  pub some : 0 < length chunk.bytes

-- a trailer line has one line byte or more
pub record IsTrailer (line : List ℕ) : Type 0 where
  pub bytes : All IsLineByte line
  pub some : 0 < length line

-- the trailer lines, and the empty line behind them
abbrev pub print_trailers : List (List ℕ) → List ℕ
print_trailers lines = flat_map (λ line. line ++ line_end) lines ++ line_end

-- a body: its chunks, the size line of the last chunk, which has size 0, and the trailer lines
pub record Body : Type 0 where
  pub chunks : List Chunk
  pub last : SizeLine
  pub trailers : List (List ℕ)

abbrev pub print_body : Body → List ℕ
print_body body =
    flat_map print_chunk body.chunks ++ (print_size body.last ++ print_trailers body.trailers)

pub record IsBody (body : Body) : Type 0 where
  pub chunks : All IsChunk body.chunks
  pub last : IsSizeLine body.last
  pub zero : size_of body.last ≡ 0
  pub trailers : All IsTrailer body.trailers
  pub room : length (print_trailers body.trailers) ≤ 1024

-- the bytes of all chunks in order
abbrev pub data_of : Body → List ℕ
data_of body = flat_map (λ chunk. chunk.bytes) body.chunks

-- those of them that stand among the first so many bytes of the text
abbrev pub data_within : ℕ → List Chunk → List ℕ
data_within count [] = []
data_within count (chunk ∷ more) =
    take (count - length (print_size chunk.size)) chunk.bytes
    ++ data_within (count - length (print_chunk chunk)) more
