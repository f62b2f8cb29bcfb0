-- How a frame is written as a chunk (RFC 9112, section 7.1).
use Rattle.std.specs.Prelude.{ℕ, false, List, ◌++◌, length}
use Rattle.std.specs.Fmt.{digits}
use Rattle.chunk_body.specs.Body.{line_end}

-- the size in lower-case hexadecimal digits without leading zeros, CR LF, the bytes, CR LF
abbrev pub chunk_of : List ℕ → List ℕ
chunk_of bytes = digits 16 false (length bytes) ++ (line_end ++ (bytes ++ line_end))
