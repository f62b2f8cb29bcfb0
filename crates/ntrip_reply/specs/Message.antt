-- Lines, and the messages of HTTP/1.1 that are made of them (RFC 9112, section 2.1): a start line,
-- header lines, an empty line and a body.
use Rattle.std.specs.Prelude.{ℕ, codes, List, [], ◌∷◌, ◌++◌, length, map}
use Rattle.std.specs.Borrow.{Bor}
use Rattle.std.specs.List.{flat_map}
use Rattle.std.specs.Fmt.{decimal}

-- a line ends with CR LF
abbrev pub line : List ℕ → List ℕ
line text = text ++ codes "\r\n"

-- lines, one after another
abbrev pub lines : List (List ℕ) → List ℕ
lines texts = flat_map line texts

-- how many bytes the body has (RFC 9110, section 8.6)
abbrev pub content_length : List ℕ → List ℕ
content_length body = codes "Content-Length: " ++ decimal (length body)

-- the connection is closed after the message (RFC 9112, section 9.6)
abbrev pub close : List ℕ
close = codes "Connection: close"

-- a message: this start line and these header lines first, then the length of the body, that the
-- connection is closed, an empty line, and the body
abbrev pub message : List (List ℕ) → List ℕ → List ℕ
message first body = lines (first ++ content_length body ∷ close ∷ [] ∷ []) ++ body

-- the texts that slices hold
abbrev pub texts_in : List (Bor (List ℕ)) → List (List ℕ)
texts_in slices = map (λ s. s.now) slices
