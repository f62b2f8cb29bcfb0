-- What a text is to the chunked coding, by the relation between a body's text and its data alone.
use Rattle.std.specs.Prelude.{◌≡◌, ℕ, ◌+◌, ◌<◌, List, [], ◌∷◌, ◌++◌, length, take}
use Rattle.chunk_body.specs.Body.{Body, IsBody, print_body, data_of, data_within}

-- the text is a whole body that holds this data
abbrev pub BodyText : List ℕ → List ℕ → Type 0
BodyText text content =
    (body : Body) × IsBody body × (text ≡ print_body body) × (content ≡ data_of body)

-- some continuation of the text is a body
abbrev pub IsLive : List ℕ → Type 0
IsLive text = (behind content : List ℕ) × BodyText (text ++ behind) content

-- the text is a body, or goes on behind one
abbrev pub HasEnded : List ℕ → Type 0
HasEnded text = (front behind content : List ℕ) × (text ≡ front ++ behind) × BodyText front content

-- some continuation is a body, and the body has not ended
pub record IsOpen (text : List ℕ) : Type 0 where
  pub live : IsLive text
  pub going : HasEnded text → ⊥

-- the byte at this place is the fault: the bytes before it are open, and with it no continuation is
-- a body
pub record IsBadAt (text : List ℕ) (place : ℕ) : Type 0 where
  pub within : place < length text
  pub before : IsOpen (take place text)
  pub broken : IsLive (take (place + 1) text) → ⊥

-- the data that stands in the longest live front of the text. It is the same for each body that
-- goes on from there
pub record IsPlain (text content : List ℕ) : Type 0 where
  pub front : List ℕ
  pub rest : List ℕ
  pub split : text ≡ front ++ rest
  pub live : IsLive front
  pub longest : (byte : ℕ) (more : List ℕ) → rest ≡ byte ∷ more → IsLive (front ++ byte ∷ []) → ⊥
  pub holds : (body : Body) (behind : List ℕ) → IsBody body → front ++ behind ≡ print_body body
      → content ≡ data_within (length front) body.chunks
