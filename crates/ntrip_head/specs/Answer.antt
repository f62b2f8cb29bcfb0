-- The answer of a head: a request or a fault. It is a judgment on the tree that the grammar of
-- HTTP/1.1 (RFC 9112, sections 2 to 5) reads in the head, as `httparse` states that grammar.
use Rattle.std.specs.Prelude.{◌≡◌, ◌≤◌, ◌⊎◌, ℕ, Bool, false, not, MatchBool, ◌&&◌, ◌==◌, List, [], ◌∷◌, length, map, Result, Err}
use Rattle.httparse.specs.Grammar.{RequestHead, ReadsRequest}
use Rattle.httparse.specs.Spans.{name_and_value}
use Rattle.ntrip_head.specs.declared.fault.HeadFault.{HeadFault}
use Rattle.ntrip_head.specs.declared.fault.HeadFault.TheVariants.{Bad}
use Rattle.ntrip_head.specs.declared.request.Request.{Request}
use Rattle.ntrip_head.specs.Judge.{request_of}
use Rattle.ntrip_head.specs.SourceHead.{is_source, SourceAnswer}

-- there is a first byte, and it is not that of a line end, LF (10) or CR (13)
abbrev pub begins_in_line : List ℕ → Bool
begins_in_line [] = false
begins_in_line (b ∷ bytes) = not (b == 13) && not (b == 10)

-- the bytes are this request head, from the first to the last, with no empty line before it and at
-- most 32 header lines
pub record IsWholeRequest (bytes : List ℕ) (h : RequestHead) : Type 0 where
  pub reads : ReadsRequest bytes h []
  pub first : h.blank ≡ []
  pub room : length h.fields ≤ 32

-- the bytes are no such head
abbrev pub IsNoRequest : List ℕ → Type 0
IsNoRequest bytes = (h : RequestHead) → ¬ (IsWholeRequest bytes h)

-- what the tree of a head says
abbrev pub request_in : RequestHead → Result Request HeadFault
request_in h = request_of h.method h.target (map name_and_value h.fields)

-- the answer of an HTTP request head: what its tree says, or Bad where it has none
abbrev pub HttpAnswer : List ℕ → Result Request HeadFault → Type 0
HttpAnswer bytes answer =
    ((h : RequestHead) × IsWholeRequest bytes h × (answer ≡ request_in h))
    ⊎ (IsNoRequest bytes × (answer ≡ Err Bad))

-- the answer of a head: one that begins with `SOURCE ` is that of a source of NTRIP 1.0, and every
-- other one is an HTTP request
abbrev pub HeadAnswer : List ℕ → Result Request HeadFault → Type 0
HeadAnswer bytes answer =
    MatchBool (is_source bytes) (SourceAnswer bytes answer) (HttpAnswer bytes answer)
