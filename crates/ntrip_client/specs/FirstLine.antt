-- The first line of what a caster answers. NTRIP 1.0 (RTCM 10410.0) says `ICY 200 OK` where frames
-- follow and `SOURCETABLE 200 OK` where its sourcetable does; NTRIP 2.0 (RTCM 10410.1) answers with
-- a status line of HTTP (RFC 9112, section 4).
use Rattle.std.specs.Prelude.{◌≡◌, ℕ, Bool, false, ◌==◌, if◌then◌else◌, nat_eq, codes, List, ◌∷◌, ◌++◌}
use Rattle.std.specs.List.{list_any, starts_with}
use Rattle.std.specs.Str.{bytes_eq}
use Rattle.std.specs.Str.Lines.{strip_carriage_return}
use Rattle.ntrip_client.specs.declared.first_line.FirstLine.{FirstLine}
use Rattle.ntrip_client.specs.declared.first_line.FirstLine.TheVariants.{Icy, Table, Http, Other}

-- a line has ended in these bytes: there is a LF (10)
abbrev pub has_line : List ℕ → Bool
has_line bytes = list_any (λ b. b == 10) bytes

-- this is the first line of the bytes: it stands before their first LF
abbrev pub IsFirstLine : List ℕ → List ℕ → Type 0
IsFirstLine line bytes =
    (rest : List ℕ) × (bytes ≡ line ++ 10 ∷ rest) × (has_line line ≡ false)

-- what a line is by its words
abbrev pub kind_by_words : List ℕ → FirstLine
kind_by_words words =
    if bytes_eq words (codes "ICY 200 OK") then Icy
    else if starts_with nat_eq words (codes "SOURCETABLE") then Table
    else if starts_with nat_eq words (codes "HTTP/") then Http
    else Other

-- what a line is; a CR at its end is none of its words
abbrev pub kind_of : List ℕ → FirstLine
kind_of line = kind_by_words (strip_carriage_return line)

-- the bytes begin with a line of HTTP
abbrev pub SpeaksHttp : List ℕ → Type 0
SpeaksHttp bytes = (line : List ℕ) × IsFirstLine line bytes × (kind_of line ≡ Http)
