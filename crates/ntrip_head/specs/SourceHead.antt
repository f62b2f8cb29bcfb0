-- Heads of the sources of NTRIP 1.0 (RTCM 10410.0): a line `SOURCE PASSWORD MOUNTPOINT`, header
-- lines and an empty line.
use Rattle.std.specs.Prelude.{◌≡◌, ◌≤◌, ◌⊎◌, ℕ, Bool, false, ◌==◌, if◌then◌else◌, nat_eq, codes, List, [], ◌∷◌, length, drop, Result, Ok, Err}
use Rattle.std.specs.List.{starts_with}
use Rattle.std.specs.Str.Lines.{strip_carriage_return}
use Rattle.httparse.specs.Grammar.{LineEnd, Field, ReadsSection}
use Rattle.cast_text.specs.Name.{name_of}
use Rattle.ntrip_head.specs.declared.fault.HeadFault.{HeadFault}
use Rattle.ntrip_head.specs.declared.fault.HeadFault.TheVariants.{Bad}
use Rattle.ntrip_head.specs.declared.request.Version.TheVariants.{One}
use Rattle.ntrip_head.specs.declared.request.Request.{Request}
use Rattle.ntrip_head.specs.declared.request.Request.TheVariants.{Source}
use Rattle.ntrip_head.specs.Cut.{cut_by}
use Rattle.ntrip_head.specs.Judge.{or_bad}

-- the head of a source of NTRIP 1.0
abbrev pub is_source : List ℕ → Bool
is_source bytes = starts_with nat_eq bytes (codes "SOURCE ")

-- the first line, without LF (10) and a CR before it
abbrev pub first_line : List ℕ → List ℕ
first_line bytes = strip_carriage_return (cut_by 10 bytes).0

-- what comes after the first line
abbrev pub after_line : List ℕ → List ℕ
after_line bytes = (cut_by 10 bytes).1

-- the bytes are, as a whole, at most 32 header lines and the empty line that ends them
abbrev pub IsHeaderBlock : List ℕ → Type 0
IsHeaderBlock bytes =
    (fields : List Field) × (last : LineEnd) × ReadsSection bytes fields last []
    × (length fields ≤ 32)

-- a text without the slash (47) at its front, if there is one
abbrev pub without_slash : List ℕ → List ℕ
without_slash [] = []
without_slash (b ∷ text) = if b == 47 then text else b ∷ text

-- a source with this password, if the mountpoint is one
abbrev pub source_with : List ℕ → Result (List ℕ) HeadFault → Result Request HeadFault
source_with password (Err e) = Err e
source_with password (Ok mount) = Ok (Source One mount password false)

-- the source with this password: its mountpoint may have a slash before it
abbrev pub source_of : List ℕ → List ℕ → Result Request HeadFault
source_of password mount = source_with password (or_bad (name_of (without_slash mount)))

-- what comes after the seven bytes of `SOURCE ` in the first line: the password, which may be
-- empty, up to the first space (32), and the mountpoint
abbrev pub words_of : List ℕ → List ℕ × List ℕ
words_of line = cut_by 32 (drop 7 line)

-- what the first line says
abbrev pub source_in : List ℕ → Result Request HeadFault
source_in line = source_of (words_of line).0 (words_of line).1

-- the answer of a source's head: what its first line says, or Bad where no header block follows
abbrev pub SourceAnswer : List ℕ → Result Request HeadFault → Type 0
SourceAnswer bytes answer =
    (IsHeaderBlock (after_line bytes) × (answer ≡ source_in (first_line bytes)))
    ⊎ ((¬ (IsHeaderBlock (after_line bytes))) × (answer ≡ Err Bad))
