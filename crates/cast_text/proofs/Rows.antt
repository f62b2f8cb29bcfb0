-- Worked rows, which the definitions compute.
use Rattle.std.proofs.Common.{◌≡◌, [], ◌∷◌, Ok, Err, refl, replicate}
use Rattle.std.specs.Prelude.{codes}
use Rattle.cast_text.specs.declared.fault.NameFault.TheVariants.{Empty, Long, Byte}
use Rattle.cast_text.specs.Name.{name_of}
use Rattle.cast_text.specs.Lines.{whole_lines, unfinished}

-- three bytes at most: `cdef`, `abc` CR `d` and `abcd` are too long, and `wait` has not ended
rows : whole_lines 3 (codes "ab\r\ncdef\n\nabc\r\nabc\rd\nabcd\r\nab\r\r\nwait") ≡ codes "ab" ∷ [] ∷ codes "abc" ∷ codes
    "ab\r" ∷ []
rows = refl

waiting : unfinished (codes "ab\r\nwait") ≡ codes "wait"
waiting = refl

empty : name_of [] ≡ Err Empty
empty = refl

semicolon : name_of (codes "A;B") ≡ Err (Byte 1)
semicolon = refl

space : name_of (codes "AB ") ≡ Err (Byte 2)
space = refl

question : name_of (codes "ALPHA?/") ≡ Err (Byte 5)
question = refl

named : name_of (codes "ALPHA~!") ≡ Ok (codes "ALPHA~!")
named = refl

longest : name_of (replicate 100 65) ≡ Ok (replicate 100 65)
longest = refl

long : name_of (replicate 101 59) ≡ Err (Long 101)
long = refl
