-- What a text is: at most 8,192 bytes.
use Rattle.std.specs.Prelude.{◌≡◌, ℕ, nat_lt, if◌then◌else◌, List, length, Result, Ok, Err}
use Rattle.cast_text.specs.declared.fault.TextFault.{TextFault}
use Rattle.cast_text.specs.declared.fault.TextFault.TheVariants.{Long, Memory}

-- the text that the bytes are, unless they are too many
abbrev pub text_of : List ℕ → Result (List ℕ) TextFault
text_of bytes = if nat_lt 8192 (length bytes) then Err (Long (length bytes)) else Ok bytes

-- the call fails so, or for want of memory
abbrev pub Fails : TextFault → Result (List ℕ) TextFault → Type 0
Fails Memory text = Unit {0}
Fails (Long count) text = text ≡ Err (Long count)

-- the call returned this text or this fault, unless memory ran out
abbrev pub Gives : Result (List ℕ) TextFault → Result (List ℕ) TextFault → Type 0
Gives (Ok bytes) text = text ≡ Ok bytes
Gives (Err fault) text = Fails fault text
