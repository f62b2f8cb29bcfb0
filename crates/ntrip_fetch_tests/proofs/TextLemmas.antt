-- What a text is that was made of bytes.
use Rattle.std.proofs.Common.{◌≡◌, ℕ, Bool, true, false, if◌then◌else◌, List, length}
use Rattle.std.specs.Prelude.{nat_lt, Ok, Err}
use Rattle.cast_text.specs.declared.TextFault.TheVariants.{Long}
use Rattle.cast_text.specs.Text.{text_of}

pub text_is : (bytes text : List ℕ) → text_of bytes ≡ Ok text → text ≡ bytes
text_is bytes text is = by (nat_lt 8192 (length bytes)) is
  where
    by : (long : Bool) → (if long then Err (Long (length bytes)) else Ok bytes) ≡ Ok text → text ≡ bytes
    by true is = absurd cc
    by false is = cc
