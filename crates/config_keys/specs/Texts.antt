-- Texts and names.
use Rattle.std.specs.Prelude.{ℕ, Bool, not, ◌&&◌, ◌==◌, nat_le, if◌then◌else◌, List, length, Ok, Err}
use Rattle.std.specs.List.{list_all}
use Rattle.std.specs.Str.{is_utf8}
use Rattle.toml.specs.Data.{string}
use Rattle.cast_text.specs.Name.{is_name}
use Rattle.config_keys.specs.declared.strings.TextKind.{TextKind}
use Rattle.config_keys.specs.declared.strings.TextKind.TheVariants.{Plain, Secret, Address}
use Rattle.config_keys.specs.declared.fault.KeyFault.TheVariants.{Wrong, Range}
use Rattle.config_keys.specs.Rules.{Rule}

-- no CR (13) and no LF (10)
abbrev pub is_inline : ℕ → Bool
is_inline byte = not (byte == 13) && not (byte == 10)

-- nor a `;` (59), which is between the fields of the sourcetable
abbrev pub is_plain : ℕ → Bool
is_plain byte = is_inline byte && not (byte == 59)

-- what every text keeps: at most 100 bytes, and UTF-8, as each string of a TOML document is
abbrev pub is_short : List ℕ → Bool
is_short text = nat_le (length text) 100 && is_utf8 text

-- A password may have a `;`, and an address is not empty.
abbrev pub is_fit : TextKind → List ℕ → Bool
is_fit Plain text = is_short text && list_all is_plain text
is_fit Secret text = is_short text && list_all is_inline text
is_fit Address text = is_short text && list_all is_plain text && nat_le 1 (length text)

-- a text of this kind
abbrev pub text : TextKind → Rule (List ℕ)
text kind key (string s) = if is_fit kind s then Ok s else Err (Range key)
text kind key _ = Err (Wrong key)

-- the name of a mountpoint, a user or a group
abbrev pub name : Rule (List ℕ)
name key (string s) = if is_name s then Ok s else Err (Range key)
name key _ = Err (Wrong key)
