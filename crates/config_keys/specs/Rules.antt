-- What a key of a configuration may hold. A rule takes the data that stands at a key and gives its
-- value, or the first of the tests that the data fails: first its type, then its range.
use Rattle.std.specs.Prelude.{ℕ, ℤ, pos, negsuc, int_le, nat_le, Bool, ◌&&◌, if◌then◌else◌, Option, Some, None, Ok, Err}
use Rattle.std.specs.Borrow.{Bor}
use Rattle.std.specs.Option.{option_map}
use Rattle.toml.specs.Data.{Data, integer}
use Rattle.toml.specs.View.{view}
use Rattle.toml.specs.declared.value.Value.{Value}
use Rattle.config_keys.specs.declared.key.Key.{Key}
use Rattle.config_keys.specs.declared.fault.KeyFault.TheVariants.{Missing, Wrong, Range}
use Rattle.config_keys.specs.Answers.{Read}

abbrev pub Rule : Type 0 → Type 0
Rule A = Key → Data → Read A

-- a key that has to be there
abbrev pub required : {A : Type 0} → Rule A → Key → Option Data → Read A
required rule key None = Err (Missing key)
required rule key (Some found) = rule key found

-- a key that may be left out, and then has this value
abbrev pub optional : {A : Type 0} → A → Rule A → Key → Option Data → Read A
optional default rule key None = Ok default
optional default rule key (Some found) = rule key found

-- the data of a value that the code found at a key, or did not find
abbrev pub seen : Option (Bor Value) → Option Data
seen value = option_map (λ v. view v.now) value

-- a number lies between these two, both included
abbrev pub is_within : ℕ → ℕ → ℕ → Bool
is_within least most n = nat_le least n && nat_le n most

-- a whole number between these two, both included
abbrev pub whole : ℤ → ℤ → Rule ℤ
whole least most key (integer z) =
    if int_le least z && int_le z most then Ok z else Err (Range key)
whole least most key _ = Err (Wrong key)

-- the same where neither is below 0
abbrev pub count : ℕ → ℕ → Rule ℕ
count least most key (integer (pos n)) = if is_within least most n then Ok n else Err (Range key)
count least most key (integer (negsuc n)) = Err (Range key)
count least most key _ = Err (Wrong key)
