-- Listeners that are none any more.
use Rattle.std.specs.Prelude.{◌≡◌, ◌⊎◌, ℤ, pos, Option, Some}

-- The system's number of a failure says that there is no listener any more: the descriptor is not
-- open (EBADF, 9), it does not listen (EINVAL, 22), or it is no socket (ENOTSOCK, 88).
abbrev pub IsDead : Option ℤ → Type 0
IsDead code = (code ≡ Some (pos 9)) ⊎ (code ≡ Some (pos 22)) ⊎ (code ≡ Some (pos 88))
