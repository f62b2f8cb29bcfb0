-- How much room the text of what a caster came to takes at most: a number of 128 bits has 39 digits
-- at most.
use Rattle.std.specs.Prelude.{ℕ, ◌+◌, ◌≤◌, List, length, sum_by, Result, OnOk, IsOk}
use Rattle.cast_config.specs.declared.config.Config.{Config}
use Rattle.cast_config.specs.declared.config.Mount.{Mount}
use Rattle.cast_config.specs.declared.config.Account.{Account}

-- "mount ", a name, two numbers with a space each, and LF
abbrev pub mount_room : Mount → ℕ
mount_room mount = length mount.name + 87

-- "account ", a user, three numbers with a space each, and LF
abbrev pub account_room : Account → ℕ
account_room account = length account.user + 129

-- "total", three numbers with a space each, and LF
abbrev pub total_room : ℕ
total_room = 126

abbrev pub mounts_room : List Mount → ℕ
mounts_room mounts = sum_by mount_room mounts

abbrev pub accounts_room : List Account → ℕ
accounts_room accounts = sum_by account_room accounts

-- all lines
abbrev pub closed_room : Config → ℕ
closed_room c = mounts_room c.mount + accounts_room c.account + total_room

-- Of a call that appends to a list: so many bytes at most were appended, the capacity did not
-- shrink, and the call did not fail where there was room for so many.
pub record FitsRoom {T E : Type 0} (most old capacity_before new capacity_after : ℕ)
    (result : Result T E) : Type 0 where
  pub short : OnOk result (new ≤ old + most)
  pub capacity : capacity_before ≤ capacity_after
  pub room : old + most ≤ capacity_before → IsOk result
