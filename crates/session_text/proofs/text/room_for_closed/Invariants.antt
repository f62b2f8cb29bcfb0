-- the room for the lines so far
use Rattle.std.proofs.Common.{◌≡◌, ◌+◌, take, sum_by}
use Rattle.session_text.specs.Room.{account_room, mount_room, mounts_room, total_room}
use Rattle.session_text.proofs.text.room_for_closed.Given as goal

abbrev pub invariant-loop-mount : goal.invariant-loop-mount
invariant-loop-mount l = l.room ≡ total_room + sum_by mount_room (take l.mount-index l.config.mount)

abbrev pub invariant-loop-account : goal.invariant-loop-account
invariant-loop-account l =
    l.room ≡ total_room + mounts_room l.config.mount + sum_by account_room (take l.account-index l.config.account)
