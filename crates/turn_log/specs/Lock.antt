-- What callers say of a lock, its passes and its notes.
use Rattle.std.specs.Prelude.{◌≡◌, ℕ, Some, unwrap_or}
use base.Stored.{Gv}
use Rattle.atomic_table.specs.Seated.{table_id_coded}
use Rattle.turn_log.specs.declared.object.Played.{Ghosts}
use Rattle.turn_log.specs.declared.lock.parts.Turn.{Turn}
use Rattle.turn_log.specs.declared.lock.parts.Pass.{Pass}
use Rattle.turn_log.specs.declared.lock.parts.Note.{Note}
use Rattle.turn_log.specs.declared.lock.parts.Seat.{Seat}
use Rattle.turn_log.specs.History.{History}

module _ {V C A R S : Type 0} where
  -- how many passes the lock was opened with
  abbrev pub turn_passes : Turn V C A R S → ℕ
  turn_passes turn = turn.table.shared.key.passes

  -- the object that the lock was opened with
  abbrev pub turn_value : Turn V C A R S → V
  turn_value turn = turn.table.shared.key.value.value

  -- which lock it is, as the home of its seats
  abbrev pub turn_home : Turn V C A R S → Gv
  turn_home turn = table_id_coded.code turn.table.shared.table_id

module _ {V C A R S : Type 0} {g : Ghosts V C A R S} where
  -- the caller number of a pass
  abbrev pub pass_number : Pass V C A R S g → ℕ
  pass_number pass = pass.number

  -- the history as the pass has seen it
  abbrev pub pass_seen : Pass V C A R S g → History C
  pass_seen pass = pass.token.me.0.seen

  -- the last count of tickets of 2 ^ 62 or more that the pass met, or 0
  abbrev pub pass_worn : Pass V C A R S g → ℕ
  pass_worn pass = pass.token.me.0.worn

  -- which lock the pass is of
  abbrev pub pass_home : Pass V C A R S g → Gv
  pass_home pass = table_id_coded.code pass.token.table_id

  -- what no call changes of the object that the pass is for
  abbrev pub HasShape : Pass V C A R S g → S → Type 0
  HasShape pass shape = (value : V) × (pass.token.me.0.about ≡ Some value) × (g.shape value ≡ shape)

  -- the pass is one of this lock's
  abbrev pub IsPassOf : Pass V C A R S g → Turn V C A R S → Type 0
  IsPassOf pass turn = (pass_home pass ≡ turn_home turn) × HasShape pass (g.shape (turn_value turn))

  -- the pass is what it was, but for what it has seen
  abbrev pub SamePass : Pass V C A R S g → Pass V C A R S g → Type 0
  SamePass old now =
      (pass_number now ≡ pass_number old) × (pass_worn now ≡ pass_worn old)
      × (pass_home now ≡ pass_home old)
      × (now.token.me.0.about ≡ old.token.me.0.about)

  -- the history as the note's writer had seen it
  abbrev pub note_seen : Note V C A R S g → History C
  note_seen note = note.token.me.0.seen

  -- the note was written by a pass of this lock
  abbrev pub IsNoteOf : Note V C A R S g → Turn V C A R S → Type 0
  IsNoteOf note turn = table_id_coded.code note.token.table_id ≡ turn_home turn

module _ {V P C A R S : Type 0} {g : Ghosts V C A R S} where
  -- the history as the seat has seen it
  abbrev pub seat_seen : Seat V P C A R S g → History C
  seat_seen seat = pass_seen seat.pass

  -- what no call changes of the object behind the lock
  abbrev pub seat_shape : Seat V P C A R S g → S
  seat_shape seat = g.shape (unwrap_or seat.pass.token.me.0.about (turn_value seat.turn.now))

  -- which lock the seat is at
  abbrev pub seat_home : Seat V P C A R S g → Gv
  seat_home seat = pass_home seat.pass
