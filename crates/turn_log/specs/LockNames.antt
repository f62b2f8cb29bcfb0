-- Facts that a seat keeps beside its token.
use Rattle.std.specs.Prelude.{◌≡◌, IsTrue, Option, Some, None, is_some, unwrap_or, refl}
use base.Stored.{Coded-set}
use Rattle.atomic_table.specs.Seated.{TableId, table_id_coded}

-- two names of a table are equal in one way at most
pub table_id_set : (a b : TableId) → IsProp (a ≡ b)
table_id_set = Coded-set table_id_coded

-- a value that is there is the one that is read, whatever stands in for it elsewhere
pub some_is : {A : Type 0} (o : Option A) (d : A) → IsTrue (is_some o) → o ≡ Some (unwrap_or o d)
some_is (Some x) d there = refl
some_is None d there = absurd cc
