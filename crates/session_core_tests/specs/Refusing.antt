-- Places that refuse one turn.
use Rattle.session_core_tests.specs.declared.tired.Tired.{Tired}

-- what no call changes of the object there, by what is said of the place within
abbrev pub tired_shape : {P S : Type 0} → (P → S) → Tired P → S
tired_shape shape tired = shape tired.place
