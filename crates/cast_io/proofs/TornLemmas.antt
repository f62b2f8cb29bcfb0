-- Where no write is listed as torn, none takes a part of its piece.
use Rattle.std.proofs.Common.{◌≡◌, ℕ, List, [], ◌∷◌, None, refl}
use Rattle.cast_io.specs.Fakes.{torn_at}

pub torn_none : (number : ℕ) (torn : List (ℕ × ℕ)) → torn ≡ [] → torn_at number torn ≡ None
torn_none number [] none = refl
torn_none number (pair ∷ torn) none = cc
