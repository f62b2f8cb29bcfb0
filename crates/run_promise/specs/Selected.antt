-- Which bases a rover joins: its reports and its permissions select them.
use Rattle.std.specs.Prelude.{◌≡◌, ◌≢◌, ℕ, ◌⊎◌, Bool, true, false, List, [], ◌∷◌, ◌++◌, map, Option, None, Some}
use Rattle.std.specs.List.{flat_map}
use Rattle.gga_read.specs.declared.Position.{Position}
use Rattle.base_select.specs.declared.Base.{Base}
use Rattle.base_select.specs.Choice.{IsChoice}
use Rattle.mount_ring.specs.declared.cursor.Cursor.{Cursor}
use Rattle.mount_ring.specs.declared.call.RingCall.TheVariants.{Join, Look}
use Rattle.mount_ring.specs.declared.call.RingAnswer.TheVariants.{Joined, Looked}
use Rattle.run_promise.specs.Calls.{Call, call}

-- a Look on each of these bases, in order, each answered with the claim under which a source holds
-- the base, if one does
abbrev pub looks : List (Base × Option ℕ) → List Call
looks lives = map (λ (live : Base × Option ℕ). call live.0.mount Look (Looked live.1)) lives

-- the base, where it is held
abbrev pub if_held : Base → Option ℕ → List Base
if_held base None = []
if_held base (Some claim) = base ∷ []

-- the bases among them that are held
abbrev pub held : List (Base × Option ℕ) → List Base
held lives = flat_map (λ (live : Base × Option ℕ). if_held live.0 live.1) lives

-- the mountpoint that is chosen among the held bases for this position, from the present one on:
-- where none is held, the present one stays. `IsChoice` says that it is the nearest of them, but
-- that a present one among them stays unless the nearest is less far by `hysteresis` percent
abbrev pub Chooses : ℕ → Option ℕ → Position → List Base → Option ℕ → Type 0
Chooses hysteresis present at [] next = next ≡ present
Chooses hysteresis present at (base ∷ bases) next =
    (mount : ℕ) × (next ≡ Some mount) × IsChoice present at (base ∷ bases) hysteresis mount

-- one Join, with the filter of this number, where the choice is another than the present
-- mountpoint, and none where it is the same
abbrev pub Joins : ℕ → Option ℕ → Option ℕ → List Call → Type 0
Joins filter present next calls =
    ((next ≡ present) × (calls ≡ []))
    ⊎ ((mount : ℕ) × (cursor : Cursor) × (next ≡ Some mount) × (next ≢ present)
    × (calls ≡ call mount (Join filter) (Joined cursor) ∷ []))

-- of a rover that takes the nearest of these bases: for each report a Look on each base, and behind
-- all these a Join where the choice changed. Others may call in between: a base that was held at
-- its Look may have been given back by the Join
abbrev pub Follows : ℕ → ℕ → List Base → Option ℕ → List Position → List Call → Type 0
Follows hysteresis filter bases present [] calls = calls ≡ []
Follows hysteresis filter bases present (report ∷ later) calls =
    (lives : List (Base × Option ℕ)) × (next : Option ℕ) × (joined rest : List Call)
    × (map (λ (live : Base × Option ℕ). live.0) lives ≡ bases)
    × Chooses hysteresis present report (held lives) next
    × Joins filter present next joined
    × (calls ≡ looks lives ++ (joined ++ rest))
    × Follows hysteresis filter bases next later rest

-- of one that does not: a Join at each of its bases. It has one, the mountpoint that it asked for
abbrev pub JoinsEach : ℕ → List Base → List Call → Type 0
JoinsEach filter [] calls = calls ≡ []
JoinsEach filter (base ∷ bases) calls =
    (cursor : Cursor) × (rest : List Call)
    × (calls ≡ call base.mount (Join filter) (Joined cursor) ∷ rest)
    × JoinsEach filter bases rest

-- the calls that a rover's reports select, where it is near, and so takes the nearest of its bases
-- (the first argument), and where it is not: each Join is at one of them, with its filter
abbrev pub Selects : (near : Bool) → ℕ → ℕ → List Base → List Position → List Call → Type 0
Selects true hysteresis filter bases reports calls =
    Follows hysteresis filter bases None reports calls
Selects false hysteresis filter bases reports calls = JoinsEach filter bases calls
