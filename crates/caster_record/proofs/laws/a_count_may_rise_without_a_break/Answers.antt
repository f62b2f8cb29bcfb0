-- A read that finds nothing may raise the count.
use Rattle.std.proofs.Common.{◌≡◌, ◌<◌, ◌^◌, ℕ, List, [], None, refl, arith}
use Rattle.cast_io.specs.declared.link.Got.TheVariants.{Idle}
use Rattle.cast_io.specs.Causes.{Rose, next_count}
use Rattle.cast_io.specs.Links.{HasRead, step_of}
use Rattle.cast_io.specs.Told.{LinkTold}
use Rattle.caster_record.specs.Moves.{heard_by}
use Rattle.caster_record.proofs.laws.a_count_may_rise_without_a_break.Goals as goal

abbrev counted : LinkTold → LinkTold
counted told = record told { left = None; taken = None; faults = next_count told.faults }

idle_read : (told : LinkTold) (buf : List ℕ) → told.faults < 2 ^ 64 → HasRead told (counted told) Idle buf
idle_read told buf small = record {
  given = refl;
  left = λ now is. absurd cc;
  taken = λ now is. absurd cc;
  bytes = refl;
  later = omega (arith, small);
  failed = λ failed. absurd cc;
}

may_rise : (k : ℕ) (told : LinkTold) (buf : List ℕ) → told.faults < 2 ^ 64
    → (later : LinkTold) × HasRead told later Idle buf × Rose told.faults later.faults
    × (heard_by k (step_of Idle buf) ≡ [])
may_rise k told buf small = (counted told, idle_read told buf small, omega arith, refl)

pub returns : goal.returns
returns c = may_rise
