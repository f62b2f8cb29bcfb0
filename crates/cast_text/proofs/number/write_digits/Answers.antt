use Rattle.std.proofs.Common.{ℕ, List, false, ap, arith}
use Rattle.std.specs.Fmt.{digits, digits_onto}
use Rattle.std.proofs.lemmas.List.{drop_all}
use Rattle.cast_text.proofs.number.write_digits.Goals as goal

pub loop-at-init : goal.loop-at-init
unfolding digits
loop-at-init c = record {
  size = c.requires.size;
  within = omega arith;
  so_far = ap (λ (acc : List ℕ). digits_onto 64 c.args.base false c.args.value acc)
      (drop_all 64 c.args.room.now (omega (arith, c.requires.size)));
}
