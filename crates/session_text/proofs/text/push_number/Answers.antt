use Rattle.std.proofs.Common.{length, arith, ap, refl}
use Rattle.std.proofs.lemmas.List.{length-append}
use Rattle.std.specs.Fmt.{decimal}
use Rattle.session_text.proofs.TextLemmas.{short_number}
use Rattle.session_text.proofs.text.push_number.Goals as goal

pub returns-in-Err-clause-fits : goal.returns-in-Err-clause-fits
returns-in-Err-clause-fits c =
    let short = short_number c.args.number c.ranges.number.fits in
    let front = c.in_ok-extend_from_slice.ensures.len in
    let kept = c.extend_from_slice.ensures.capacity in
    record {
      short = tt;
      capacity = omega (arith, kept, c.push_decimal.ensures.capacity);
      room = λ enough. c.in-Err.ensures.room (omega (arith, enough, short, front, kept));
    }

pub returns-in-Ok-clause-fits : goal.returns-in-Ok-clause-fits
returns-in-Ok-clause-fits c =
    let number = c.args.number in
    let front = c.extend_from_slice.new.self in
    let whole = c.push_decimal.new.out in
    let short = short_number number c.ranges.number.fits in
    let size = length-append front.items (decimal number) in
    let grew = ap length c.in-Ok.ensures.ok in
    record {
      short = omega (arith, short, size, grew, whole.ok.0, front.ok.0, c.in_ok-extend_from_slice.ensures.len);
      capacity = omega (arith, c.extend_from_slice.ensures.capacity, c.push_decimal.ensures.capacity);
      room = λ _. refl;
    }
