-- What `parse` gives of a number is the number, or says that it is too large.
use Rattle.std.proofs.Common.{◌≡◌, true}
use Rattle.session_script.specs.Digits.{is_number}
use Rattle.caster_top.proofs.WordLemmas.{number_read, number_above, number_overflown}
use Rattle.caster_top.proofs.command.number_within.Goals as goal

pub returns-then-number-limit : goal.returns-then-number-limit
returns-then-number-limit c =
    let is : is_number c.args.word.now ≡ true = cc in
    number_read c.args.limit c.args.word.now _ _ is c.parse.ensures.value.0 c.in-Ok.is c.if-number-limit.true

pub returns-else-number-limit : goal.returns-else-number-limit
returns-else-number-limit c =
    let is : is_number c.args.word.now ≡ true = cc in
    number_above c.args.limit c.args.word.now _ _ is c.parse.ensures.value.0 c.in-Ok.is c.if-number-limit.false

pub returns-in_default : goal.returns-in_default
returns-in_default c =
    let is : is_number c.args.word.now ≡ true = cc in
    number_overflown c.args.limit c.args.word.now _ _ c.ranges.limit.fits is c.parse.ensures.value.0 c.in_default.is
