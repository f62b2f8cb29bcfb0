-- What `parse` gives of a number is the number, or says that it is too large.
use Rattle.std.proofs.Common.{◌≡◌, true}
use Rattle.session_script.specs.Digits.{is_number}
use Rattle.caster_top.proofs.WordLemmas.{seed_read, seed_overflown}
use Rattle.caster_top.proofs.command.large_number.Goals as goal

pub returns-in-Ok : goal.returns-in-Ok
returns-in-Ok c =
    let is : is_number c.args.word.now ≡ true = cc in
    seed_read c.args.word.now _ _ is c.parse.ensures.value.0 c.in-Ok.is

pub returns-in-Err : goal.returns-in-Err
returns-in-Err c =
    let is : is_number c.args.word.now ≡ true = cc in
    seed_overflown c.args.word.now _ _ is c.parse.ensures.value.0 c.in-Err.is
