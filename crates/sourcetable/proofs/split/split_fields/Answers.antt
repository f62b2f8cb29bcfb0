use Rattle.std.proofs.Common.{◌≡◌, length, arith}
use Rattle.std.specs.List.{count_by}
use Rattle.sourcetable.specs.Record.{is_separator}
use Rattle.sourcetable.proofs.RecordLemmas.{count_split, free_push}
use Rattle.sourcetable.proofs.split.split_fields.Goals as goal

pub returns-in_default-clause-few : goal.returns-in_default-clause-few
returns-in_default-clause-few c =
    let count : count_by is_separator c.args.text.now ≡ length c.loop-rest.fields.items =
    count_split c.loop-rest.fields.items c.loop-rest.rest.now c.args.text.now c.loop-rest.invariant.free
    c.in_default.ensures.none c.loop-rest.invariant.text in
    omega arith

pub returns-clause-free : goal.returns-clause-free
returns-clause-free c =
    rw (c.new.ensures, c.in_ok-push_field-2.ensures)
    (free_push c.loop-rest.fields.items c.loop-rest.rest.now c.loop-rest.invariant.free)
