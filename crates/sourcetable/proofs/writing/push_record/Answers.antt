-- Where room was reserved for the whole line, there is room for each part of it.
use Rattle.std.proofs.Common.{◌++◌, length, take, ap, ◌∙◌, arith}
use Rattle.std.proofs.lemmas.Bool.{false≢true}
use Rattle.std.proofs.lemmas.List.{length-append}
use Rattle.sourcetable.specs.Record.{letters, fields_text}
use Rattle.sourcetable.proofs.RoomLemmas.{field_within}
use Rattle.sourcetable.proofs.writing.push_record.Goals as goal

pub returns-in_err-push-clause-room : goal.returns-in_err-push-clause-room
returns-in_err-push-clause-room c room =
    let begun = letters c.args.entry.now.kind in
    let items = c.as_slice-field-items.result.now in
    let so_far = fields_text (take c.loop-field.field-index items) in
    let whole = ap (λ fields. length (begun ++ fields_text fields)) c.as_slice-field-items.ensures in
    let within = field_within items c.loop-field.field-index c.field-item.result c.loop-field-test.true in
    let grown = ap length c.loop-field.invariant.0 in
    absurd (false≢true (c.in_err-push.ensures.succeeds
    (omega (
      arith,
      grown,
      length-append c.args.out.now.items
          (begun ++ so_far),
      length-append begun so_far,
      length-append begun
          (fields_text items),
      within,
      whole,
      c.loop-field.invariant.1,
      room,
    ))))

pub returns-in_err-extend_from_slice-2-clause-room : goal.returns-in_err-extend_from_slice-2-clause-room
returns-in_err-extend_from_slice-2-clause-room c room =
    let begun = letters c.args.entry.now.kind in
    let items = c.as_slice-field-items.result.now in
    let so_far = fields_text (take c.loop-field.field-index items) in
    let whole = ap (λ fields. length (begun ++ fields_text fields)) c.as_slice-field-items.ensures in
    let within = field_within items c.loop-field.field-index c.field-item.result c.loop-field-test.true in
    let grown = ap length c.loop-field.invariant.0 in
    let item = ap length (c.bytes.ensures ∙ c.field-item.is) in
    absurd (false≢true (c.in_err-extend_from_slice-2.ensures.succeeds
    (omega (
      arith,
      grown,
      length-append c.args.out.now.items
          (begun ++ so_far),
      length-append begun so_far,
      length-append begun
          (fields_text items),
      within,
      whole,
      item,
      c.loop-field.invariant.1,
      c.in_ok-push.ensures.len,
      c.in_ok-push.ensures.capacity,
      room,
    ))))
