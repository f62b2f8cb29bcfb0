-- Where room was reserved for all lines, there is room for each of them.
use Rattle.std.proofs.Common.{length, take, ap, arith}
use Rattle.std.proofs.lemmas.Bool.{false≢true}
use Rattle.std.proofs.lemmas.List.{length-append}
use Rattle.sourcetable.specs.Record.{line_of}
use Rattle.sourcetable.specs.Table.{lines_text}
use Rattle.sourcetable.proofs.RoomLemmas.{line_within}
use Rattle.sourcetable.proofs.writing.push_records.Goals as goal

pub returns-in_err-push_record-clause-room : goal.returns-in_err-push_record-clause-room
returns-in_err-push_record-clause-room c room =
    let so_far = lines_text (take c.loop-record.record-index c.args.records.now) in
    let within = line_within c.args.records.now c.loop-record.record-index c.record-item.result
    c.loop-record-test.true in
    let grown = ap length c.loop-record.invariant.0 in
    let item = ap (λ r. length (line_of r)) c.record-item.is in
    absurd (false≢true (c.in_err-push_record.ensures.room
    (omega (arith, grown, length-append c.args.out.now.items so_far, within, item, c.loop-record.invariant.1, room))))

pub returns-in_err-extend_from_slice-clause-room : goal.returns-in_err-extend_from_slice-clause-room
returns-in_err-extend_from_slice-clause-room c room =
    let so_far = lines_text (take c.loop-record.record-index c.args.records.now) in
    let within = line_within c.args.records.now c.loop-record.record-index c.record-item.result
    c.loop-record-test.true in
    let grown = ap length c.loop-record.invariant.0 in
    let item = ap (λ r. length (line_of r)) c.record-item.is in
    let pushed = ap length c.in_ok-push_record.ensures.ok in
    absurd (false≢true (c.in_err-extend_from_slice.ensures.succeeds
    (omega (
      arith,
      grown,
      length-append c.args.out.now.items so_far,
      pushed,
      length-append c.loop-record.out.items
          (line_of c.record-item.result),
      within,
      item,
      c.loop-record.invariant.1,
      c.in_ok-push_record.ensures.capacity,
      room,
    ))))
