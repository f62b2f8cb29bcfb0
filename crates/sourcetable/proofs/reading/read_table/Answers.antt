use Rattle.std.proofs.Common.{◌≡◌, ◌+◌, true, false, ◌∷◌, ap, sym, ◌∙◌, arith}
use Rattle.std.specs.Str.{bytes_eq}
use Rattle.std.specs.Str.Lines.{lines}
use Rattle.sourcetable.specs.Table.{is_end}
use Rattle.sourcetable.proofs.TableLemmas.{read_fault, read_no_end, read_whole}
use Rattle.sourcetable.proofs.reading.read_table.Goals as goal

pub returns-then-eq : goal.returns-then-eq
returns-then-eq c =
    let step : lines c.loop-line.rest.now ≡ c.in-Some.line.now ∷ lines c.in-Some.more.now = cc
    c.in-Some.ensures.found in
    let ends : is_end c.in-Some.line.now ≡ true = ap (bytes_eq c.in-Some.line.now) (sym c.as_slice.ensures)
    ∙ sym c.eq.ensures ∙ c.if-eq.true in
    rw c.new.ensures (read_whole c.args.bytes.now c.loop-line.rest.now c.in-Some.more.now c.in-Some.line.now
    c.loop-line.records.items
    c.loop-line.invariant.so_far step ends c.if-bytes-gt-MAX_TABLE_BYTES.false)

pub returns-in-Err : goal.returns-in-Err
returns-in-Err c =
    let step : lines c.loop-line.rest.now ≡ c.in-Some.line.now ∷ lines c.in-Some.more.now = cc
    c.in-Some.ensures.found in
    let goes_on : is_end c.in-Some.line.now ≡ false = ap (bytes_eq c.in-Some.line.now) (sym c.as_slice.ensures)
    ∙ sym c.eq.ensures ∙ c.if-eq.false in
    rw c.at.ensures (read_fault c.args.bytes.now c.loop-line.rest.now c.in-Some.more.now c.in-Some.line.now
    c.loop-line.records.items
    (c.loop-line.number + 1) c.in-Err.fault c.loop-line.invariant.so_far step goes_on c.if-bytes-gt-MAX_TABLE_BYTES.false
    (omega arith) c.in-Err.ensures)

pub returns : goal.returns
returns c = read_no_end c.args.bytes.now c.loop-line.rest.now c.loop-line.records.items c.loop-line.invariant.so_far
    c.in_default.ensures.none c.if-bytes-gt-MAX_TABLE_BYTES.false
