use Rattle.std.proofs.Common.{sym, ◌∙◌, Ok, Err}
use Rattle.sourcetable.specs.Reading.{IsRecordRead}
use Rattle.sourcetable.specs.declared.fault.RecordFault.TheVariants.{Byte}
use Rattle.sourcetable.proofs.FunctionLemmas.{given_by_function}
use Rattle.sourcetable.proofs.KindLemmas.{fault_of_record}
use Rattle.sourcetable.proofs.reading.read_record.Goals as goal

pub returns-in-None : goal.returns-in-None
returns-in-None c =
    let read : IsRecordRead c.args.line.now (Ok c.in_ok-record.record) =
    (c.in_ok-record.ensures, sym c.line_end_place.ensures ∙ c.in-None.is) in
    record { read = read; gives = given_by_function c.args.line.now (Ok c.in_ok-record.record) read }

pub returns-in-Some : goal.returns-in-Some
returns-in-Some c =
    let read : IsRecordRead c.args.line.now (Err (Byte c.in-Some.place)) = (
      fault_of_record c.args.line.now c.in_ok-record.record c.in_ok-record.ensures,
      sym c.line_end_place.ensures
          ∙ c.in-Some.is,
    ) in
    record { read = read; gives = given_by_function c.args.line.now (Err (Byte c.in-Some.place)) read }
