pub mod RoomLemmas
pub mod RecordLemmas
pub mod KindLemmas
pub mod TableLemmas
pub mod AnswerLemmas
pub mod FunctionLemmas
pub mod BackLemmas
pub mod Rows
