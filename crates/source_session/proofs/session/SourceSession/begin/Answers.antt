use Rattle.std.proofs.Common.{◌∙◌, sym, refl}
use Rattle.std.specs.Prelude.{is_some}
use Rattle.source_session.proofs.BodyLemmas.{nothing_cut}
use Rattle.source_session.proofs.session.SourceSession.begin.Goals as goal

pub returns-clause-begins : goal.returns-clause-begins
returns-clause-begins c = record {
  stands = (
    c.chunk_reader-chunks.ensures.begins,
    c.new.ensures.empty ∙ sym (nothing_cut (is_some c.chunk_reader-chunks.result)),
  );
  goes_on = refl;
  caller = refl;
  coded = c.chunk_reader-chunks.ensures.chunked;
}
