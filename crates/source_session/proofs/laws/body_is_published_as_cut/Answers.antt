use Rattle.std.proofs.Common.{ℕ, List, ap, ◌∙◌, sym, refl}
use Rattle.rtcm_frame.specs.Cut.{cut}
use Rattle.chunk_body.specs.Answer.{plain_of}
use Rattle.chunk_body.proofs.PlainLemmas.{plain_only}
use Rattle.chunk_body.proofs.ReadingLemmas.{plain_read}
use Rattle.source_session.proofs.BodyLemmas.{completed_first}
use Rattle.source_session.proofs.laws.body_is_published_as_cut.Goals as goal

pub returns-clause-plain : goal.returns-clause-plain
returns-clause-plain c = λ body. refl

pub returns-clause-chunked : goal.returns-clause-chunked
returns-clause-chunked c = λ body content plain.
    ap (λ (x : List ℕ). (cut x).frames)
    (plain_only body (plain_of body) (plain_read body) ∙ sym (plain_only body content plain))

pub returns-clause-all : goal.returns-clause-all
returns-clause-all c = completed_first
