use Rattle.std.proofs.Common.{List, ℕ, sym, subst, ap, ◌∙◌}
use Rattle.rtcm_frame.specs.Cut.{cut}
use Rattle.rtcm_frame.proofs.CutLemmas.{cut-frames-joined}
use Rattle.chunk_body.specs.Text.{IsPlain}
use Rattle.chunk_body.proofs.ChunkLemmas.{frames_open, frames_plain}
use Rattle.ntrip_head.specs.declared.request.Version.TheVariants.{Two}
use Rattle.rover_session.specs.Body.{body_of}
use Rattle.rover_session.proofs.LawLemmas.{body_plain, body-append}
use Rattle.rover_session.proofs.laws.body_reads_as_its_frames.Goals as goal

pub returns-clause-plain : goal.returns-clause-plain
returns-clause-plain c = λ frames all. ap cut (body_plain frames) ∙ cut-frames-joined frames all

pub returns-clause-open_text : goal.returns-clause-open_text
returns-clause-open_text c = frames_open

pub returns-clause-chunked : goal.returns-clause-chunked
returns-clause-chunked c = λ frames all.
    subst (λ (content : List ℕ). IsPlain (body_of Two frames) content) (sym (body_plain frames))
    (frames_plain frames all)

pub returns-clause-joined : goal.returns-clause-joined
returns-clause-joined c = body-append
