use Rattle.std.proofs.Common.{◌≡◌, ◌+◌, [], ◌∷◌, ◌++◌, Some, Err, ap, ◌∙◌, sym, refl, take, drop, get_or}
use Rattle.std.specs.Result.{result_err}
use Rattle.std.proofs.lemmas.List.{take_more}
use Rattle.std.proofs.lemmas.Result.{err_from_is_err_and}
use Rattle.source_session.proofs.StandingLemmas.{one_within}
use Rattle.source_session.proofs.TakenLemmas.{stays_here, stays_both, took_none, took_both, took_within}
use Rattle.source_session.proofs.publish.publish_chunked.Goals as goal

pub loop-byte-init : goal.loop-byte-init
loop-byte-init g c = (
  stays_here g.T.Turns c.args.place.now,
  c.requires.holds,
  λ body stands. took_none g.T.Turns c.args.me c.args.claim c.args.place.now (Some c.args.chunks.now)
      c.args.cutter.now body stands,
)

pub loop-byte-preserved : goal.loop-byte-preserved
loop-byte-preserved g c =
    let before = c.loop-byte.invariant in
    let now = c.in_ok-publish_step.ensures in
    let bytes = c.args.bytes.now in
    let i = c.loop-byte.byte-index in
    let byte = get_or bytes i 0 in
    let next : take i bytes ++ byte ∷ [] ≡ take (i + 1) bytes = sym (take_more bytes i 0 c.loop-byte-test.true) in (
      stays_both g.T.Turns _ _ _ before.0 now.stays,
      now.holds,
      λ body stands.
          let so_far = before.2 body stands in
          took_both g.T.Turns c.args.me c.args.claim c.args.place.now c.loop-byte.place c.publish_step.new.place
          (Some c.publish_step.new.chunks) (Some c.loop-byte.chunks) c.publish_step.new.cutter c.loop-byte.cutter body
          (take i bytes) (byte ∷ []) refl before.0 so_far (take (i + 1) bytes) next
          (now.took (body ++ take i bytes) so_far.stands),
    )

pub returns-in_err-publish_step-clause-stays : goal.returns-in_err-publish_step-clause-stays
returns-in_err-publish_step-clause-stays g c =
    stays_both g.T.Turns _ _ _ c.loop-byte.invariant.0 c.in_err-publish_step.ensures.stays

pub returns-in_err-publish_step-clause-took : goal.returns-in_err-publish_step-clause-took
returns-in_err-publish_step-clause-took g c = λ body stands.
    let bytes = c.args.bytes.now in
    let i = c.loop-byte.byte-index in
    let byte = get_or bytes i 0 in
    let so_far = c.loop-byte.invariant.2 body stands in
    let p = err_from_is_err_and c.from_residual.result c.from_residual.ensures.1 in
    took_within g.T.Turns c.args.me c.args.claim c.args.place.now c.loop-byte.place c.publish_step.new.place
    (Some c.publish_step.new.chunks) (Some c.loop-byte.chunks) c.publish_step.new.cutter c.loop-byte.cutter body
    (take i bytes) (byte ∷ []) refl c.loop-byte.invariant.0 so_far (drop (i + 1) bytes) bytes _ _
    (ap result_err (p.1 ∙ ap Err p.2)) (one_within bytes i byte c.loop-byte-test.true refl)
    (c.in_err-publish_step.ensures.took (body ++ take i bytes) so_far.stands)
