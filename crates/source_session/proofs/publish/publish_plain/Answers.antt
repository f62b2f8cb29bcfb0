use Rattle.std.proofs.Common.{◌≡◌, ◌+◌, ◌-◌, ◌++◌, None, Err, ap, ◌∙◌, refl, arith, length, take, drop}
use Rattle.std.specs.Result.{result_err}
use Rattle.std.proofs.lemmas.Result.{err_from_is_err_and}
use Rattle.rtcm_frame.proofs.PendingLemmas.{fed_front}
use Rattle.source_session.proofs.StandingLemmas.{cut_up_waits, room_for, block_within, block_left, block_few}
use Rattle.source_session.proofs.TakenLemmas.{stays_here, stays_both, took_none, took_both, took_within, took_pushed, took_refused}
use Rattle.source_session.proofs.publish.publish_plain.Goals as goal

pub publish_ready-requires-clause-few : goal.publish_ready-requires-clause-few
publish_ready-requires-clause-few g c =
    let few = c.requires.few in
    let bytes = c.args.bytes.now in
    let at = c.loop-at.at in
    let count = c.feed-count.result in
    room_for None c.loop-at.cutter c.feed-count.new.self (few.0 ++ take at bytes)
    (take count (take (length bytes - at) (drop at bytes)))
    (c.loop-at.invariant.3 few.0 few.1).stands.1 c.feed-count.ensures.behind
    (block_few few.0 bytes at count c.loop-at.invariant.2 c.feed-count.ensures.within few.2)

pub loop-at-init : goal.loop-at-init
loop-at-init g c = (
  stays_here g.T.Turns c.args.place.now,
  c.requires.holds,
  omega arith,
  λ body stands. took_none g.T.Turns c.args.me c.args.claim c.args.place.now None c.args.cutter.now body stands,
)

pub loop-at-smaller : goal.loop-at-smaller
loop-at-smaller g c =
    let few = c.requires.few in
    let bytes = c.args.bytes.now in
    let at = c.loop-at.at in
    let waits = cut_up_waits None c.loop-at.cutter (few.0 ++ take at bytes)
    (c.loop-at.invariant.3 few.0 few.1).stands.1 in
    let left = block_left bytes at in
    let some = c.feed-count.ensures.some waits (omega (arith, left, c.loop-at-test.true)) in
    omega (arith, some, c.loop-at-test.true)

pub loop-at-preserved : goal.loop-at-preserved
loop-at-preserved g c =
    let before = c.loop-at.invariant in
    let now = c.in_ok-publish_ready.ensures in
    let bytes = c.args.bytes.now in
    let at = c.loop-at.at in
    let count = c.feed-count.result in
    let block = take count (take (length bytes - at) (drop at bytes)) in
    let next : take at bytes ++ block ≡ take (at + count) bytes = fed_front bytes at count in (
      stays_both g.T.Turns _ _ _ before.0 now.stays,
      now.holds,
      omega (arith, before.2, c.feed-count.ensures.within, block_left bytes at),
      λ body stands.
          let so_far = before.3 body stands in
          took_both g.T.Turns c.args.me c.args.claim c.args.place.now c.loop-at.place c.publish_ready.new.place None None
          c.publish_ready.new.cutter c.loop-at.cutter body (take at bytes) block refl before.0 so_far
          (take (at + count) bytes) next
          (took_pushed g.T.Turns c.loop-at.place c.publish_ready.new.place c.args.me c.args.claim None c.loop-at.cutter
          c.feed-count.new.self c.publish_ready.new.cutter (body ++ take at bytes) block block so_far.stands.1
          c.feed-count.ensures.behind refl tt now.cutter now.heard),
    )

pub returns-in_err-publish_ready-clause-stays : goal.returns-in_err-publish_ready-clause-stays
returns-in_err-publish_ready-clause-stays g c =
    stays_both g.T.Turns _ _ _ c.loop-at.invariant.0 c.in_err-publish_ready.ensures.stays

pub returns-in_err-publish_ready-clause-took : goal.returns-in_err-publish_ready-clause-took
returns-in_err-publish_ready-clause-took g c = λ body stands.
    let bytes = c.args.bytes.now in
    let at = c.loop-at.at in
    let count = c.feed-count.result in
    let block = take count (take (length bytes - at) (drop at bytes)) in
    let so_far = c.loop-at.invariant.3 body stands in
    let refused = c.in_err-publish_ready.ensures in
    let p = err_from_is_err_and c.from_residual.result c.from_residual.ensures.1 in
    took_within g.T.Turns c.args.me c.args.claim c.args.place.now c.loop-at.place c.publish_ready.new.place None None
    c.publish_ready.new.cutter c.loop-at.cutter body (take at bytes) block refl c.loop-at.invariant.0 so_far
    (drop (at + count) bytes) bytes _ _ (ap result_err (p.1 ∙ ap Err p.2)) (block_within bytes at count)
    (took_refused g.T.Turns c.loop-at.place c.publish_ready.new.place c.args.me c.args.claim None c.loop-at.cutter
    c.feed-count.new.self c.publish_ready.new.cutter (body ++ take at bytes) block block so_far.stands.1
    c.feed-count.ensures.behind refl _ _ refl refused.junk refused.short)
