use Rattle.std.proofs.Common.{◌≡◌, [], ◌∷◌, ◌++◌, true, Some, Err, ap, ◌∙◌, refl, arith}
use Rattle.std.specs.Result.{result_err}
use Rattle.std.proofs.lemmas.List.{append-nil}
use Rattle.std.proofs.lemmas.Result.{err_from_is_err_and}
use Rattle.chunk_body.specs.Machine.{Reading}
use Rattle.chunk_body.proofs.ReadingLemmas.{taken_most}
use Rattle.source_session.specs.Body.{payload}
use Rattle.source_session.proofs.StandingLemmas.{cut_up_waits, cut_up_on, room_for}
use Rattle.source_session.proofs.TakenLemmas.{took_empty, took_pushed, took_refused}
use Rattle.source_session.proofs.publish.publish_step.Goals as goal

pub push-requires : goal.push-requires
push-requires g c =
    let few = c.requires.few in
    omega (arith, ap (λ (r : Reading). r.taken) few.1.0.0, taken_most few.0, few.2)

pub push-requires-in-Byte : goal.push-requires-in-Byte
push-requires-in-Byte g c =
    cut_up_waits (Some c.args.chunks.now) c.args.cutter.now c.requires.few.0 c.requires.few.1.1

pub publish_ready-requires-clause-few : goal.publish_ready-requires-clause-few
publish_ready-requires-clause-few g c =
    room_for (Some c.args.chunks.now) c.args.cutter.now c.push-in-Byte.new.self c.requires.few.0 (c.in-Byte.data ∷ [])
    c.requires.few.1.1 c.push-in-Byte.ensures.behind c.requires.few.2

pub returns-in-More-clause-took : goal.returns-in-More-clause-took
returns-in-More-clause-took g c = λ body stands.
    let same : payload true (body ++ c.args.byte ∷ []) ≡ payload true body =
    c.in-More.ensures.gives body stands.0.0 ∙ append-nil _ in
    took_empty g.T.Turns c.args.me c.args.claim c.args.place.now _ (Some c.push.new.self) c.args.cutter.now body
    (c.args.byte ∷ []) same refl
    ((c.push.ensures.read body stands.0.0, (c.in-More.ensures.goes_on body stands.0.0).0 refl), cut_up_on (Some c.args.chunks.now) c.args.cutter.now body (c.args.byte ∷ []) same stands.1)

pub returns-in_ok-publish_ready-in-Byte-clause-took : goal.returns-in_ok-publish_ready-in-Byte-clause-took
returns-in_ok-publish_ready-in-Byte-clause-took g c = λ body stands.
    let now = c.in_ok-publish_ready-in-Byte.ensures in
    took_pushed g.T.Turns c.args.place.now c.publish_ready.new.place c.args.me c.args.claim (Some c.push.new.self)
    c.args.cutter.now c.push-in-Byte.new.self c.publish_ready.new.cutter body (c.args.byte ∷ []) (c.in-Byte.data ∷ [])
    stands.1 c.push-in-Byte.ensures.behind (c.in-Byte.ensures.gives body stands.0.0)
    (c.push.ensures.read body stands.0.0, (c.in-Byte.ensures.goes_on body stands.0.0).0 refl) now.cutter now.heard

pub returns-in_err-publish_ready-in-Byte-clause-took : goal.returns-in_err-publish_ready-in-Byte-clause-took
returns-in_err-publish_ready-in-Byte-clause-took g c = λ body stands.
    let refused = c.in_err-publish_ready-in-Byte.ensures in
    let p = err_from_is_err_and c.from_residual.result c.from_residual.ensures.1 in
    took_refused g.T.Turns c.args.place.now c.publish_ready.new.place c.args.me c.args.claim (Some c.push.new.self)
    c.args.cutter.now c.push-in-Byte.new.self c.publish_ready.new.cutter body (c.args.byte ∷ []) (c.in-Byte.data ∷ [])
    stands.1 c.push-in-Byte.ensures.behind (c.in-Byte.ensures.gives body stands.0.0) _ _
    (ap result_err (p.1 ∙ ap Err p.2)) refused.junk refused.short

pub returns-in-Done-clause-took : goal.returns-in-Done-clause-took
returns-in-Done-clause-took g c = λ body stands.
    let same : payload true (body ++ c.args.byte ∷ []) ≡ payload true body =
    c.in-Done.ensures.gives body stands.0.0 ∙ append-nil _ in
    took_empty g.T.Turns c.args.me c.args.claim c.args.place.now _ (Some c.push.new.self) c.args.cutter.now body
    (c.args.byte ∷ []) same refl
    ((c.in-Done.ensures.done body stands.0.0).0 refl, cut_up_on (Some c.args.chunks.now) c.args.cutter.now body (c.args.byte ∷ []) same stands.1)

pub returns-in-Bad-clause-took : goal.returns-in-Bad-clause-took
returns-in-Bad-clause-took g c = λ body stands.
    let same : payload true (body ++ c.args.byte ∷ []) ≡ payload true body =
    c.in-Bad.ensures.gives body stands.0.0 ∙ append-nil _ in
    took_empty g.T.Turns c.args.me c.args.claim c.args.place.now _ (Some c.push.new.self) c.args.cutter.now body
    (c.args.byte ∷ []) same refl
    ((c.in-Bad.ensures.bad body c.in-Bad.at stands.0.0).0 refl, cut_up_on (Some c.args.chunks.now) c.args.cutter.now body (c.args.byte ∷ []) same stands.1)
