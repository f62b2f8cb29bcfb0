use Rattle.std.proofs.Common.{◌≡◌, ◌≤◌, ◌⊎◌, ℕ, Bool, IsTrue, Option, None, Some, drop, sym, subst}
use Rattle.std.specs.Prelude.{IfSome}
use Rattle.upstream_relay.specs.declared.body.RelayStage.{RelayStage}
use Rattle.upstream_relay.specs.declared.body.RelayStage.TheVariants.{Body}
use Rattle.upstream_relay.specs.Standing.{StandsAt, is_short_at}
use Rattle.upstream_relay.specs.Junk.{junk_of, IsJunk, IsAtMostJunk}
use Rattle.upstream_relay.proofs.StageLemmas.{body_said}
use Rattle.upstream_relay.proofs.session.RelaySession.junk.Goals as goal

if_any : (o : Option ℕ) (P : Type 0) → P → IfSome o (λ (claim : ℕ). P)
if_any None P x = tt
if_any (Some claim) P x = x

pub returns-in-Body-clause-junk : goal.returns-in-Body-clause-junk
returns-in-Body-clause-junk c =
    let me = c.args.self.now.me in
    let source = c.in-Body.source in
    let is : IsJunk c.args.self.now c.junk.result = λ mount bytes steps at chunked x says.
    let z = body_said mount me source bytes steps at chunked
    (subst (λ (s : RelayStage). StandsAt mount me s bytes steps) c.in-Body.is x) says in
    subst (λ (s : RelayStage). IsTrue (is_short_at s) ⊎ (c.junk.result ≡ junk_of chunked at bytes)) (sym c.in-Body.is)
    (subst (λ (b : Bool). IsTrue (is_short_at (Body source)) ⊎ (c.junk.result ≡ junk_of b at bytes)) z.1
    (c.junk.ensures.junk (drop at bytes) z.0)) in
    if_any _ (IsJunk c.args.self.now c.junk.result) is

pub returns-in-Body-clause-at_most : goal.returns-in-Body-clause-at_most
returns-in-Body-clause-at_most c =
    let me = c.args.self.now.me in
    let source = c.in-Body.source in
    let is : IsAtMostJunk c.args.self.now c.junk.result = λ mount bytes steps at chunked x says.
    let z = body_said mount me source bytes steps at chunked
    (subst (λ (s : RelayStage). StandsAt mount me s bytes steps) c.in-Body.is x) says in
    subst (λ (b : Bool). c.junk.result ≤ junk_of b at bytes) z.1 (c.junk.ensures.at_most (drop at bytes) z.0) in
    if_any _ (IsAtMostJunk c.args.self.now c.junk.result) is
