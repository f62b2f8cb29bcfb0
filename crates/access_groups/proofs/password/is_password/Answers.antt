use Rattle.std.proofs.Common.{◌≡◌, ◌<◌, length, take, refl, sym, ◌∙◌, arith}
use Rattle.std.proofs.lemmas.List.{take_all}
use Rattle.access_groups.proofs.SameLemmas.{same_more, none_more, decided}
use Rattle.access_groups.proofs.password.is_password.Goals as goal

pub loop-i-preserved : goal.loop-i-preserved
loop-i-preserved c =
    let one = c.args.password.now in
    let other = c.args.sent.now in
    let below : c.loop-i.i < length one = omega arith in
    let beside : c.loop-i.i < length other = omega arith in
    record {
      same = same_more one other c.loop-i.i c.loop-i.difference _ below beside refl c.loop-i.invariant.same;
      none = none_more one other c.loop-i.i c.loop-i.difference _ refl c.loop-i.invariant.none;
    }

pub returns : goal.returns
returns c =
    let one = c.args.password.now in
    let other = c.args.sent.now in
    let whole : take c.loop-i.i one ≡ one = take_all c.loop-i.i one (omega arith) in
    let both : take c.loop-i.i other ≡ other = take_all c.loop-i.i other (omega arith) in
    decided one other c.loop-i.difference (λ zero. sym whole ∙ c.loop-i.invariant.same zero ∙ both)
    c.loop-i.invariant.none
