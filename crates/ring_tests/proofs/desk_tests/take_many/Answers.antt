use Rattle.std.proofs.Common.{◌≡◌, ℕ, ◌+◌, ◌≤◌, List, [], ◌∷◌, ◌++◌, length, sym, ap, subst, arith, length-append}
use Rattle.std.proofs.lemmas.List.{map-append}
use Rattle.turn_log.specs.History.{History}
use Rattle.turn_log.specs.Heard.{Heard}
use Rattle.turn_log.proofs.TurnLaws.{same_both}
use Rattle.turn_log.proofs.HeardLaws.{heard_turn, heard_both, heard_same}
use Rattle.ring_tests.proofs.desk_tests.take_many.Goals as goal

-- what a call for a ticket is answered
abbrev number : ℕ → History ℕ → ℕ → ℕ → ℕ
number first h me known = first + length h

-- one more ticket, at the place as the calls before left it
pub loop-preserved : goal.loop-preserved
loop-preserved g c =
    let place = g.T.Turns in
    let before = c.loop.invariant in
    let now = c.in_ok-turn.ensures in
    let numbers : List ℕ = before.2.0 in
    let reply : ℕ = c.in_ok-turn.field-0 in
    let worn : place.worn c.args.place.now ≤ place.worn c.turn.new.self = omega (arith, before.1, now.worn) in
    let many : length (numbers ++ reply ∷ []) ≡ c.loop.counter + 1 = omega (
      arith,
      before.2.1,
      length-append numbers
          (reply ∷ []),
    ) in
    let both = heard_both _ _ _ _ _ _ _ _ before.2.2
    (heard_same before.0.3 (ap number before.0.0) (heard_turn now.ok)) in (
      same_both place.shape place.speaks place.may_lack place.alone place.home _ _ _ before.0 now.same,
      worn,
      (
        numbers ++ reply ∷ [],
        many,
        subst (Heard (place.alone c.args.place.now) (number (place.shape c.args.place.now))
            (place.seen c.args.place.now)
            (place.seen c.turn.new.self) c.args.me) (sym (map-append (λ n. (0, n)) numbers (reply ∷ []))) both,
      ),
    )
