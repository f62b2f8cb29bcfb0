-- One turn, and then the other.
use Rattle.session_calls.proofs.PlaceLemmas.{speak_same}
use Rattle.keep_porter.proofs.LookLemmas.{went_on_at}
use Rattle.keep_porter.specs.Porters.{joins_at, looks_at}
use Rattle.keep_porter.proofs.looks.find.Goals as goal

pub returns-clause-went : goal.returns-clause-went
returns-clause-went g c =
    went_on_at g.T.Turns c.args.places.now c.look_at-claim.new.places c.join_now-cursor.new.places c.args.me
    (looks_at c.args.mount c.look_at-claim.result) (joins_at c.args.mount c.join_now-cursor.result)
    c.look_at-claim.ensures.stay c.look_at-claim.ensures.went c.join_now-cursor.ensures.went

pub join_now-cursor-requires-clause-speaks : goal.join_now-cursor-requires-clause-speaks
join_now-cursor-requires-clause-speaks g c =
    speak_same g.T.Turns.speaks c.args.places.now c.look_at-claim.new.places c.args.me c.look_at-claim.ensures.stay.same.1
    c.requires.speaks
