-- The ring of the mountpoint is picked for its claim.
use Rattle.std.proofs.Common.{ℕ, List, ◌++◌, [], length, map, set, ap, ◌∙◌, arith}
use Rattle.std.proofs.lemmas.List.{length-map}
use Rattle.std.proofs.lemmas.Bool.{and_parts}
use Rattle.mount_ring.specs.declared.call.RingCall.TheVariants.{Claim}
use Rattle.mount_ring.specs.declared.call.RingAnswer.TheVariants.{Given}
use Rattle.ntrip_reply.specs.declared.kind.Reply.TheVariants.{SourceOk}
use Rattle.session_calls.specs.Rings.{all_alone}
use Rattle.session_core.specs.Places.{alone_in}
use Rattle.session_core.proofs.Published.{steps_unclaimed}
use Rattle.session_model.specs.Replies.{text_if}
use Rattle.session_core.specs.Beginnings.{text_unclaimed}
use Rattle.session_core.proofs.BegunLemmas.{went_as, begins_claimed, begins_unclaimed}
use Rattle.session_core.proofs.HeldLemmas.{length_shapes}
use Rattle.session_core.proofs.PickLemmas.{cause_picked, holding_picked, stay_picked, stays_still, unclaimed_picked, went_picked}
use Rattle.session_core.proofs.begin.begin_source.Goals as goal

pub returns-in-Ok-claim-clause-stay : goal.returns-in-Ok-claim-clause-stay
returns-in-Ok-claim-clause-stay g c = record {
  at_rings = stay_picked g.T.Turns c.args.places.now.rings.items c.args.mount c.index_mut.result.now c.claim.new.place
      c.index_mut.ensures.value c.claim.ensures.stays;
  at_book = stays_still g.B.Turns c.args.places.now.book;
}

pub returns-in-Ok-claim-clause-begins : goal.returns-in-Ok-claim-clause-begins
returns-in-Ok-claim-clause-begins g c config same =
    let rings = c.args.places.now.rings.items in
    let now = set rings c.args.mount c.claim.new.place in
    let alone = alone_in g.T.Turns g.B.Turns c.args.places.now in
    let told = c.in-Ok-claim.ensures in
    begins_claimed config alone (map g.T.Turns.seen rings) (map g.T.Turns.seen now)
    (g.B.Turns.seen c.args.places.now.book)
    c.args.me c.args.mount c.args.version c.args.chunked c.in-Ok-claim.session c.args.out.now.items
    c.push_reply.new.out.items
    (omega (
      arith,
      c.requires.within,
      length-map rings g.T.Turns.shape,
      ap length same,
      length_shapes
          config,
    ))
    (went_as config (map g.T.Turns.shape rings) alone (all_alone g.T.Turns.alone rings)
    (map g.T.Turns.seen rings) (map g.T.Turns.seen now) c.args.me _ same
    (λ both. (and_parts (all_alone g.T.Turns.alone rings) (g.B.Turns.alone c.args.places.now.book) both).0)
    (went_picked g.T.Turns rings c.args.mount c.index_mut.result.now c.claim.new.place c.args.me Claim
    (Given c.in-Ok-claim.session.claim) c.requires.within c.index_mut.ensures.value told.given))
    (holding_picked g.T.Turns rings c.args.mount c.claim.new.place c.args.me c.in-Ok-claim.session.claim
    c.requires.within told.holds)
    told.begins.stands told.begins.goes_on told.begins.caller told.begins.coded
    (c.push_reply.ensures ∙ ap (λ (l : List ℕ). l ++ text_if c.args.version SourceOk []) c.new_cutter.ensures.unsent)

pub returns-in-Err-clause-stay : goal.returns-in-Err-clause-stay
returns-in-Err-clause-stay g c = record {
  at_rings = stay_picked g.T.Turns c.args.places.now.rings.items c.args.mount c.index_mut.result.now c.claim.new.place
      c.index_mut.ensures.value c.claim.ensures.stays;
  at_book = stays_still g.B.Turns c.args.places.now.book;
}

pub returns-in-Err-clause-begins : goal.returns-in-Err-clause-begins
returns-in-Err-clause-begins g c config same =
    let rings = c.args.places.now.rings.items in
    let now = set rings c.args.mount c.claim.new.place in
    let alone = alone_in g.T.Turns g.B.Turns c.args.places.now in
    begins_unclaimed config alone (map g.T.Turns.seen rings) (map g.T.Turns.seen now)
    (g.B.Turns.seen c.args.places.now.book)
    c.args.me c.args.mount c.args.version c.args.chunked c.in-Err.fault c.begin_unclaimed.result.stage
    c.begin_unclaimed.result.ended c.args.out.now.items c.begin_unclaimed.new.out.items
    (went_as config (map g.T.Turns.shape rings) alone (all_alone g.T.Turns.alone rings)
    (map g.T.Turns.seen rings) (map g.T.Turns.seen now) c.args.me
    (steps_unclaimed c.args.mount c.in-Err.fault) same
    (λ both. (and_parts (all_alone g.T.Turns.alone rings) (g.B.Turns.alone c.args.places.now.book) both).0)
    (unclaimed_picked g.T.Turns rings c.args.mount c.index_mut.result.now c.claim.new.place c.args.me c.in-Err.fault
    c.requires.within c.index_mut.ensures.value c.in-Err.ensures.unclaimed))
    c.begin_unclaimed.ensures.stage c.begin_unclaimed.ensures.ended
    (c.begin_unclaimed.ensures.sent ∙ ap (λ (l : List ℕ). l ++ text_unclaimed c.args.version c.in-Err.fault)
    c.new_cutter.ensures.unsent)

pub returns-in-Err-clause-cause : goal.returns-in-Err-clause-cause
returns-in-Err-clause-cause g c =
    cause_picked g.T.Turns c.args.places.now.rings.items c.args.mount c.claim.new.place
    (g.T.Turns.may_lack c.index_mut.result.now) (g.B.Turns.worn c.args.places.now.book) c.in-Err.fault
    c.begin_unclaimed.result.ended c.requires.within c.in-Err.ensures.cause c.begin_unclaimed.ensures.ended
