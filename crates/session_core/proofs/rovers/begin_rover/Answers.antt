use Rattle.std.proofs.Common.{◌≡◌, ◌∙◌, ◌++◌, ◌<◌, ℕ, IsTrue, List, [], length, map, refl, sym, ap, subst, arith, Some, Ok}
use Rattle.std.proofs.lemmas.Bool.{and_parts}
use Rattle.std.proofs.lemmas.List.{length-map}
use Rattle.mount_ring.specs.declared.shape.RingShape.{RingShape}
use Rattle.base_select.specs.declared.Base.{Base}
use Rattle.rover_session.specs.Owed.{Terms}
use Rattle.rover_session.specs.Standing.{KnowsFilter, AreWithin}
use Rattle.ntrip_reply.specs.declared.kind.Reply.TheVariants as replies
use Rattle.session_calls.specs.Rings.{all_alone}
use Rattle.session_model.specs.Setting.{shapes, bases_at}
use Rattle.session_model.specs.Replies.{text_if}
use Rattle.caster_accounts.specs.History.{may_leave}
use Rattle.session_calls.proofs.PlaceLemmas.{length_same}
use Rattle.session_model.specs.Judged.{rover_judged}
use Rattle.session_model.specs.Run.{Histories}
use Rattle.session_core.specs.Begun.{BeginsFor}
use Rattle.session_model.specs.Called.{alone_at, seen_at}
use Rattle.session_core.proofs.HeldLemmas.{length_shapes}
use Rattle.session_core.proofs.AdmittedLemmas.{IsReady, is_ready}
use Rattle.session_core.proofs.EnteredLemmas.{heard_as, back_whole, entered_back, worn_back, called_none_by, begins_full, begins_unentered, cause_left, cause_unentered}
use Rattle.session_core.proofs.rovers.begin_rover.Goals as goal

pub enter-requires-clause-known : goal.enter-requires-clause-known
enter-requires-clause-known g c =
    let ready : IsReady c.args.setup.now.config.now c.args.admission.now (bases_at c.args.setup.now.config.now c.args.admission.now.bases) =
    is_ready c.args.setup.now.config.now c.args.admission.now c.requires.ready.kept c.requires.admitted in
    subst (λ (l : List ℕ). c.args.admission.now.account < length l) (sym c.requires.caps) ready.account

pub join-requires-clause-within : goal.join-requires-clause-within
join-requires-clause-within g c =
    let ready : IsReady c.args.setup.now.config.now c.args.admission.now (bases_at c.args.setup.now.config.now c.args.admission.now.bases) =
    is_ready c.args.setup.now.config.now c.args.admission.now c.requires.ready.kept c.requires.admitted in
    let long : length c.args.setup.now.config.now.mount ≡ length c.as_mut_slice-rings.result.now =
    omega (
      arith,
      length_shapes c.args.setup.now.config.now,
      ap length c.requires.shapes,
      length-map c.args.places.now.rings.items g.T.Turns.shape,
      ap length c.as_mut_slice-rings.ensures.value,
    ) in
    subst (λ (l : List Base). AreWithin (length c.as_mut_slice-rings.result.now) l)
    (sym (ap (λ (t : Terms). t.bases) c.in-Ok.ensures.terms))
    (subst (λ (n : ℕ). AreWithin n (bases_at c.args.setup.now.config.now c.args.admission.now.bases)) long ready.within)

pub join-requires-clause-filter : goal.join-requires-clause-filter
join-requires-clause-filter g c =
    let ready : IsReady c.args.setup.now.config.now c.args.admission.now (bases_at c.args.setup.now.config.now c.args.admission.now.bases) =
    is_ready c.args.setup.now.config.now c.args.admission.now c.requires.ready.kept c.requires.admitted in
    let same : shapes c.args.setup.now.config.now ≡ map g.T.Turns.shape c.as_mut_slice-rings.result.now =
    sym (ap (map g.T.Turns.shape) c.as_mut_slice-rings.ensures.value ∙ c.requires.shapes) in
    subst (λ (n : ℕ). KnowsFilter (map g.T.Turns.shape c.as_mut_slice-rings.result.now) n)
    (sym (ap (λ (t : Terms). t.filter) c.in-Ok.ensures.terms))
    (subst (λ (s : List RingShape). KnowsFilter s c.args.admission.now.group) same ready.filter)

pub returns-in-Ok-Full-clause-begins : goal.returns-in-Ok-Full-clause-begins
returns-in-Ok-Full-clause-begins g c =
    begins_full c.args.setup.now.config.now
    (alone_at g.T.Turns.alone g.B.Turns.alone c.args.places.now.rings.items c.args.places.now.book)
    (seen_at g.T.Turns.seen g.B.Turns.seen c.args.places.now.rings.items c.args.places.now.book)
    (seen_at g.T.Turns.seen g.B.Turns.seen c.args.places.now.rings.items c.enter.new.book) c.args.setup.now.me
    (record { version = c.args.version; admission = c.args.admission.now; first = c.args.first })
    c.in-Ok-Full.busy c.in-Ok-Full.cap c.turn_away.result.stage c.turn_away.result.ended
    c.args.out.now.items c.turn_away.new.out.items
    (heard_as c.args.setup.now.config.now (g.B.Turns.shape c.args.places.now.book)
    (alone_at g.T.Turns.alone g.B.Turns.alone c.args.places.now.rings.items c.args.places.now.book)
    (g.B.Turns.alone c.args.places.now.book) (g.B.Turns.seen c.args.places.now.book)
    (g.B.Turns.seen c.enter.new.book) c.args.setup.now.me _ c.requires.caps
    (λ both. (and_parts (all_alone g.T.Turns.alone c.args.places.now.rings.items)
    (g.B.Turns.alone c.args.places.now.book) both).1)
    (rw c.in-Ok-Full.field-0-is at c.in-Ok-Full.ensures.heard))
    refl c.turn_away.ensures.stage c.turn_away.ensures.ended
    (c.turn_away.ensures.sent ∙ ap (λ (l : List ℕ). l ++ text_if c.args.version replies.Full [])
    c.new_session.ensures.unsent)

pub returns-in-Err-clause-cause : goal.returns-in-Err-clause-cause
returns-in-Err-clause-cause g c =
    cause_unentered (g.B.Turns.may_lack c.args.places.now.book) (map g.T.Turns.worn c.args.places.now.rings.items)
    (g.B.Turns.worn c.enter.new.book) c.in-Err.fault c.over-in-Err.result.ended
    (c.over-in-Err.ensures.ended ∙ ap Some c.entry_fault.ensures) c.in-Err.ensures.fault

pub returns-in-Err-clause-begins : goal.returns-in-Err-clause-begins
returns-in-Err-clause-begins g c =
    let alone = alone_at g.T.Turns.alone g.B.Turns.alone c.args.places.now.rings.items c.args.places.now.book in
    begins_unentered c.args.setup.now.config.now alone
    (seen_at g.T.Turns.seen g.B.Turns.seen c.args.places.now.rings.items c.args.places.now.book)
    (seen_at g.T.Turns.seen g.B.Turns.seen c.args.places.now.rings.items c.enter.new.book) c.args.setup.now.me
    (record { version = c.args.version; admission = c.args.admission.now; first = c.args.first }) c.in-Err.fault
    c.over-in-Err.result.stage c.over-in-Err.result.ended c.args.out.now.items c.new_session.new.out.items
    (called_none_by c.args.setup.now.config.now alone (map g.T.Turns.seen c.args.places.now.rings.items)
    (g.B.Turns.seen c.args.places.now.book) (g.B.Turns.seen c.enter.new.book) c.args.setup.now.me c.in-Err.ensures.err)
    c.over-in-Err.ensures.stage (c.over-in-Err.ensures.ended ∙ ap Some c.entry_fault.ensures) c.new_session.ensures.unsent

pub returns-in-Ok-Entered-clause-cause : goal.returns-in-Ok-Entered-clause-cause
returns-in-Ok-Entered-clause-cause g c =
    let items = c.args.places.now.rings.items in
    let new = c.join.new.rings in
    let long : length new ≡ length items =
    length_same g.T.Turns.shape c.as_mut_slice-rings.result.now new c.join.ensures.stay.same.0
    ∙ ap length c.as_mut_slice-rings.ensures.value in
    worn_back g.T.Turns.worn g.B.Turns.worn new items c.args.places.now.rings.len c.enter.new.book c.join.result.ended
    (back_whole new items c.args.places.now.rings.len long (omega (arith, c.args.places.now.rings.ok)))
    (cause_left (map g.T.Turns.worn new) (g.B.Turns.worn c.enter.new.book) c.join.result.ended c.join.ensures.cause)

pub returns-in-Ok-Entered-clause-begins : goal.returns-in-Ok-Entered-clause-begins
returns-in-Ok-Entered-clause-begins g c =
    let items = c.args.places.now.rings.items in
    let book = c.args.places.now.book in
    let new = c.join.new.rings in
    let there = c.as_mut_slice-rings.ensures.value in
    let alone = alone_at g.T.Turns.alone g.B.Turns.alone items book in
    let config = c.args.setup.now.config.now in
    let me = c.args.setup.now.me in
    let account = c.args.admission.now.account in
    let old : Histories = seen_at g.T.Turns.seen g.B.Turns.seen items book in
    let long : length new ≡ length items =
    length_same g.T.Turns.shape c.as_mut_slice-rings.result.now new c.join.ensures.stay.same.0 ∙ ap length there in
    entered_back g.T.Turns.seen g.B.Turns.seen new items c.args.places.now.rings.len c.enter.new.book
    (λ (h : Histories). BeginsFor config alone old h me
    (rover_judged c.args.version c.args.first [] (Ok c.args.admission.now)) c.join.result.stage c.join.result.ended
    c.args.out.now.items c.join.new.out.items)
    (back_whole new items c.args.places.now.rings.len long (omega (arith, c.args.places.now.rings.ok)))
    (subst (λ (l : List ℕ). BeginsFor config alone old (seen_at g.T.Turns.seen g.B.Turns.seen new c.enter.new.book) me
    (rover_judged c.args.version c.args.first [] (Ok c.args.admission.now)) c.join.result.stage c.join.result.ended
    l c.join.new.out.items) c.new_session.ensures.unsent
    (c.join.ensures.begins config alone old (seen_at g.T.Turns.seen g.B.Turns.seen new c.enter.new.book) me
    c.args.admission.now (ap (map g.T.Turns.shape) there ∙ c.requires.shapes)
    (λ both. ap (all_alone g.T.Turns.alone) there
    ∙ (and_parts (all_alone g.T.Turns.alone items) (g.B.Turns.alone book) both).0)
    (ap (map g.T.Turns.seen) there) refl
    (record {
      account_is = refl;
      entered = heard_as config (g.B.Turns.shape book) alone (g.B.Turns.alone book) (g.B.Turns.seen book)
          (g.B.Turns.seen c.enter.new.book) me _ c.requires.caps
          (λ both. (and_parts (all_alone g.T.Turns.alone items) (g.B.Turns.alone book) both).1)
          (rw c.in-Ok-Entered.field-0-is at c.in-Ok-Entered.ensures.heard);
      inside = subst (λ (l : List ℕ). IsTrue (may_leave l (g.B.Turns.seen c.enter.new.book) me account))
          c.requires.caps (c.in-Ok-Entered.ensures.inside c.in-Ok-Entered.field-0-is);
      caller = c.in-Ok.ensures.me;
      terms_are = c.in-Ok.ensures.terms;
      version_is = c.in-Ok.ensures.version;
    })))
