use Rattle.std.proofs.Common.{◌≡◌, ◌∙◌, List, ℕ, [], sym, ap, subst, None, false}
use Rattle.ntrip_head.specs.declared.request.Auth.TheVariants as auths
use Rattle.access_groups.specs.Admission.{admission}
use Rattle.session_core.specs.declared.ending.Bare.{Bare}
use Rattle.session_core.specs.declared.ending.Bare.TheVariants as bare
use Rattle.session_core.specs.declared.session.Session.{Session}
use Rattle.session_model.specs.Judged.{rover_judged, source_judged, bare_admission}
use Rattle.session_model.specs.Run.{Histories}
use Rattle.session_core.specs.Places.{alone_in, seen_in}
use Rattle.session_core.specs.Beginnings.{bare_opening}
use Rattle.session_core.specs.Standing.{Fed}
use Rattle.session_core.specs.Begun.{BeginsFor}
use Rattle.session_core.proofs.AskingLemmas.{bare_asks}
use Rattle.session_core.proofs.BareLemmas.{bare_begun}
use Rattle.session_core.proofs.session.Session.bare.Goals as goal

pub returns-in-Source-clause-begun : goal.returns-in-Source-clause-begun
returns-in-Source-clause-begun g c =
    let config = c.args.config.now in
    let begun = c.judge_bare_source-begun.result in
    let alone = alone_in g.T.Turns g.B.Turns c.args.places.now in
    let old : Histories = seen_in g.T.Turns g.B.Turns c.args.places.now in
    let now : Histories = seen_in g.T.Turns g.B.Turns c.judge_bare_source-begun.new.places in
    let session : Session = record {
      alloc = c.args.alloc;
      me = c.args.me;
      stage = begun.stage;
      ended = begun.ended;
      asked = None;
    } in
    let empty : c.in_ok-nothing.nothing.items ≡ [] = c.in_ok-nothing.ensures.items in
    subst (λ (s : Session). Fed config alone old now s (bare_opening c.args.role c.args.mount.now) [] [] [] [] [])
    (sym c.of.ensures)
    (subst (λ (r : Bare). Fed config alone old now session (bare_opening r c.args.mount.now) [] [] [] [] [])
    (sym c.in-Source.is)
    (bare_begun config alone old now bare.Source c.args.mount.now session c.judge_bare_source-begun.new.out.items
    (subst (λ (l : List ℕ). BeginsFor config alone old now c.args.me
    (source_judged None false [] (bare_admission config c.args.mount.now)) begun.stage begun.ended l
    c.judge_bare_source-begun.new.out.items) empty c.judge_bare_source-begun.ensures.begins)
    (c.judge_bare_source-begun.ensures.untold ∙ empty)))

pub returns-clause-begun : goal.returns-clause-begun
returns-clause-begun g c =
    let config = c.args.config.now in
    let begun = c.judge_rover-begun.result in
    let new = c.judge_rover-begun.new.places in
    let alone = alone_in g.T.Turns g.B.Turns c.args.places.now in
    let old : Histories = seen_in g.T.Turns g.B.Turns c.args.places.now in
    let now : Histories = seen_in g.T.Turns g.B.Turns new in
    let session : Session = record {
      alloc = c.args.alloc;
      me = c.args.me;
      stage = begun.stage;
      ended = begun.ended;
      asked = None;
    } in
    let empty : c.in_ok-nothing.nothing.items ≡ [] = c.in_ok-nothing.ensures.items in
    subst (λ (s : Session). Fed config alone old now s (bare_opening c.args.role c.args.mount.now) [] [] [] [] [])
    (sym c.of-in-Rover.ensures)
    (subst (λ (r : Bare). Fed config alone old now session (bare_opening r c.args.mount.now) [] [] [] [] [])
    (sym c.in-Rover.is)
    (bare_begun config alone old now bare.Rover c.args.mount.now session c.judge_rover-begun.new.out.items
    (subst (λ (l : List ℕ). BeginsFor config alone old now c.args.me
    (rover_judged None None [] (admission config auths.None c.args.mount.now)) begun.stage begun.ended l
    c.judge_rover-begun.new.out.items) empty c.judge_rover-begun.ensures.begins)
    (c.judge_rover-begun.ensures.untold ∙ empty)))

pub returns-in-Source-clause-asks : goal.returns-in-Source-clause-asks
returns-in-Source-clause-asks g c =
    bare_asks c.args.config.now c.args.role c.args.mount.now c.of.result _ _ _
    (ap (λ (session : Session). session.asked) c.of.ensures) (returns-in-Source-clause-begun g c).stands

pub returns-clause-asks : goal.returns-clause-asks
returns-clause-asks g c =
    bare_asks c.args.config.now c.args.role c.args.mount.now c.of-in-Rover.result _ _ _
    (ap (λ (session : Session). session.asked) c.of-in-Rover.ensures) (returns-clause-begun g c).stands
