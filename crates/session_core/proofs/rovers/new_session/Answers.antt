use Rattle.std.proofs.Common.{◌≡◌, ◌∙◌, ap}
use Rattle.session_model.specs.Setting.{bases_at}
use Rattle.session_core.proofs.AdmittedLemmas.{IsReady, ready_by}
use Rattle.session_core.proofs.rovers.new_session.Goals as goal

pub new-requires-clause-count : goal.new-requires-clause-count
new-requires-clause-count c =
    let are : c.in_ok-bases.bases.items ≡ bases_at c.args.config.now c.args.admission.now.bases =
    c.in_ok-bases.ensures ∙ ap (bases_at c.args.config.now) c.as_slice.ensures in
    let ready : IsReady c.args.config.now c.args.admission.now c.in_ok-bases.bases.items =
    ready_by c.args.config.now c.args.admission.now c.in_ok-bases.bases.items c.requires.kept c.requires.admitted are in
    (ready.some, ready.few)

pub new-requires-clause-on_earth : goal.new-requires-clause-on_earth
new-requires-clause-on_earth c =
    let are : c.in_ok-bases.bases.items ≡ bases_at c.args.config.now c.args.admission.now.bases =
    c.in_ok-bases.ensures ∙ ap (bases_at c.args.config.now) c.as_slice.ensures in
    let ready : IsReady c.args.config.now c.args.admission.now c.in_ok-bases.bases.items =
    ready_by c.args.config.now c.args.admission.now c.in_ok-bases.bases.items c.requires.kept c.requires.admitted are in
    ready.earth

pub new-requires-clause-one : goal.new-requires-clause-one
new-requires-clause-one c =
    let are : c.in_ok-bases.bases.items ≡ bases_at c.args.config.now c.args.admission.now.bases =
    c.in_ok-bases.ensures ∙ ap (bases_at c.args.config.now) c.as_slice.ensures in
    let ready : IsReady c.args.config.now c.args.admission.now c.in_ok-bases.bases.items =
    ready_by c.args.config.now c.args.admission.now c.in_ok-bases.bases.items c.requires.kept c.requires.admitted are in
    ready.one
