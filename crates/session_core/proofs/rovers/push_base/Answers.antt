use Rattle.std.proofs.Common.{◌≡◌, ◌∙◌, ◌++◌, [], List, sym, ap, subst}
use Rattle.std.specs.Prelude.{option_to_list, slice_get}
use Rattle.std.proofs.lemmas.List.{append-nil}
use Rattle.base_select.specs.declared.Base.{Base}
use Rattle.session_model.specs.Setting.{base_at}
use Rattle.session_core.proofs.rovers.push_base.Goals as goal

pub returns-in-None : goal.returns-in-None
returns-in-None c =
    let none : base_at c.args.number (slice_get c.args.config.now.mount c.args.number) ≡ [] =
    sym c.base_at.ensures ∙ ap option_to_list c.in-None.is in
    subst (λ (l : List Base). c.args.bases.now.items ≡ c.args.bases.now.items ++ l) (sym none)
    (sym (append-nil c.args.bases.now.items))
