use Rattle.std.proofs.Common.{◌∙◌, ◌++◌, List, [], ◌∷◌, sym, ap, append_assoc}
use Rattle.std.proofs.lemmas.List.{map-append}
use Rattle.session_model.specs.declared.report.Connection.{Connection}
use Rattle.caster_warm.specs.Parts.{sent_to}
use Rattle.caster_warm.specs.Warm.{told_with}
use Rattle.caster_warm.proofs.warming.told_all.Goals as goal

pub loop-connection-preserved : goal.loop-connection-preserved
loop-connection-preserved c = (
  tt,
  tt,
  c.in_ok-push.ensures.items
      ∙ ap (λ (told : Connection). c.loop-connection.list.items ++ told ∷ []) c.in_ok-next.ensures
      ∙ ap (λ (l : List Connection).
      l ++ told_with (λ n. sent_to n c.args.sent.now) c.in-Some.connection ∷ []) c.loop-connection.invariant.2
      ∙ sym (map-append (told_with (λ n. sent_to n c.args.sent.now)) c.loop-connection.yielded
      (c.in-Some.connection ∷ [])),
  append_assoc c.loop-connection.yielded (c.in-Some.connection ∷ []) c.next.new.self.rest.items
      ∙ ap (λ (l : List Connection). c.loop-connection.yielded ++ l) (sym c.in-Some.ensures.steps.0)
      ∙ c.loop-connection.invariant.3,
)
