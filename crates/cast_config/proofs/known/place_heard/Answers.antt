use Rattle.std.proofs.Common.{sym, ◌∙◌, Some, None}
use Rattle.cast_config.proofs.KnownLemmas.{in_mounts, not_in_mounts}
use Rattle.cast_config.proofs.known.place_heard.Goals as goal

pub returns-in-Some-clause-place : goal.returns-in-Some-clause-place
returns-in-Some-clause-place c = sym (in_mounts c.args.mounts.now c.args.nears.now c.args.name.now c.in-Some.place
    (sym c.place_named.ensures.place ∙ c.in-Some.is))

pub returns-in-Some-place_named-clause-place : goal.returns-in-Some-place_named-clause-place
returns-in-Some-place_named-clause-place c =
    sym (not_in_mounts c.args.mounts.now c.args.nears.now c.args.name.now (Some c.in-Some-place_named.place)
    (sym c.place_named.ensures.place ∙ c.in-None.is) (sym c.place_named-in-None.ensures.place
    ∙ c.in-Some-place_named.is))

pub returns-in-None-place_named-clause-place : goal.returns-in-None-place_named-clause-place
returns-in-None-place_named-clause-place c =
    sym (not_in_mounts c.args.mounts.now c.args.nears.now c.args.name.now None
    (sym c.place_named.ensures.place ∙ c.in-None.is) (sym c.place_named-in-None.ensures.place
    ∙ c.in-None-place_named.is))
