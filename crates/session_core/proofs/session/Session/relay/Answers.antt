use Rattle.std.proofs.Common.{◌≡◌, List, length, get_or, subst, refl, None}
use Rattle.std.proofs.lemmas.Option.{slice_get_read, get_or_from_slice_get}
use Rattle.cast_config.specs.declared.config.Relay.{Relay as RelayValue}
use Rattle.cast_config.specs.Kept.{KeepsRelay}
use Rattle.session_core.proofs.AskingLemmas.{relay_asks}
use Rattle.session_core.proofs.OpenLemmas.{relay_opens}
use Rattle.session_core.proofs.session.Session.relay.Goals as goal

pub returns-clause-stands : goal.returns-clause-stands
returns-clause-stands c = λ histories.
    let there = slice_get_read c.args.config.now.relay (length c.args.config.now.relay) c.args.number
    c.index-as_slice-number.result refl c.requires.there
    (subst (λ (l : List RelayValue). c.index-as_slice-number.result ≡ get_or l c.args.number
    c.index-as_slice-number.result)
    c.as_slice.ensures c.index-as_slice-number.is) in
    relay_opens c.args.config.now (record {
      alloc = c.args.alloc;
      me = c.args.me;
      stage = c.in_ok-stage.stage;
      ended = None;
      asked = None;
    })
    c.args.number c.index-as_slice-number.result histories there
    (subst (λ (relay : RelayValue). KeepsRelay (length c.args.config.now.mount) relay)
    (get_or_from_slice_get c.args.config.now.relay c.args.number c.index-as_slice-number.result
    c.index-as_slice-number.result there)
    (c.requires.kept.1.relay c.args.number c.index-as_slice-number.result c.requires.there))
    refl c.in_ok-stage.ensures.stage

pub returns-clause-asks : goal.returns-clause-asks
returns-clause-asks c = relay_asks c.args.me _ c.args.number c.in_ok-stage.stage c.in_ok-stage.ensures.stage
