-- The link was served, counted and hung up, and its lines were put.
use Rattle.std.proofs.Common.{◌≡◌, ◌∙◌, ◌+◌, ap}
use Rattle.caster_press.specs.Lines.{text_of}
use Rattle.caster_keep.specs.Links.{first_line, number_of}
use Rattle.caster_keep.proofs.KeepLemmas.{link_kept, link_put}
use Rattle.caster_keep.proofs.one_link.keep_link.Goals as goal

pub returns-clause-kept : goal.returns-clause-kept
returns-clause-kept g c =
    let config = c.args.setup.now.config.now in
    let role = c.args.keeper.now.role in
    let peer = g.G.Gate.peer c.args.keeper.now.gate in
    let number = number_of c.args.setup.now.me (c.args.keeper.now.count + 1) in
    let first = c.first_line-first in
    let served = c.serve_steps-served in
    let text : text_of first.result ≡ first_line config number role peer =
    first.ensures ∙ ap (first_line config number role) c.peer.ensures in
    link_kept _ _ _ _ _ _ _ _ _ _ _ _ _ _ _ _ _ _ _ _ c.requires.fresh served.ensures.closed.1
    (record { ending = served.ensures.worn; unsettled = served.ensures.unsettled }) c.count_receipt.ensures.counted
    c.hang_up.ensures.left
    (link_put config number role peer served.ensures.closed.0 served.result.told.held served.result.receipt c.args.by
    first.result _ _ _ _ text c.put.ensures.put served.ensures.closed.2 c.tell_receipt.ensures.put)
