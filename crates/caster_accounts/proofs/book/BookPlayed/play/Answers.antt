use Rattle.std.proofs.Common.{◌≡◌, ◌<◌, ◌^◌, true, [], ◌∷◌, ◌++◌, length, refl, sym, subst, ap, ◌∙◌, arith, Some}
use Rattle.std.specs.Prelude.{slice_get}
use Rattle.caster_accounts.specs.declared.account.Account.{Account}
use Rattle.caster_accounts.specs.declared.account.Sum.{Sum}
use Rattle.caster_accounts.specs.declared.call.BookCall.{BookCall}
use Rattle.caster_accounts.specs.declared.call.BookCall.TheVariants.{Enter, Leave}
use Rattle.caster_accounts.specs.Kept.{IsWithin}
use Rattle.caster_accounts.specs.Sums.{added}
use Rattle.caster_accounts.specs.History.{is_among, callers_in}
use Rattle.caster_accounts.proofs.BookLemmas.{caps_stay, busy_of, each_entered, each_left, found_to_enter, found_to_leave, inside_to_leave, answer_entered, cap_entered, all_after, bounded_more, bounded_added}
use Rattle.caster_accounts.proofs.book.BookPlayed.play.Goals as goal

pub enter-requires : goal.enter-requires
enter-requires c =
    let accounts = c.args.self.now.accounts.items in
    let h = c.requires.0 in
    let at : slice_get accounts c.in-Enter.account ≡ Some c.index_mut.result.now =
    found_to_enter accounts h c.args.me c.in-Enter.account c.args.call c.index_mut.result.now c.in-Enter.is c.requires.3
    c.index_mut.ensures.value in
    (c.requires.1.each c.in-Enter.account c.index_mut.result.now at).within

pub leave-requires-clause-busy : goal.leave-requires-clause-busy
leave-requires-clause-busy c =
    let accounts = c.args.self.now.accounts.items in
    let h = c.requires.0 in
    let account = c.index_mut-in-Leave.result.now in
    let at : slice_get accounts c.in-Leave.account ≡ Some account =
    found_to_leave accounts h c.args.me c.in-Leave.account c.in-Leave.sent c.in-Leave.overrun c.args.call account
    c.in-Leave.is c.requires.3 c.index_mut-in-Leave.ensures.value in
    busy_of h c.in-Leave.account c.args.me account (c.requires.1.each c.in-Leave.account account at)
    (inside_to_leave accounts h c.args.me c.in-Leave.account c.in-Leave.sent c.in-Leave.overrun c.args.call account
    c.in-Leave.is c.requires.3 c.index_mut-in-Leave.ensures.value)

pub leave-requires-clause-sessions : goal.leave-requires-clause-sessions
leave-requires-clause-sessions c =
    let account = c.index_mut-in-Leave.result.now in
    let at = found_to_leave c.args.self.now.accounts.items c.requires.0 c.args.me c.in-Leave.account c.in-Leave.sent
    c.in-Leave.overrun c.args.call account c.in-Leave.is c.requires.3 c.index_mut-in-Leave.ensures.value in
    let few : length c.requires.0 < 2 ^ 63 = c.requires.2 in
    omega (arith, few, (c.requires.1.each c.in-Leave.account account at).bounded.sessions)

pub leave-requires-clause-sent : goal.leave-requires-clause-sent
leave-requires-clause-sent c =
    let account = c.index_mut-in-Leave.result.now in
    let at = found_to_leave c.args.self.now.accounts.items c.requires.0 c.args.me c.in-Leave.account c.in-Leave.sent
    c.in-Leave.overrun c.args.call account c.in-Leave.is c.requires.3 c.index_mut-in-Leave.ensures.value in
    let few : length c.requires.0 < 2 ^ 63 = c.requires.2 in
    omega (arith, few, (c.requires.1.each c.in-Leave.account account at).bounded.sent)

pub leave-requires-clause-overrun : goal.leave-requires-clause-overrun
leave-requires-clause-overrun c =
    let account = c.index_mut-in-Leave.result.now in
    let at = found_to_leave c.args.self.now.accounts.items c.requires.0 c.args.me c.in-Leave.account c.in-Leave.sent
    c.in-Leave.overrun c.args.call account c.in-Leave.is c.requires.3 c.index_mut-in-Leave.ensures.value in
    let few : length c.requires.0 < 2 ^ 63 = c.requires.2 in
    omega (arith, few, (c.requires.1.each c.in-Leave.account account at).bounded.overrun)

pub returns-in-Enter-clause-shape : goal.returns-in-Enter-clause-shape
returns-in-Enter-clause-shape c =
    let accounts = c.args.self.now.accounts.items in
    let account = c.index_mut.result.now in
    let at : slice_get accounts c.in-Enter.account ≡ Some account =
    found_to_enter accounts c.requires.0 c.args.me c.in-Enter.account c.args.call account c.in-Enter.is c.requires.3
    c.index_mut.ensures.value in
    caps_stay accounts c.in-Enter.account account c.enter.new.self at
    (ap (λ (a : Account). a.cap) c.enter.ensures.account ∙ cap_entered account)

pub returns-in-Enter-clause-played : goal.returns-in-Enter-clause-played
returns-in-Enter-clause-played c = λ h keeps few fitting.
    let accounts = c.args.self.now.accounts.items in
    let account = c.index_mut.result.now in
    let place = c.in-Enter.account in
    let at : slice_get accounts place ≡ Some account =
    found_to_enter accounts h c.args.me place c.args.call account c.in-Enter.is fitting c.index_mut.ensures.value in
    rw c.in-Enter.is (
      record {
        each = each_entered accounts h c.args.me place account c.enter.new.self at keeps.each c.enter.ensures.account;
        all = keeps.all ∙ sym (all_after h c.args.me (Enter place));
        bounded = bounded_more h (c.args.me, Enter place) c.args.self.now.all keeps.bounded;
      },
      c.enter.ensures.answer ∙ answer_entered accounts h place account at (keeps.each place account at),
      refl,
    )

pub returns-in-Leave-clause-shape : goal.returns-in-Leave-clause-shape
returns-in-Leave-clause-shape c =
    let accounts = c.args.self.now.accounts.items in
    let account = c.index_mut-in-Leave.result.now in
    let at : slice_get accounts c.in-Leave.account ≡ Some account =
    found_to_leave accounts c.requires.0 c.args.me c.in-Leave.account c.in-Leave.sent c.in-Leave.overrun c.args.call
    account c.in-Leave.is c.requires.3 c.index_mut-in-Leave.ensures.value in
    caps_stay accounts c.in-Leave.account account c.leave.new.self at (ap (λ (a : Account). a.cap) c.leave.ensures)

pub returns-in-Leave-clause-played : goal.returns-in-Leave-clause-played
returns-in-Leave-clause-played c = λ h keeps few fitting.
    let accounts = c.args.self.now.accounts.items in
    let account = c.index_mut-in-Leave.result.now in
    let place = c.in-Leave.account in
    let at : slice_get accounts place ≡ Some account =
    found_to_leave accounts h c.args.me place c.in-Leave.sent c.in-Leave.overrun c.args.call account c.in-Leave.is
    fitting c.index_mut-in-Leave.ensures.value in
    let mine : is_among c.args.me (callers_in account.cap place h) ≡ true =
    inside_to_leave accounts h c.args.me place c.in-Leave.sent c.in-Leave.overrun c.args.call account c.in-Leave.is
    fitting c.index_mut-in-Leave.ensures.value in
    let leave : BookCall = Leave place c.in-Leave.sent c.in-Leave.overrun in
    rw c.in-Leave.is (
      record {
        each = each_left accounts h c.args.me place c.in-Leave.sent c.in-Leave.overrun account c.leave.new.self at
            keeps.each
            mine (omega arith) (omega arith) c.leave.ensures;
        all = c.add.ensures ∙ ap (λ (s : Sum). added s c.in-Leave.sent c.in-Leave.overrun) keeps.all
            ∙ sym (all_after h c.args.me leave);
        bounded = subst (IsWithin (h ++ (c.args.me, leave) ∷ [])) (sym c.add.ensures)
            (bounded_added h (c.args.me, leave) c.in-Leave.sent c.in-Leave.overrun c.args.self.now.all keeps.bounded
            (omega arith) (omega arith));
      },
      refl,
      refl,
    )

pub add-requires-clause-sessions : goal.add-requires-clause-sessions
add-requires-clause-sessions c =
    let few : length c.requires.0 < 2 ^ 63 = c.requires.2 in
    omega (arith, few, c.requires.1.bounded.sessions)

pub add-requires-clause-sent : goal.add-requires-clause-sent
add-requires-clause-sent c =
    let few : length c.requires.0 < 2 ^ 63 = c.requires.2 in
    omega (arith, few, c.requires.1.bounded.sent)

pub add-requires-clause-overrun : goal.add-requires-clause-overrun
add-requires-clause-overrun c =
    let few : length c.requires.0 < 2 ^ 63 = c.requires.2 in
    omega (arith, few, c.requires.1.bounded.overrun)
