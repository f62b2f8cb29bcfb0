-- The list of passes has the first and the second, and no more.
use Rattle.std.proofs.Common.{◌≡◌, List, [], ◌∷◌, ◌++◌, length, ◌∙◌, ap, sym, refl, arith, length-append}
use lib.ListN.{get_elem?}
use Rattle.station_tests.proofs.lock_tests.open_two.Goals as goal

none_before : {A : Type 0} (before : List A) (a b : A) → length ((before ++ a ∷ []) ++ b ∷ []) ≡ 2 → before ≡ []
none_before [] a b long = refl
none_before (x ∷ before) a b long =
    absurd (let no : ⊥ =
    omega (arith, long, length-append (x ∷ before ++ a ∷ []) (b ∷ []), length-append before (a ∷ [])) in no)

the_two : {A : Type 0} (passes front before : List A) (a b : A) → passes ≡ front ++ b ∷ [] → front ≡ before ++ a ∷ []
    → length passes ≡ 2 → passes ≡ a ∷ b ∷ []
the_two passes front before a b last first long =
    let whole : passes ≡ (before ++ a ∷ []) ++ b ∷ [] = last ∙ ap (λ l. l ++ b ∷ []) first in
    whole ∙ ap (λ l. (l ++ a ∷ []) ++ b ∷ []) (none_before before a b (sym (ap length whole) ∙ long))

pub returns-clause-first : goal.returns-clause-first
returns-clause-first c =
    let both = the_two _ _ _ c.in-Some-pop.first _ c.in-Some.ensures.items c.in-Some-pop.ensures.items
    c.in_ok-turn.ensures.all in
    let is = c.in_ok-turn.ensures.each 0 c.in-Some-pop.first (ap (λ l. get_elem? l 0) both) in
    (is.3, is.0)

pub returns-clause-second : goal.returns-clause-second
returns-clause-second c =
    let both = the_two _ _ _ c.in-Some-pop.first _ c.in-Some.ensures.items c.in-Some-pop.ensures.items
    c.in_ok-turn.ensures.all in
    let is = c.in_ok-turn.ensures.each 1 c.in-Some.second (ap (λ l. get_elem? l 1) both) in
    (is.3, is.0)
