-- What links, doors and streets tell after a call.
use Rattle.std.proofs.Common.{◌≡◌, ◌≤◌, ◌++◌, ℕ, List, [], ◌∷◌, map, IsTrue, Option, None, Some, option_map, unwrap_or, refl, sym, ap, subst, ◌∙◌, append_assoc, append-nil, arith}
use Rattle.std.proofs.lemmas.List.{map-append}
use Rattle.cast_io.specs.declared.link.Got.{Got}
use Rattle.cast_io.specs.Causes.{Rose}
use Rattle.cast_io.specs.Told.{Grew}
use Rattle.cast_io.specs.Links.{TakesStep, HasRead, has_failed, step_of}
use Rattle.cast_io.specs.FakeLinks.{LinkState, link_told, steps_left, IsReadOf}

-- a count that rose later rose since
pub rose_since : (a b c : ℕ) → a ≤ b → Rose b c → Rose a c
rose_since a b c later rose = omega (arith, later, rose)

-- a read took a step, and noted it
pub link_read : (old mid new : LinkState) (result : Got) (buf : List _)
    → TakesStep result buf (steps_left old) (steps_left mid) → mid.taken ≡ old.taken
    → IsReadOf old mid → old.faults ≤ mid.faults
    → (IsTrue (has_failed result) → Rose old.faults mid.faults)
    → new ≡ record mid { taken = new.taken; faults = new.faults }
    → Grew mid.taken new.taken (step_of result buf ∷ []) → mid.faults ≤ new.faults
    → HasRead (link_told old) (link_told new) result buf
link_read old mid new result buf takes taken is later rose same grew more = record {
  given = ap (λ link. Some link.given) same ∙ ap Some is.given;
  left = λ now told. (
    steps_left old,
    refl,
    subst (TakesStep result buf (steps_left old))
        (sym (ap steps_left same) ∙ ap (λ list. unwrap_or list []) told) takes,
  );
  taken = subst (λ list. Grew list new.taken (step_of result buf ∷ [])) taken grew;
  bytes = ap (λ link. Some link.bytes) same ∙ ap Some is.bytes;
  later = omega (arith, later, more);
  failed = λ failed. omega (arith, rose failed, more);
}

-- a list that is told has one more, seen through what each item tells
pub told_grew : {X Y : Type 0} (f : X → Y) (old new : Option (List X)) (x : X)
    → Grew old new (x ∷ []) → Grew (option_map (map f) old) (option_map (map f) new) (f x ∷ [])
told_grew f old None x grew list told = cc
told_grew f old (Some now) x grew list told = let from = grew now refl in (
  map f from.0,
  ap (option_map (map f)) from.1,
  ap (λ items. unwrap_or items []) (sym told) ∙ ap (map f) from.2 ∙ map-append f from.0 (x ∷ []),
)

-- a list that did not change
pub grew_none : {X : Type 0} (told : Option (List X)) → Grew told told []
grew_none told now is = (now, is, sym (append-nil now))

-- a list that grew twice
pub grew_both : {X : Type 0} (a b c : Option (List X)) (xs ys : List X) → Grew a b xs
    → Grew b c ys → Grew a c (xs ++ ys)
grew_both a b c xs ys first second now is =
    let later = second now is in
    let before = first later.0 later.1 in (
      before.0,
      before.1,
      later.2 ∙ ap (λ list. list ++ ys) before.2 ∙ append_assoc before.0 xs ys,
    )
