-- The links that were kept are all links that came back to the gate, in order.
use Rattle.std.proofs.Common.{◌≡◌, ◌∙◌, ◌++◌, ℕ, Bool, List, [], ◌∷◌, Option, None, Some, refl, sym, ap, subst, append_assoc}
use Rattle.std.proofs.lemmas.List.{append-nil}
use Rattle.cast_io.specs.Told.{LinkTold, DoorTold, Grew}
use Rattle.cast_io.specs.Doors.{IsNewDoor}
use Rattle.caster_serve.specs.Works.{IsTold, links_of}
use Rattle.caster_keep.specs.declared.stop.Stop.{Stop}
use Rattle.caster_keep.specs.declared.stop.Stop.TheVariants as stops
use Rattle.caster_keep.specs.Links.{Kept, records_of}
use Rattle.caster_keep.specs.Keepers.{Turn, WasGiven, Went, IsWhy, kept_at, links_in}

abbrev back_of : List Kept → List LinkTold
back_of links = links_of (records_of links)

back-append : (first second : List Kept) → back_of (first ++ second) ≡ back_of first ++ back_of second
back-append [] second = refl
back-append (kept ∷ first) second = ap (λ (l : List LinkTold). kept.entry.link ∷ l) (back-append first second)

-- ---- a list of what came back

grew_none : (old new : Option (List LinkTold)) → new ≡ old → Grew old new []
grew_none old new same now is = (now, sym same ∙ is, sym (append-nil now))

grew_same : (old mid new : Option (List LinkTold)) (items : List LinkTold) → mid ≡ old → Grew mid new items
    → Grew old new items
grew_same old mid new items same grew =
    subst (λ (o : Option (List LinkTold)). Grew o new items) same grew

grew_both : (a b d : Option (List LinkTold)) (first second : List LinkTold) → Grew a b first → Grew b d second
    → Grew a d (first ++ second)
grew_both a b d first second one two now is =
    let later = two now is in
    let before = one later.0 later.1 in (
      before.0,
      before.1,
      later.2 ∙ ap (λ (l : List LinkTold). l ++ second) before.2 ∙ append_assoc before.0 first second,
    )

module _ {G : Type 0} (told : G → DoorTold) (over : G → Bool) (peer : G → List ℕ) where
  given_back : (kept : Option Kept) (before asked opened left : G) → told asked ≡ told before
      → WasGiven told over peer kept asked opened left
      → Grew (told before).back (told left).back (back_of (kept_at kept))
  given_back None before asked opened left same is =
      grew_none (told before).back (told left).back
      (ap (λ (d : DoorTold). d.back) is.1 ∙ is.0.back ∙ ap (λ (d : DoorTold). d.back) same)
  given_back (Some kept) before asked opened left same is =
      grew_same (told before).back (told opened).back (told left).back (kept.entry.link ∷ [])
      (is.1.back ∙ ap (λ (d : DoorTold). d.back) same) is.4.back

  went_back : (turns : List (Turn G)) (before now : G) → Went told over peer turns before now
      → Grew (told before).back (told now).back (back_of (links_in turns))
  went_back [] before now same =
      grew_none (told before).back (told now).back (ap (λ (g : G). (told g).back) same)
  went_back (turn ∷ turns) before now is =
      subst (Grew (told before).back (told now).back) (sym (back-append (kept_at turn.kept) (links_in turns)))
      (grew_both (told before).back (told turn.left).back (told now).back (back_of (kept_at turn.kept))
      (back_of (links_in turns))
      (given_back turn.kept before turn.asked turn.opened turn.left is.0.same is.0.given)
      (went_back turns turn.left now is.1))

  -- where it stopped nothing more came back
  still : (stop : Stop) (at now : G) → IsWhy told over peer stop at now → (told now).back ≡ (told at).back
  still stops.Over at now is = ap (λ (d : DoorTold). d.back) is.0
  still stops.Failed at now is = is.failed.back ∙ ap (λ (d : DoorTold). d.back) is.same

  pub all_back : (turns : List (Turn G)) (links : List Kept) (stop : Stop) (first at now : G)
      → IsNewDoor (told first) → Went told over peer turns first at → links_in turns ≡ links
      → IsWhy told over peer stop at now → IsTold (told now).back (back_of links)
  all_back turns links stop first at now unused went links_are why list is =
      let grew = went_back turns first at went list (sym (still stop at now why) ∙ is) in
      grew.2
      ∙ ap (λ (l : List LinkTold). l ++ back_of (links_in turns)) (unused.back grew.0 grew.1)
      ∙ ap back_of links_are
