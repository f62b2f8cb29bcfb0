-- A link that was kept is promised.
use Rattle.std.proofs.Common.{◌≡◌, ◌∙◌, ◌⊎◌, ℕ, List, [], ◌∷◌, Option, None, Some, inl, inr, sym, ap, subst}
use Rattle.cast_io.specs.Links.{bytes_in}
use Rattle.cast_config.specs.declared.config.Config.{Config}
use Rattle.session_model.specs.declared.ending.Ending.{Ending}
use Rattle.session_model.specs.declared.ending.Ending.TheVariants.{Memory}
use Rattle.session_model.specs.declared.report.Receipt.{Receipt}
use Rattle.session_model.specs.Courses.{steps_of}
use Rattle.session_model.specs.Headings.{Heading}
use Rattle.session_model.specs.Judged.{Opening}
use Rattle.session_model.specs.Owed.{came_to}
use Rattle.session_model.specs.Reports.{IsHeadingOf}
use Rattle.session_model.specs.Run.{Histories}
use Rattle.session_core.specs.declared.asked.Asked.{Asked}
use Rattle.session_core.specs.Asking.{IsAsking, asked_in}
use Rattle.session_core.specs.Closed.{ending_by}
use Rattle.caster_link.specs.declared.role.Role.{Role}
use Rattle.caster_link.specs.Links.{opening_of}
use Rattle.caster_link.specs.Wear.{Wear, only_worn}
use Rattle.caster_serve.specs.Callers.{calls_in}
use Rattle.caster_keep.specs.Links.{Kept, KeptGoes, Follow}
use Rattle.serve_promise.specs.Links.{AllFrames, GoOnTo}
use Rattle.serve_promise.proofs.BilledLemmas.{all_called, billed, steps_begun, steps_on, text_is}
use Rattle.serve_promise.proofs.CallerLemmas.{FitsOn, fits_both, fits_goes, fits_none, goes_both, record_fits}
use Rattle.serve_promise.proofs.LinkLemmas.{link_kept}
use Rattle.keep_promise.specs.Links.{IsAsked, IsKept}
use Rattle.keep_promise.specs.Keepers.{AreKeptOn}
use Rattle.keep_promise.proofs.ClaimLemmas.{is_its_claim}

-- ---- one link

module _ (c : Config) (role : Role) (me : ℕ) (wear : Wear) (start now : Histories) (kept : Kept)
    (is : KeptGoes c role me wear kept start now) where
  asked_or : (told : Option Asked) (heading : Heading) → IsAsking told is.goes.goes.ended (asked_in heading)
      → (told ≡ asked_in heading) ⊎ ((told ≡ None) × (kept.entry.receipt.ending ≡ Memory))
  asked_or told heading (inl same) = inl same
  asked_or told heading (inr none) =
      let goes = is.goes.goes in
      inr (
        none.0,
        goes.receipt_is.ending
            ∙ ap (λ (e : Option Ending). ending_by e is.goes.last (came_to goes.j (steps_of goes.events))) none.1,
      )

  pub is_asked : IsAsked (opening_of role) (bytes_in is.goes.taken) kept.entry.receipt kept.asked
  is_asked heading is_heading =
      asked_or kept.asked heading
      (is.asked_is heading
      (subst (λ (text : List ℕ). IsHeadingOf (Some (opening_of role)) text heading)
      (sym (text_is c (opening_of role) me start now is.goes.taken is.goes.written is.goes.last kept.entry.receipt
      is.goes.goes)) is_heading))

pub kept_link : (c : Config) (role : Role) (me : ℕ) (start now histories : Histories) (kept : Kept)
    → KeptGoes c role me (only_worn (calls_in histories)) kept start now → GoOnTo now.rings histories.rings
    → AllFrames histories.rings → IsKept c role me start now histories kept
kept_link c role me start now histories kept is on_to frames =
    let wear : Wear = only_worn (calls_in histories) in
    let went = is.goes in
    let goes = went.goes in
    let opening : Opening = opening_of role in
    let receipt : Receipt = kept.entry.receipt in
    record {
      entry = record {
        taken = went.taken;
        written = went.written;
        taken_is = went.taken_is;
        bytes_is = went.bytes_is;
        last = went.last;
        caused = went.caused;
        refused = went.refused;
        kept = link_kept c opening me start now went.taken went.written went.last receipt histories.rings goes on_to
            frames;
      };
      billed = billed c opening me start now went.taken went.written went.last receipt goes kept.held is.held_is;
      asked = is_asked c role me wear start now kept is;
      claim = is_its_claim c me start now goes.j (steps_of goes.events) goes.closed_by
          (steps_on c opening me start now went.taken went.written went.last receipt goes)
          (steps_begun c opening me start now went.taken went.written went.last receipt goes)
          (all_called c opening me start now went.taken went.written went.last receipt goes) opening kept.held
          is.held_is;
    }

-- ---- one link behind the other

pub follow_fits : (c : Config) (role : Role) (me : ℕ) (wear : Wear) (links : List Kept) (start now : Histories)
    → Follow c role me wear links start now → FitsOn me start.rings now.rings
follow_fits c role me wear [] start now same =
    subst (λ (h : Histories). FitsOn me start.rings h.rings) (sym same) (fits_none me start.rings)
follow_fits c role me wear (kept ∷ links) start now is =
    fits_both me start.rings is.0.rings now.rings
    (record_fits c (opening_of role) me wear kept.entry start is.0 is.1.goes)
    (follow_fits c role me wear links is.0 now is.2)

pub follow_kept : (c : Config) (role : Role) (me : ℕ) (links : List Kept) (start now histories : Histories)
    → Follow c role me (only_worn (calls_in histories)) links start now → GoOnTo now.rings histories.rings
    → AllFrames histories.rings → AreKeptOn c role me histories links start now
follow_kept c role me [] start now histories same on_to frames = same
follow_kept c role me (kept ∷ links) start now histories is on_to frames =
    let wear : Wear = only_worn (calls_in histories) in (
      is.0,
      kept_link c role me start is.0 histories kept is.1
          (goes_both is.0.rings now.rings histories.rings
          (fits_goes me is.0.rings now.rings (follow_fits c role me wear links is.0 now is.2)) on_to) frames,
      follow_kept c role me links is.0 now histories is.2 on_to frames,
    )
