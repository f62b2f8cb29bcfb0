-- What a connection can have come to: only a source is given a claim, and only a rover enters an
-- account.
use Rattle.std.proofs.Common.{◌≡◌, ◌∙◌, ℕ, true, List, refl, ap, Option, None, Some}
use Rattle.mount_ring.specs.declared.call.RingAnswer.TheVariants as rings
use Rattle.caster_accounts.specs.declared.call.BookAnswer.TheVariants as books
use Rattle.session_calls.specs.Steps.{Answer, of_ring, of_book}
use Rattle.ntrip_head.specs.declared.request.Version.{Version}
use Rattle.ntrip_reply.specs.declared.kind.Reply.{Reply}
use Rattle.session_model.specs.declared.ending.Ending.{Ending}
use Rattle.session_model.specs.Judged.{SourceTerms, RoverTerms, Judged, waiting, finished, source, rover}
use Rattle.session_model.specs.Owed.{Came, nothing, over, holding, inside, source_came, rover_came, came_by, is_let_in}
use Rattle.session_model.specs.Reports.{is_entered}

-- so something holds of all that a source came to, by its first answer
source_parts : (P : Came → Type 0) (terms : SourceTerms) (body : List ℕ) (answer : Answer) → P nothing
    → ((reply : Option (Version × Reply)) (end : Ending) → P (over reply end))
    → ((claim : ℕ) → answer ≡ of_ring (rings.Given claim) → P (holding terms body claim))
    → P (source_came terms body answer)
source_parts P terms body (of_ring (rings.Given claim)) none ends holds = holds claim refl
source_parts P terms body (of_ring (rings.Taken caller claim)) none ends holds = ends _ _
source_parts P terms body (of_ring rings.Released) none ends holds = none
source_parts P terms body (of_ring (rings.At place)) none ends holds = none
source_parts P terms body (of_ring (rings.Joined cursor)) none ends holds = none
source_parts P terms body (of_ring (rings.Looked live)) none ends holds = none
source_parts P terms body (of_ring (rings.Read report)) none ends holds = none
source_parts P terms body (of_book answer) none ends holds = none

-- and that a rover came to
rover_parts : (P : Came → Type 0) (terms : RoverTerms) (answer : Answer) → P nothing
    → ((reply : Option (Version × Reply)) (end : Ending) → P (over reply end))
    → (answer ≡ of_book books.Entered → P (inside terms)) → P (rover_came terms answer)
rover_parts P terms (of_ring answer) none ends enters = none
rover_parts P terms (of_book books.Entered) none ends enters = enters refl
rover_parts P terms (of_book (books.Full busy cap)) none ends enters = ends _ _
rover_parts P terms (of_book books.Left) none ends enters = none

pub came_parts : (P : Came → Type 0) (j : Judged) (first : Option Answer) → P nothing
    → ((reply : Option (Version × Reply)) (end : Ending) → P (over reply end))
    → ((terms : SourceTerms) (body : List ℕ) (claim : ℕ) → j ≡ source terms body
    → first ≡ Some (of_ring (rings.Given claim)) → P (holding terms body claim))
    → ((terms : RoverTerms) (tail : List ℕ) → j ≡ rover terms tail → first ≡ Some (of_book books.Entered)
    → P (inside terms)) → P (came_by j first)
came_parts P waiting first none ends holds enters = none
came_parts P (finished reply end) first none ends holds enters = ends reply end
came_parts P (source terms body) None none ends holds enters = none
came_parts P (source terms body) (Some answer) none ends holds enters =
    source_parts P terms body answer none ends (λ claim is. holds terms body claim refl (ap Some is))
came_parts P (rover terms tail) None none ends holds enters = none
came_parts P (rover terms tail) (Some answer) none ends holds enters =
    rover_parts P terms answer none ends (λ is. enters terms tail refl (ap Some is))

-- a rover enters where its first answer lets it in
pub entered_let : (terms : RoverTerms) (answer : Answer) → is_entered (rover_came terms answer) ≡ is_let_in answer
entered_let terms (of_ring answer) = refl
entered_let terms (of_book books.Entered) = refl
entered_let terms (of_book (books.Full busy cap)) = refl
entered_let terms (of_book books.Left) = refl

-- and one that holds this claim is a source that was given it
pub holding_parts : (j : Judged) (first : Option Answer) (terms : SourceTerms) (body : List ℕ) (claim : ℕ)
    → came_by j first ≡ holding terms body claim
    → (j ≡ source terms body) × (first ≡ Some (of_ring (rings.Given claim)))
holding_parts j first terms body claim =
    came_parts (λ came. came ≡ holding terms body claim
    → (j ≡ source terms body) × (first ≡ Some (of_ring (rings.Given claim)))) j first (λ is. absurd cc)
    (λ reply end is. absurd cc)
    (λ others rest other judged given is. (
      judged ∙ holding_same others terms rest body other claim is,
      given
          ∙ ap (λ (n : ℕ). Some (of_ring (rings.Given n))) (same_claim others terms rest body other claim is),
    ))
    (λ others tail judged entered is. absurd cc) where
      holding_same : (a b : SourceTerms) (x y : List ℕ) (n k : ℕ) → holding a x n ≡ holding b y k
          → source a x ≡ source b y
      holding_same a b x y n k is = cc

      same_claim : (a b : SourceTerms) (x y : List ℕ) (n k : ℕ) → holding a x n ≡ holding b y k → n ≡ k
      same_claim a b x y n k is = cc

-- one that entered is a rover
pub entered_parts : (j : Judged) (first : Option Answer) → is_entered (came_by j first) ≡ true
    → (terms : RoverTerms) × (tail : List ℕ) × (j ≡ rover terms tail) × (first ≡ Some (of_book books.Entered))
entered_parts j first =
    came_parts (λ came. is_entered came ≡ true
    → (terms : RoverTerms) × (tail : List ℕ) × (j ≡ rover terms tail) × (first ≡ Some (of_book books.Entered)))
    j first (λ is. absurd cc) (λ reply end is. absurd cc) (λ terms body claim judged given is. absurd cc)
    (λ terms tail judged entered is. (terms, tail, judged, entered))

-- its reports do not count
pub rover_same : (terms : RoverTerms) (tail other : List ℕ) (first : Option Answer)
    → came_by (rover terms other) first ≡ came_by (rover terms tail) first
rover_same terms tail other None = refl
rover_same terms tail other (Some answer) = refl
