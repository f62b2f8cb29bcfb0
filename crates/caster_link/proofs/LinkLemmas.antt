-- What a link tells after several calls.
use Rattle.std.proofs.Common.{◌∙◌, ℕ, List, [], ◌∷◌, ◌++◌, refl, sym, subst, arith}
use Rattle.std.proofs.lemmas.List.{append-nil}
use Rattle.cast_io.specs.declared.steps.Step.{Step}
use Rattle.cast_io.specs.declared.link.Got.{Got}
use Rattle.cast_io.specs.Told.{LinkTold, Grew}
use Rattle.cast_io.specs.Links.{HasRead, step_of}
use Rattle.cast_io.proofs.ToldLemmas.{grew_none, grew_both}
use Rattle.caster_link.specs.Links.{LinkGrew}
use Rattle.caster_link.specs.Sending.{HasSent}

pub link_none : (a : LinkTold) → LinkGrew a a [] []
link_none a = record {
  given = refl;
  steps = grew_none a.taken;
  bytes = grew_none a.bytes;
  later = omega arith;
}

pub link_both : (a b c : LinkTold) (xs ys : List Step) (us vs : List ℕ) → LinkGrew a b xs us → LinkGrew b c ys vs
    → LinkGrew a c (xs ++ ys) (us ++ vs)
link_both a b c xs ys us vs first second = record {
  given = second.given ∙ first.given;
  steps = grew_both a.taken b.taken c.taken xs ys first.steps second.steps;
  bytes = grew_both a.bytes b.bytes c.bytes us vs first.bytes second.bytes;
  later = omega (arith, first.later, second.later);
}

-- a read
pub link_read : (a b : LinkTold) (result : Got) (buf : List ℕ) → HasRead a b result buf
    → LinkGrew a b (step_of result buf ∷ []) []
link_read a b result buf read = record {
  given = read.given;
  steps = read.taken;
  bytes = subst (λ told. Grew a.bytes told []) (sym read.bytes) (grew_none a.bytes);
  later = read.later;
}

-- one step more, with nothing written
pub link_step : (a b c : LinkTold) (taken : List Step) (written : List ℕ) (result : Got) (buf : List ℕ)
    → LinkGrew a b taken written → HasRead b c result buf → LinkGrew a c (taken ++ step_of result buf ∷ []) written
link_step a b c taken written result buf so_far read =
    subst (LinkGrew a c (taken ++ step_of result buf ∷ [])) (append-nil written)
    (link_both a b c taken (step_of result buf ∷ []) written [] so_far (link_read b c result buf read))

-- bytes written, with no step more
pub link_piece : (a b c : LinkTold) (taken : List Step) (written piece : List ℕ)
    → LinkGrew a b taken written → HasSent b c piece → LinkGrew a c taken (written ++ piece)
link_piece a b c taken written piece so_far sent =
    subst (λ (steps : List Step). LinkGrew a c steps (written ++ piece)) (append-nil taken)
    (link_both a b c taken [] written piece so_far sent)
