-- The bytes that a head took are a front of the bytes that it was given.
use Rattle.std.proofs.Common.{◌≡◌, ℕ, ◌≤◌, List, length, take, Result, Err, sym, ap, ◌∙◌, subst, arith, length-take-le}
use Rattle.std.proofs.lemmas.List.{take_all}
use Rattle.ntrip_head.specs.declared.fault.HeadError.{HeadError}
use Rattle.ntrip_head.specs.declared.fault.HeadError.TheVariants.{Refused}
use Rattle.ntrip_head.specs.declared.fault.HeadFault.{HeadFault}
use Rattle.ntrip_head.specs.declared.request.Request.{Request}
use Rattle.ntrip_head.specs.Answer.{HeadAnswer}
use Rattle.ntrip_head.specs.Head.{IsLong, IsOpen}
use Rattle.ntrip_head.specs.Outcome.{UnlessMemory}

-- too many bytes are the first 8,192
pub long_front : (bytes : List ℕ) (count : ℕ) → count ≤ length bytes → IsLong (take count bytes)
    → IsLong (take 8192 bytes)
long_front bytes count within long =
    subst (λ (n : ℕ). IsLong (take n bytes)) (sym (length-take-le count bytes within) ∙ long.full) long

-- a head that goes on took all bytes
pub open_whole : (bytes : List ℕ) (count : ℕ) → count ≡ length bytes → IsOpen (take count bytes) → IsOpen bytes
open_whole bytes count all open_front =
    subst (λ (l : List ℕ). IsOpen l) (take_all count bytes (omega (arith, all))) open_front

-- a head that is refused has this fault
pub refused_for : (head : List ℕ) (answer : Result Request HeadError) (why : HeadError) (fault : HeadFault)
    → answer ≡ Err why → why ≡ Refused fault → UnlessMemory answer (HeadAnswer head) → HeadAnswer head (Err fault)
refused_for head answer why fault was is told =
    subst (λ (a : Result Request HeadError). UnlessMemory a (HeadAnswer head)) (was ∙ ap Err is) told
