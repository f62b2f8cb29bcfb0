-- A head has one answer.
use Rattle.std.proofs.Common.{◌≡◌, ◌∙◌, ℕ, Bool, true, false, List, [], sym, ap, inl, inr, Result}
use Rattle.std.specs.Prelude.{MatchBool}
use Rattle.httparse.specs.Grammar.{RequestHead, ResponseHead}
use Rattle.httparse.proofs.GrammarLemmas.{request_unique, response_unique}
use Rattle.ntrip_head.specs.declared.fault.HeadFault.{HeadFault}
use Rattle.ntrip_head.specs.declared.request.Request.{Request}
use Rattle.ntrip_head.specs.declared.upstream.Upstream.{Upstream}
use Rattle.ntrip_head.specs.Answer.{request_in, HttpAnswer, HeadAnswer}
use Rattle.ntrip_head.specs.SourceHead.{is_source, SourceAnswer}
use Rattle.ntrip_head.specs.Upstream.{upstream_in, UpstreamAnswer}

http_once : (bytes : List ℕ) (a b : Result Request HeadFault) → HttpAnswer bytes a → HttpAnswer bytes b → a ≡ b
http_once bytes a b (inl (h, whole, e)) (inl (k, other, d)) =
    let same : h ≡ k = (request_unique bytes h k [] [] whole.reads other.reads).0 in
    e ∙ ap (λ (tree : RequestHead). request_in tree) same ∙ sym d
http_once bytes a b (inl (h, whole, e)) (inr (none, d)) = absurd (none h whole)
http_once bytes a b (inr (none, e)) (inl (k, other, d)) = absurd (none k other)
http_once bytes a b (inr (none, e)) (inr (other, d)) = e ∙ sym d

source_once : (bytes : List ℕ) (a b : Result Request HeadFault) → SourceAnswer bytes a → SourceAnswer bytes b → a ≡ b
source_once bytes a b (inl (block, e)) (inl (other, d)) = e ∙ sym d
source_once bytes a b (inl (block, e)) (inr (none, d)) = absurd (none block)
source_once bytes a b (inr (none, e)) (inl (block, d)) = absurd (none block)
source_once bytes a b (inr (none, e)) (inr (other, d)) = e ∙ sym d

by_kind : (source : Bool) (bytes : List ℕ) (a b : Result Request HeadFault)
    → MatchBool source (SourceAnswer bytes a) (HttpAnswer bytes a)
    → MatchBool source (SourceAnswer bytes b) (HttpAnswer bytes b) → a ≡ b
by_kind true bytes a b x y = source_once bytes a b x y
by_kind false bytes a b x y = http_once bytes a b x y

pub head_once : (bytes : List ℕ) (a b : Result Request HeadFault) → HeadAnswer bytes a → HeadAnswer bytes b → a ≡ b
head_once bytes a b x y = by_kind (is_source bytes) bytes a b x y

pub upstream_once : (bytes : List ℕ) (a b : Result Upstream HeadFault) → UpstreamAnswer bytes a
    → UpstreamAnswer bytes b → a ≡ b
upstream_once bytes a b (inl (h, whole, e)) (inl (k, other, d)) =
    let same : h ≡ k = (response_unique bytes h k [] [] whole.reads other.reads).0 in
    e ∙ ap (λ (tree : ResponseHead). upstream_in tree) same ∙ sym d
upstream_once bytes a b (inl (h, whole, e)) (inr (none, d)) = absurd (none h whole)
upstream_once bytes a b (inr (none, e)) (inl (k, other, d)) = absurd (none k other)
upstream_once bytes a b (inr (none, e)) (inr (other, d)) = e ∙ sym d
