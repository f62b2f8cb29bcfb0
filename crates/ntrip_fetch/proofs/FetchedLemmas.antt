-- The request, and what the link gave behind it.
use Rattle.std.proofs.Common.{◌≡◌, ◌≤◌, ◌<◌, ℕ, List, [], ◌∷◌, ◌++◌, length, take, Option, Ok, Err, refl, ap, subst, ◌∙◌, inl, inr, arith}
use Rattle.std.proofs.lemmas.List.{append-nil}
use Rattle.std.specs.Io.KnownBytes.{Appends}
use Rattle.cast_io.specs.declared.steps.Step.{Step}
use Rattle.cast_io.specs.declared.steps.Step.TheVariants as took
use Rattle.cast_io.specs.Told.{LinkTold}
use Rattle.cast_io.specs.Links as links
use Rattle.cast_io.proofs.ToldLemmas.{grew_both}
use Rattle.ntrip_client.specs.declared.answer.Answer.{Answer}
use Rattle.ntrip_client.specs.declared.answer.Answer.TheVariants.{Open}
use Rattle.ntrip_client.specs.Answer.{IsAnswer}
use Rattle.ntrip_fetch.specs.declared.target.Target.{Target}
use Rattle.ntrip_fetch.specs.declared.left.Left.{Left}
use Rattle.ntrip_fetch.specs.declared.left.Left.TheVariants.{Enough, Dial, End, LinkFault, BadHead, LongHead, Coding, Table, Status, Done, BadChunk}
use Rattle.ntrip_fetch.specs.declared.left.Try.{Try}
use Rattle.ntrip_fetch.specs.Request.{target_request}
use Rattle.ntrip_fetch.specs.Answered.{answered, IsWanting}
use Rattle.cast_io.specs.Links.{bytes_in}
use Rattle.ntrip_fetch.specs.Fetched.{Course, LinkFetched, LinkBroken, HasTaken, HasReceived, ReceivingBroken, IsLeft}
use Rattle.ntrip_fetch.proofs.StageLemmas.{no_frames, take_none}

-- a count that rose later rose since
left_since : (most : ℕ) (a b c : LinkTold) (taken : List Step) (answer : Answer) (count : ℕ) (left : Left)
    → a.faults ≤ b.faults → IsLeft most b c taken answer count left → IsLeft most a c taken answer count left
left_since most a b c taken answer count Enough later x = x
left_since most a b c taken answer count Dial later x = absurd x
left_since most a b c taken answer count End later x = x
left_since most a b c taken answer count LinkFault later x = (x.0, x.1, x.2, omega (arith, later, x.3))
left_since most a b c taken answer count BadHead later x = x
left_since most a b c taken answer count LongHead later x = x
left_since most a b c taken answer count Coding later x = x
left_since most a b c taken answer count Table later x = x
left_since most a b c taken answer count (Status status) later x = x
left_since most a b c taken answer count Done later x = x
left_since most a b c taken answer count (BadChunk place) later x = x

-- the request was sent whole, and then the link took these steps
course : {T E : Type 0} (target : Target) (most : ℕ) (a b c : LinkTold) (sent : T) (request : List ℕ)
    (taken : List Step)
    (answer : Answer) → links.HasWritten {T = T} {E = E} a b (Ok sent) request → request ≡ target_request target
    → HasTaken most b c taken → IsAnswer (bytes_in taken) answer
    → Course target most a c taken answer (take most (answered answer (bytes_in taken)))
course target most a b c sent request taken answer wrote is took says = record {
  given = took.given ∙ wrote.given;
  steps = grew_both a.taken b.taken c.taken [] taken wrote.taken took.steps;
  needed = took.needed;
  later = omega (arith, wrote.later, took.later);
  sent = request ++ [];
  bytes = grew_both a.bytes b.bytes c.bytes request [] wrote.whole took.bytes;
  request = inl (append-nil request ∙ is);
  says = says;
  first = refl;
}

pub fetched_behind : {T E : Type 0} (target : Target) (most : ℕ) (a b c : LinkTold) (start now : Option (List ℕ))
    (tried : Try)
    (sent : T) (request : List ℕ) → links.HasWritten {T = T} {E = E} a b (Ok sent) request
    → request ≡ target_request target
    → HasReceived most b c start now tried → LinkFetched target most a c start now tried
fetched_behind target most a b c start now tried sent request wrote is x = (
  take most (answered x.answer (bytes_in x.taken)),
  record {
    taken = x.taken;
    answer = x.answer;
    course = course target most a b c sent request x.taken x.answer wrote is x.link x.says;
    count = x.wrote.counted;
    left = left_since most a b c x.taken x.answer tried.frames tried.left wrote.later x.left;
  },
  x.wrote.wrote,
)

pub broken_behind : {T E : Type 0} (target : Target) (most : ℕ) (a b c : LinkTold) (start now : Option (List ℕ))
    (sent : T) (request : List ℕ) → links.HasWritten {T = T} {E = E} a b (Ok sent) request
    → request ≡ target_request target
    → ReceivingBroken most b c start now → LinkBroken target most a c start now
broken_behind target most a b c start now sent request wrote is x = (
  take most (answered x.torn.0 (bytes_in x.taken)),
  record {
    taken = x.taken;
    answer = x.torn.0;
    course = course target most a b c sent request x.taken x.torn.0 wrote is x.link x.torn.1;
  },
  x.torn.2,
)

-- the request was not sent whole
pub unsent : {T E : Type 0} (target : Target) (most : ℕ) (a b : LinkTold) (now : Option (List ℕ)) (fault : E)
    (request head : List ℕ) → links.HasWritten {T = T} {E = E} a b (Err fault) request → request ≡ target_request target
    → head ≡ [] → IsAnswer head Open → 0 < most → Appends now now []
    → LinkFetched target most a b now now (record { frames = 0; left = LinkFault })
unsent target most a b now fault request head wrote is empty open_ some none =
    let says : IsAnswer [] Open = subst (λ l. IsAnswer l Open) empty open_ in
    let wants : IsWanting most [] = record { answer = Open; says = says; follows = tt; fewer = some } in (
      no_frames,
      record {
        taken = took.WriteFailed ∷ [];
        answer = Open;
        course = record {
          given = wrote.given;
          steps = wrote.taken;
          needed = (wants, omega arith, refl, tt);
          later = wrote.later;
          sent = take wrote.torn.0 request;
          bytes = wrote.torn.2;
          request = inr (
            wrote.torn.0,
            omega (arith, wrote.torn.1, ap length is),
            ap (take wrote.torn.0) is,
            refl,
          );
          says = says;
          first = take_none most;
        };
        count = refl;
        left = (some, tt, ([], took.WriteFailed, refl, refl), wrote.failed);
      },
      none,
    )
