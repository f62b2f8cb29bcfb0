-- How a connection begins.
use Rattle.std.proofs.Common.{◌≡◌, ◌∙◌, ◌≤◌, ◌⊎◌, ℕ, Bool, true, false, List, [], ◌∷◌, ◌++◌, length, refl, sym, ap, subst, inl, inr, Option, None, Some, Result, Ok, Err, arith, leb-true}
use Rattle.std.specs.Prelude.{is_ok, is_err, nat_le, codes}
use Rattle.std.proofs.lemmas.List.{append-nil}
use Rattle.ntrip_head.specs.declared.request.Version.{Version}
use Rattle.ntrip_head.specs.declared.request.Version.TheVariants.{One, Two}
use Rattle.ntrip_reply.specs.declared.kind.Reply.{Reply}
use Rattle.ntrip_reply.specs.declared.kind.Reply.TheVariants.{RoverOk, SourceOk, Table, BadHead, Method, Coding, RoverNoMount, SourceNoMount, Unauthorized, Denied, Full, SourcePassword, Taken}
use Rattle.std.proofs.lemmas.Fmt.{decimal_digit}
use Rattle.ntrip_reply.specs.Message.{lines, close, message}
use Rattle.ntrip_reply.specs.Text.{reply_text, server, version_two, challenge}
use Rattle.session_calls.specs.Steps.{Step}
use Rattle.session_calls.specs.Plans.{Plan, IsMade}
use Rattle.session_calls.proofs.PlanLemmas.{made_begun}
use Rattle.cast_config.specs.declared.config.Config.{Config}
use Rattle.session_model.specs.declared.ending.Ending.{Ending}
use Rattle.session_model.specs.declared.ending.Ending.TheVariants as endings
use Rattle.session_core.specs.declared.session_stage.SessionStage.{SessionStage}
use Rattle.session_core.specs.declared.session_stage.SessionStage.TheVariants.{Over}
use Rattle.session_model.specs.Setting as setting
use Rattle.session_model.specs.Judged.{finished, replied}
use Rattle.session_model.specs.Replies.{replied_text, text_if}
use Rattle.session_model.specs.Run.{Histories}
use Rattle.session_core.specs.Standing.{IsMadeBy, IsSentBy, EndsAt, is_refused_at, is_halted, is_halted_uncalled}
use Rattle.session_core.specs.Begun.{BeginsFor, StartsAs}
use Rattle.session_core.proofs.CloseLemmas.{called_none}

-- ---- room for a reply

abbrev IsShort : Version → Reply → Type 0
IsShort version reply = length (reply_text version reply []) ≤ 256

-- a message without a body has 0 for its length
bodiless : (first : List (List ℕ))
    → message first [] ≡ lines (first ++ (codes "Content-Length: " ++ 48 ∷ []) ∷ close ∷ [] ∷ []) ++ []
bodiless first =
    ap (λ (d : List ℕ). lines (first ++ ((codes "Content-Length: " ++ d) ∷ close ∷ [] ∷ [])) ++ [])
    (decimal_digit 0 (omega arith))

short_message : (first : List (List ℕ))
    → nat_le (length (lines (first ++ (codes "Content-Length: " ++ 48 ∷ []) ∷ close ∷ [] ∷ []) ++ [])) 256 ≡ true
    → length (message first []) ≤ 256
short_message first few = subst (λ (l : List ℕ). length l ≤ 256) (sym (bodiless first)) (leb-true _ _ few)

short_one : (reply : Reply) → IsShort One reply
short_one RoverOk = leb-true _ _ refl
short_one SourceOk = leb-true _ _ refl
short_one Table = short_message (codes "SOURCETABLE 200 OK" ∷ server ∷ codes "Content-Type: text/plain" ∷ []) refl
short_one BadHead = short_message (codes "HTTP/1.1 400 Bad Request" ∷ server ∷ []) refl
short_one Method = short_message (codes "HTTP/1.1 501 Not Implemented" ∷ server ∷ []) refl
short_one Coding = short_message (codes "HTTP/1.1 501 Not Implemented" ∷ server ∷ []) refl
short_one RoverNoMount = short_message (codes "SOURCETABLE 200 OK" ∷ server ∷ codes "Content-Type: text/plain" ∷ [])
    refl
short_one SourceNoMount = leb-true _ _ refl
short_one Unauthorized = short_message (codes "HTTP/1.0 401 Unauthorized" ∷ server ∷ challenge ∷ []) refl
short_one Denied = short_message (codes "HTTP/1.0 403 Forbidden" ∷ server ∷ []) refl
short_one Full = short_message (codes "HTTP/1.0 503 Service Unavailable" ∷ server ∷ []) refl
short_one SourcePassword = leb-true _ _ refl
short_one Taken = leb-true _ _ refl

short_two : (reply : Reply) → IsShort Two reply
short_two RoverOk = leb-true _ _ refl
short_two SourceOk = leb-true _ _ refl
short_two Table =
    short_message (codes "HTTP/1.1 200 OK" ∷ version_two ∷ server ∷ codes "Content-Type: gnss/sourcetable" ∷ []) refl
short_two BadHead = short_message (codes "HTTP/1.1 400 Bad Request" ∷ server ∷ []) refl
short_two Method = short_message (codes "HTTP/1.1 501 Not Implemented" ∷ server ∷ []) refl
short_two Coding = short_message (codes "HTTP/1.1 501 Not Implemented" ∷ server ∷ []) refl
short_two RoverNoMount = short_message (codes "HTTP/1.1 404 Not Found" ∷ version_two ∷ server ∷ []) refl
short_two SourceNoMount = short_message (codes "HTTP/1.1 404 Not Found" ∷ version_two ∷ server ∷ []) refl
short_two Unauthorized =
    short_message (codes "HTTP/1.1 401 Unauthorized" ∷ version_two ∷ server ∷ challenge ∷ []) refl
short_two Denied = short_message (codes "HTTP/1.1 403 Forbidden" ∷ version_two ∷ server ∷ []) refl
short_two Full = short_message (codes "HTTP/1.1 503 Service Unavailable" ∷ version_two ∷ server ∷ []) refl
short_two SourcePassword =
    short_message (codes "HTTP/1.1 401 Unauthorized" ∷ version_two ∷ server ∷ challenge ∷ []) refl
short_two Taken = short_message (codes "HTTP/1.1 409 Conflict" ∷ version_two ∷ server ∷ []) refl

-- each reply without a sourcetable
pub short_reply : (version : Version) (reply : Reply) → length (reply_text version reply []) ≤ 256
short_reply One reply = short_one reply
short_reply Two reply = short_two reply

-- ---- what is made and sent

-- all of it, whether it was halted or not
pub made_by : (halted : Bool) (plan : Plan) (steps : List Step) → IsMade plan steps → IsMadeBy halted plan steps
made_by false plan steps made = made
made_by true plan steps made = made_begun plan steps made

pub sent_all : (cut : Bool) (sent due : List ℕ) → sent ≡ due → IsSentBy cut sent due
sent_all false sent due all = all
sent_all true sent due all = ([], sym all ∙ sym (append-nil sent))

-- nothing is to be closed of one that ended
pub over_ends : (stage : SessionStage) (ended : Option Ending) (end : Ending) → stage ≡ Over → ended ≡ Some end
    → EndsAt stage ended
over_ends stage ended end over is = record {
  goes = λ none. absurd (not_both (sym is ∙ none));
  refused = λ short. absurd (not_true (sym (ap is_refused_at over) ∙ short));
} where
  not_both : Some end ≡ None → ⊥
  not_both e = cc

  not_true : false ≡ true → ⊥
  not_true e = cc

-- and its beginning says nothing of how it ended
pub over_starts : (stage : SessionStage) (ended : Option Ending) → stage ≡ Over → StartsAs stage ended
over_starts stage ended over = rw over tt

-- ---- what is finished by what its head says

-- this text was appended, behind which nothing comes, or memory was lacking and nothing was
abbrev pub IsRepliedLast : Ending → List ℕ → Option Ending → List ℕ → List ℕ → Type 0
IsRepliedLast end text ended before after =
    ((ended ≡ Some end) × (after ≡ before ++ text))
    ⊎ ((ended ≡ Some endings.Memory) × (after ≡ before))

pub begins_finished : (c : Config) (alone : Bool) (h : Histories) (me : ℕ) (reply : Option (Version × Reply))
    (end : Ending) (stage : SessionStage) (ended : Option Ending) (before after : List ℕ) → stage ≡ Over
    → IsRepliedLast end (replied_text reply (setting.table c)) ended before after
    → BeginsFor c alone h h me (finished reply end) stage ended before after
begins_finished c alone h me reply end stage ended before after over (inl told) = inl (record {
  more = [];
  added = replied_text reply (setting.table c);
  out = told.1;
  called = called_none c alone h me;
  no_read = refl;
  owes = made_by (is_halted ended) _ [] refl;
  ends = inr told.0;
  stage_is = λ opening text. rw over (record { known = λ e. cc; free = tt; segments = refl; no_read = refl });
  halts = over_ends stage ended end over told.0;
  starts = over_starts stage ended over;
  sent_is = sent_all (is_halted_uncalled ended []) _ _ (sym (append-nil (replied_text reply (setting.table c))));
})
begins_finished c alone h me reply end stage ended before after over (inr lost) =
    inr (record { uncalled = refl; unsent = lost.1; stage_is = over; ended_is = lost.0 })

-- by whether it is replied to
pub refused_untold : (c : Config) (alone : Bool) (h : Histories) (me : ℕ) (version : Option Version) (reply : Reply)
    (end : Ending) (stage : SessionStage) (ended : Option Ending) (before : List ℕ) → version ≡ None → stage ≡ Over
    → ended ≡ Some end → BeginsFor c alone h h me (finished (replied version reply) end) stage ended before before
refused_untold c alone h me version reply end stage ended before none over is =
    subst (λ (v : Option Version). BeginsFor c alone h h me (finished (replied v reply) end) stage ended before before)
    (sym none)
    (begins_finished c alone h me None end stage ended before before over (inl (is, sym (append-nil before))))

pub refused_told : (c : Config) (alone : Bool) (h : Histories) (me : ℕ) (version : Option Version) (v : Version)
    (reply : Reply) (end : Ending) (sent : List ℕ) (stage : SessionStage) (ended : Option Ending) (before after : List ℕ)
    → version ≡ Some v → stage ≡ Over → IsRepliedLast end (reply_text v reply sent) ended before after
    → sent ≡ setting.table c
    → BeginsFor c alone h h me (finished (replied version reply) end) stage ended before after
refused_told c alone h me version v reply end sent stage ended before after some over told same =
    subst (λ (o : Option Version). BeginsFor c alone h h me (finished (replied o reply) end) stage ended before after)
    (sym some)
    (begins_finished c alone h me (Some (v, reply)) end stage ended before after over
    (subst (λ (t : List ℕ). IsRepliedLast end (reply_text v reply t) ended before after) same told))

-- no sourcetable stands in these replies
pub taken_untabled : (version : Option Version) (sourcetable : List ℕ)
    → text_if version Taken [] ≡ text_if version Taken sourcetable
taken_untabled None sourcetable = refl
taken_untabled (Some One) sourcetable = refl
taken_untabled (Some Two) sourcetable = refl

pub full_untabled : (version : Option Version) (sourcetable : List ℕ)
    → text_if version Full [] ≡ text_if version Full sourcetable
full_untabled None sourcetable = refl
full_untabled (Some One) sourcetable = refl
full_untabled (Some Two) sourcetable = refl

-- a reply that has room is not refused
pub not_refused : {T E : Type 0} (r : Result T E) → is_ok r ≡ true → true ≡ is_err r → ⊥
not_refused (Ok x) ok err = absurd cc
not_refused (Err e) ok err = absurd cc
