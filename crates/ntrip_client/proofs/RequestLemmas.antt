-- The parts of a request, and its lines.
use Rattle.std.proofs.Common.{◌≡◌, ◌∙◌, ℕ, List, [], ◌∷◌, ◌++◌, append_assoc, sym, ap}
use Rattle.std.specs.Prelude.{codes}
use Rattle.std.proofs.lemmas.List.Concat.{flat_map-append}
use Rattle.ntrip_client.specs.Request.{lines, agent, start_line}

lines_both : (a b : List (List ℕ)) → lines (a ++ b) ≡ lines a ++ lines b
lines_both a b = flat_map-append (λ text. text ++ codes "\r\n") a b

abbrev agent_line : List ℕ
agent_line = codes "User-Agent: NTRIP lapcast/1.0\r\n"

abbrev close_lines : List ℕ
close_lines = codes "Connection: close\r\n\r\n"

-- words around a text
around : (a m h c r : List ℕ) → a ++ (m ++ ((h ++ c) ++ r)) ≡ (((a ++ m) ++ h) ++ c) ++ r
around a m h c r = simp append_assoc

behind : (h a c r : List ℕ) → h ++ (a ++ (c ++ r)) ≡ ((h ++ a) ++ c) ++ r
behind h a c r = simp append_assoc

-- the mountpoint, and the lines of the credentials
pub request_one_is : (mount m text : List ℕ) (credentials : List (List ℕ)) → m ≡ mount → text ≡ lines credentials
    → codes "GET /" ++ (m ++ (codes " HTTP/1.0\r\n" ++ (agent_line ++ (text ++ codes "\r\n"))))
    ≡ lines (start_line mount (codes " HTTP/1.0") ∷ agent ∷ credentials ++ [] ∷ [])
request_one_is mount m text credentials is are =
    ap (λ (l : List ℕ). codes "GET /" ++ (l ++ (codes " HTTP/1.0\r\n" ++ (agent_line ++ (text ++ codes "\r\n"))))) is
    ∙ around (codes "GET /") mount (codes " HTTP/1.0") (codes "\r\n") (agent_line ++ (text ++ codes "\r\n"))
    ∙ ap (λ (l : List ℕ). (start_line mount (codes " HTTP/1.0") ++ codes "\r\n") ++ (agent_line ++ l))
    (ap (λ (l : List ℕ). l ++ codes "\r\n") are ∙ sym (lines_both credentials ([] ∷ [])))

-- and the address
pub request_two_is : (mount m address a text : List ℕ) (credentials : List (List ℕ)) → m ≡ mount → a ≡ address
    → text ≡ lines credentials
    → codes "GET /" ++ (m ++ (codes " HTTP/1.1\r\nHost: " ++ (a ++ (codes "\r\nNtrip-Version: Ntrip/2.0\r\n"
    ++ (agent_line ++ (text ++ close_lines))))))
    ≡ lines (start_line mount (codes " HTTP/1.1") ∷ (codes "Host: " ++ address)
    ∷ codes "Ntrip-Version: Ntrip/2.0" ∷ agent ∷ credentials ++ codes "Connection: close" ∷ [] ∷ [])
request_two_is mount m address a text credentials is where_ are =
    let tail : List ℕ = codes "Ntrip-Version: Ntrip/2.0\r\n" ++ (agent_line ++ (text ++ close_lines)) in
    ap (λ (l : List ℕ). codes "GET /" ++ (l ++ (codes " HTTP/1.1\r\nHost: " ++ (a ++ (codes "\r\n" ++ tail))))) is
    ∙ ap (λ (l : List ℕ). codes "GET /" ++ (mount ++ (codes " HTTP/1.1\r\nHost: " ++ (l ++ (codes "\r\n" ++ tail)))))
    where_
    ∙ around (codes "GET /") mount (codes " HTTP/1.1") (codes "\r\n") (codes "Host: " ++
    (address ++ (codes "\r\n" ++ tail)))
    ∙ ap (λ (l : List ℕ). (start_line mount (codes " HTTP/1.1") ++ codes "\r\n") ++ l)
    (behind (codes "Host: ") address (codes "\r\n") tail)
    ∙ ap (λ (l : List ℕ). (start_line mount (codes " HTTP/1.1") ++ codes "\r\n")
    ++ (((codes "Host: " ++ address) ++ codes "\r\n") ++ (codes "Ntrip-Version: Ntrip/2.0\r\n" ++ (agent_line ++ l))))
    (ap (λ (l : List ℕ). l ++ close_lines) are ∙ sym (lines_both credentials (codes "Connection: close" ∷ [] ∷ [])))
