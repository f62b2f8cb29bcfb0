-- The address and port of a peer, as one word of a line.
use Rattle.std.specs.Prelude.{ℕ, ◌&&◌, nat_lt, nat_le, if◌then◌else◌, List, length, Bool, codes}
use Rattle.std.specs.List.{list_all}

-- a byte of printable ASCII that is no space
abbrev pub is_word_byte : ℕ → Bool
is_word_byte byte = nat_le 33 byte && nat_le byte 126

-- these bytes are one word: 1 to 64 of printable ASCII, none of them a space
abbrev pub is_peer_word : List ℕ → Bool
is_peer_word bytes =
    nat_lt 0 (length bytes) && (nat_le (length bytes) 64 && list_all is_word_byte bytes)

-- what stands for a peer that is not told
abbrev pub no_peer : List ℕ
no_peer = codes "-"

-- these bytes where they are one word, and else what stands for a peer that is not told
abbrev pub peer_word : List ℕ → List ℕ
peer_word bytes = if is_peer_word bytes then bytes else no_peer
