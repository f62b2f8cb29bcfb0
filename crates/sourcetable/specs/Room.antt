-- Room for what is appended.
use Rattle.std.specs.Prelude.{ℕ, ◌+◌, ◌≤◌, List, length, vec_len, Vec}
use Rattle.std.specs.Global.{Global}
use Rattle.std.specs.Vec.{vec_capacity}

-- the bytes have room for this text behind them
abbrev pub HasRoom : Vec ℕ Global → List ℕ → Type 0
HasRoom bytes text = vec_len bytes + length text ≤ vec_capacity bytes
