use Rattle.std.proofs.Common.{◌≡◌, ℕ, ◌+◌, ◌-◌, ◌≤◌, ◌<◌, List, [], length, drop, get_or, ap, ◌∙◌, sym, subst, arith, length-drop}
use Rattle.std.proofs.lemmas.List.{take_rest}
use Rattle.rtcm_frame.specs.Transport.{preamble}
use Rattle.rtcm_frame.specs.Pending.{Pending, Took, IsBehindJunk}
use Rattle.rtcm_frame.proofs.PendingLemmas.{took_run, behind_none, behind_more}
use Rattle.rtcm_frame.proofs.stream.Cutter.pass_junk.Goals as goal

pub returns-clause-took : goal.returns-clause-took
returns-clause-took c =
    let now = c.args.self.now in
    let run = c.bytes_before_preamble-run.result in
    let behind = take_rest c.uncut_bytes.result.now 1 ∙ ap (λ (xs : List ℕ). drop 1 xs) c.uncut_bytes.ensures in
    let others = subst (λ (xs : List ℕ). (k : ℕ) → k < run → get_or xs k 0 ≡ preamble → ⊥) behind
    c.bytes_before_preamble-run.ensures.others in
    let within : run ≤ length now.bytes - 1 =
    omega (
      arith,
      c.bytes_before_preamble-run.ensures.within,
      ap (λ (xs : List ℕ). length xs) behind,
      length-drop 1 now.bytes,
    )
    in
    subst (λ (q : Pending). Took now q []) (sym c.count_junk.ensures) (
    took_run now run c.requires.some c.requires.no_frame c.requires.finished within others)

pub returns-clause-passed : goal.returns-clause-passed
returns-clause-passed c =
    let now = c.args.self.now in
    let run = c.bytes_before_preamble-run.result in
    let behind = take_rest c.uncut_bytes.result.now 1 ∙ ap (λ (xs : List ℕ). drop 1 xs) c.uncut_bytes.ensures in
    let within : 1 + run ≤ length now.bytes =
    omega (
      arith,
      c.requires.some,
      c.bytes_before_preamble-run.ensures.within,
      ap (λ (xs : List ℕ). length xs) behind,
      length-drop 1 now.bytes,
    )
    in
    subst (λ (q : Pending). IsBehindJunk now q []) (sym c.count_junk.ensures) (
    behind_more now now (1 + run) (behind_none now) within)
