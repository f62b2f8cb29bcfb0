use Rattle.std.proofs.Common.{◌≡◌, ◌≤◌, ◌+◌, ◌-◌, ℕ, List, ◌∙◌, ap, sym, refl, arith, length, Bool}
use Rattle.mount_ring.specs.Reads.{read_frames, oldest}
use Rattle.mount_ring.specs.History.{State}
use Rattle.mount_ring.proofs.RingLemmas.{ReadGiven, ReadFound, read_given, ring_read, report_found, found_few, count_parts}
use Rattle.mount_ring.proofs.ring.Ring.read.Goals as goal

pub find-start-requires : goal.find-start-requires
find-start-requires c = λ before.
    let s : State = c.requires.0 in
    let given : ReadGiven c.args.self.now s c.args.cursor c.index-watch.result.now =
    read_given c.args.self.now s c.args.cursor c.index-watch.result.now c.requires.2 c.requires.3
    c.index-watch.ensures in
    let o : ℕ = oldest c.args.self.now.frames.capacity s.published in
    let kept_from : c.args.self.now.published - c.len.result ≡ o =
    ap (λ (n : ℕ). c.args.self.now.published - n) c.len.ensures.len ∙ given.kept_from in
    omega (
      arith,
      given.passed,
      given.dropped,
      count_parts c.index-watch.result.now.filter s.published
          c.args.cursor.next o (omega (arith, before, kept_from)),
    )

pub overflow_add-result : goal.overflow_add-result
overflow_add-result c =
    let s : State = c.requires.0 in
    let given : ReadGiven c.args.self.now s c.args.cursor c.index-watch.result.now =
    read_given c.args.self.now s c.args.cursor c.index-watch.result.now c.requires.2 c.requires.3
    c.index-watch.ensures in
    let found : ReadFound c.index-watch.result.now.filter c.args.self.now.frames.capacity s.published c.args.cursor
    c.args.budget c.find-start.result c.take_frames-looked.result c.take_frames-looked.new.out =
    ring_read c.args.self.now s c.args.cursor c.args.budget c.len.result c.min-budget.result c.take_frames-looked.result
    c.index-watch.result.now c.find-start.result c.take_frames-looked.new.out c.requires.2 c.requires.3
    c.index-watch.ensures c.len.ensures.len c.find-start.ensures
    c.min-budget.ensures c.take_frames-looked.ensures.looked c.take_frames-looked.ensures.out in
    let few : (c.find-start.result.place + c.take_frames-looked.result ≤ length s.published)
    × (c.find-start.result.passed + length c.take_frames-looked.new.out ≤ length s.published) =
    found_few c.index-watch.result.now.filter c.args.self.now.frames.capacity s.published c.args.cursor c.args.budget
    c.find-start.result c.take_frames-looked.result c.take_frames-looked.new.out given.within found in
    omega (arith, few.0, c.requires.1)

pub overflow_add-result-2 : goal.overflow_add-result-2
overflow_add-result-2 c =
    let s : State = c.requires.0 in
    let given : ReadGiven c.args.self.now s c.args.cursor c.index-watch.result.now =
    read_given c.args.self.now s c.args.cursor c.index-watch.result.now c.requires.2 c.requires.3
    c.index-watch.ensures in
    let found : ReadFound c.index-watch.result.now.filter c.args.self.now.frames.capacity s.published c.args.cursor
    c.args.budget c.find-start.result c.take_frames-looked.result c.take_frames-looked.new.out =
    ring_read c.args.self.now s c.args.cursor c.args.budget c.len.result c.min-budget.result c.take_frames-looked.result
    c.index-watch.result.now c.find-start.result c.take_frames-looked.new.out c.requires.2 c.requires.3
    c.index-watch.ensures c.len.ensures.len c.find-start.ensures
    c.min-budget.ensures c.take_frames-looked.ensures.looked c.take_frames-looked.ensures.out in
    let few : (c.find-start.result.place + c.take_frames-looked.result ≤ length s.published)
    × (c.find-start.result.passed + length c.take_frames-looked.new.out ≤ length s.published) =
    found_few c.index-watch.result.now.filter c.args.self.now.frames.capacity s.published c.args.cursor c.args.budget
    c.find-start.result c.take_frames-looked.result c.take_frames-looked.new.out given.within found in
    omega (arith, few.1, c.requires.1, c.from.ensures, ap length c.frames.ensures.frames)

pub returns-clause-report : goal.returns-clause-report
returns-clause-report c = λ s keeps may.
    let given : ReadGiven c.args.self.now s c.args.cursor c.index-watch.result.now =
    read_given c.args.self.now s c.args.cursor c.index-watch.result.now keeps may c.index-watch.ensures in
    let found : ReadFound c.index-watch.result.now.filter c.args.self.now.frames.capacity s.published c.args.cursor
    c.args.budget c.find-start.result c.take_frames-looked.result c.take_frames-looked.new.out =
    ring_read c.args.self.now s c.args.cursor c.args.budget c.len.result c.min-budget.result c.take_frames-looked.result
    c.index-watch.result.now c.find-start.result c.take_frames-looked.new.out keeps may c.index-watch.ensures
    c.len.ensures.len c.find-start.ensures
    c.min-budget.ensures c.take_frames-looked.ensures.looked c.take_frames-looked.ensures.out in
    report_found c.index-watch.result.now.filter _ c.args.self.now.frames.capacity s.published c.args.cursor
    c.args.budget c.find-start.result
    c.take_frames-looked.result c.take_frames-looked.new.out _ _ _ _ given.test found refl
    (ap (λ (n : ℕ). c.find-start.result.passed + n) (c.from.ensures ∙ ap length c.frames.ensures.frames)) refl
    (ap length c.frames.ensures.frames)

pub returns-clause-taken : goal.returns-clause-taken
returns-clause-taken c = λ s keeps may.
    let given : ReadGiven c.args.self.now s c.args.cursor c.index-watch.result.now =
    read_given c.args.self.now s c.args.cursor c.index-watch.result.now keeps may c.index-watch.ensures in
    let found : ReadFound c.index-watch.result.now.filter c.args.self.now.frames.capacity s.published c.args.cursor
    c.args.budget c.find-start.result c.take_frames-looked.result c.take_frames-looked.new.out =
    ring_read c.args.self.now s c.args.cursor c.args.budget c.len.result c.min-budget.result c.take_frames-looked.result
    c.index-watch.result.now c.find-start.result c.take_frames-looked.new.out keeps may c.index-watch.ensures
    c.len.ensures.len c.find-start.ensures
    c.min-budget.ensures c.take_frames-looked.ensures.looked c.take_frames-looked.ensures.out in
    found.frames
    ∙ ap (λ (p : List ℕ → Bool). read_frames p c.args.self.now.frames.capacity s.published c.args.cursor
    c.args.budget) (sym given.test)
