use Rattle.std.proofs.Common.{◌≡◌, ◌≤◌, ℕ, ◌*◌, ◌+◌, map, length, sym, ap, arith}
use Rattle.std.proofs.lemmas.List.{length-map}
use Rattle.kernel_text.specs.Written.{entry_of}
use Rattle.kernel_ask.specs.Tail.{counted_in}
use Rattle.kernel_ask.proofs.Walk.{told_by, counted_by}
use Rattle.kernel_ask.proofs.tail.counted.Goals as goal

-- twice as many as have ended
twice : (c : goal.After-last_end-ended) → 2 * c.last_end-ended.result.0 ≤ length c.args.entries.now
twice c =
    let ended = (told_by (map entry_of c.args.entries.now) c.args.counter c.requires).ended in
    let is = ap (λ (p : ℕ × ℕ). p.0) c.last_end-ended.ensures in
    let size = length-map c.args.entries.now entry_of in
    omega arith

all : (c : goal.After-counted_last) → c.last_end-ended.result.1 + c.counted_last.result ≡ counted_in (map entry_of c.args.entries.now)
all c =
    counted_by (map entry_of c.args.entries.now) c.args.counter (length c.args.entries.now) c.counted_last.result c.last_end-ended.result c.requires
    (sym (length-map c.args.entries.now entry_of)) c.last_end-ended.ensures
    c.counted_last.ensures

pub overflow_mul-open : goal.overflow_mul-open
overflow_mul-open c = (let few = twice c in omega arith)

pub overflow_sub-open : goal.overflow_sub-open
overflow_sub-open c = twice c

pub overflow_add-result : goal.overflow_add-result
overflow_add-result c =
    let is = all c in
    let short = (told_by (map entry_of c.args.entries.now) c.args.counter c.requires).short in
    let size = length-map c.args.entries.now entry_of in
    omega arith

pub returns-clause-exact : goal.returns-clause-exact
returns-clause-exact c = all c

pub returns-clause-begun : goal.returns-clause-begun
returns-clause-begun c =
    let is = all c in
    let begun = (told_by (map entry_of c.args.entries.now) c.args.counter c.requires).begun in
    omega arith
