use Rattle.std.proofs.Common.{◌≡◌, ◌<◌, ℕ, ◌+◌, ◌-◌, List, length, map, sym, ap, ◌∙◌, arith}
use Rattle.std.specs.Int.{from_bool}
use Rattle.kernel_text.specs.Minutes.{Entry, Posted, Ended, Post, posts_of, posted_in}
use Rattle.kernel_text.specs.Counters.{counted_to}
use Rattle.kernel_text.specs.Request.{request_of, raised, is_counted}
use Rattle.kernel_text.specs.Written.{entry_of}
use Rattle.kernel_ask.specs.Tail.{counted_in}
use Rattle.kernel_ask.proofs.Walk.{mapped, counted_post, counted_end, counted_all, first_posts, posts_end, raised_by, one_at_most}
use Rattle.kernel_ask.proofs.tail.counted_last.Goals as goal

pub loop-entry-preserved-in-Posted : goal.loop-entry-preserved-in-Posted
loop-entry-preserved-in-Posted c =
    let front = map entry_of c.in-Some.front.now in
    let job = request_of c.in-Posted.job in
    let last = mapped c.loop-entry.rest.now c.in-Some.front.now c.in-Some.entry.now (Posted c.in-Posted.lane job) c.in-Some.ensures.cases.0
    (ap entry_of c.in-Posted.is) in
    let size = c.in-Some.ensures.cases.1 in
    let left : 0 < c.loop-entry.left = omega arith in
    let more : counted_in (map entry_of c.loop-entry.rest.now) ≡ raised (counted_in front) job = ap counted_in last ∙ counted_post front c.in-Posted.lane job in
    let is : c.from-number.result ≡ from_bool (is_counted job) = c.from-number.ensures ∙ ap from_bool c.is_counted.ensures in
    let by : c.from-number.result + counted_in front ≡ raised (counted_in front) job = (let one = raised_by (counted_in front) job in omega arith) in
    let few = one_at_most (is_counted job) in
    let all : c.loop-entry.number + counted_in (map entry_of c.loop-entry.rest.now) ≡ counted_in (map entry_of c.args.entries.now) =
    c.loop-entry.invariant.all in
    record {
      all = omega arith;
      front =
          first_posts front c.in-Posted.lane job c.loop-entry.left left
          ∙ sym (ap (λ (es : List Entry). counted_to (posted_in es - c.loop-entry.left) (posts_of es)) last)
          ∙ c.loop-entry.invariant.front;
      short = omega arith;
    }

pub loop-entry-preserved : goal.loop-entry-preserved
loop-entry-preserved c =
    let front = map entry_of c.in-Some.front.now in
    let e = c.in_default-entry in
    let last = mapped c.loop-entry.rest.now c.in-Some.front.now c.in-Some.entry.now (Ended e.field-0 e.field-1 e.field-2 e.field-3) c.in-Some.ensures.cases.0
    (ap entry_of e.is) in
    let size = c.in-Some.ensures.cases.1 in
    let same : counted_in (map entry_of c.loop-entry.rest.now) ≡ counted_in front =
    ap counted_in last ∙ counted_end front e.field-0 e.field-1 e.field-2 e.field-3 in
    let posts : posts_of front ≡ posts_of (map entry_of c.loop-entry.rest.now) =
    sym (ap posts_of last ∙ posts_end front e.field-0 e.field-1 e.field-2 e.field-3) in
    let all : c.loop-entry.number + counted_in (map entry_of c.loop-entry.rest.now) ≡ counted_in (map entry_of c.args.entries.now) =
    c.loop-entry.invariant.all in
    record {
      all = omega arith;
      front = ap (λ (ps : List Post). counted_to (length ps - c.loop-entry.left) ps) posts ∙ c.loop-entry.invariant.front;
      short = omega arith;
    }

pub returns-then-left-eq0 : goal.returns-then-left-eq0
returns-then-left-eq0 c =
    let rest = map entry_of c.loop-entry.rest.now in
    let none : posted_in rest ≡ posted_in rest - c.loop-entry.left = omega arith in
    let front : counted_in rest ≡ counted_to (posted_in (map entry_of c.args.entries.now) - c.args.posts) (posts_of (map entry_of c.args.entries.now)) =
    counted_all rest ∙ ap (λ (n : ℕ). counted_to n (posts_of rest)) none ∙ c.loop-entry.invariant.front in
    ap (λ (n : ℕ). c.loop-entry.number + n) (sym front) ∙ c.loop-entry.invariant.all
