use Rattle.std.proofs.Common.{◌≡◌, ℕ, suc, Bool, true, false, List, drop, sym, ap, ◌∙◌, add-one, bytes_eq}
use Rattle.janus_meaning.specs.Store.{find, pick, same_name}
use Rattle.kernel_core.proofs.LookupLemmas.{same_as_bytes}
use Rattle.kernel_core.specs.Defined.{in_a_row}
use Rattle.kernel_text.proofs.Newest.{plain, find_next}
use Rattle.kernel_text.proofs.procedures.newest_of.Goals as goal

pub returns-then-eq : goal.returns-then-eq
returns-then-eq c =
    let f = c.args.name.now in
    let all = c.args.procedures.now in
    let b = c.index-procedures-i.result in
    let same : same_name f (plain b).name ≡ true = same_as_bytes f (plain b).name ∙ ap (λ (text : List ℕ). bytes_eq f text) (sym c.as_str.ensures.value)
    ∙ sym c.eq.ensures ∙ c.if-eq.true in
    c.loop-i.invariant ∙ find_next f all c.loop-i.i b c.loop-i-test.true (sym c.index-procedures-i.is)
    ∙ ap (λ (t : Bool). pick t (plain b) (find f (in_a_row (drop (suc c.loop-i.i) all)))) same

pub loop-i-preserved : goal.loop-i-preserved
loop-i-preserved c =
    let f = c.args.name.now in
    let all = c.args.procedures.now in
    let b = c.index-procedures-i.result in
    let other : same_name f (plain b).name ≡ false = same_as_bytes f (plain b).name ∙ ap (λ (text : List ℕ). bytes_eq f text) (sym c.as_str.ensures.value)
    ∙ sym c.eq.ensures ∙ c.if-eq.false in
    c.loop-i.invariant ∙ find_next f all c.loop-i.i b c.loop-i-test.true (sym c.index-procedures-i.is)
    ∙ ap (λ (t : Bool). pick t (plain b) (find f (in_a_row (drop (suc c.loop-i.i) all)))) other
    ∙ ap (λ (n : ℕ). find f (in_a_row (drop n all))) (sym (add-one c.loop-i.i))
