use Rattle.std.proofs.Common.{◌≤◌, Bool, [], ◌∷◌, ◌++◌, length, take, map, sym, ap, ◌∙◌, arith}
use Rattle.std.specs.List.{filter}
use Rattle.std.proofs.lemmas.List.{map-append, take_all}
use Rattle.std.proofs.lemmas.List.Elements.{filter-append}
use Rattle.janus_meaning.specs.Syntax.{Name}
use Rattle.janus_meaning.specs.Store.{Val}
use Rattle.janus_meaning.specs.World.{listed}
use Rattle.kernel_text.specs.Values.{shown}
use Rattle.janus_syntax.specs.Tree.{cell_view}
use Rattle.kernel_text.specs.Naming.{in_cell}
use Rattle.kernel_text.specs.ValueTexts.{value_text}
use Rattle.kernel_ask.proofs.Names.{length_listed, taken_next}
use Rattle.kernel_ask.proofs.shown.named_texts.Goals as goal

pub loop-i-preserved : goal.loop-i-preserved
loop-i-preserved g c =
    let s = c.args.world.now.store in
    let i = c.loop-i.i in
    let test : Name × Val → Bool = λ e. in_cell e.0 (cell_view c.args.cell.now) in
    let entry : Name × Val = (c.entry.result.0.now, shown c.entry.result.1) in
    c.in_ok-push_named.ensures
    ∙ ap (λ ts. ts ++ map value_text (filter test (entry ∷ []))) c.loop-i.invariant
    ∙ sym (map-append value_text (filter test (take i (listed s))) (filter test (entry ∷ [])))
    ∙ ap (map value_text) (sym (filter-append test (take i (listed s)) (entry ∷ [])))
    ∙ ap (λ es. map value_text (filter test es)) (sym (taken_next (listed s) i entry c.entry.ensures))

pub returns : goal.returns
returns g c =
    let s = c.args.world.now.store in
    let test : Name × Val → Bool = λ e. in_cell e.0 (cell_view c.args.cell.now) in
    let all : length (listed s) ≤ c.loop-i.i = omega (arith, length_listed s, c.len-i-end.ensures, c.loop-i-test.false) in
    c.loop-i.invariant ∙ ap (λ es. map value_text (filter test es)) (take_all c.loop-i.i (listed s) all)
