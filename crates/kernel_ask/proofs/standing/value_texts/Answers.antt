use Rattle.std.proofs.Common.{◌≤◌, [], ◌∷◌, ◌++◌, length, take, map, sym, ap, ◌∙◌, arith, string_bytes}
use Rattle.std.proofs.lemmas.List.{map-append, take_all}
use Rattle.janus_meaning.specs.Syntax.{Name}
use Rattle.janus_meaning.specs.Store.{Val}
use Rattle.janus_meaning.specs.World.{listed}
use Rattle.kernel_text.specs.Values.{shown}
use Rattle.kernel_text.specs.ValueTexts.{value_text}
use Rattle.kernel_ask.proofs.Names.{length_listed, taken_next}
use Rattle.kernel_ask.proofs.standing.value_texts.Goals as goal

pub loop-i-preserved : goal.loop-i-preserved
loop-i-preserved g c =
    let s = c.args.world.now.store in
    let i = c.loop-i.i in
    let entry : Name × Val = (c.entry.result.0.now, shown c.entry.result.1) in
    let text = c.in_ok-value_text.field-0 in
    ap (map string_bytes) c.in_ok-push.ensures.items
    ∙ map-append string_bytes c.loop-i.texts.items (text ∷ [])
    ∙ ap (λ ts. ts ++ string_bytes text ∷ []) c.loop-i.invariant
    ∙ ap (λ t. map value_text (take i (listed s)) ++ t ∷ []) c.in_ok-value_text.ensures
    ∙ sym (map-append value_text (take i (listed s)) (entry ∷ []))
    ∙ ap (map value_text) (sym (taken_next (listed s) i entry c.entry.ensures))

pub returns : goal.returns
returns g c =
    let s = c.args.world.now.store in
    let all : length (listed s) ≤ c.loop-i.i = omega (arith, length_listed s, c.len-i-end.ensures, c.loop-i-test.false) in
    c.loop-i.invariant ∙ ap (map value_text) (take_all c.loop-i.i (listed s) all)
