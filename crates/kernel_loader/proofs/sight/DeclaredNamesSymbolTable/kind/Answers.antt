use Rattle.std.proofs.Common.{ap, ◌∙◌, sym}
use Rattle.std.specs.Prelude.{Some}
use Rattle.janus_meaning.specs.Shape.{kind_at}
use Rattle.janus_check.specs.Names.{Known, meant_kind, shape_in}
use Rattle.kernel_runner.specs.StoreState.{shown_store}
use Rattle.kernel_runner.specs.FrameValues.{found}
use Rattle.kernel_loader.proofs.Tabled.{kind_entered, kind_of_found}
use Rattle.kernel_loader.proofs.sight.DeclaredNamesSymbolTable.kind.Goals as goal

pub returns-in-Some : goal.returns-in-Some
returns-in-Some g c =
    let s = shown_store c.self.inside.store.now in
    ap (λ k. Some (meant_kind k)) c.kind_of.ensures ∙ ap (λ o. kind_of_found (found o)) (sym c.in-Some.is) ∙ ap kind_of_found c.value.ensures
    ∙ sym (kind_entered c.args.name.now s c.self.invariant.values)
    ∙ ap (λ (k : Known). kind_at c.args.name.now (shape_in k.names)) c.self.view_is

pub returns-in-None : goal.returns-in-None
returns-in-None g c =
    let s = shown_store c.self.inside.store.now in
    ap (λ o. kind_of_found (found o)) (sym c.in-None.is) ∙ ap kind_of_found c.value.ensures
    ∙ sym (kind_entered c.args.name.now s c.self.invariant.values)
    ∙ ap (λ (k : Known). kind_at c.args.name.now (shape_in k.names)) c.self.view_is
