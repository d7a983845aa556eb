use Rattle.std.proofs.Common.{◌≡◌, ◌<◌, length, arith, ℕ, List, Option, Some, None, refl, subst}
use Rattle.std.specs.Prelude.{MatchOption, IfSome, ◌^◌}
use Rattle.std.proofs.lemmas.Option.{slice_get_within}
use Rattle.janus_meaning.specs.Syntax.{Name, names_of}
use Rattle.janus_meaning.specs.Shape.{Shape, kind_at}
use Rattle.janus_slots.specs.Slots.{slot, slot_in}
use Rattle.janus_slots.specs.Numbers.{IsNumbered, IsUnmet}
use Rattle.janus_check.specs.Names.{Known, shape_in}
use Rattle.kernel_runner.specs.StoreState.{shown_store}
use Rattle.kernel_loader.specs.Tables.{names_shown}
use Rattle.kernel_loader.proofs.Tabled.{slot_entered, none_entered}
use Rattle.kernel_loader.proofs.sight.DeclaredNamesSymbolTable.place.Goals as goal

told : (x : Name) (g : Shape) (texts : List Name) (r : Option ℕ) → IfSome r (λ i. IsNumbered texts i x) → (r ≡ None → IsUnmet texts x) →
    ((i : ℕ) → IsNumbered texts i x → slot_in (names_of g) x ≡ slot i) → (IsUnmet texts x → kind_at x g ≡ None) →
    MatchOption r (kind_at x g ≡ None) (λ i. slot_in (names_of g) x ≡ slot i)
told x g texts (Some i) met unmet there out = there i met
told x g texts None met unmet there out = out (unmet refl)

low : (texts : List Name) (x : Name) (r : Option ℕ) → length texts < 2 ^ 63 → IfSome r (λ i. IsNumbered texts i x) → IfSome r (λ i. i < 2 ^ 63)
low texts x (Some i) few met = let r = slice_get_within texts i x met in omega (arith, r, few)
low texts x None few met = tt

pub returns-clause-slot : goal.returns-clause-slot
returns-clause-slot g c =
    let h = c.self.inside.store.now in
    let x = c.args.name.now in
    let texts : c.texts-texts.result.now ≡ h.texts = c.texts-texts.ensures in
    let named = c.slots_law.ensures.shown in
    subst (λ (k : Known). MatchOption c.number.result (kind_at x (shape_in k.names) ≡ None) (λ i. slot_in (names_of (shape_in k.names)) x ≡ slot i))
    c.self.view_is
    (told x (shape_in (names_shown h)) h.texts c.number.result
    (subst (λ (ts : List Name). IfSome c.number.result (λ i. IsNumbered ts i x)) texts c.number.ensures.met)
    (λ e. subst (λ (ts : List Name). IsUnmet ts x) texts (c.number.ensures.unmet e))
    (λ i n. slot_entered x (shown_store h) h.texts c.self.invariant.values named i c.slots_law.ensures.one_text n)
    (λ u. none_entered x (shown_store h) h.texts c.self.invariant.values named u))

pub returns-clause-small : goal.returns-clause-small
returns-clause-small g c = low c.texts-texts.result.now c.args.name.now c.number.result c.few_law.ensures c.number.ensures.met
