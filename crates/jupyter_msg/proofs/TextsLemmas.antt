-- The texts of an object's members, one after another.
use Rattle.std.proofs.Common.{◌≡◌, ℕ, List, [], ◌∷◌, ◌++◌, Option, Some, None, option_map, option_and_then, refl, sym, ap, ◌∙◌, append_assoc, string_bytes}
use Rattle.std.proofs.Common.{String, Global}
use Rattle.std.proofs.lemmas.List.{map-append}
use Rattle.serde_json.specs.View.{view, members_view}
use Rattle.serde_json.specs.declared.value.Value.{Value}
use Rattle.jupyter_msg.specs.Requests.{expressions_of}
use Rattle.jupyter_msg.specs.declared.execution.UserExpression.{UserExpression}
use Rattle.serde_json.specs.Data.{Data, Members, member}
use Rattle.serde_json.specs.Find.{as_str}
use Rattle.jupyter_msg.specs.Fields.{texts_in}

-- what was read already, before what is read of the rest
abbrev pub with_front : List (List ℕ × List ℕ) → Option (List (List ℕ × List ℕ)) → Option (List (List ℕ × List ℕ))
with_front front rest = option_map (λ more. front ++ more) rest

with_front-one : (front : List (List ℕ × List ℕ)) (x : List ℕ × List ℕ) (o : Option (List (List ℕ × List ℕ))) →
    with_front front (option_map (λ more. x ∷ more) o) ≡ with_front (front ++ x ∷ []) o
with_front-one front x None = refl
with_front-one front x (Some more) = ap Some (sym (append_assoc front (x ∷ []) more))

pub texts_more : (front : List (List ℕ × List ℕ)) (name t : List ℕ) (d : Data) (rest : Members) → as_str d ≡ Some t →
    with_front front (texts_in (member name d rest)) ≡ with_front (front ++ (name, t) ∷ []) (texts_in rest)
texts_more front name t d rest e = ap (λ o. with_front front (option_and_then (λ t. option_map (λ more. (name, t) ∷ more) (texts_in rest)) o)) e
    ∙ with_front-one front (name, t) (texts_in rest)

pub texts_stop : (front : List (List ℕ × List ℕ)) (name : List ℕ) (d : Data) (rest : Members) → as_str d ≡ None →
    with_front front (texts_in (member name d rest)) ≡ None
texts_stop front name d rest e = ap (λ o. with_front front (option_and_then (λ t. option_map (λ more. (name, t) ∷ more) (texts_in rest)) o)) e

pub expressions_more : (front : List UserExpression) (e : UserExpression) (name : String Global) (v : Value) (old new : List (String Global × Value)) →
    old ≡ (name, v) ∷ new
    → string_bytes e.name ≡ string_bytes name → as_str (view v) ≡ Some (string_bytes e.expression)
    → with_front (expressions_of front) (texts_in (members_view old)) ≡ with_front (expressions_of (front ++ e ∷ [])) (texts_in (members_view new))
expressions_more front e name v old new step named text =
    ap (λ es. with_front (expressions_of front) (texts_in (members_view es))) step
    ∙ texts_more (expressions_of front) (string_bytes name) (string_bytes e.expression) (view v) (members_view new) text
    ∙ ap (λ es. with_front es (texts_in (members_view new)))
    (ap (λ n. expressions_of front ++ (n, string_bytes e.expression) ∷ []) (sym named)
    ∙ sym (map-append (λ e. (string_bytes e.name, string_bytes e.expression)) front (e ∷ [])))
