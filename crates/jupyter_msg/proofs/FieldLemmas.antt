-- The text of a field, by the value that stands there.
use Rattle.std.proofs.Common.{◌≡◌, ℕ, List, Bool, true, false, Some, None, is_some, option_and_then, refl, sym, ap, ◌∙◌, if◌then◌else◌}
use Rattle.serde_json.specs.Data.{Data}
use Rattle.serde_json.specs.Find.{get, as_null, as_str}
use Rattle.jupyter_msg.specs.Fault.{field_name}
use Rattle.jupyter_msg.specs.Fields.{unless_null, value_at, text_at}
use Rattle.jupyter_msg.specs.declared.fault.Field.{Field}

not_null : (b : Bool) (v : Data) (t : List ℕ) → option_and_then as_str (if b then None else Some v) ≡ Some t →
    option_and_then as_str (if b then None else Some v) ≡ as_str v
not_null true v t e = absurd cc
not_null false v t e = refl

-- where the field is a text, it is that of the value
pub text_at-found : (f : Field) (name : List ℕ) (d v : Data) (t : List ℕ) → name ≡ field_name f → get name d ≡ Some v → text_at f d ≡ Some t →
    text_at f d ≡ as_str v
unfolding value_at
text_at-found f name d v t named e is =
    let same : text_at f d ≡ option_and_then as_str (unless_null v) =
    ap (λ (n : List ℕ). option_and_then as_str (option_and_then unless_null (get n d))) (sym named)
    ∙ ap (λ o. option_and_then as_str (option_and_then unless_null o)) e in
    same ∙ not_null (is_some (as_null v)) v t (sym same ∙ is)

-- no value, no text
pub text_at-missing : (f : Field) (name : List ℕ) (d : Data) → name ≡ field_name f → get name d ≡ None → text_at f d ≡ None
unfolding value_at
text_at-missing f name d named e =
    ap (λ (n : List ℕ). option_and_then as_str (option_and_then unless_null (get n d))) (sym named)
    ∙ ap (λ o. option_and_then as_str (option_and_then unless_null o)) e
