-- A field that is taken out of its object.
use Rattle.std.proofs.Common.{◌≡◌, ℕ, Bool, true, false, cond, List, [], ◌∷◌, Option, Some, option_map, option_and_then, refl, sym, ap, ◌∙◌, subst}
use Rattle.std.proofs.Common.{string_bytes, String, Global}
use Rattle.std.specs.Ordering.{nat_cmp, match_ordering, is_eq}
use Rattle.std.specs.declared.cmp.Ordering.{Ordering}
use Rattle.std.specs.declared.cmp.Ordering.TheVariants.{Less, Equal, Greater}
use Rattle.std.specs.Cmp.Lexicographic.{slice_cmp}
use Rattle.std.specs.Str.{bytes_eq}
use Rattle.std.proofs.lemmas.Slice.Eq.{bytes_eq-Decides}
use Rattle.std.proofs.lemmas.Map.Text.{is_eq-slice_cmp}
use Rattle.std.specs.Map.{lookup, remove_entry}
use Rattle.std.specs.BTreeMap.{is_at}
use Rattle.serde_json.specs.Data.{Data, object}
use Rattle.serde_json.specs.Find.{get_member}
use Rattle.serde_json.specs.View.{view, members_view}
use Rattle.serde_json.specs.declared.value.Value.{Value}
use Rattle.jupyter_msg.specs.Fault.{field_name}
use Rattle.jupyter_msg.specs.Fields.{unless_null, value_at}
use Rattle.jupyter_msg.specs.declared.fault.Field.{Field}

module _ (name : List ℕ) where
  abbrev here : String Global → Ordering
  here key = slice_cmp nat_cmp name (string_bytes key)

  first_or : (o : Ordering) (v : Value) (rest : Option Value) (found : Option Data) → option_map view rest ≡ found
      → option_map view (cond (is_eq o) (Some v) rest) ≡ match_ordering o found (Some (view v)) found
  first_or Less v rest found p = p
  first_or Equal v rest found p = refl
  first_or Greater v rest found p = p

  pub taken_value : (entries : List (String Global × Value)) → option_map view (lookup (is_at here) entries) ≡ get_member name (members_view entries)
  taken_value [] = refl
  taken_value ((key, v) ∷ entries) = first_or (here key) v (lookup (is_at here) entries) (get_member name (members_view entries)) (taken_value entries)

-- ---- the other fields

found_or : (o : Ordering) (d : Data) (rest : Option Data) → match_ordering o rest (Some d) rest ≡ cond (is_eq o) (Some d) rest
found_or Less d rest = refl
found_or Equal d rest = refl
found_or Greater d rest = refl

-- the first member, or one of those behind it
first_member : (other : List ℕ) (key : String Global) (v : Value) (entries : List (String Global × Value))
    → get_member other (members_view ((key, v) ∷ entries)) ≡ cond (bytes_eq other (string_bytes key)) (Some (view v)) (get_member other (members_view entries))
first_member other key v entries =
    found_or (slice_cmp nat_cmp other (string_bytes key)) (view v) (get_member other (members_view entries))
    ∙ ap (λ (b : Bool). cond b (Some (view v)) (get_member other (members_view entries))) (is_eq-slice_cmp other (string_bytes key))

module _ (name other : List ℕ) (apart : bytes_eq other name ≡ false) where
  other_first : (b : Bool) (key : String Global) (v : Value) (left entries : List (String Global × Value))
      → is_eq (slice_cmp nat_cmp name (string_bytes key)) ≡ b
      → get_member other (members_view left) ≡ get_member other (members_view entries)
      → get_member other (members_view (cond b entries ((key, v) ∷ left))) ≡ get_member other (members_view ((key, v) ∷ entries))
  other_first true key v left entries e p =
      let same : name ≡ string_bytes key = (bytes_eq-Decides name (string_bytes key)).0 (sym (is_eq-slice_cmp name (string_bytes key)) ∙ e) in
      let passed : bytes_eq other (string_bytes key) ≡ false = ap (bytes_eq other) (sym same) ∙ apart in
      sym (first_member other key v entries ∙ ap (λ (b : Bool). cond b (Some (view v)) (get_member other (members_view entries))) passed)
  other_first false key v left entries e p =
      first_member other key v left ∙ ap (λ (o : Option Data). cond (bytes_eq other (string_bytes key)) (Some (view v)) o) p
      ∙ sym (first_member other key v entries)

  pub others_stay : (entries : List (String Global × Value))
      → get_member other (members_view (remove_entry (is_at (here name)) entries)) ≡ get_member other (members_view entries)
  others_stay [] = refl
  others_stay ((key, v) ∷ entries) = other_first (is_at (here name) key) key v (remove_entry (is_at (here name)) entries) entries refl (others_stay entries)

-- ---- fields

pub field_taken : (f : Field) (name : List ℕ) → name ≡ field_name f → (entries : List (String Global × Value)) (taken : Option Value)
    → taken ≡ lookup (is_at (here name)) entries
    → option_and_then unless_null (option_map view taken) ≡ value_at f (object (members_view entries))
unfolding value_at
field_taken f name named entries taken is =
    ap (λ (o : Option Value). option_and_then unless_null (option_map view o)) is
    ∙ ap (λ (o : Option Data). option_and_then unless_null o) (taken_value name entries)
    ∙ ap (λ (n : List ℕ). option_and_then unless_null (get_member n (members_view entries))) named

pub field_left : (f other : Field) (name : List ℕ) → name ≡ field_name f → bytes_eq (field_name other) (field_name f) ≡ false
    → (new entries : List (String Global × Value)) → new ≡ remove_entry (is_at (here name)) entries
    → value_at other (object (members_view new)) ≡ value_at other (object (members_view entries))
unfolding value_at
field_left f other name named apart new entries is =
    ap (λ es. option_and_then unless_null (get_member (field_name other) (members_view es))) is
    ∙ ap (λ (o : Option Data). option_and_then unless_null o)
    (others_stay name (field_name other) (subst (λ (n : List ℕ). bytes_eq (field_name other) n ≡ false) (sym named) apart) entries)
