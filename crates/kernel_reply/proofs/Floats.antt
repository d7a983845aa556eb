-- What is said has no floats.
use Rattle.std.proofs.Common.{◌≡◌, ℕ, ℤ, Bool, true, false, ◌||◌, List, [], ◌∷◌, map, refl, ap, ◌∙◌, String, string_bytes, Option, Result, Ok, Err}
use Rattle.std.proofs.Common.{if◌then◌else◌}
use Rattle.std.specs.declared.alloc.Global.{Global}
use Rattle.std.specs.Ordering.{nat_cmp, match_ordering}
use Rattle.std.specs.Cmp.Lexicographic.{slice_cmp}
use Rattle.std.specs.declared.cmp.Ordering.{Ordering}
use Rattle.std.specs.declared.cmp.Ordering.TheVariants as ordering
use Rattle.serde_json.specs.Data.{Data, Members, no_members, member, put}
use Rattle.serde_json.specs.View.{items_of}
use Rattle.serde_json.specs.Written.{has_float, items_have_float, members_have_float}
use Rattle.kernel_ask.specs.declared.inputs.Input.{Input}
use Rattle.kernel_ask.specs.declared.done.NamedValue.{NamedValue}
use Rattle.kernel_ask.specs.declared.done.ExpFault.{ExpFault}
use Rattle.kernel_message.specs.Json.{text}
use Rattle.kernel_reply.specs.Replies.{input_shown}
use Rattle.kernel_reply.specs.Execution.{with_values, value_shown}
use Rattle.kernel_reply.specs.Comms.{with_comms, comm_shown, asks_target, comms_asked}

pub texts_plain : (xs : List (String Global)) → items_have_float (items_of (map (λ s. text (string_bytes s)) xs)) ≡ false
texts_plain [] = refl
texts_plain (x ∷ xs) = texts_plain xs

input_plain : (output : Bool) (i : Input) → has_float (input_shown output i) ≡ false
input_plain true i = refl
input_plain false i = refl

pub inputs_plain : (output : Bool) (is : List Input) → items_have_float (items_of (map (input_shown output) is)) ≡ false
inputs_plain output [] = refl
inputs_plain output (i ∷ is) = ap (λ b. b || items_have_float (items_of (map (input_shown output) is))) (input_plain output i) ∙ inputs_plain output is

both_false : (a b : Bool) → a ≡ false → b ≡ false → a || b ≡ false
both_false a b e f = ap (λ c. c || b) e ∙ f

left_false : (a b : Bool) → a || b ≡ false → a ≡ false
left_false true b e = e
left_false false b e = refl

right_false : (a b : Bool) → a || b ≡ false → b ≡ false
right_false true b e = elim b as (λ c. c ≡ false) [ true ↦ e | false ↦ refl ]
right_false false b e = e

placed_plain : (o : Ordering) (k l : List ℕ) (d e : Data) (ms more : Members) → has_float d ≡ false → has_float e ≡ false → members_have_float ms ≡ false →
    members_have_float more ≡ false
    → members_have_float (match_ordering o (member k d (member l e ms)) (member l d ms) (member l e more)) ≡ false
placed_plain ordering.Less k l d e ms more hd he hm hp = both_false _ _ hd (both_false _ _ he hm)
placed_plain ordering.Equal k l d e ms more hd he hm hp = both_false _ _ hd hm
placed_plain ordering.Greater k l d e ms more hd he hm hp = both_false _ _ he hp

put_plain : (k : List ℕ) (d : Data) (ms : Members) → has_float d ≡ false → members_have_float ms ≡ false → members_have_float (put k d ms) ≡ false
put_plain k d no_members hd hm = both_false _ _ hd refl
put_plain k d (member l e ms) hd hm =
    let first = left_false (has_float e) (members_have_float ms) hm in
    let rest = right_false (has_float e) (members_have_float ms) hm in
    placed_plain (slice_cmp nat_cmp k l) k l d e ms (put k d ms) hd first rest (put_plain k d ms hd rest)

value_plain : (r : Result ℤ ExpFault) → has_float (value_shown r) ≡ false
value_plain (Ok z) = refl
value_plain (Err f) = refl

values_plain_from : (ms : Members) (vs : List NamedValue) → members_have_float ms ≡ false → members_have_float (with_values ms vs) ≡ false
values_plain_from ms [] h = h
values_plain_from ms (v ∷ vs) h =
    values_plain_from (put (string_bytes v.name) (value_shown v.value) ms) vs (put_plain (string_bytes v.name) (value_shown v.value) ms (value_plain v.value) h)

pub values_plain : (vs : List NamedValue) → members_have_float (with_values no_members vs) ≡ false
values_plain vs = values_plain_from no_members vs refl

comms_plain_from : (ms : Members) (ids : List (List ℕ)) → members_have_float ms ≡ false → members_have_float (with_comms ms ids) ≡ false
comms_plain_from ms [] h = h
comms_plain_from ms (id ∷ ids) h = comms_plain_from (put id comm_shown ms) ids (put_plain id comm_shown ms refl h)

comms_chosen_plain : (b : Bool) (ids : List (List ℕ)) → members_have_float (if b then with_comms no_members ids else no_members) ≡ false
comms_chosen_plain true ids = comms_plain_from no_members ids refl
comms_chosen_plain false ids = refl

pub comms_plain : (name : Option (List ℕ)) (ids : List (List ℕ)) → members_have_float (comms_asked name ids) ≡ false
comms_plain name ids = comms_chosen_plain (asks_target name) ids
