-- What a text is read as, and whether it is an object.
use Rattle.std.proofs.Common.{◌≡◌, ℕ, List, [], ◌∷◌, Bool, true, false, cond, Option, Some, None, is_some, option_and_then, refl, ap, arith}
use Rattle.std.specs.Str.{IsUtf8, is_utf8}
use Rattle.std.proofs.lemmas.Str.{is_utf8-from_IsUtf8, IsUtf8-from_is_utf8, IsUtf8-from_ascii}
use Rattle.std.proofs.lemmas.Str.Ascii.{IsAscii-nil, IsAscii-cons}
use Rattle.json.specs.Lex.{lex, punctuate}
use Rattle.json.specs.Json.{value, members}
use Rattle.serde_json.specs.Data.{Data, null, boolean, number, string, array, object, no_members}
use Rattle.serde_json.specs.Find.{as_object}
use Rattle.serde_json.specs.Read.{read}
use Rattle.jupyter_msg.specs.Object.{only_object, object_of}

when_true : (b : Bool) (o p : Option Data) → b ≡ true → o ≡ p → cond b (option_and_then only_object o) None ≡ option_and_then only_object p
when_true true o p h e = ap (option_and_then only_object) e
when_true false o p h e = cc

when_unread : (b : Bool) (o : Option Data) → (b ≡ true → o ≡ None) → cond b (option_and_then only_object o) None ≡ None
when_unread true o h = ap (option_and_then only_object) (h refl)
when_unread false o h = refl

pub object_of-read : (text : List ℕ) (d : Data) → IsUtf8 text → read text ≡ Some d → object_of text ≡ only_object d
unfolding object_of
object_of-read text d u e = when_true (is_utf8 text) (read text) (Some d) (is_utf8-from_IsUtf8 text u) e

-- the object without members
pub object_of-empty : object_of (123 ∷ 125 ∷ []) ≡ Some (object no_members)
unfolding lex punctuate value members
object_of-empty =
    object_of-read (123 ∷ 125 ∷ []) (object no_members)
    (IsUtf8-from_ascii (123 ∷ 125 ∷ []) (IsAscii-cons 123 (125 ∷ []) (omega arith) (IsAscii-cons 125 [] (omega arith) IsAscii-nil))) refl

pub object_of-unread : (text : List ℕ) → (IsUtf8 text → read text ≡ None) → object_of text ≡ None
unfolding object_of
object_of-unread text h = when_unread (is_utf8 text) (read text) (λ u. h (IsUtf8-from_is_utf8 text u))

pub only_object-object : (d : Data) → is_some (as_object d) ≡ true → only_object d ≡ Some d
only_object-object null e = cc
only_object-object (boolean b) e = cc
only_object-object (number n) e = cc
only_object-object (string s) e = cc
only_object-object (array ds) e = cc
only_object-object (object ms) e = refl

pub only_object-other : (d : Data) → is_some (as_object d) ≡ false → only_object d ≡ None
only_object-other null e = refl
only_object-other (boolean b) e = refl
only_object-other (number n) e = refl
only_object-other (string s) e = refl
only_object-other (array ds) e = refl
only_object-other (object ms) e = cc
