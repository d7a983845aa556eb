-- Which JSON value octets are the text of.
use Rattle.std.proofs.Common.{◌≡◌, ℕ, List, Bool, true, false, cond, Option, Some, None, refl}
use Rattle.std.specs.Str.{IsUtf8, is_utf8}
use Rattle.std.proofs.lemmas.Str.{is_utf8-from_IsUtf8, IsUtf8-from_is_utf8}
use Rattle.serde_json.specs.Data.{Data}
use Rattle.serde_json.specs.Read.{read}
use Rattle.console_talk.specs.Parents.{data_of}

when_true : (b : Bool) (o p : Option Data) → b ≡ true → o ≡ p → cond b o None ≡ p
when_true true o p h e = e
when_true false o p h e = cc

when_unread : (b : Bool) (o : Option Data) → (b ≡ true → o ≡ None) → cond b o None ≡ None
when_unread true o h = h refl
when_unread false o h = refl

pub data_of-read : (text : List ℕ) (d : Data) → IsUtf8 text → read text ≡ Some d → data_of text ≡ Some d
data_of-read text d u e = when_true (is_utf8 text) (read text) (Some d) (is_utf8-from_IsUtf8 text u) e

pub data_of-unread : (text : List ℕ) → (IsUtf8 text → read text ≡ None) → data_of text ≡ None
data_of-unread text h = when_unread (is_utf8 text) (read text) (λ u. h (IsUtf8-from_is_utf8 text u))
