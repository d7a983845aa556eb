-- Numbered messages.
use Rattle.std.proofs.Common.{◌≡◌, ℕ, suc, ◌+◌, List, [], ◌∷◌, ◌++◌, length, map, All, Option, Some, None, option_map, refl, ap, ◌∙◌, arith}
use Rattle.std.specs.Option.{option_to_list}
use Rattle.std.proofs.lemmas.List.Elements.{All-nil, All-cons}
use Rattle.kernel_message.specs.Said.{Said}
use Rattle.kernel_message.specs.Message.{Asker, broadcast_message, reply_message}
use Rattle.kernel_message.specs.Sent.{numbered}
use Rattle.kernel_message.specs.Laws.{headers_from, NumberedInOrder, NextCountsMessages, AnswerTheirRequest}
use Rattle.kernel_message.specs.declared.stamp.Stamp.{Stamp}

-- one more message bears the next number
pub numbered_more : (parent : List ℕ) (stamp : Stamp) (n k : ℕ) (said : List Said) (x : Said) → k ≡ n + length said
    → numbered parent stamp n (said ++ x ∷ []) ≡ numbered parent stamp n said ++ broadcast_message parent stamp k x ∷ []
numbered_more parent stamp n k [] x e = let same : n ≡ k = omega arith in ap (λ m. broadcast_message parent stamp m x ∷ []) same
numbered_more parent stamp n k (y ∷ ys) x e =
    let later : k ≡ (n + 1) + length ys = omega arith in
    ap (λ ms. broadcast_message parent stamp n y ∷ ms) (numbered_more parent stamp (n + 1) k ys x later)

-- broadcasts have headers in order
headers_numbered : (parent : List ℕ) (stamp : Stamp) (n : ℕ) (said : List Said) → map (λ m. m.header) (numbered parent stamp n said) ≡ headers_from stamp n said
headers_numbered parent stamp n [] = refl
headers_numbered parent stamp n (x ∷ xs) = ap (λ hs. (broadcast_message parent stamp n x).header ∷ hs) (headers_numbered parent stamp (n + 1) xs)

length_numbered : (parent : List ℕ) (stamp : Stamp) (n : ℕ) (said : List Said) → length said ≡ length (numbered parent stamp n said)
length_numbered parent stamp n [] = refl
length_numbered parent stamp n (x ∷ xs) = ap (λ k. suc k) (length_numbered parent stamp (n + 1) xs)

-- the headers of an answer's messages, for its reply and its broadcasts apart
headers_in_order : (asker : Asker) (stamp : Stamp) (reply : Option Said) (more : List Said)
    → map (λ m. m.header)
    (option_to_list (option_map (reply_message asker stamp stamp.next) reply) ++ numbered asker.header stamp (stamp.next + length (option_to_list reply))
    more) ≡ headers_from stamp stamp.next (option_to_list reply ++ more)
headers_in_order asker stamp None more =
    let first : stamp.next + 0 ≡ stamp.next = omega arith in
    headers_numbered asker.header stamp (stamp.next + 0) more ∙ ap (λ n. headers_from stamp n more) first
headers_in_order asker stamp (Some said) more =
    ap (λ hs. (reply_message asker stamp stamp.next said).header ∷ hs) (headers_numbered asker.header stamp (stamp.next + 1) more)

pub numbered_in_order : NumberedInOrder
numbered_in_order asker stamp says = headers_in_order asker stamp says.reply says.broadcasts

counted_in_order : (asker : Asker) (stamp : Stamp) (reply : Option Said) (more : List Said)
    → stamp.next + length (option_to_list reply) + length more ≡ stamp.next + length
    (option_to_list (option_map (reply_message asker stamp stamp.next) reply) ++ numbered asker.header stamp (stamp.next + length (option_to_list reply))
    more)
counted_in_order asker stamp None more = let same = length_numbered asker.header stamp (stamp.next + 0) more in omega arith
counted_in_order asker stamp (Some said) more = let same = length_numbered asker.header stamp (stamp.next + 1) more in omega arith

pub next_counts_messages : NextCountsMessages
next_counts_messages asker stamp says = counted_in_order asker stamp says.reply says.broadcasts

parents_numbered : (parent : List ℕ) (stamp : Stamp) (n : ℕ) (said : List Said) → All (λ m. m.parent ≡ parent) (numbered parent stamp n said)
parents_numbered parent stamp n [] = All-nil (λ m. m.parent ≡ parent)
parents_numbered parent stamp n (x ∷ xs) = All-cons (λ m. m.parent ≡ parent) (broadcast_message parent stamp n x) (numbered parent stamp (n + 1) xs) refl
    (parents_numbered parent stamp (n + 1) xs)

parents_in_order : (asker : Asker) (stamp : Stamp) (reply : Option Said) (more : List Said)
    → All (λ m. m.parent ≡ asker.header)
    (option_to_list (option_map (reply_message asker stamp stamp.next) reply) ++ numbered asker.header stamp (stamp.next + length (option_to_list reply))
    more)
parents_in_order asker stamp None more = parents_numbered asker.header stamp (stamp.next + 0) more
parents_in_order asker stamp (Some said) more =
    All-cons (λ m. m.parent ≡ asker.header) (reply_message asker stamp stamp.next said) (numbered asker.header stamp (stamp.next + 1) more) refl
    (parents_numbered asker.header stamp (stamp.next + 1) more)

pub answer_their_request : AnswerTheirRequest
answer_their_request asker stamp says = parents_in_order asker stamp says.reply says.broadcasts
