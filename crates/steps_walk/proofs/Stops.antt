-- Stops are those of the meaning.
use Rattle.std.proofs.Common.{◌≡◌, Bool, true, false, List, [], ◌∷◌, refl, ap, ◌∙◌, sym}
use Rattle.janus_meaning.specs.Syntax as tree
use Rattle.janus_meaning.specs.Syntax.{Name}
use Rattle.janus_meaning.specs.Moves.{Hole, InFirst, InSecond, InLocal, InCall, rebuild, inverse_hole}
use Rattle.janus_meaning.specs.Stepping.{Framed, BeforeBlock, AfterBlock, BeforeOne, AfterOne}
use Rattle.janus_slots.specs.Slots.{stm_in}
use Rattle.janus_syntax.specs.Tree.{Stm, Skip, Assign, AssignElement, Push, Pop, Swap, If, Loop, LocalInt, LocalStack, Call, Uncall}
use Rattle.janus_syntax.specs.View.{plain_stm}
use Rattle.janus_places.specs.Spots.{Begin, End, Before, After, Enters, Leaves, form_of}
use Rattle.steps_walk.specs.Stops.{has_end, is_ended, StopsAreMeant}

-- whether a statement of the meaning has a block at whose end a test is made or a local ends
abbrev ends : tree.Stm → Bool
ends (tree.Do k) = false
ends (tree.Branch w a s t b) = true
ends (tree.Local x k s) = true
ends (tree.Call w f xs) = false

of_hole : (h : Hole) (b : tree.Blk) → ends (rebuild h b) ≡ is_ended h
of_hole (InFirst w a t c) b = refl
of_hole (InSecond w a s c) b = refl
of_hole (InLocal x k) b = refl
of_hole (InCall w f xs c) b = refl

turned : (h : Hole) → is_ended (inverse_hole h) ≡ is_ended h
turned (InFirst w a t c) = refl
turned (InSecond w a s c) = refl
turned (InLocal x k) = refl
turned (InCall w f xs c) = refl

of_form : (es g : List Name) (s : Stm) → ends (stm_in es g (plain_stm s)) ≡ has_end (form_of s)
of_form es g Skip = refl
of_form es g (Assign x u e) = refl
of_form es g (AssignElement a i u e) = refl
of_form es g (Push x y) = refl
of_form es g (Pop x y) = refl
of_form es g (Swap x y) = refl
of_form es g (If a s t b) = refl
of_form es g (Loop a s t b) = refl
of_form es g (LocalInt x a s y b) = refl
of_form es g (LocalStack x s y) = refl
of_form es g (Call f xs) = refl
of_form es g (Uncall f xs) = refl

same_end : (es g : List Name) (s : Stm) (h : Hole) (b : tree.Blk) → rebuild h b ≡ stm_in es g (plain_stm s) → has_end (form_of s) ≡ is_ended h
same_end es g s h b e = sym (of_form es g s) ∙ ap ends (sym e) ∙ of_hole h b

pub stops_are_meant : StopsAreMeant
stops_are_meant es g Begin (BeforeBlock b []) h = (refl, refl)
stops_are_meant es g Begin (BeforeBlock b (f ∷ fs)) h = absurd h
stops_are_meant es g Begin (AfterBlock b fs) h = absurd h
stops_are_meant es g Begin (BeforeOne c before after fs) h = absurd h
stops_are_meant es g Begin (AfterOne c before after fs) h = absurd h
stops_are_meant es g End (AfterBlock b []) h = (refl, refl)
stops_are_meant es g End (AfterBlock b (f ∷ fs)) h = absurd h
stops_are_meant es g End (BeforeBlock b fs) h = absurd h
stops_are_meant es g End (BeforeOne c before after fs) h = absurd h
stops_are_meant es g End (AfterOne c before after fs) h = absurd h
stops_are_meant es g (Before xs s) (BeforeOne c before after fs) h = (refl, refl)
stops_are_meant es g (Before xs s) (AfterOne c before after fs) h = absurd h
stops_are_meant es g (Before xs s) (BeforeBlock b fs) h = absurd h
stops_are_meant es g (Before xs s) (AfterBlock b fs) h = absurd h
stops_are_meant es g (After xs s) (AfterOne c before after fs) h = (refl, refl)
stops_are_meant es g (After xs s) (BeforeOne c before after fs) h = absurd h
stops_are_meant es g (After xs s) (BeforeBlock b fs) h = absurd h
stops_are_meant es g (After xs s) (AfterBlock b fs) h = absurd h
stops_are_meant es g (Enters xs s w) (BeforeBlock b []) h = absurd h
stops_are_meant es g (Enters xs s w) (BeforeBlock b (Framed i before after ∷ fs)) h = (refl, same_end es _ s i b h.0 ∙ sym (turned i))
stops_are_meant es g (Enters xs s w) (AfterBlock b fs) h = absurd h
stops_are_meant es g (Enters xs s w) (BeforeOne c before after fs) h = absurd h
stops_are_meant es g (Enters xs s w) (AfterOne c before after fs) h = absurd h
stops_are_meant es g (Leaves xs s w) (AfterBlock b []) h = absurd h
stops_are_meant es g (Leaves xs s w) (AfterBlock b (Framed i before after ∷ fs)) h = (same_end es _ s i b h.0, refl)
stops_are_meant es g (Leaves xs s w) (BeforeBlock b fs) h = absurd h
stops_are_meant es g (Leaves xs s w) (BeforeOne c before after fs) h = absurd h
stops_are_meant es g (Leaves xs s w) (AfterOne c before after fs) h = absurd h
