-- What a message asks, once its header and its type are known.
use Rattle.std.proofs.Common.{◌≡◌, ◌⊎◌, inl, inr, Option, Some, None, option_map, Result, Ok, Err, IfErr, IsErrAnd, ap, sym, subst, ◌∙◌}
use Rattle.serde_json.specs.Data.{Data}
use Rattle.jupyter_msg.specs.Object.{object_of}
use Rattle.jupyter_msg.specs.Octets.{Octets}
use Rattle.jupyter_msg.specs.Fields.{first_wrong}
use Rattle.jupyter_msg.specs.Requests.{fields_of}
use Rattle.jupyter_msg.specs.Asked.{asked, type_in, fitted_or}
use Rattle.jupyter_msg.specs.declared.fault.Field.{Field}
use Rattle.jupyter_msg.specs.declared.fault.MsgFault.{MsgFault}
use Rattle.jupyter_msg.specs.declared.fault.MsgFault.TheVariants.{BadField, Memory}
use Rattle.jupyter_msg.specs.declared.request_type.RequestType.{RequestType}

fitted_or-wrong : {A : Type 0} (wrong : Option Field) (x : A) (e : MsgFault) → option_map BadField wrong ≡ Some e → fitted_or wrong x ≡ Err e
fitted_or-wrong None x e h = cc
fitted_or-wrong (Some f) x e h = let s : BadField f ≡ e = cc in ap Err s

asked-content : (m : Octets) (h c : Data) (t : RequestType) → object_of m.header ≡ Some h → type_in h ≡ Ok t → object_of m.content ≡ Some c →
    asked m ≡ fitted_or (first_wrong (fields_of t) c) (t, c)
asked-content m h c t p q r = rw (p, q, r)

-- a wrong content is the refusal, where its error is handed on
pub refused_content : {R : Type 0} (m : Octets) (h c : Data) (t : RequestType) (e : MsgFault) (r : Result R MsgFault) → object_of m.header ≡ Some h →
    type_in h ≡ Ok t → object_of m.content ≡ Some c
    → (e ≡ Memory) ⊎ (option_map BadField (first_wrong (fields_of t) c) ≡ Some e) → IsErrAnd r (λ f. f ≡ e) → IfErr r (λ f. (f ≡ Memory) ⊎ (asked m ≡ Err f))
refused_content m h c t e (Ok x) p q s wrong told = tt
refused_content m h c t e (Err f) p q s wrong told =
    let here : (e ≡ Memory) ⊎ (asked m ≡ Err e) =
    elim wrong [ inl no_memory ↦ inl no_memory | inr is ↦ inr (asked-content m h c t p q s ∙ fitted_or-wrong (first_wrong (fields_of t) c) (t, c) e is) ] in
    subst (λ (g : MsgFault). (g ≡ Memory) ⊎ (asked m ≡ Err g)) (sym told) here

-- and a content that fits is asked
pub asked-fits : (m : Octets) (h c : Data) (t u : RequestType) → object_of m.header ≡ Some h → type_in h ≡ Ok t → object_of m.content ≡ Some c →
    first_wrong (fields_of t) c ≡ None → u ≡ t → asked m ≡ Ok (u, c)
asked-fits m h c t u p q r fits same =
    asked-content m h c t p q r ∙ ap (λ (o : Option Field). fitted_or o (t, c)) fits ∙ ap (λ (v : RequestType). Ok (v, c)) (sym same)
