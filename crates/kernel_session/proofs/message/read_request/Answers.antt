use Rattle.std.proofs.Common.{◌∙◌, sym, ap, inr}
use Rattle.jupyter_msg.specs.Octets.{octets_of}
use Rattle.jupyter_msg.specs.Requests.{type_of}
use Rattle.kernel_session.specs.Session.{serves}
use Rattle.kernel_session.proofs.message.read_request.Goals as goal

pub returns-else-serves-clause-ok : goal.returns-else-serves-clause-ok
returns-else-serves-clause-ok c =
    let p = c.in-Ok-take.ensures.request in
    record {
      message = octets_of c.in-Ok.opened.message;
      is_message = c.in-Ok.ensures.message;
      nothing = inr (
        type_of c.in-Ok-take.request.content,
        p.0,
        p.1,
        ap (serves c.args.socket) (sym c.request_type.ensures) ∙ sym c.serves.ensures ∙ c.if-serves.false,
      );
    }
